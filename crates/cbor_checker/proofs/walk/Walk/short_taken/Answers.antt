use Rattle.std.proofs.Common.{ℕ, ◌+◌, ◌≤◌, List, length, take, refl, ap, subst, sym, ◌∙◌, arith, rules}
use Rattle.std.proofs.lemmas.List.{length-take-le, take_rest}
use Rattle.std.specs.Str.{IsAscii}
use Rattle.ciborium_ll_text.proofs.StateLaws.{ascii_stays}
use Rattle.cbor_parser.specs.declared.strings.Within.{Within}
use Rattle.cbor_checker.specs.Spots.{Spot, entered}
use Rattle.cbor_checker.specs.Steps.{Leads}
use Rattle.cbor_checker.specs.Walking.{spot_at}
use Rattle.cbor_checker.proofs.ItemLeads.{bytes_item, one_long, plain_leads, text_item, title_leads}
use Rattle.cbor_checker.proofs.walk.Walk.short_taken.Goals as goal

pub returns-in-Bytes-Some-clause-leads : goal.returns-in-Bytes-Some-clause-leads
returns-in-Bytes-Some-clause-leads c =
    let len = c.in-Bytes-Some.len in
    let fits : 1 + len ≤ length c.args.bytes.now = search rules in
    plain_leads _ _ _ _ _ _ (bytes_item c.args.bytes.now 1 len (1 + len) _ (λ i less. search rules) (omega arith) refl
    fits (λ more. absurd (omega (arith, more))) (search rules, search rules)) fits c.requires.phase c.requires.fresh
    c.requires.due refl (omega arith) c.body_taken.ensures.taken

pub returns-in-Text-Some-clause-leads : goal.returns-in-Text-Some-clause-leads
returns-in-Text-Some-clause-leads c =
    let bytes = c.args.bytes.now in
    let len = c.in-Text-Some.len in
    let ascii = subst (λ (z : List ℕ). IsAscii (take len z)) (take_rest bytes 1) c.if-is_ascii.ensures.cases in
    let fits : 1 + len ≤ length bytes = search rules in
    plain_leads _ _ _ _ _ _ (text_item bytes 1 len (1 + len) _ (λ i less. search rules) (omega arith) refl
    fits (λ more. absurd (omega (arith, more))) (search rules, search rules)
    (one_long (take 1 bytes) len (search rules) (length-take-le 1 bytes c.requires.some)) (ascii_stays _ ascii))
    fits c.requires.phase c.requires.fresh c.requires.due refl (omega arith) c.body_taken-in-Text-Some.ensures.taken

pub returns-in_default-clause-leads : goal.returns-in_default-clause-leads
returns-in_default-clause-leads c =
    let s : Spot = spot_at c.args.self.now in
    let title = title_leads c.args.bytes.now 1 s c.args.header (λ i less. search rules) c.requires.phase
    c.requires.fresh
    (omega arith) c.requires.some c.requires.title c.requires.taken (λ more. absurd (omega (arith, more))) in
    let entered_is = ap (λ (z : Within).
    entered z c.args.header (record s { place = s.offset; offset = s.offset + 1 })) c.requires.due in
    subst (Leads s (take 1 c.args.bytes.now)) (entered_is ∙ sym c.enter_item.ensures.entered) title
