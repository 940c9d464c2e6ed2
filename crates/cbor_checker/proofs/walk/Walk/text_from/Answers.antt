use Rattle.std.proofs.Common.{◌+◌, ◌≤◌, List, ℕ, length, take, subst, sym, rules, arith}
use Rattle.std.proofs.lemmas.List.{get_or-drop, take_rest}
use Rattle.std.specs.Str.{IsAscii}
use Rattle.ciborium_ll_text.specs.declared.state.State.TheVariants as s
use Rattle.ciborium_ll_text.proofs.Lists.{Below, rest_long}
use Rattle.ciborium_ll_text.proofs.StateLaws.{ascii_stays}
use Rattle.cbor_checker.specs.Walking.{rest_of}
use Rattle.cbor_checker.proofs.LeadLaws.{between_ends, text_leads}
use Rattle.cbor_checker.proofs.walk.Walk.text_from.Goals as goal

pub returns-then-is_short_ascii-clause-leads : goal.returns-then-is_short_ascii-clause-leads
returns-then-is_short_ascii-clause-leads c =
    let xs = c.args.bytes.now in
    let at = c.args.at in
    let rest = rest_of xs at in
    let len = c.min-len.result in
    let ascii : IsAscii (take len rest) = subst (λ (z : List ℕ). IsAscii (take len z)) (sym (take_rest xs at))
    (c.is_short_ascii.ensures c.if-is_short_ascii.true) in
    let within : len ≤ length rest = omega (arith, rest_long xs at, c.min-len.ensures) in
    let below : Below rest = subst Below (sym (take_rest xs at))
    (λ i less. omega (arith, get_or-drop at xs i 0, (c.type_inv.bytes (at + i)).fits)) in
    text_leads rest len _ s.Between s.Between _ _ below c.requires.phase (search rules) within (search rules)
    (ascii_stays (take len rest) ascii) (between_ends _) c.text_taken.ensures.spot

pub text_taken-requires-clause-room : goal.text_taken-requires-clause-room
text_taken-requires-clause-room c =
    omega (arith, rest_long c.args.bytes.now c.args.at, c.min-len.ensures, c.requires.room)

pub returns-then-is_short_ascii-clause-within : goal.returns-then-is_short_ascii-clause-within
returns-then-is_short_ascii-clause-within c = omega (arith, rest_long c.args.bytes.now c.args.at, c.min-len.ensures)
