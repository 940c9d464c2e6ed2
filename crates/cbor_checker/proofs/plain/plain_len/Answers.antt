use Rattle.std.proofs.Common.{◌≡◌, ℕ, ◌+◌, ◌-◌, ◌%◌, ◌≤◌, List, length, length-drop, drop, arith, slice_index}
use Rattle.std.proofs.Common.{ap, add-zero, sym, ◌∙◌}
use Rattle.std.proofs.lemmas.List.{drop_more, get_or-drop}
use Rattle.ciborium_ll_text.proofs.Lists.{Below}
use Rattle.ciborium_ll_text.proofs.StateLaws.{ascii_stays}
use Rattle.ciborium_ll_grammar.specs.declared.spelling.Spelling.TheVariants.{Any}
use Rattle.ciborium_ll_grammar.proofs.SpellingLaws.{any_allowed}
use Rattle.cbor_checker.proofs.PlainLaws.{span_plain}
use Rattle.cbor_checker.proofs.plain.plain_len.Goals as goal
use Rattle.cbor_checker.proofs.plain.plain_len.Goals.{else-is_shortest-via-then-is_shortest+else-bytes-at-ge-LONGER}
use Rattle.cbor_checker.proofs.plain.plain_len.Goals.{else-is_shortest-via-else-is_shortest}

pub returns-then-is_span_there-clause-plain : goal.returns-then-is_span_there-clause-plain
returns-then-is_span_there-clause-plain c = λ more.
    let xs = c.args.bytes.now in
    let at = c.args.at in
    let rest : List ℕ = drop at xs in
    let long : length rest ≡ length xs - at = length-drop at xs in
    let below : Below rest = λ i less. omega (arith, get_or-drop at xs i 0, (c.type_inv.bytes (at + i)).fits) in
    let first : slice_index rest 0 ≡ slice_index xs at = rw add-zero at (get_or-drop at xs 0 0) in
    let behind : drop 1 rest ≡ drop (at + 1) xs = ap (λ (z : List ℕ). drop 1 z) (drop_more xs at 0 c.requires.some) in
    let any : 24 ≤ slice_index rest 0 % 32 → c.args.spelling ≡ Any =
    λ high. elim c.else-is_shortest.branch [
      | else-is_shortest-via-then-is_shortest+else-bytes-at-ge-LONGER w ↦ absurd
          (omega (arith, high, first, w.if-bytes-at-ge-LONGER))
      | else-is_shortest-via-else-is_shortest w ↦ any_allowed c.args.spelling
          (sym c.is_shortest.ensures ∙ w.if-is_shortest.false)
    ] in
    span_plain rest c.span_of-span.result.len c.span_of-span.result.text_len c.args.spelling below
    (omega (arith, long, c.requires.some)) (rw first c.span_of-span.ensures.span) more
    (omega (arith, long, c.is_span_there.ensures.there c.if-is_span_there.true)) any
    (rw behind (ascii_stays _ (c.is_span_there.ensures.ascii c.if-is_span_there.true)))
