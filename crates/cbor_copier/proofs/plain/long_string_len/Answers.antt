use Rattle.std.proofs.Common.{◌≡◌, ℕ, ◌+◌, ◌-◌, ◌/◌, ◌∙◌, List, length, length-drop, drop, drop-drop, take, arith}
use Rattle.std.proofs.Common.{slice_index}
use Rattle.std.proofs.Common.{add-zero, sym}
use Rattle.std.proofs.lemmas.List.{get_or-drop}
use Rattle.ciborium_ll_text.specs.Text.{IsCharacters}
use Rattle.ciborium_ll_text.proofs.Lists.{Below}
use Rattle.cbor_copier.proofs.PlainLaws.{long_string}
use Rattle.cbor_copier.proofs.plain.long_string_len.Goals as goal
use Rattle.cbor_copier.proofs.plain.long_string_len.Goals.{else-first-eq3-via-then-first-eq3+else-not-is_text}
use Rattle.cbor_copier.proofs.plain.long_string_len.Goals.{else-first-eq3-via-else-first-eq3}

pub returns-clause-kept : goal.returns-clause-kept
returns-clause-kept c = λ more.
    let xs = c.args.bytes.now in
    let at = c.args.at in
    let len = c.from-len.result in
    let rest : List ℕ = drop at xs in
    let b = slice_index xs at in
    let long : length rest ≡ length xs - at = length-drop at xs in
    let below : Below rest = λ i less. omega (arith, get_or-drop at xs i 0, (c.type_inv.bytes (at + i)).fits) in
    let first : slice_index rest 0 ≡ b = rw add-zero at (get_or-drop at xs 0 0) in
    let size : slice_index rest 1 ≡ len = get_or-drop at xs 1 0 ∙ sym c.from-len.ensures in
    let behind : drop 2 rest ≡ drop (at + 2) xs = drop-drop 2 at xs in
    let count : at + (2 + len) - (at + 2) ≡ len = omega arith in
    let text : b / 32 ≡ 3 → IsCharacters (take (slice_index rest 1) (drop 2 rest)) =
    λ three. elim c.else-first-eq3.branch [
      | else-first-eq3-via-then-first-eq3+else-not-is_text w ↦ rw (size, behind)
          (rw count at (w.is_text.ensures.yes w.if-not-is_text.false))
      | else-first-eq3-via-else-first-eq3 w ↦ absurd (omega (arith, three, w.if-first-eq3.false))
    ] in
    let kept = long_string rest b below first c.requires.string (omega (arith, c.if-first-ne24.false))
    (omega (arith, size, c.from-len.ensures))
    (omega (arith, size, long, c.if-len-left.false)) text in
    rw size at kept
