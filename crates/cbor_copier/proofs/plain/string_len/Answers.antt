use Rattle.std.proofs.Common.{◌≡◌, ℕ, ◌+◌, ◌-◌, ◌/◌, List, length, length-drop, drop, take, arith, slice_index}
use Rattle.std.proofs.Common.{ap, add-zero}
use Rattle.std.proofs.lemmas.List.{drop_more, get_or-drop}
use Rattle.ciborium_ll_text.specs.Text.{IsCharacters}
use Rattle.ciborium_ll_text.proofs.Lists.{Below}
use Rattle.cbor_copier.proofs.PlainLaws.{kept_by, small_stays, string_small}
use Rattle.cbor_copier.proofs.plain.string_len.Goals as goal
use Rattle.cbor_copier.proofs.plain.string_len.Goals.{else-bytes-at-eq3-via-then-bytes-at-eq3+else-not-is_text}
use Rattle.cbor_copier.proofs.plain.string_len.Goals.{else-bytes-at-eq3-via-else-bytes-at-eq3}

pub returns-clause-kept : goal.returns-clause-kept
returns-clause-kept c = λ more.
    let xs = c.args.bytes.now in
    let at = c.args.at in
    let len = c.len_of-len.result in
    let rest : List ℕ = drop at xs in
    let long : length rest ≡ length xs - at = length-drop at xs in
    let below : Below rest = λ i less. omega (arith, get_or-drop at xs i 0, (c.type_inv.bytes (at + i)).fits) in
    let first : slice_index rest 0 ≡ slice_index xs at = rw add-zero at (get_or-drop at xs 0 0) in
    let behind : drop 1 rest ≡ drop (at + 1) xs = ap (λ (z : List ℕ). drop 1 z) (drop_more xs at 0 c.requires.some) in
    let count : at + len - (at + 1) ≡ len - 1 = omega arith in
    let text : slice_index rest 0 / 32 ≡ 3 → IsCharacters (take (len - 1) (drop 1 rest)) =
    λ three. elim c.else-bytes-at-eq3.branch [
      | else-bytes-at-eq3-via-then-bytes-at-eq3+else-not-is_text w ↦ rw behind
          (rw count at (w.is_text.ensures.yes w.if-not-is_text.false))
      | else-bytes-at-eq3-via-else-bytes-at-eq3 w ↦ absurd (omega (arith, three, first, w.if-bytes-at-eq3.false))
    ] in
    let small = string_small (slice_index xs at) len c.len_of-len.ensures more c.requires.string in
    kept_by rest len below (omega (arith, long, c.requires.some)) (rw first c.len_of-len.ensures) more
    (omega (arith, long, c.if-len-bytes.false)) text (small_stays (slice_index rest 0) (drop 1 rest) (rw first small))
