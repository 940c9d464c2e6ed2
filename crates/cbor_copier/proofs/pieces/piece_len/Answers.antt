use Rattle.std.proofs.Common.{◌≡◌, ℕ, ◌+◌, ◌-◌, List, add-zero, ap, arith, drop, length, length-drop, slice_index}
use Rattle.std.proofs.Common.{take, ◌/◌, ◌%◌}
use Rattle.std.proofs.lemmas.List.{drop_more, get_or-drop}
use Rattle.ciborium_ll_text.specs.Text.{IsCharacters}
use Rattle.cbor_copier.specs.Spots.{IsPutOut}
use Rattle.ciborium_ll_text.proofs.Lists.{Below}
use Rattle.cbor_copier.proofs.PieceLaws.{begun, bytes_piece, code_of, text_piece}
use Rattle.cbor_parser.specs.declared.strings.StringKind.TheVariants as k
use Rattle.cbor_copier.proofs.pieces.piece_len.Goals as goal
use Rattle.cbor_copier.proofs.pieces.piece_len.Goals.{then-first-ge24-via-then-first-ge24}
use Rattle.cbor_copier.proofs.pieces.piece_len.Goals.{then-first-ge24-via-else-first-ge24+then-len-bytes}

pub returns-in-Bytes-clause-kept : goal.returns-in-Bytes-clause-kept
returns-in-Bytes-clause-kept c = λ more.
    let xs = c.args.bytes.now in
    let at = c.args.at in
    let len = 1 + c.from-len.result in
    let rest : List ℕ = drop at xs in
    let long : length rest ≡ length xs - at = length-drop at xs in
    let below : Below rest = λ i less. omega (arith, get_or-drop at xs i 0, (c.type_inv.bytes (at + i)).fits) in
    let first : slice_index rest 0 ≡ slice_index xs at = rw add-zero at (get_or-drop at xs 0 0) in
    rw c.in-Bytes.is (bytes_piece rest len below (omega (arith, long, c.requires.some)) (omega (arith, first, c.from-len.ensures))
    (omega (arith, first, c.if-first-ge24.false)) (omega (arith, long, c.if-len-bytes.false))
    (omega (arith, first, c.if-first-eq2.true)))

pub returns-in-Text-clause-kept : goal.returns-in-Text-clause-kept
returns-in-Text-clause-kept c = λ more.
    let xs = c.args.bytes.now in
    let at = c.args.at in
    let len = 1 + c.from-len.result in
    let rest : List ℕ = drop at xs in
    let long : length rest ≡ length xs - at = length-drop at xs in
    let below : Below rest = λ i less. omega (arith, get_or-drop at xs i 0, (c.type_inv.bytes (at + i)).fits) in
    let first : slice_index rest 0 ≡ slice_index xs at = rw add-zero at (get_or-drop at xs 0 0) in
    let behind : drop 1 rest ≡ drop (at + 1) xs = ap (λ (z : List ℕ). drop 1 z) (drop_more xs at 0 c.requires.some) in
    let count : at + len - (at + 1) ≡ len - 1 = omega arith in
    let text : IsCharacters (take (len - 1) (drop 1 rest)) =
    rw behind (rw count at (c.is_text.ensures.yes c.if-is_text.true)) in
    rw c.in-Text.is (text_piece rest len below (omega (arith, long, c.requires.some)) (omega (arith, first, c.from-len.ensures))
    (omega (arith, first, c.if-first-ge24.false)) (omega (arith, long, c.if-len-bytes.false))
    (omega (arith, first, c.if-first-eq3.true)) text)

pub returns-then-first-ge24-clause-none : goal.returns-then-first-ge24-clause-none
returns-then-first-ge24-clause-none c = λ zero begins.
    let xs = c.args.bytes.now in
    let at = c.args.at in
    let parts = begun c.args.kind (drop at xs) begins in
    let first : slice_index (drop at xs) 0 ≡ slice_index xs at = rw add-zero at (get_or-drop at xs 0 0) in
    elim c.then-first-ge24.branch [
      | then-first-ge24-via-then-first-ge24 w ↦ absurd (omega (arith, first, parts.small, w.if-first-ge24.true))
      | then-first-ge24-via-else-first-ge24+then-len-bytes w ↦
          absurd (omega (arith, first, parts.long, length-drop at xs, c.from-len.ensures, w.if-len-bytes.true))
    ]

pub returns-in_default-clause-none : goal.returns-in_default-clause-none
returns-in_default-clause-none c = λ zero begins.
    let xs = c.args.bytes.now in
    let at = c.args.at in
    let parts = begun c.args.kind (drop at xs) begins in
    let first : slice_index (drop at xs) 0 ≡ slice_index xs at = rw add-zero at (get_or-drop at xs 0 0) in
    let major : slice_index (drop at xs) 0 / 32 ≡ code_of k.Bytes = rw c.in-Bytes.is at parts.major in
    absurd (c.if-first-eq2.false (omega (arith, first, major)))

pub returns-in_default-2-clause-none : goal.returns-in_default-2-clause-none
returns-in_default-2-clause-none c = λ zero begins.
    let xs = c.args.bytes.now in
    let at = c.args.at in
    let len = 1 + c.from-len.result in
    let parts = begun c.args.kind (drop at xs) begins in
    let first : slice_index (drop at xs) 0 ≡ slice_index xs at = rw add-zero at (get_or-drop at xs 0 0) in
    let behind : drop 1 (drop at xs) ≡ drop (at + 1) xs =
    ap (λ (z : List ℕ). drop 1 z) (drop_more xs at 0 c.requires.some) in
    let count : slice_index (drop at xs) 0 % 32 ≡ at + len - (at + 1) = omega (arith, first, c.from-len.ensures) in
    let whole : IsPutOut k.Text (take (slice_index (drop at xs) 0 % 32) (drop 1 (drop at xs))) =
    rw c.in-Text.is at parts.whole in
    let text : IsCharacters (take (at + len - (at + 1)) (drop (at + 1) xs)) = rw behind at (rw count at whole) in
    absurd (c.is_text.ensures.no c.if-is_text.false text)

pub returns-in_default-3-clause-none : goal.returns-in_default-3-clause-none
returns-in_default-3-clause-none c = λ zero begins.
    let xs = c.args.bytes.now in
    let at = c.args.at in
    let parts = begun c.args.kind (drop at xs) begins in
    let first : slice_index (drop at xs) 0 ≡ slice_index xs at = rw add-zero at (get_or-drop at xs 0 0) in
    let major : slice_index (drop at xs) 0 / 32 ≡ code_of k.Text = rw c.in-Text.is at parts.major in
    absurd (c.if-first-eq3.false (omega (arith, first, major)))
