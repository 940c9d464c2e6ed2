-- Laws of the part of a slice that is held, and of the facts that are told of it.
use Rattle.std.proofs.Common.{◌≡◌, ℕ, ◌+◌, ◌-◌, ◌≤◌, List, [], ◌++◌, length, length-take-le}
use Rattle.std.proofs.Common.{take, slice_range, sym, ap, ◌∙◌, append-nil}
use Rattle.std.proofs.Common.{append_assoc, arith}
use Rattle.std.proofs.lemmas.List.{drop-take, drop-append-le, take_all}
use Rattle.std.proofs.lemmas.Slice.{take-put_mid_below}
use Rattle.std.specs.declared.option.Option.{Option}
use Rattle.std.specs.Io.KnownBytes.{Appends, Consumes, Keeps, prepend_known, append_known}
use borrow.Rule.Slice.PartMut.{put_mid}
use Rattle.ciborium_ll_streams.proofs.FillLaws.{filled_more}

-- A reader consumes the front of the bytes held, if the window gives it up.
pub prepend_known-taken : (known : Option (List ℕ)) (old new front : List ℕ) → old ≡ front ++ new
    → Consumes (prepend_known old known) (prepend_known new known) front
prepend_known-taken known old new front e = grind (arith, append_assoc)

-- If the window also holds the bytes that the inner reader gave, the bytes to come are the same.
pub prepend_known-filled : (a b : Option (List ℕ)) (old new bs : List ℕ) → new ≡ old ++ bs → Consumes a b bs
    → Keeps (prepend_known old a) (prepend_known new b)
prepend_known-filled a b old new bs e p = grind (arith, append_assoc)

-- A read that keeps the bytes to come and then a read of `bs` consume `bs`.
pub kept_Consumes : (a b c : Option (List ℕ)) (bs : List ℕ) → Keeps a b → Consumes b c bs → Consumes a c bs
kept_Consumes a b c bs p q = grind arith

-- Bytes that are put after a part leave the part unchanged.
pub part_kept : (xs ys : List ℕ) (start end k : ℕ) → start ≤ end → end ≤ length xs
    → slice_range (put_mid end k xs ys) start end ≡ slice_range xs start end
part_kept xs ys start end k ordered within =
    let old : start + (end - start) ≡ end = omega arith in
    let changed = put_mid end k xs ys in
    let front : take end changed ≡ take end xs = take-put_mid_below end k xs ys end (omega arith) within in
    cc (drop-take start (end - start) changed, drop-take start (end - start) xs)

-- Bytes that are put after a part make the part longer.
pub part_more : (xs ys : List ℕ) (start end k count : ℕ) → start ≤ end → end ≤ length xs → count ≤ length ys
    → slice_range (put_mid end k xs ys) start (end + count) ≡ slice_range xs start end ++ take count ys
part_more xs ys start end k count ordered within fits =
    let more = drop-append-le start (take end xs) (take count ys) (omega (arith, length-take-le end xs within)) in
    let old : start + (end - start) ≡ end = omega arith in
    let whole : start + (end + count - start) ≡ end + count = omega arith in
    let changed = put_mid end k xs ys in
    let front : take end xs ++ take count ys ≡ take (end + count) changed = filled_more end k count xs ys within fits in
    cc (drop-take start (end + count - start) changed, drop-take start (end - start) xs)

-- Bytes that are put at the end of a part make the part longer by these bytes.
pub part_grown : (xs ys : List ℕ) (start end : ℕ) → start ≤ end → end ≤ length xs
    → slice_range (put_mid end (end + length ys - end) xs ys) start (end + length ys) ≡ slice_range xs start end ++ ys
part_grown xs ys start end ordered within = cc (
  part_more xs ys start end (end + length ys - end) (length ys) ordered within (omega arith),
  take_all (length ys) ys (omega arith),
)

-- If `rest` is empty, `xs` is a front followed by `rest`.
pub all_gone : (xs rest : List ℕ) → rest ≡ [] → (front : List ℕ) × (xs ≡ front ++ rest)
all_gone xs rest none = (xs, sym (ap (λ l. xs ++ l) none ∙ append-nil xs))

-- If nothing is held, the bytes that the inner writer takes are appended to the bytes written.
pub append_known-sent : (a b : Option (List ℕ)) (held bs : List ℕ) → held ≡ [] → Appends a b bs
    → Appends (append_known a held) (append_known b held) bs
append_known-sent a b held bs none p = grind (arith, append-nil)

-- A step that keeps the bytes written and then a write of `bs` append `bs`.
pub kept_Appends : (a b c : Option (List ℕ)) (bs : List ℕ) → Keeps a b → Appends b c bs → Appends a c bs
kept_Appends a b c bs p q = grind arith
