-- How many bytes a row has.
use Rattle.std.proofs.lemmas.Bool.Decides.{nat_tests}
use Rattle.std.proofs.Common.{ℕ, ◌%◌, ◌≤◌, Bool, List, length, if◌then◌else◌}
use Rattle.std.proofs.Common.{◌==◌, ap, arith}
use Rattle.std.proofs.lemmas.List.{length-take}
use Rattle.ciborium_ll.specs.Types.Header.{Header}
use Rattle.ciborium_ll.specs.Title.{IsTitle, affix_len}
use Rattle.ciborium_ll.proofs.AffixLaws.{announced}
use Rattle.ciborium_ll.proofs.NestLaws.{title_some}
use Rattle.cbor_dump.specs.declared.taken.Taken.{Taken}
use Rattle.cbor_dump.specs.Levels.{FitsRow}
use Rattle.cbor_dump.specs.Takings.{most_bytes, taken_bytes}

-- A row has at most 16 bytes.
pub row_few : (taken : Taken) → length (taken_bytes taken) ≤ most_bytes
row_few taken = omega (arith, length-take taken.len taken.bytes, taken.within)

either_few : (b : Bool) (x y : ℕ) → x ≤ 8 → y ≤ 8 → (if b then x else y) ≤ 8
either_few b x y p q = grind (arith, nat_tests)

-- A first byte announces at most eight bytes.
affix_few : (minor : ℕ) → affix_len minor ≤ 8
affix_few minor =
    either_few (minor == 24) 1 _ (omega arith) (either_few (minor == 25) 2 _ (omega arith)
    (either_few (minor == 26) 4 _ (omega arith) (either_few (minor == 27) 8 0 (omega arith) (omega arith))))

-- A title has at most 16 bytes.
title_few : (title : List ℕ) (x : Header) → IsTitle title x → length title ≤ most_bytes
title_few title x p =
    let front = announced title x p in
    let long = front.long in
    let all = ap length front.is in
    let few = affix_few (front.byte % 32) in
    omega (arith, long, all, few)

pub title_filled : (title : List ℕ) (x : Header) → IsTitle title x → FitsRow title
title_filled title x p = (title_some title x p, title_few title x p)
