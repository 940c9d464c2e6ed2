-- A law of a slice that reads fill from its front on.
use Rattle.std.proofs.Common.{◌≡◌, ℕ, ◌+◌, ◌≤◌, List, ◌++◌, length, length-take-le, take, refl, arith}
use Rattle.std.proofs.lemmas.List.{take-take}
use Rattle.std.proofs.lemmas.Slice.{take-put_mid}
use Rattle.std.proofs.Math.Seq.{take-append-add}
use borrow.Rule.Slice.PartMut.{put_mid}

-- The first `a` bytes, followed by the `n` bytes of one more read, are the first `a + n` bytes.
pub filled_more : (a k n : ℕ) (xs ys : List ℕ) → a ≤ length xs → n ≤ length ys → take a xs ++ take n ys
    ≡ take (a + n) (put_mid a k xs ys)
filled_more a k n xs ys within fits = cc (
  take-put_mid a k xs ys (a + length ys) refl within,
  take-append-add (take a xs) ys n,
  length-take-le a xs within,
  take-take (a + n) (a + length ys) (put_mid a k xs ys) (omega arith),
)
