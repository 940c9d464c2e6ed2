-- The pending bytes that a call gives.
use Rattle.std.proofs.Common.{◌≡◌, ℕ, ◌+◌, ◌-◌, ◌≤◌, List, [], ◌++◌, length, take, drop, ap, arith, append_assoc}
use Rattle.std.proofs.Common.{length-drop, take-append-drop}
use Rattle.std.proofs.lemmas.Slice.{take-put_mid, drop-put_mid}
use borrow.Rule.Slice.PartMut.{put_mid}

-- The room after the bytes that a call puts stays as it was.
pub behind_put : (at count : ℕ) (out ys : List ℕ) → at ≤ length out → length ys ≡ count
    → drop (at + count) (put_mid at (at + count - at) out ys) ≡ drop (at + count) out
behind_put at count out ys within long =
    drop-put_mid at (at + count - at) out ys (at + count) (omega arith) within (omega (arith, long))

-- The given bytes follow the bytes so far, and the rest stays pending.
pub given_more : (at count : ℕ) (out ys bytes rest : List ℕ) → at ≤ length out → ys ≡ take count bytes
    → length ys ≡ count → rest ≡ drop count bytes
    → take (at + count) (put_mid at (at + count - at) out ys) ++ rest ≡ take at out ++ bytes
given_more at count out ys bytes rest within put long behind =
    rw (
      take-put_mid at (at + count - at) out ys (at + count) (omega (arith, long)) within,
      append_assoc,
      put,
      behind,
      take-append-drop,
    )

-- If nothing is pending, all bytes were given.
pub some_left : (given : ℕ) (few : List ℕ) → drop given few ≡ [] → given ≤ length few → given ≡ length few
some_left given few none within = omega (arith, ap length none, length-drop given few, within)
