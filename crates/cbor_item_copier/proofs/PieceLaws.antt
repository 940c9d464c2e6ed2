-- Bytes of a piece, and the room after the bytes that were written.
use Rattle.std.proofs.Common.{◌≡◌, ℕ, ◌+◌, ◌-◌, ◌≤◌, List, ◌++◌, length, take, drop, arith, append_assoc, append-nil}
use Rattle.std.specs.List.{between}
use Rattle.std.proofs.lemmas.List.{drop_at, drop_all, drop-drop, length-drop, length-take-le, take-take, take-append-le}
use Rattle.std.proofs.lemmas.List.Edits.{length-between}
use Rattle.std.proofs.Math.Seq.{take-add, take-append-add}
use borrow.Rule.Slice.PartMut.{put_mid}

-- ---- the room

module _ (a n k : ℕ) (xs ys : List ℕ) (fits : a ≤ length xs) (rest : k ≡ length xs - a) (long : length ys ≡ k) where
  out_rest : drop a (put_mid a k xs ys) ≡ ys
  out_rest =
      rw (
        drop_at (take a xs) (ys ++ drop k (drop a xs)) a (length-take-le a xs fits),
        drop_all k (drop a xs) (omega (arith, rest, length-drop a xs)),
        append-nil,
      )

  -- The room after the written bytes stays as it was.
  pub out_kept : (room : List ℕ) → room ≡ drop a xs → drop n ys ≡ drop n room
      → drop (a + n) (put_mid a k xs ys) ≡ drop (a + n) xs
  out_kept room is kept = rw (← drop-drop n a (put_mid a k xs ys), out_rest, kept, is, drop-drop)

  -- The bytes that were written before stay before the new bytes.
  pub given_front : n ≤ k → (given : List ℕ)
      → (given ++ take a xs) ++ take n ys ≡ given ++ take (a + n) (put_mid a k xs ys)
  given_front few given =
      let front = take-append-add (take a xs) (ys ++ drop k (drop a xs)) n in
      rw (
        append_assoc,
        ← rw (length-take-le a xs fits, take-append-le n ys (drop k (drop a xs)) (omega (arith, few, long)))
            at front,
      )

-- ---- the piece

pub fed_front : (fed bytes : List ℕ) (at len taken : ℕ) → taken ≤ length (between at (at + len) bytes)
    → at + len ≤ length bytes
    → (fed ++ take at bytes) ++ take taken (between at (at + len) bytes) ≡ fed ++ take (at + taken) bytes
fed_front fed bytes at len taken few within =
    let long = length-between bytes at (at + len) within in
    rw (append_assoc, take-take taken (at + len - at) (drop at bytes) (omega (arith, few, long)), take-add)
