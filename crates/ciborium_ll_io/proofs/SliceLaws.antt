-- A law of a slice that is written from its beginning.
use Rattle.std.proofs.Common.{◌≡◌, ℕ, ◌+◌, ◌-◌, ◌≤◌, List, length, drop, sym, ap, ◌∙◌, arith, drop-drop}
use Rattle.std.proofs.lemmas.Slice.{drop-put_mid}
use borrow.Rule.Slice.PartMut.{put_mid}

-- If a slice equals `first` from offset `a` on, it equals `first` from `a + n` on after a put of `n` bytes at `a`.
pub behind_grown : (a n : ℕ) (xs ys first : List ℕ) → a ≤ length xs → length ys ≡ n → drop a xs ≡ drop a first
    → drop (a + n) (put_mid a (a + n - a) xs ys) ≡ drop (a + n) first
behind_grown a n xs ys first within all behind =
    drop-put_mid a (a + n - a) xs ys (a + n) (omega arith) within (omega (arith, all))
    ∙ sym (drop-drop n a xs) ∙ ap (drop n) behind ∙ drop-drop n a first
