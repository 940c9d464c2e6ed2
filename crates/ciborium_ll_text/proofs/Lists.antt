-- Fronts and rests of lists, empty lists, and lists of bytes.
use Rattle.std.proofs.lemmas.Bool.Decides.{nat_tests}
use Rattle.std.proofs.Common.{◌≡◌, ℕ, suc, ◌+◌, ◌-◌, ◌<◌, ◌≤◌, min, List, [], ◌∷◌, ◌++◌, length, take, drop, get_or}
use Rattle.std.proofs.Common.{refl, ap, ◌∙◌, arith, length-drop}
use Rattle.std.proofs.lemmas.List.{get_or-take, length-take-le, take_rest}
use Rattle.std.proofs.Math.Seq.{take-append_seam, take-append-add}

-- Two fronts of a list with the same length are the same, and so are the rests.
pub same_front : (a b v v' : List ℕ) → length a ≡ length b → a ++ v ≡ b ++ v' → (a ≡ b) × (v ≡ v')
same_front [] [] v v' l e = (refl, e)
same_front [] (y ∷ b) v v' l e = absurd (omega arith)
same_front (x ∷ a) [] v v' l e = absurd (omega arith)
same_front (x ∷ a) (y ∷ b) v v' l e =
    let heads : x ≡ y = cc in
    let tails : a ++ v ≡ b ++ v' = cc in
    let h = same_front a b v v' (omega arith) tails in
    let ab : a ≡ b = h.0 in
    (cc (heads, ab), h.1)

-- The shorter of two fronts of a list begins the longer one.
pub front_of_front : (a b r s : List ℕ) → a ++ r ≡ b ++ s → length a ≤ length b → (m : List ℕ) × (b ≡ a ++ m)
    × (r ≡ m ++ s)
front_of_front [] b r s e l = (b, refl, e)
front_of_front (x ∷ a) [] r s e l = absurd (omega arith)
front_of_front (x ∷ a) (y ∷ b) r s e l =
    let heads : x ≡ y = cc in
    let tails : a ++ r ≡ b ++ s = cc in
    let h = front_of_front a b r s tails (omega arith) in
    let hb : b ≡ a ++ h.0 = h.1 in
    (h.0, cc (heads, hb), h.2)

-- A list of length 0 is empty.
pub length_zero : (bytes : List ℕ) → length bytes ≡ 0 → bytes ≡ []
length_zero [] e = refl
length_zero (byte ∷ bytes) e = absurd (omega arith)

-- `drop (min 1 (length rest))` drops the first byte, if there is one.
pub first_counted : (rest : List ℕ) → drop (min 1 (length rest)) rest ≡ drop 1 rest
first_counted [] = refl
first_counted (b ∷ rest) = grind (arith, nat_tests)

-- If the bytes read are `len` bytes, they are the front of this length.
pub front_of : (len : ℕ) (rest read more : List ℕ) → rest ≡ read ++ more → length read ≡ len → take len rest ≡ read
front_of len rest read more e l = grind (arith, nat_tests, take-append_seam)

-- If the bytes read are at most `len` bytes, the front of this length begins with them.
pub front_behind : (len : ℕ) (rest read more : List ℕ) → rest ≡ read ++ more → length read ≤ len → take len rest
    ≡ read ++ take (len - length read) more
front_behind len rest read more e l =
    let sum : len ≡ length read + (len - length read) = omega (arith, l) in
    ap (take len) e ∙ ap (λ (n : ℕ). take n (read ++ more)) sum ∙ take-append-add read more (len - length read)

-- From index `at` on there are `length xs - at` elements.
pub rest_long : (xs : List ℕ) (at : ℕ) → length (take (length xs - at) (drop at xs)) ≡ length xs - at
rest_long xs at = ap length (take_rest xs at) ∙ length-drop at xs

-- Each element is a byte.
abbrev pub Below : List ℕ → Type 0
Below xs = (i : ℕ) → i < length xs → get_or xs i 0 < 256

-- If each element is a byte, so is each element after the first.
pub below_rest : (x : ℕ) (xs : List ℕ) → Below (x ∷ xs) → Below xs
below_rest x xs below = λ i less. below (suc i) (omega (arith, less))

-- If each element is a byte, so is each element of a front.
pub below_take : (n : ℕ) (xs : List ℕ) → n ≤ length xs → Below xs → Below (take n xs)
below_take n xs le below = grind (arith, nat_tests, length-take-le, get_or-take)
