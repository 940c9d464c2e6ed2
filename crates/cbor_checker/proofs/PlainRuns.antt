-- Runs of plain items.
use Rattle.ciborium_ll_grammar.specs.declared.spelling.Spelling.{Spelling}
use Rattle.std.proofs.Common.{◌≡◌, Bool, ℕ, suc, ◌+◌, ◌-◌, ◌<◌, ◌≤◌, List, [], ◌++◌, length, take, drop, add-zero, arith}
use Rattle.std.proofs.Common.{refl, subst, zero}
use Rattle.std.proofs.lemmas.List.{append-nil, append_assoc, length-append, length-take-le, take_rest}
use Rattle.std.proofs.Math.Seq.{take-add}
use Rattle.cbor_checker.specs.Plain.{ArePlain, more, none}

-- No bytes are no items.
pub plain_none : (allowed : Spelling) (tags : Bool) (offset first most : ℕ)
    → ArePlain allowed tags offset first (most - most) first []
plain_none allowed tags offset first most =
    let no_items : 0 ≡ most - most = omega arith in
    subst (λ (z : ℕ). ArePlain allowed tags offset first z first []) no_items none

-- The place after items of `at` bytes: `first` if there are none, otherwise the offset of the last item's title.
abbrev pub place_after : ℕ → ℕ → ℕ → ℕ
place_after first zero last = first
place_after first (suc at) last = last

pub place_some : (first at last : ℕ) → 0 < at → place_after first at last ≡ last
place_some first zero last some = absurd (omega (arith, some))
place_some first (suc at) last some = refl

pub place_none : (first at last : ℕ) → at ≡ 0 → place_after first at last ≡ first
place_none first at last none_is = rw none_is refl

-- Plain items after plain items are plain items.
pub plain_join : (allowed : Spelling) (tags : Bool) (offset first middle n : ℕ) (xs : List ℕ)
    → ArePlain allowed tags offset first n middle xs
    → (m last : ℕ) (ys : List ℕ) → ArePlain allowed tags (offset + length xs) middle m last ys
    → ArePlain allowed tags offset first (n + m) last (xs ++ ys)
plain_join allowed tags offset first middle n xs one _ _ _ none = rw (add-zero n, append-nil xs) one
plain_join allowed tags offset first middle n xs one _ _ _ (more {count = m} {last = last} {bytes = bytes} {item = item}
    start others is) =
    let place : offset + length (xs ++ bytes) ≡ offset + length xs + length bytes =
    omega (arith, length-append xs bytes) in
    let count : suc (n + m) ≡ n + suc m = omega arith in
    let joined = plain_join allowed tags offset first middle n xs one m last bytes others in
    rw (count, place, append_assoc xs bytes item) at (more start joined is)

-- A run of plain items follows the plain items before, and `less` items are left.
pub plain_runs : (allowed : Spelling) (tags : Bool) (offset first middle last most left less at len : ℕ) (xs : List ℕ)
    → at ≤ length xs
    → left ≤ most → less ≤ left → ArePlain allowed tags offset first (most - left) middle (take at xs)
    → ArePlain allowed tags (offset + at) middle (left - less) last (take len (take (length xs - at) (drop at xs)))
    → ArePlain allowed tags offset first (most - less) last (take (at + len) xs)
plain_runs allowed tags offset first middle last most left less at len xs le fits fewer one other =
    let count : most - left + (left - less) ≡ most - less = omega (arith, fits, fewer) in
    let long : length (take at xs) ≡ at = length-take-le at xs le in
    let next : ArePlain allowed tags (offset + length (take at xs)) middle (left - less) last (take len (drop at xs)) =
    rw long (rw take_rest at other) in
    rw (take-add at len xs) (rw count at (plain_join allowed tags offset first middle (most - left) (take at xs) one _ _ _
    next))

-- A run without bytes leaves all items.
pub none_taken : (left most len : ℕ) → left ≤ most → (left < most → 0 < len) → len ≡ 0 → left ≡ most
none_taken left most len fits some none_is = grind arith
