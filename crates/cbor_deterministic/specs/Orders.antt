-- The two orders of the keys of a map, by their encodings.
use Rattle.std.specs.Prelude.{◌≡◌, ℕ, ◌<◌, ◌⊎◌, List, [], ◌∷◌, length}
use Rattle.cbor_deterministic.specs.declared.Order.{Order}
use Rattle.cbor_deterministic.specs.declared.Order.TheVariants.{Bytewise, LengthFirst}

-- The first list comes before the second in the bytewise order (RFC 8949, 4.2.1). It is a shorter beginning of the
-- second, or its byte is smaller at the first index at which they differ. `0a` comes before `18 64`.
abbrev pub IsBytewiseBefore : List ℕ → List ℕ → Type 0
IsBytewiseBefore xs [] = ⊥
IsBytewiseBefore [] (y ∷ ys) = Unit {0}
IsBytewiseBefore (x ∷ xs) (y ∷ ys) = (x < y) ⊎ ((x ≡ y) × IsBytewiseBefore xs ys)

-- One key comes before another in this order. Bytewise it does by its bytes (RFC 8949, 4.2.1). Length-first a shorter
-- key comes first, and keys of the same length go by their bytes (RFC 7049, 3.9, and RFC 8949, 4.2.3). Bytewise `18 64`
-- comes before `20`, and length-first `20` comes before `18 64`.
abbrev pub Precedes : Order → List ℕ → List ℕ → Type 0
Precedes Bytewise xs ys = IsBytewiseBefore xs ys
Precedes LengthFirst xs ys = (length xs < length ys) ⊎ ((length xs ≡ length ys) × IsBytewiseBefore xs ys)
