-- Characters without an escape, as a table has them, and as characters of ASCII.
use Rattle.std.proofs.Common.{◌≡◌, ◌↔◌, ◌<◌, ℕ, Bool, List, [], ◌∷◌, arith, eqb, get_or, refl, zero, suc}
use Rattle.std.specs.Prelude.{◌&&◌, IsTrue, nat_le, nat_lt, not}
use Rattle.std.proofs.lemmas.Bool.{agree_below_at}
use Rattle.std.proofs.lemmas.Bool.Decides.{nat_tests}
use Rattle.std.specs.Str.{IsAscii}
use Rattle.cbor_escapes.specs.Escapes.{AreUnescaped, IsUnescaped}
use Rattle.cbor_escapes.specs.declared.TheConstants.{UNESCAPED}

-- The characters after the first one have no escape.
pub rest_unescaped : (x : ℕ) (xs : List ℕ) → AreUnescaped (x ∷ xs) → AreUnescaped xs
rest_unescaped x xs all i less = all (suc i) (omega (arith, less))

pub unescaped_ascii : (xs : List ℕ) → AreUnescaped xs → IsAscii xs
unescaped_ascii [] all i = omega arith
unescaped_ascii (x ∷ xs) all zero = omega (arith, (all 0 (omega arith)).1)
unescaped_ascii (x ∷ xs) all (suc i) = unescaped_ascii xs (rest_unescaped x xs all) i

-- The character has no escape, as a test.
unescaped_test : ℕ → Bool
unescaped_test c = nat_le 32 c && (nat_lt c 127 && (not (eqb c 34) && not (eqb c 92)))

-- The table says of each byte whether it is such a character.
pub unescaped_told : (byte at : ℕ) → byte < 256 → at ≡ byte
    → (IsTrue (not (eqb (get_or UNESCAPED at 0) 0)) ↔ IsUnescaped byte)
unfolding unescaped_test
unescaped_told byte at l is =
    let same = agree_below_at (λ (b : ℕ). not (eqb (get_or UNESCAPED b 0) 0)) unescaped_test 256 byte refl l in
    rw (is, same) (grind (arith, nat_tests))
