-- Lists of two words.
use Rattle.std.proofs.Common.{◌≡◌, List, [], ◌∷◌, length, get_or, arith}

-- A list of two elements has exactly the first and the second element.
pub two_in_all : {T : Type 0} (words : List T) (first second : T) → length words ≡ 2
    → first ≡ get_or words 0 first → second ≡ get_or words 1 second → words ≡ first ∷ second ∷ []
two_in_all [] first second two one other = absurd (omega (arith, two))
two_in_all (a ∷ []) first second two one other = absurd (omega (arith, two))
two_in_all (a ∷ b ∷ []) first second two one other = cc (one, other)
two_in_all (a ∷ b ∷ d ∷ rest) first second two one other = absurd (omega (arith, two))
