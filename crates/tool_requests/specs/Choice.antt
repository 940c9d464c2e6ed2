-- The choices that the program's arguments make.
use Rattle.std.specs.Prelude.{◌≡◌, ℕ, List, [], ◌∷◌, codes, String, string_bytes}
use Rattle.std.specs.declared.alloc.Global.{Global}
use Rattle.tool_requests.specs.Number.{IsNumber}
use Rattle.tool_requests.specs.declared.choice.Chosen.{Chosen}
use Rattle.tool_requests.specs.declared.choice.Chosen.TheVariants.{Lines, Raw, Usage}

-- The words are `recode` and a number, as `recode 2`.
abbrev pub AsksForCopy : List (String Global) → ℕ → Type 0
AsksForCopy words count = (name : String Global) × (word : String Global) × (words ≡ name ∷ word ∷ [])
    × (string_bytes name ≡ codes "recode") × IsNumber (string_bytes word) count

-- The choice that the words make: lines without words, a copy if they ask for one, and otherwise the usage. `recode 2`
-- asks for a copy of 2 elements, and `recode 02` for the usage.
abbrev pub IsChosen : List (String Global) → Chosen → Type 0
IsChosen words Lines = words ≡ []
IsChosen words (Raw count) = AsksForCopy words count
IsChosen words Usage = (words ≡ [] → ⊥) × ((count : ℕ) → AsksForCopy words count → ⊥)
