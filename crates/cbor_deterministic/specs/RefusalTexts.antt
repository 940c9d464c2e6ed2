-- The messages of refusals.
use Rattle.std.specs.Prelude.{ℕ, List, ◌++◌, codes, decimal}
use Rattle.cbor_deterministic.specs.declared.Why.{Why}
use Rattle.cbor_deterministic.specs.declared.Why.TheVariants.{Cut, NoTitle, NotShortest, Indefinite, NoSimple, NoText}
use Rattle.cbor_deterministic.specs.declared.Why.TheVariants.{KeyOrder, DuplicateKey, Deep}
use Rattle.cbor_deterministic.specs.declared.Refusal.{Refusal}

-- The text that `{}` writes for a reason. For `Cut` it is "the bytes end too early".
abbrev pub why_text : Why → List ℕ
why_text Cut = codes "the bytes end too early"
why_text NoTitle = codes "no title begins with this byte"
why_text NotShortest = codes "a shorter form says the same"
why_text Indefinite = codes "an indefinite length or a break"
why_text NoSimple = codes "a simple value from 24 to 31"
why_text NoText = codes "a text that is not UTF-8"
why_text KeyOrder = codes "a key that sorts before the previous key"
why_text DuplicateKey = codes "the same key twice"
why_text Deep = codes "too deep a nesting"

-- The text that `{}` writes for a refusal: the reason and the offset. For `Deep` at 7 it is "too deep a nesting at
-- offset 7".
abbrev pub refusal_text : Refusal → List ℕ
refusal_text refusal = why_text refusal.why ++ codes " at offset " ++ decimal refusal.place
