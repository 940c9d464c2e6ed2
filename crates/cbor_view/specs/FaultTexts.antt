-- The messages of faults.
use Rattle.std.specs.Prelude.{ℕ, List, ◌++◌, codes, decimal}
use Rattle.cbor_view.specs.declared.parse.Fault.{Fault}
use Rattle.cbor_view.specs.declared.parse.Fault.TheVariants.{Short, Syntax, Break, Deep}

-- The text that `{}` writes for a fault: the reason, and the offset if there is one. For `Break` at 3 it is "a break
-- that ends nothing at offset 3".
abbrev pub fault_text : Fault → List ℕ
fault_text Short = codes "the bytes end too early"
fault_text (Syntax place) = codes "no CBOR that may stand at offset " ++ decimal place
fault_text (Break place) = codes "a break that ends nothing at offset " ++ decimal place
fault_text (Deep place) = codes "too deep a nesting at offset " ++ decimal place
