-- The orders of the keys of a map, as the program names them.
use Rattle.std.specs.Prelude.{ℕ, List, Option, None, Some, codes}
use Rattle.cbor_deterministic.specs.declared.Order.{Order}
use Rattle.cbor_deterministic.specs.declared.Order.TheVariants.{Bytewise, LengthFirst}

-- The name of an order (RFC 8949, 4.2.1 and 4.2.3). `--order length-first` asks for the second one.
abbrev pub order_name : Order → List ℕ
order_name Bytewise = codes "bytewise"
order_name LengthFirst = codes "length-first"

-- The order that was given, and otherwise the bytewise order, as of `canon` without `--order`.
abbrev pub chosen_order : Option Order → Order
chosen_order None = Bytewise
chosen_order (Some order) = order
