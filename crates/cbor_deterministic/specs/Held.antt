-- The parts of an item, and of the rest of an array or a map: the bytes, the levels for them, and the order of keys.
use Rattle.std.specs.Prelude.{ℕ, List}
use Rattle.cbor_deterministic.specs.declared.Order.{Order}
use Rattle.cbor_deterministic.specs.declared.view.Item.{Item}
use Rattle.cbor_deterministic.specs.declared.view.Elements.{Elements}
use Rattle.cbor_deterministic.specs.declared.view.Entries.{Entries}

-- The bytes of an item: `82 01 02` for [1, 2].
abbrev pub item_bytes : Item → List ℕ
item_bytes item = item.bytes.now

-- How many levels its tags, arrays and maps may take: one or more for `82 01 02`.
abbrev pub item_depth : Item → ℕ
item_depth item = item.depth

-- The order of its keys. The keys of `a2 18 64 01 20 02` have the order `Bytewise`.
abbrev pub item_order : Item → Order
item_order item = item.order

-- The bytes of the items of an array that are left: `02` after the first item of `82 01 02`.
abbrev pub elements_bytes : Elements → List ℕ
elements_bytes elements = elements.rest.now

-- How many items are left: one after the first item of `82 01 02`.
abbrev pub elements_due : Elements → ℕ
elements_due elements = elements.due

-- How many levels each of them may take: 0 for `82 01 02` to a depth of 1.
abbrev pub elements_depth : Elements → ℕ
elements_depth elements = elements.depth

-- The order of keys in them. If the item `a2 20 01 18 64 02` is left, the order is `LengthFirst`.
abbrev pub elements_order : Elements → Order
elements_order elements = elements.order

-- The bytes of the pairs of a map that are left: `03 04` after the first pair of `a2 01 02 03 04`.
abbrev pub entries_bytes : Entries → List ℕ
entries_bytes entries = entries.rest.now

-- How many pairs are left: one after the first pair of `a2 01 02 03 04`.
abbrev pub entries_due : Entries → ℕ
entries_due entries = entries.due

-- How many levels each key and each value may take: 0 for `a2 01 02 03 04` to a depth of 1.
abbrev pub entries_depth : Entries → ℕ
entries_depth entries = entries.depth

-- The order of keys in them. If the pairs `20 01 18 64 02` are left, the order is `LengthFirst`.
abbrev pub entries_order : Entries → Order
entries_order entries = entries.order
