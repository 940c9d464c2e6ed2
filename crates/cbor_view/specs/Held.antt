-- The bytes and the levels of an item, and of the rest of an array or a map.
use Rattle.std.specs.Prelude.{ℕ, List, Option}
use Rattle.cbor_view.specs.declared.item.Item.{Item}
use Rattle.cbor_view.specs.declared.nests.Elements.{Elements}
use Rattle.cbor_view.specs.declared.nests.Entries.{Entries}
use Rattle.cbor_view.specs.declared.segments.Segments.{Segments}
use Rattle.cbor_view.specs.declared.segments.TextSegments.{TextSegments}

-- The bytes of an item: `81 01` or `9f 18 01 ff` for [1], by its spelling.
abbrev pub item_bytes : Item → List ℕ
item_bytes item = item.bytes.now

-- How many levels its tags, arrays and maps may take: one or more for `9f 18 01 ff`.
abbrev pub item_depth : Item → ℕ
item_depth item = item.depth

-- The bytes of the items of an array that are left, without the break of an indefinite form: `02` after the first item
-- of `9f 01 02 ff`.
abbrev pub elements_bytes : Elements → List ℕ
elements_bytes elements = elements.rest.now

-- How many items are left, or `None` for an indefinite length: one after the first item of `82 01 02`.
abbrev pub elements_due : Elements → Option ℕ
elements_due elements = elements.due

-- How many levels each of them may take: 0 for `82 01 02` to a depth of 1.
abbrev pub elements_depth : Elements → ℕ
elements_depth elements = elements.depth

-- The bytes of the pairs of a map that are left, without the break of an indefinite form: `03 04` after the first pair
-- of `bf 01 02 03 04 ff`.
abbrev pub entries_bytes : Entries → List ℕ
entries_bytes entries = entries.rest.now

-- How many pairs are left, or `None` for an indefinite length: one after the first pair of `a2 01 02 03 04`.
abbrev pub entries_due : Entries → Option ℕ
entries_due entries = entries.due

-- How many levels each key and each value may take: 0 for `a2 01 02 03 04` to a depth of 1.
abbrev pub entries_depth : Entries → ℕ
entries_depth entries = entries.depth

-- The bytes that are left of a string, as `AreSegments` has them: `41 02 ff` after the first segment of
-- `5f 41 01 41 02 ff`.
abbrev pub segments_bytes : Segments → List ℕ
segments_bytes segments = segments.rest.now

-- The bytes that are left of a text string, as `AreSegments` has them: none after the one segment of `61 61`.
abbrev pub texts_bytes : TextSegments → List ℕ
texts_bytes segments = segments.rest.now
