-- The bytes of a map of texts (RFC 7049, 2.1).
use Rattle.std.specs.Prelude.{ℕ, List, [], ◌∷◌, ◌++◌, length, Some}
use Rattle.ciborium_ll.specs.Types.Header.TheVariants as h
use Rattle.ciborium_ll.specs.Title.{shortest_title}
use Rattle.ciborium_ll.specs.Strings.{Text}
use Rattle.ciborium_ll.specs.Elements.{body_spelling}
use Rattle.uses.specs.declared.maps.Entry.{Entry}

-- The key and then the value, each after the shortest title of its length (RFC 7049, 2.1 and 3.9). The pair of `a` and
-- `b` is `61 61 61 62`.
abbrev pub entry_bytes : Entry → List ℕ
entry_bytes entry = body_spelling Text entry.key.now ++ body_spelling Text entry.value.now

-- The pairs, joined: for the pairs of `a` and `b`, and of `c` and `d`, the bytes `61 61 61 62 61 63 61 64`.
abbrev pub entries_bytes : List Entry → List ℕ
entries_bytes [] = []
entries_bytes (entry ∷ entries) = entry_bytes entry ++ entries_bytes entries

-- The shortest title of the map, with the number of pairs, and the pairs (RFC 7049, 2.1 and 3.9). The map of `a` to `b`
-- is `a1 61 61 61 62`.
abbrev pub map_bytes : List Entry → List ℕ
map_bytes entries = shortest_title (h.Map (Some (length entries))) ++ entries_bytes entries
