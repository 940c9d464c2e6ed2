-- The nests around an item, as a list.
use Rattle.std.specs.Prelude.{List, [], ◌∷◌, Option, Some, None}
use Rattle.ciborium_ll_grammar.specs.declared.remaining.Remaining.{Remaining}

-- The nests around an item, or an empty list if their numbers are those of no nests. The kind 0 with the count 1 is one
-- nest, as after `82`, and there is no kind 6.
abbrev pub levels_of : Option (List Remaining) → List Remaining
levels_of (Some levels) = levels
levels_of None = []

-- The first nest of a list, which is the innermost: after `a1 82`, the rest of the array.
abbrev pub innermost : List Remaining → Option Remaining
innermost [] = None
innermost (level ∷ levels) = Some level

-- All nests but the innermost: after `a1 82`, the rest of the map.
abbrev pub others : List Remaining → List Remaining
others [] = []
others (level ∷ levels) = levels
