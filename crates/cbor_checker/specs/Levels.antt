-- A break in place of the item that is due in a tag, an array or a map (RFC 7049, 2.2.1).
use Rattle.std.specs.Prelude.{Bool, true, false}
use Rattle.ciborium_ll_grammar.specs.declared.remaining.Remaining.{Remaining}
use Rattle.ciborium_ll_grammar.specs.declared.remaining.Remaining.TheVariants as l
pub use Rattle.ciborium_ll_grammar.specs.Remaining.{contents, next}

-- A nest may end in place of the item that is due before this rest of it: any item of an open array, or a key of an
-- open map. So `9f ff` and `bf ff` are items, and `bf 01 ff` is not.
abbrev pub ends_before : Remaining → Bool
ends_before l.OpenItems = true
ends_before l.OpenValue = true
ends_before rest = false
