-- The types of other crates that this one hands on, by their names alone.
pub use Rattle.ciborium_ll_grammar.specs.declared.remaining.Remaining
