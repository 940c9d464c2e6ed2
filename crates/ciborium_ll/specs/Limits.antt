-- The numbers that contracts name, by their names alone.
pub use Rattle.ciborium_ll_grammar.specs.declared.limits.TheConstants.{MOST_LEVELS, LEAST_BUFFER, LONGEST_TITLE, LONGEST_AFFIX, MOST_KEPT}
