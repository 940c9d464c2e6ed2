-- Which titles a reader takes.
use Rattle.std.specs.Prelude.{Bool, true, false}
use Rattle.ciborium_ll_grammar.specs.declared.spelling.Spelling.{Spelling}
use Rattle.ciborium_ll_grammar.specs.declared.spelling.Spelling.TheVariants.{Any, Shortest}

-- Whether shortest titles alone are taken (RFC 7049, 3.9). `18 01` is a title of the number 1, and not the shortest.
abbrev pub is_shortest : Spelling → Bool
is_shortest Any = false
is_shortest Shortest = true
