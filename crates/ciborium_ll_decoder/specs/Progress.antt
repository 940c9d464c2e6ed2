-- How far the titles of a string were read.
use Rattle.std.specs.Prelude.{ℕ}
use Rattle.ciborium_ll_decoder.specs.declared.seg.Progress.{Progress}
use Rattle.ciborium_ll_decoder.specs.declared.seg.Progress.TheVariants as p

-- How many opens are counted. `Open(2)` counts 2.
abbrev pub opens_of : Progress → ℕ
opens_of (p.Open opens) = opens
opens_of p.Ended = 0
opens_of (p.Damaged place) = 0
opens_of p.TooDeep = 0
