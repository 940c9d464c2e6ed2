use Rattle.std.proofs.Common.{ℕ, ◌-◌, ◌^◌}
use Rattle.ciborium_ll.specs.Decoding.{MovesOn}
use Rattle.uses.specs.Sums.{ReadsIntegers}
use Rattle.uses.proofs.sums.sum_open.Given as goal

abbrev pub invariant-numbers : goal.invariant-numbers
invariant-numbers g l = record {
  reads : (count : ℕ) × ReadsIntegers g.R.Read l.initial.decoder count l.total l.decoder;
  moves_on : MovesOn g.R.Read l.initial.decoder l.decoder;
}

-- Each title takes at least one byte.
abbrev pub decreases-numbers : goal.decreases-numbers
decreases-numbers g l = 2 ^ 64 - l.decoder.offset
