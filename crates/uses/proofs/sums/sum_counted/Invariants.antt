use Rattle.ciborium_ll.specs.Decoding.{MovesOn}
use Rattle.uses.specs.Sums.{ReadsIntegers}
use Rattle.uses.proofs.sums.sum_counted.Given as goal

abbrev pub invariant-numbers : goal.invariant-numbers
invariant-numbers g l = record {
  reads : ReadsIntegers g.R.Read l.initial.decoder l._read l.total l.decoder;
  moves_on : MovesOn g.R.Read l.initial.decoder l.decoder;
}
