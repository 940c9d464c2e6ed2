use Rattle.std.proofs.Common.{◌≡◌, ◌<◌, length}
use Rattle.ciborium_ll_grammar.specs.Strings.{Bytes}
use Rattle.ciborium_ll_encoder.proofs.PieceLaws.{Progress}
use Rattle.ciborium_ll_encoder.proofs.enc.Encoder.byte_pieces.Given as goal

abbrev pub invariant-pieces : goal.invariant-pieces
invariant-pieces g l = record {
  some : 0 < length l.rest;
  progress : Progress g.W.Write Bytes l.limit l.fn.value l.initial.self.writer l.rest l.self.writer;
  target : g.W.Write.target l.self.writer ≡ g.W.Write.target l.initial.self.writer;
}

abbrev pub decreases-pieces : goal.decreases-pieces
decreases-pieces g l = length l.rest
