use Rattle.std.proofs.Common.{◌≡◌, ◌<◌, length, IsUtf8}
use Rattle.ciborium_ll_grammar.specs.Strings.{Text}
use Rattle.ciborium_ll_encoder.proofs.PieceLaws.{Progress}
use Rattle.ciborium_ll_encoder.proofs.enc.Encoder.text_pieces.Given as goal

abbrev pub invariant-pieces : goal.invariant-pieces
invariant-pieces g l = record {
  some : 0 < length l.rest;
  utf8 : IsUtf8 l.rest;
  progress : Progress g.W.Write Text l.limit l.fn.value l.initial.self.writer l.rest l.self.writer;
  target : g.W.Write.target l.self.writer ≡ g.W.Write.target l.initial.self.writer;
}

abbrev pub decreases-pieces : goal.decreases-pieces
decreases-pieces g l = length l.rest
