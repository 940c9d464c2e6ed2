use Rattle.std.proofs.Common.{arith, ◌∙◌}
use Rattle.ciborium_ll_buffers.proofs.BufferLaws.{all_gone}
use Rattle.ciborium_ll_buffers.proofs.buffered.BufferedWriterWrite.flush.Goals as goal

pub returns-in-Err-clause-rest : goal.returns-in-Err-clause-rest
returns-in-Err-clause-rest g c = record {
  rest = all_gone _ _ (c.failed.ensures.kept_back ∙ c.in_ok-send.ensures.empty);
  space = omega (arith, c.failed.ensures.space, c.in_ok-send.ensures.whole, c.send.ensures.capacity);
}
