use Rattle.std.proofs.Common.{arith, subst, ◌∙◌}
use Rattle.std.proofs.lemmas.List.{take_all}
use Rattle.std.specs.Io.KnownBytes.{Appends}
use Rattle.ciborium_ll_buffers.proofs.BufferLaws.{all_gone, append_known-sent, kept_Appends}
use Rattle.ciborium_ll_buffers.proofs.buffered.BufferedWriter.write_on.Goals as goal

pub returns-in_default-Err-clause-part : goal.returns-in_default-Err-clause-part
returns-in_default-Err-clause-part g c =
    let taken = append_known-sent _ _ _ _ c.in_ok-send.ensures.empty c.write_calls.ensures.bytes in
    let within = rw c.in_default-Err.is-1 at c.write_calls.ensures.err in
    rw c.failed.ensures.written (c.write_calls.result.0, kept_Appends _ _ _ _ c.send.ensures.bytes taken, within)

pub returns-in_default-Ok-clause-bytes : goal.returns-in_default-Ok-clause-bytes
returns-in_default-Ok-clause-bytes g c =
    let taken = append_known-sent _ _ _ _ c.in_ok-send.ensures.empty c.write_calls.ensures.bytes in
    let all = rw c.in_default-Ok.is-1 at c.write_calls.ensures.ok in
    subst (Appends _ _) (take_all c.write_calls.result.0 _ (omega arith))
    (kept_Appends _ _ _ _ c.send.ensures.bytes taken)

pub returns-in_default-Err-clause-rest : goal.returns-in_default-Err-clause-rest
returns-in_default-Err-clause-rest g c = record {
  rest = all_gone _ _ (c.failed.ensures.kept_back ∙ c.in_ok-send.ensures.empty);
  space = omega (arith, c.failed.ensures.space, c.in_ok-send.ensures.whole, c.send.ensures.capacity);
}
