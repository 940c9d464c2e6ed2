use Rattle.std.proofs.Common.{◌-◌, rules, length, subst}
use Rattle.std.specs.Io.KnownBytes.{Consumes}
use Rattle.std.proofs.KnownBytes.{Consumes-trans}
use Rattle.ciborium_ll_streams.proofs.FillLaws.{filled_more}
use Rattle.ciborium_ll_buffers.proofs.buffered.BufferedReader.read_on.Goals as goal

pub loop-filled-preserved : goal.loop-filled-preserved
loop-filled-preserved g c =
    let from = c.loop-filled.filled in
    let kept = c.loop-filled.invariant in
    let joined = filled_more from (length c.loop-filled.«data» - from) c.in_ok-filled.field-0 c.loop-filled.«data»
    c.read_part.new.«data» kept.within c.in_ok-filled.ensures.bound.1 in
    record {
      within = search rules;
      failures = search rules;
      capacity = search rules;
      fault = search rules;
      bytes = subst (Consumes _ _) joined (Consumes-trans _ _ _ _ _ kept.bytes c.in_ok-filled.ensures.bytes);
    }
