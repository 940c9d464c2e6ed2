use Rattle.std.proofs.Common.{◌≡◌, arith, length, length-take-le, subst, sym, ◌∙◌}
use Rattle.std.proofs.KnownBytes.{Keeps-refl}
use Rattle.std.proofs.lemmas.List.{take_at}
use Rattle.std.specs.Io.KnownBytes.{Consumes, Keeps}
use Rattle.ciborium_ll_buffers.specs.Buffers.{buffered_ahead}
use Rattle.ciborium_ll_buffers.proofs.BufferLaws.{kept_Consumes, prepend_known-filled}
use Rattle.ciborium_ll_buffers.proofs.BufferLaws.{prepend_known-taken}
use Rattle.ciborium_ll_buffers.proofs.buffered.BufferedReader.read_part.Goals.{else-len-eq0}
use Rattle.ciborium_ll_buffers.proofs.buffered.BufferedReader.read_part.Goals.{then-len-eq0+else-capacity-data+in-Ok}
use Rattle.ciborium_ll_buffers.proofs.buffered.BufferedReader.read_part.Goals as goal

pub returns-clause-bytes : goal.returns-clause-bytes
returns-clause-bytes g c =
    let kept : Keeps (buffered_ahead g.T.Read.remaining c.args.self.now) (buffered_ahead g.T.Read.remaining
    c.if-len-eq0.self) = elim c.if-len-eq0.branch [
      | then-len-eq0+else-capacity-data+in-Ok w ↦ rw w.self-is (prepend_known-filled _ _ _ _ _ w.in-Ok.ensures.bytes.1
          w.in-Ok.ensures.bytes.3)
      | else-len-eq0 w ↦ rw w.self-is (Keeps-refl _)
    ] in
    let size : length c.take.new.«data» ≡ c.min-count.result = c.take.auto.«data» ∙ length-take-le _ _ (omega arith) in
    let moved = prepend_known-taken (g.T.Read.remaining c.if-len-eq0.self.source) _ _ _ c.take.ensures.held in
    subst (Consumes _ _) (sym (take_at c.take.new.«data» _ c.min-count.result size)) (kept_Consumes _ _ _ _ kept moved)
