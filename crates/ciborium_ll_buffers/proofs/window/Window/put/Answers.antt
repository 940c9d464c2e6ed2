use Rattle.std.proofs.Common.{arith}
use Rattle.ciborium_ll_buffers.proofs.BufferLaws.{part_grown}
use Rattle.ciborium_ll_buffers.proofs.window.Window.put.Goals as goal

pub returns-clause-held : goal.returns-clause-held
returns-clause-held c = rw c.copy_chunk.ensures.copied (part_grown c.args.self.now.space.now c.args.«data».now
    c.args.self.now.start c.args.self.now.end (omega arith) (omega arith))
