use Rattle.std.proofs.Common.{◌-◌, ◌++◌, ◌∙◌, ap, arith, length, length-take-le, take}
use Rattle.ciborium_ll_buffers.proofs.BufferLaws.{part_kept, part_more}
use Rattle.ciborium_ll_buffers.proofs.window.Window.fill.Goals as goal

pub returns-in_err-count-clause-err : goal.returns-in_err-count-clause-err
returns-in_err-count-clause-err g c =
    let w = c.restart.new.self in
    let kept = part_kept w.space.now c.read.new.buf w.start w.«end» (length w.space.now - w.«end») (omega arith)
    (omega arith) in
    grind (arith, kept, c.restart.ensures.held)

pub returns-clause-bytes : goal.returns-clause-bytes
returns-clause-bytes g c =
    let w = c.restart.new.self in
    let count = c.in_ok-count.count in (
      take count c.read.new.buf,
      part_more w.space.now c.read.new.buf w.start w.«end» (length w.space.now - w.«end») count (omega arith)
          (omega arith) c.in_ok-count.ensures.bound.0 ∙ ap (λ l. l ++ take count c.read.new.buf) c.restart.ensures.held,
      length-take-le count c.read.new.buf c.in_ok-count.ensures.bound.0,
      c.in_ok-count.ensures.bytes.0,
    )
