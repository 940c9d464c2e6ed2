use Rattle.std.proofs.Common.{arith}
use Rattle.cbor_encode.proofs.StringLaws.{chunks_break, chunks_end}
use Rattle.cbor_encode.specs.Scalars.{kind_of}
use Rattle.cbor_encode.proofs.strings.close_opens.Goals as goal

pub ends-preserved : goal.ends-preserved
ends-preserved c = record {
  within = omega arith;
  fewer = omega arith;
  chunks = chunks_break c.args.spelling (kind_of c.args.is_text) c.ends.opens c.ends.strings.items
      c.put.new.out.items (omega arith) c.in_ok-put.ensures.wrote c.ends.invariant.chunks;
}

pub returns-then-take-2-clause-chunks : goal.returns-then-take-2-clause-chunks
returns-then-take-2-clause-chunks c =
    chunks_end c.args.spelling (kind_of c.args.is_text) c.ends.strings.items
    (rw c.if-opens-eq1.true at c.ends.invariant.chunks)
