use Rattle.std.proofs.Common.{arith}
use Rattle.cbor_canonical.proofs.SortRuns.{disorder_there, ascend_more}
use Rattle.cbor_canonical.proofs.pairs.disorder.Goals as goal

pub returns-in-Equal : goal.returns-in-Equal
returns-in-Equal c =
    disorder_there c.args.order c.args.out.now c.args.spans.now c.spans.at c.key_of.result.now
    c.key_of-in-spans.result.now c.compare_keys.result c.spans.invariant.from (omega (arith, c.spans-test.true))
    c.key_of.ensures c.key_of-in-spans.ensures c.compare_keys.ensures c.in-Equal.is

pub spans-preserved : goal.spans-preserved
spans-preserved c = record {
  from = omega arith;
  up = ascend_more c.args.order c.args.out.now c.args.spans.now c.spans.at c.key_of.result.now
      c.key_of-in-spans.result.now c.spans.invariant.from (omega (arith, c.spans-test.true)) c.key_of.ensures
      c.key_of-in-spans.ensures c.in-Less.ensures c.spans.invariant.up;
}
