use Rattle.std.proofs.Common.{arith, refl}
use Rattle.tool_verdicts.specs.Deterministic.{is_followed, is_refused}
use Rattle.tool_verdicts.proofs.DeterministicLaws.{one_exactly, one_whole}
use Rattle.tool_verdicts.proofs.deterministic.check_one.Goals as goal

pub returns-then-len-bytes : goal.returns-then-len-bytes
returns-then-len-bytes c = record {
  exactly = one_exactly c.args.order c.args.depth c.args.bytes.now _
      (is_followed ((c.in-Ok.ensures.exactly c.in-Ok.len).0 refl) c.if-len-bytes.true);
}

pub returns-else-len-bytes : goal.returns-else-len-bytes
returns-else-len-bytes c = record {
  exactly = one_exactly c.args.order c.args.depth c.args.bytes.now _
      (one_whole c.args.order c.args.depth c.args.bytes.now c.in-Ok.len ((c.in-Ok.ensures.exactly c.in-Ok.len).0 refl)
      (omega (arith, c.if-len-bytes.false)));
}

pub returns-in-Err : goal.returns-in-Err
returns-in-Err c = record {
  exactly = one_exactly c.args.order c.args.depth c.args.bytes.now _
      (is_refused ((c.in-Err.ensures.refused c.in-Err.refusal.why c.in-Err.refusal.place).0 refl));
}
