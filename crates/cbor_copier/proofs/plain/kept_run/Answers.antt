use Rattle.std.proofs.Common.{◌<◌, ◌-◌, [], refl, arith}
use Rattle.cbor_copier.proofs.PlainLaws.{kept_more}
use Rattle.cbor_copier.proofs.ShortestLaws.{none_strict, strict_kept}
use Rattle.cbor_copier.proofs.plain.kept_run.Goals as goal

pub elements-init : goal.elements-init
elements-init c = record {
  within = omega arith;
  most = omega arith;
  last = omega arith;
  none = λ e. refl;
  kept = λ some. absurd (omega (arith, some));
  strict = ([], none_strict (c.args.most - c.args.most) (omega arith));
}

pub elements-preserved : goal.elements-preserved
elements-preserved c =
    let some : 0 < c.kept_len-len.result = omega (arith, c.if-len-eq0.false) in
    let so_far = c.elements.invariant in
    let item = c.kept_len-len.ensures.kept some in
    record {
      within = c.kept_len-len.ensures.within;
      most = omega (arith, so_far.most);
      last = omega arith;
      none = λ e. absurd (omega (arith, e, some));
      kept = λ positive.
          kept_more c.elements.last c.args.most c.elements.left c.elements.at c.kept_len-len.result c.args.bytes.now
          so_far.within c.elements-test.true so_far.most so_far.none so_far.kept item;
      strict = strict_kept c.args.most c.elements.left c.elements.at c.kept_len-len.result c.args.bytes.now
          so_far.within c.elements-test.true so_far.most so_far.strict item;
    }
