use Rattle.std.proofs.Common.{arith, rules, ◌∙◌}
use Rattle.cbor_canonical.proofs.PlaceRuns.{saved_more, bounds_kept}
use Rattle.cbor_canonical.proofs.pairs.save_bytes.Goals as goal

pub cells-preserved : goal.cells-preserved
cells-preserved c = record {
  within = omega (arith, c.cells-test.true);
  saved = saved_more c.args.bytes.now c.cells.spans c.cells.at c.byte_or_zero-low.result c.byte_or_zero-high.result
      (omega (arith, c.cells-test.true, c.if-spans-cells.false, c.cells.auto.spans)) (search rules) (search rules)
      c.byte_or_zero-low.ensures c.byte_or_zero-high.ensures c.cells.invariant.saved;
  kept = bounds_kept c.cells.spans c.cells.at _ ∙ c.cells.invariant.kept;
}
