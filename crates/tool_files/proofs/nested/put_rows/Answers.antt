use Rattle.std.proofs.Common.{rules, ◌≡◌, ◌+◌}
use Rattle.tool_files.proofs.EmbedLaws.{hands_next, hands_none}
use Rattle.tool_files.proofs.nested.put_rows.Goals as goal

pub parts-init : goal.parts-init
parts-init g c = record {
  within = search rules;
  so_far = λ fits. hands_none c.args.level c.args.offset (g.S.Rows.drawn c.args.rows.now);
}

pub parts-preserved : goal.parts-preserved
parts-preserved g c = record {
  within = search rules;
  so_far = λ fits.
      let sum : c.saturating_add.result ≡ c.args.offset + c.parts.at = search rules in
      hands_next c.args.level c.args.offset (g.S.Rows.drawn c.args.rows.now) (g.S.Rows.drawn c.parts.rows)
      (g.S.Rows.drawn c.row.new.self) c.parts.at c.min.result c.args.bytes.now c.parts.invariant.within
      (c.parts.invariant.so_far fits) (rw sum at c.in_ok-row.ensures.line);
}
