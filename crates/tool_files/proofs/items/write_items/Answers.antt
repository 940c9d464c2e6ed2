use Rattle.std.proofs.Common.{rules}
use Rattle.tool_files.proofs.items.write_items.Goals as goal

pub returns : goal.returns
returns g c = record {
  old = c.with_spelling-decoder.result;
  new = c.write_part-outcome.new.decoder;
  outcome = c.write_part-outcome.result;
  begins = record {
    start = c.new-reader.result;
    source = c.new-reader.ensures.source;
    none_ahead = c.new-reader.ensures.read_ahead;
    fresh = c.with_spelling-decoder.ensures;
  };
  written = c.write_part-outcome.ensures;
  said = first_of (
    cc (
      c.items_verdict.ensures,
      c.into_parts-fault.ensures.fault,
      c.into_inner.ensures,
      c.offset-offset.ensures.same,
      c.offset-offset.ensures.value,
    ),
    search rules,
  );
}
