use Rattle.std.proofs.Common.{rules}
use Rattle.tool_files.proofs.index.index_items.Goals as goal

pub returns-in-Ok : goal.returns-in-Ok
returns-in-Ok g c = record {
  old = c.with_spelling-decoder.result;
  new = c.index_part-found.new.decoder;
  found = c.index_part-found.result;
  begins = record {
    start = c.new-reader.result;
    source = c.new-reader.ensures.source;
    none_ahead = c.new-reader.ensures.read_ahead;
    fresh = c.with_spelling-decoder.ensures;
  };
  indexes = c.index_part-found.ensures;
  said = search rules;
}

pub returns-in-Err : goal.returns-in-Err
returns-in-Err g c = record {
  old = c.with_spelling-decoder.result;
  new = c.index_part-found.new.decoder;
  found = c.index_part-found.result;
  begins = record {
    start = c.new-reader.result;
    source = c.new-reader.ensures.source;
    none_ahead = c.new-reader.ensures.read_ahead;
    fresh = c.with_spelling-decoder.ensures;
  };
  indexes = c.index_part-found.ensures;
  said = search rules;
}
