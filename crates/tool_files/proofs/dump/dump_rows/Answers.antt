use Rattle.std.proofs.Common.{rules, Err, ap}
use Rattle.tool_files.specs.Shows.{dumps_none, dumps_rest}
use Rattle.tool_files.proofs.dump.dump_rows.Goals as goal

pub returns-in-Err : goal.returns-in-Err
returns-in-Err g c = record {
  start = c.new-reader.result;
  source = c.new-reader.ensures.source;
  none_held = c.new-reader.ensures.held;
  room = c.new-reader.ensures.capacity;
  old = c.with_spelling-decoder.result;
  fresh = c.with_spelling-decoder.ensures;
  part = dumps_none c.in-Err.error c.skip_items.new.decoder c.in-Err.ensures.skipped (ap Err (first_of (
    cc (
      c.prefer_failure.ensures,
      c.fault_of-verdict.ensures,
      c.into_parts-fault.ensures.fault,
      c.into_inner.ensures,
      c.offset.ensures.same,
      c.offset.ensures.value,
    ),
    search rules,
  )));
}

pub returns-in-None : goal.returns-in-None
returns-in-None g c = record {
  start = c.new-reader.result;
  source = c.new-reader.ensures.source;
  none_held = c.new-reader.ensures.held;
  room = c.new-reader.ensures.capacity;
  old = c.with_spelling-decoder.result;
  fresh = c.with_spelling-decoder.ensures;
  part = dumps_rest c.skip_items.new.decoder
      (record { reads = c.in_default.ensures.skipped; none = c.in_default.ensures.none })
      (rw c.in-None.is (record {
        new = c.print_all-outcome.new.decoder;
        outcome = c.print_all-outcome.result.0;
        offset = c.print_all-outcome.result.1;
        prints = c.print_all-outcome.ensures;
        said = search rules;
      }));
}

pub returns-in-Some : goal.returns-in-Some
returns-in-Some g c = record {
  start = c.new-reader.result;
  source = c.new-reader.ensures.source;
  none_held = c.new-reader.ensures.held;
  room = c.new-reader.ensures.capacity;
  old = c.with_spelling-decoder.result;
  fresh = c.with_spelling-decoder.ensures;
  part = dumps_rest c.skip_items.new.decoder
      (record { reads = c.in_default.ensures.skipped; none = c.in_default.ensures.none })
      (rw c.in-Some.is (record {
        fence = c.new-fence.result;
        is_fenced = c.new-fence.ensures.fenced;
        depth_is = c.new-fence.ensures.depth;
        source = search rules;
        start = c.with_spelling-fenced.result;
        fresh = rw c.offset-start.ensures.value at c.with_spelling-fenced.ensures;
        rows = record {
          new = c.print_all-outcome-in-Some.new.decoder;
          outcome = c.print_all-outcome-in-Some.result.0;
          offset = c.print_all-outcome-in-Some.result.1;
          prints = c.print_all-outcome-in-Some.ensures;
          said = search rules;
        };
      }));
}
