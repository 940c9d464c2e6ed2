use Rattle.std.proofs.Common.{rules}
use Rattle.tool_files.proofs.InputLaws.{verdict_counted}
use Rattle.tool_files.proofs.check.check_input.Goals as goal

pub returns-clause-counts : goal.returns-clause-counts
returns-clause-counts g c =
    verdict_counted _ c.args.options.spelling c.args.options.skip c.args.options.items c.args.options.one
    c.args.options.depth (g.R.Read.remaining c.args.reader)
    c.new-reader.result c.with_spelling-decoder.result c.judge_ahead-decoder.result.0 c.judge_ahead-decoder.result.1
    c.prefer_failure.result c.into_parts-fault.result.2 c.with_spelling-decoder.ensures c.new-reader.ensures.ahead
    c.judge_ahead-decoder.ensures c.prefer_failure.ensures

pub returns-clause-checks : goal.returns-clause-checks
returns-clause-checks g c = record {
  old = c.with_spelling-decoder.result;
  new = c.judge_ahead-decoder.result.0;
  found = c.judge_ahead-decoder.result.1;
  begins = record {
    start = c.new-reader.result;
    source = c.new-reader.ensures.source;
    none_ahead = c.new-reader.ensures.read_ahead;
    fresh = c.with_spelling-decoder.ensures;
  };
  says = c.judge_ahead-decoder.ensures;
  said = first_of (
    cc (c.prefer_failure.ensures, c.into_parts-fault.ensures.fault, c.into_inner.ensures),
    search rules,
  );
}
