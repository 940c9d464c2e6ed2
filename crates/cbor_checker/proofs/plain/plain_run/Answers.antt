use Rattle.std.proofs.Common.{rules}
use Rattle.cbor_checker.proofs.PlainRuns.{plain_runs}
use Rattle.cbor_checker.proofs.plain.plain_run.Goals as goal

pub returns-clause-plain : goal.returns-clause-plain
returns-clause-plain c =
    let run = c.ascii_run-run.result in
    let others = c.other_runs-others.result in
    plain_runs c.args.spelling c.args.tags c.args.offset c.args.place.now c.ascii_run-run.new.place
    c.other_runs-others.new.place c.args.most run.left others.left run.len others.len c.args.bytes.now
    c.ascii_run-run.ensures.within c.ascii_run-run.ensures.most c.other_runs-others.ensures.most
    (c.ascii_run-run.ensures.plain c.args.tags) c.other_runs-others.ensures.plain
