use Rattle.cbor_checker.proofs.PlainRuns.{plain_none}
use Rattle.cbor_checker.proofs.plain.other_run.Goals as goal

pub returns-in_default-clause-plain : goal.returns-in_default-clause-plain
returns-in_default-clause-plain c =
    plain_none c.args.spelling c.args.tags c.args.offset c.args.place.now c.args.most

pub returns-in_default-2-clause-plain : goal.returns-in_default-2-clause-plain
returns-in_default-2-clause-plain c =
    plain_none c.args.spelling c.args.tags c.args.offset c.args.place.now c.args.most
