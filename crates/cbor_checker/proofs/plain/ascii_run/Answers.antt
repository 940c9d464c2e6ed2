use Rattle.cbor_checker.proofs.PlainRuns.{plain_none}
use Rattle.cbor_checker.proofs.plain.ascii_run.Goals as goal

pub returns-then-most-eq0-clause-plain : goal.returns-then-most-eq0-clause-plain
returns-then-most-eq0-clause-plain c = λ tags.
    plain_none c.args.spelling tags c.args.offset c.args.place.now c.args.most
