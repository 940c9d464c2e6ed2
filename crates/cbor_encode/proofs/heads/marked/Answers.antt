use Rattle.cbor_encode.proofs.HeadLaws.{marked_title}
use Rattle.cbor_encode.proofs.heads.marked.Goals as goal

pub returns-clause-title : goal.returns-clause-title
returns-clause-title c =
    marked_title c.args.header c.in-Some.major c.in-Some.number c.in-Some-minor.minor c.in-Some.ensures
    c.in-Some-minor.ensures.minor c.in-Some-minor.ensures.number
