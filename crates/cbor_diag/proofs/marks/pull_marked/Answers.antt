use Rattle.cbor_diag.proofs.MarkLaws.{marked_is}
use Rattle.cbor_diag.proofs.marks.pull_marked.Goals as goal

pub returns-clause-pulls : goal.returns-clause-pulls
returns-clause-pulls g c =
    marked_is g.R.Read c.args.is_exact c.args.decoder.now c.pull.new.self c.offset.new.self c.in_ok-header.header
    c.of-mark.result c.offset-place.result c.offset.result
    (rw c.offset-place.ensures.same at c.in_ok-header.ensures.header) c.offset.ensures.same
    c.offset-place.ensures.value c.offset.ensures.value c.of-mark.ensures
