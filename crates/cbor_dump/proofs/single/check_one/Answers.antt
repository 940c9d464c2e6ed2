use Rattle.std.proofs.Common.{length, Err}
use Rattle.ciborium_ll.proofs.DecodingLaws.{MovesOn-then}
use Rattle.cbor_skip.specs.Skipping.{ReadsItem, SkipsItem}
use Rattle.cbor_dump.specs.declared.single.NotOne.TheVariants as n
use Rattle.cbor_dump.proofs.SingleLaws.{ends_one, one_told, one_exactly, one_failures}
use Rattle.cbor_dump.proofs.single.check_one.Goals as goal

pub returns-in-Err-clause-exactly : goal.returns-in-Err-clause-exactly
returns-in-Err-clause-exactly g c =
    let old = c.args.decoder.now in
    let depth = c.args.depth in
    let room = length c.args.buffer.now in
    let new = c.skip_item.new.decoder in
    let fails : SkipsItem g.R.Read depth room old (Err c.in-Err.error) new =
    rw c.offset-start.ensures.same at c.in-Err.ensures.skipped.skipped in
    λ due ready. one_exactly g.R.Read depth room old due ready new (Err (n.Item c.in-Err.error)) fails

pub returns-in-Err-clause-failures : goal.returns-in-Err-clause-failures
returns-in-Err-clause-failures g c =
    let old = c.args.decoder.now in
    let depth = c.args.depth in
    let room = length c.args.buffer.now in
    let new = c.skip_item.new.decoder in
    let fails : SkipsItem g.R.Read depth room old (Err c.in-Err.error) new =
    rw c.offset-start.ensures.same at c.in-Err.ensures.skipped.skipped in
    one_failures g.R.Read depth room old new (Err (n.Item c.in-Err.error)) fails

pub returns : goal.returns
returns g c =
    let old = c.args.decoder.now in
    let depth = c.args.depth in
    let room = length c.args.buffer.now in
    let new = c.offset.new.self in
    let result = c.answer_end.result in
    let reads : ReadsItem g.R.Read depth old c.skip_item.new.decoder =
    rw c.offset-start.ensures.same at c.in_default.ensures.skipped.skipped in
    let pulls = rw (← c.offset.ensures.same, c.offset-place.ensures.same) at c.pull-pulled.ensures.header in
    let checks =
    ends_one g.R.Read depth room c.offset-start.result c.offset-place.result c.offset.result old
    c.skip_item.new.decoder new c.pull-pulled.result result reads pulls c.answer_end.ensures c.offset-start.ensures.value
    c.offset-place.ensures.value (rw c.offset.ensures.same c.offset.ensures.value) in
    record {
      checks = checks;
      told = λ due ready. one_told g.R.Read depth room old due ready new result checks;
      exactly = λ due ready. one_exactly g.R.Read depth room old due ready new result checks;
      failures = one_failures g.R.Read depth room old new result checks;
      moves_on = rw c.offset.ensures.same (MovesOn-then g.R.Read _ _ _
          (rw c.offset-start.ensures.same at c.in_default.ensures.skipped.moves_on)
          (rw c.offset-place.ensures.same at c.pull-pulled.ensures.moves_on));
    }
