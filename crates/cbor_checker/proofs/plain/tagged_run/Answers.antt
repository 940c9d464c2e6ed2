use Rattle.std.proofs.Common.{◌≡◌, ◌+◌, ◌<◌, true, arith}
use Rattle.cbor_checker.proofs.PlainLaws.{placed_more}
use Rattle.cbor_checker.proofs.PlainRuns.{plain_none}
use Rattle.cbor_checker.proofs.TagLaws.{tag_or_none}
use Rattle.cbor_checker.proofs.plain.tagged_run.Goals as goal

pub items-init : goal.items-init
items-init c =
    record {
      within = omega arith;
      most = omega arith;
      some = λ less. absurd (omega (arith, less));
      plain = plain_none c.args.spelling true c.args.offset c.args.place.now c.args.most;
    }

pub items-preserved : goal.items-preserved
items-preserved c =
    let xs = c.args.bytes.now in
    let at = c.items.at in
    let tag = c.tag_len.result in
    let len = c.plain_len-len.result in
    let some : 0 < len = omega (arith, c.if-len-eq0.false) in
    let sum : at + (tag + len) ≡ at + tag + len = omega arith in
    record {
      within = c.plain_len-len.ensures.within;
      most = omega (arith, c.items.invariant.most);
      some = λ less. omega (arith, some);
      plain =
          rw sum at (placed_more c.args.spelling true c.args.offset c.args.place.now c.items.last c.args.most
          c.items.left at tag (tag + len) (c.args.offset + (at + tag)) xs c.items.invariant.within c.items-test.true
          c.items.invariant.most c.items.invariant.plain
          (tag_or_none xs at tag len c.args.spelling c.plain_len-len.ensures.within c.tag_len.ensures.tag
          (c.plain_len-len.ensures.plain some)) (omega arith));
    }
