use Rattle.std.proofs.Common.{◌≡◌, ◌+◌, ◌<◌, arith}
use Rattle.cbor_checker.proofs.PlainLaws.{plain_more}
use Rattle.cbor_checker.proofs.PlainRuns.{place_after, place_none, place_some, plain_none}
use Rattle.cbor_checker.proofs.plain.run_of.Goals as goal

pub items-init : goal.items-init
items-init c =
    record {
      within = omega arith;
      most = omega arith;
      some = λ less. absurd (omega (arith, less));
      last = omega arith;
      plain = λ tags. plain_none c.args.spelling tags c.args.offset c.args.place.now c.args.most;
    }

pub items-preserved : goal.items-preserved
items-preserved c =
    let first = c.args.place.now in
    let offset = c.args.offset in
    let at = c.items.at in
    let len = c.plain_len-len.result in
    let some : 0 < len = omega (arith, c.if-len-eq0.false) in
    record {
      within = c.plain_len-len.ensures.within;
      most = omega (arith, c.items.invariant.most);
      some = λ less. omega (arith, some);
      last = omega arith;
      plain = λ tags.
          rw (place_some first (at + len) (offset + at) (omega (arith, some)))
          (plain_more c.args.spelling tags offset first (place_after first at (offset + c.items.last)) c.args.most
          c.items.left at len c.args.bytes.now c.items.invariant.within c.items-test.true c.items.invariant.most
          (c.items.invariant.plain tags) (c.plain_len-len.ensures.plain some));
    }

pub returns-then-at-gt0-clause-plain : goal.returns-then-at-gt0-clause-plain
returns-then-at-gt0-clause-plain c = λ tags.
    rw (place_some c.args.place.now c.items.at (c.args.offset + c.items.last) c.if-at-gt0.true) at
    (c.items.invariant.plain tags)

pub returns-else-at-gt0-clause-plain : goal.returns-else-at-gt0-clause-plain
returns-else-at-gt0-clause-plain c = λ tags.
    rw (place_none c.args.place.now c.items.at (c.args.offset + c.items.last) (omega (arith, c.if-at-gt0.false))) at
    (c.items.invariant.plain tags)
