use Rattle.std.proofs.Common.{arith, ap, length}
use Rattle.std.proofs.lemmas.Bool.Decides.{nat_tests}
use Rattle.ciborium_ll_text.proofs.Lists.{length_zero}
use Rattle.cbor_view.proofs.SearchLaws.{all_left, less_left, other_front, at_end}
use Rattle.cbor_view.proofs.search.are_joined.Goals as goal

pub segments-init : goal.segments-init
segments-init c = record {
  has = c.requires;
  same = λ kind bodies s. all_left kind bodies c.args.bytes.now c.args.segments.now s;
}

pub returns-in_default-after_front : goal.returns-in_default-after_front
returns-in_default-after_front c kind bodies s =
    other_front kind bodies c.args.bytes.now c.segments.rest.now c.segments.left.now c.in-Some.body.now
    c.in-Some.after.now (c.segments.invariant.same kind bodies s) c.in-Some.ensures.first
    c.in_default-after_front.ensures

pub segments-preserved : goal.segments-preserved
segments-preserved c = record {
  has = c.in-Some.ensures.left;
  same = λ kind bodies s.
      less_left kind bodies c.args.bytes.now c.segments.rest.now c.segments.left.now c.in-Some.body.now
      c.in-Some.after.now c.in-Some-after_front.more.now (c.segments.invariant.same kind bodies s)
      c.in-Some.ensures.first c.in-Some-after_front.ensures;
}

pub returns : goal.returns
returns c kind bodies s =
    at_end kind bodies c.args.bytes.now c.segments.rest.now c.segments.left.now c.is_empty.result
    (c.segments.invariant.same kind bodies s) c.in_default.ensures.first (
      (λ t. length_zero c.segments.left.now (grind (arith, nat_tests, t))),
      (λ z. let l = ap length z in grind (arith, nat_tests, l)),
    )
