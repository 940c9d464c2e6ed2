use Rattle.std.proofs.Common.{arith, length, length-append, ap}
use Rattle.std.proofs.lemmas.Bool.Decides.{nat_tests}
use Rattle.cbor_view.proofs.SegmentLaws.{title_there, segment_fits, first_segment, first_left, passed, passed_left}
use Rattle.cbor_view.proofs.SegmentLaws.{title_takes, none_left}
use Rattle.cbor_view.proofs.segments.next_segment.Goals as goal

pub titles-init : goal.titles-init
titles-init c = record { has = c.requires; same = λ kind bodies s. s; shorter = omega arith }

pub unreachable-requires : goal.unreachable-requires
unreachable-requires c =
    title_there c.titles.rest.now c.titles.invariant.has (grind (arith, nat_tests)) c.in_default.ensures

pub split_at-requires : goal.split_at-requires
split_at-requires c =
    segment_fits c.titles.rest.now c.in-Some.after.now c.in-Some.header c.in-Some-segment_len.len
    c.titles.invariant.has c.in-Some.ensures c.in-Some-segment_len.ensures

pub returns-in-Some-segment_len : goal.returns-in-Some-segment_len
returns-in-Some-segment_len c =
    let rest = c.titles.rest.now in
    let after = c.in-Some.after.now in
    let split = c.split_at.ensures.by_index.0 in
    let last = c.split_at.result.1.now in
    record {
      first = λ kind bodies s.
          first_segment kind rest after c.split_at.result.0.now last c.in-Some.header bodies c.in-Some-segment_len.len
          (c.titles.invariant.same kind bodies s) c.in-Some.ensures c.in-Some-segment_len.ensures split
          c.split_at.ensures.front_len;
      left = first_left rest after c.split_at.result.0.now last c.in-Some.header c.in-Some-segment_len.len
          c.titles.invariant.has c.in-Some.ensures c.in-Some-segment_len.ensures split c.split_at.ensures.front_len;
      shorter = omega (
        arith,
        title_takes rest after c.in-Some.header c.in-Some.ensures,
        c.titles.invariant.shorter,
        ap length split,
        length-append c.split_at.result.0.now last,
      );
    }

pub titles-preserved : goal.titles-preserved
titles-preserved c =
    let rest = c.titles.rest.now in
    let after = c.in-Some.after.now in
    record {
      has = passed_left rest after c.in-Some.header c.titles.invariant.has c.in-Some.ensures
          c.in_default-segment_len.ensures;
      same = λ kind bodies s. passed kind rest after c.in-Some.header bodies (c.titles.invariant.same kind bodies s)
          c.in-Some.ensures c.in_default-segment_len.ensures;
      shorter = omega (
        arith,
        title_takes rest after c.in-Some.header c.in-Some.ensures,
        c.titles.invariant.shorter,
      );
    }

pub titles-smaller : goal.titles-smaller
titles-smaller c = title_takes c.titles.rest.now c.in-Some.after.now c.in-Some.header c.in-Some.ensures

pub returns : goal.returns
returns c = record {
  first = λ kind bodies s.
      none_left kind c.titles.rest.now bodies (c.titles.invariant.same kind bodies s) (grind (arith, nat_tests));
  left = tt;
  shorter = tt;
}
