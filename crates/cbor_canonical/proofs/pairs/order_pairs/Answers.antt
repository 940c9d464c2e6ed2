use Rattle.std.proofs.Common.{◌*◌, length, subst, take}
use Rattle.std.proofs.lemmas.Result.{MatchResult-weaker}
use Rattle.cbor_canonical.specs.Places.{MovesPairs}
use Rattle.cbor_canonical.proofs.OrderRuns.{front_sorted, in_order, repeated, moved_in_order, room_stops}
use Rattle.cbor_canonical.proofs.RoomPairs.{front_many, room_kept}
use Rattle.cbor_canonical.proofs.pairs.order_pairs.Goals as goal

pub returns-in_default-clause-ordered : goal.returns-in_default-clause-ordered
returns-in_default-clause-ordered c = λ es h p.
    in_order c.args.at c.args.end c.args.out.now _ es c.requires.start c.requires.end p c.in_default.ensures

pub returns-in-Some-disorder-clause-ordered : goal.returns-in-Some-disorder-clause-ordered
returns-in-Some-disorder-clause-ordered c = λ es h p.
    let front = front_sorted c.args.done c.args.spans.now c.sort_spans.new.spans c.requires.held
    c.sort_spans.ensures.permutation in
    repeated c.args.at c.args.end c.args.out.now _ es c.requires.start c.requires.end p c.args.depth
    c.later_left-left.result c.args.bytes.now c.sort_spans.new.spans c.in-Some-disorder.index h
    c.sort_spans.ensures.permutation c.sort_spans.ensures.sorted (rw front at c.in-Some-disorder.ensures)
    (rw front at c.later_left-left.ensures)

pub returns-in-None-clause-ordered : goal.returns-in-None-clause-ordered
returns-in-None-clause-ordered c = λ es h p.
    let front = front_sorted c.args.done c.args.spans.now c.sort_spans.new.spans c.requires.held
    c.sort_spans.ensures.permutation in
    MatchResult-weaker c.move_pairs.result c.move_pairs.ensures.moved
    (λ after moves. moved_in_order c.args.at c.args.end c.args.out.now _ es c.requires.start c.requires.end p
    c.sort_spans.new.spans after c.move_pairs.new.out c.sort_spans.ensures.permutation (rw front at c.in-None.ensures)
    (subst (λ ss. MovesPairs c.args.at c.args.end after ss c.args.out.now c.move_pairs.new.out) front moves))
    (room_stops c.args.depth c.args.bytes.now es)

pub returns-in-None-clause-room : goal.returns-in-None-clause-room
returns-in-None-clause-room c =
    let front = front_sorted c.args.done c.args.spans.now c.sort_spans.new.spans c.requires.held
    c.sort_spans.ensures.permutation in
    room_kept c.args.at c.args.end (2 * length c.args.spans.now) c.args.out.now (take c.args.done c.args.spans.now)
    c.sort_spans.new.spans c.requires.start c.requires.end c.sort_spans.ensures.permutation c.move_pairs.result
    (rw (
      front,
      front_many c.args.done c.args.spans.now c.sort_spans.new.spans c.requires.held
          c.sort_spans.ensures.permutation,
    ) at c.move_pairs.ensures.room)
