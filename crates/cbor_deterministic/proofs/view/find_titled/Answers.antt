use Rattle.std.proofs.Common.{arith, ◌++◌}
use Rattle.ciborium_ll_grammar.specs.Title.{shortest_title}
use Rattle.cbor_deterministic.proofs.TitleRuns.{told, untold}
use Rattle.cbor_deterministic.proofs.ViewLaws.{key_there, value_there, pairs_left, first_here, later_there, later_back}
use Rattle.cbor_deterministic.proofs.ViewLaws.{none_left}
use Rattle.cbor_deterministic.proofs.view.find_titled.Goals as goal

pub unreachable-requires : goal.unreachable-requires
unreachable-requires c =
    key_there c.args.depth c.pairs.due c.pairs.rest.now c.in_default.field-0.why c.in_default.field-0.left
    c.pairs.invariant.are c.pairs-test.true c.in_default.ensures.fails

pub unreachable-requires-in_default-next_item : goal.unreachable-requires-in_default-next_item
unreachable-requires-in_default-next_item c =
    value_there c.args.depth c.pairs.due c.pairs.rest.now c.in-Ok.other.bytes.now c.in-Ok.after.now
    c.in_default-next_item.field-0.why c.in_default-next_item.field-0.left c.pairs.invariant.are c.pairs-test.true
    c.in-Ok.ensures.item c.in-Ok.ensures.whole c.in_default-next_item.ensures.fails

pub returns-clause-found : goal.returns-clause-found
returns-clause-found c =
    λ value q. none_left c.args.depth c.pairs.due c.pairs.rest.now (shortest_title c.args.title ++ c.args.body.now)
    value c.pairs.invariant.are
    (omega arith) (c.pairs.invariant.back value q)

pub pairs-preserved : goal.pairs-preserved
pairs-preserved c =
    let differ = untold c.is_titled.result c.if-is_titled.false c.is_titled.ensures in
    record {
      are = pairs_left c.args.depth c.pairs.due c.pairs.rest.now c.in-Ok.other.bytes.now
          c.in-Ok-next_item.value.bytes.now
          c.in-Ok.after.now c.in-Ok-next_item.last.now c.pairs.invariant.are
          c.pairs-test.true c.in-Ok.ensures.item c.in-Ok.ensures.whole c.in-Ok-next_item.ensures.item
          c.in-Ok-next_item.ensures.whole;
      there = λ value q. c.pairs.invariant.there value
          (later_there c.args.depth c.pairs.rest.now c.in-Ok.other.bytes.now c.in-Ok-next_item.value.bytes.now
          c.in-Ok.after.now c.in-Ok-next_item.last.now (shortest_title c.args.title ++ c.args.body.now) value
          c.in-Ok.ensures.item c.in-Ok.ensures.whole c.in-Ok-next_item.ensures.item
          c.in-Ok-next_item.ensures.whole q);
      back = λ value q. later_back c.args.depth c.pairs.rest.now
          c.in-Ok.other.bytes.now c.in-Ok-next_item.value.bytes.now
          c.in-Ok.after.now c.in-Ok-next_item.last.now (shortest_title c.args.title ++ c.args.body.now) value
          c.in-Ok.ensures.item c.in-Ok.ensures.whole c.in-Ok-next_item.ensures.item
          c.in-Ok-next_item.ensures.whole differ (c.pairs.invariant.back value q);
    }

pub returns-then-is_titled-clause-found : goal.returns-then-is_titled-clause-found
returns-then-is_titled-clause-found c =
    c.pairs.invariant.there c.in-Ok-next_item.value.bytes.now
    (first_here c.args.depth c.pairs.rest.now c.in-Ok.other.bytes.now c.in-Ok-next_item.value.bytes.now
    c.in-Ok.after.now c.in-Ok-next_item.last.now (shortest_title c.args.title ++ c.args.body.now) c.in-Ok.ensures.item
    c.in-Ok.ensures.whole c.in-Ok-next_item.ensures.item
    c.in-Ok-next_item.ensures.whole
    (told c.is_titled.result c.if-is_titled.true c.is_titled.ensures))
