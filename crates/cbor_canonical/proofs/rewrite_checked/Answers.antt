use Rattle.std.proofs.Common.{length, refl, take}
use Rattle.cbor_canonical.proofs.CanonicalLaws.{alone, no_simple, duplicate_key, item_there, item_written}
use Rattle.cbor_canonical.proofs.RoomRuns.{too_small}
use Rattle.cbor_canonical.proofs.rewrite_checked.Goals as goal

pub returns-in-Ok-clause-written : goal.returns-in-Ok-clause-written
returns-in-Ok-clause-written c =
    item_written c.args.order c.args.depth c.args.item.now _ (take 0 c.args.out.now)
    (take c.in-Ok.end c.rewrite_item.new.out) refl c.requires.is_item c.in-Ok.ensures.written.is

pub returns-in-Err-NoSimple-clause-written : goal.returns-in-Err-NoSimple-clause-written
returns-in-Err-NoSimple-clause-written c =
    no_simple c.args.depth c.in-Err-NoSimple.left c.args.item.now c.in-Err-NoSimple.field-0 c.refused.result
    c.refused.ensures (alone c.args.depth c.args.item.now c.requires.is_item) c.in-Err-NoSimple.field-0-is
    c.in-Err-NoSimple.ensures.written

pub returns-in-Err-Duplicate-clause-written : goal.returns-in-Err-Duplicate-clause-written
returns-in-Err-Duplicate-clause-written c =
    duplicate_key c.args.depth c.in-Err-Duplicate.left c.args.item.now c.in-Err-Duplicate.field-0
    c.refused-in-Err-Duplicate.result c.refused-in-Err-Duplicate.ensures
    (alone c.args.depth c.args.item.now c.requires.is_item) c.in-Err-Duplicate.field-0-is c.requires.shallow
    c.in-Err-Duplicate.ensures.written

pub returns-in-Err-Room-clause-written : goal.returns-in-Err-Room-clause-written
returns-in-Err-Room-clause-written c = alone c.args.depth c.args.item.now c.requires.is_item

pub returns-in-Err-Room-clause-room : goal.returns-in-Err-Room-clause-room
returns-in-Err-Room-clause-room c = λ same.
    too_small (length c.args.item.now) (length c.args.out.now) (length c.args.spans.now) c.in-Err-Room.field-0
    c.in-Err-Room.field-0-is c.in-Err-Room.ensures.room

pub unreachable-requires : goal.unreachable-requires
unreachable-requires c =
    item_there c.args.depth c.args.item.now c.in-Err-Malformed.field-0
    (alone c.args.depth c.args.item.now c.requires.is_item) c.in-Err-Malformed.field-0-is
    c.in-Err-Malformed.ensures.written
