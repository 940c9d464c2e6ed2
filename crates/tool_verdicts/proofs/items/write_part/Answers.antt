use Rattle.std.proofs.Common.{refl}
use Rattle.tool_verdicts.specs.Lines.{writes_few, writes_rest}
use Rattle.tool_verdicts.proofs.items.write_part.Goals as goal

pub returns-in-Err : goal.returns-in-Err
returns-in-Err g c = writes_few c.in-Err.error c.in-Err.ensures.skipped refl refl

pub returns-in-Some : goal.returns-in-Some
returns-in-Some g c =
    writes_rest c.skip_items.new.decoder
    (record { reads = c.in_default.ensures.skipped; none = c.in_default.ensures.none })
    (rw c.in-Some.is (rw c.in-Some.is at c.write_items.ensures.reads, rw c.in-Some.is at c.write_items.ensures.writes))

pub returns-in-None : goal.returns-in-None
returns-in-None g c =
    writes_rest c.skip_items.new.decoder
    (record { reads = c.in_default.ensures.skipped; none = c.in_default.ensures.none })
    (rw (c.in-None.is, c.if-one.true) c.write_only_item.ensures)

pub returns-in-None-2 : goal.returns-in-None-2
returns-in-None-2 g c =
    writes_rest c.skip_items.new.decoder
    (record { reads = c.in_default.ensures.skipped; none = c.in_default.ensures.none })
    (rw (c.in-None.is, c.if-one.false) (c.write_items-in-None-2.ensures.reads, c.write_items-in-None-2.ensures.writes))
