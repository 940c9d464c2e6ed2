use Rattle.std.proofs.Common.{Ok, length}
use Rattle.cbor_skip.proofs.SkippingToldLaws.{ok_told, skip_told}
use Rattle.cbor_ahead.proofs.slice.skip_slice.Goals as goal

pub returns-then-pass_item-clause-told : goal.returns-then-pass_item-clause-told
returns-then-pass_item-clause-told c due ready =
    skip_told _ c.args.depth (length c.args.buffer.now) c.args.decoder.now due ready c.pass_item.new.decoder (Ok (tt {0}))
    (c.pass_item.ensures.passed c.if-pass_item.true).0

pub returns-then-pass_item-clause-front : goal.returns-then-pass_item-clause-front
returns-then-pass_item-clause-front c due told =
    ok_told _ c.args.depth (length c.args.buffer.now) c.args.decoder.now due told c.pass_item.new.decoder (Ok (tt {0}))
    (c.pass_item.ensures.passed c.if-pass_item.true).0

pub returns-clause-front : goal.returns-clause-front
returns-clause-front c due told =
    rw (c.pass_item.ensures.none c.if-pass_item.false) at c.skip_item.ensures.front due told
