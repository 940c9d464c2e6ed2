use Rattle.std.proofs.Common.{refl, arith}
use Rattle.ciborium_ll_decoder.proofs.PremiseLaws.{fresh_can_read}
use Rattle.cbor_diag.proofs.EmbeddedLaws.{all_read, item_fails, never_stops}
use Rattle.cbor_diag.proofs.embedded.show_embedded.Goals as goal

pub unreachable-requires : goal.unreachable-requires
unreachable-requires g c =
    let item = c.args.item.now in
    let old = c.from-decoder.result in
    let reads = rw c.in-Err-Read.field-0-is at c.in-Err-Read.ensures.reads in
    never_stops _ c.args.depth item old (fresh_can_read _ 64 c.new.result old item c.from-decoder.ensures refl
    c.new.ensures.ahead (omega arith) (omega arith)) c.from-decoder.ensures.mode c.requires.item
    c.show_one.new.decoder c.in-Err-Read.field-0-0 reads.reads

pub returns-in-Ok : goal.returns-in-Ok
returns-in-Ok g c =
    let item = c.args.item.now in
    let old = c.from-decoder.result in
    let shown = c.in-Ok.ensures.shown in (
      shown.text,
      record {
        title = shown.title;
        header = shown.header;
        rest = shown.rest;
        is_title = shown.is_title;
        shown = shown.shown;
        is = all_read _ c.args.depth item old (fresh_can_read _ 64 c.new.result old item c.from-decoder.ensures refl
            c.new.ensures.ahead (omega arith) (omega arith)) c.from-decoder.ensures.mode c.requires.item
            c.show_one.new.decoder _ shown.passed c.in-Ok.ensures.reads.reads;
      },
      shown.written,
    )

pub returns-in-Err-Write : goal.returns-in-Err-Write
returns-in-Err-Write g c =
    let item = c.args.item.now in
    let old = c.from-decoder.result in
    let stops = rw (c.in-Err-Write.field-0-is, c.in-Err-Write.fault-is) at c.in-Err-Write.ensures.shown in
    item_fails _ _ _ _ item old c.show_one.new.decoder _ _ c.in-Err-Write.fault
    (fresh_can_read _ 64 c.new.result old item c.from-decoder.ensures refl c.new.ensures.ahead (omega arith)
    (omega arith)) stops
