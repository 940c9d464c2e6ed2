use Rattle.std.proofs.Common.{◌≡◌, ◌-◌, suc, true, false, Err, sym, subst, refl, arith}
use Rattle.ciborium_ll.proofs.DecodingLaws.{exit_is, MovesOn-none, MovesOn-then, nearer}
use Rattle.ciborium_ll_decoder.proofs.NestLaws.{title_some}
use Rattle.cbor_skip.specs.declared.SkipError.TheVariants as s
use Rattle.cbor_skip.specs.Remaining.{closes}
use Rattle.cbor_skip.specs.Skipping.{SkipsWithin}
use Rattle.cbor_skip.proofs.ItemSteps.{none_read, one_more, stops_here, pull_stops, stops_within, ended, closed}
use Rattle.cbor_diag.specs.Showing.{ReadsFrom}
use Rattle.cbor_diag.proofs.ItemLaws.{nest_deep, nest_of}
use Rattle.ciborium_ll.specs.Decoding.{DecoderPullAnswer}
use Rattle.cbor_json.specs.ItemStops.{deep, no_json}
use Rattle.cbor_json.specs.Roles.{has_json}
use Rattle.cbor_json.proofs.ReadingLaws.{break_said, reading_stops, reading_unread, said_failed, said_wrote}
use Rattle.cbor_json.proofs.ItemReadLaws.{ItemRead, nest_read, nest_stops}
use Rattle.cbor_json.proofs.ItemWriteLaws.{break_written, item_stops, items_begin, items_closed, items_done, items_more}
use Rattle.cbor_json.proofs.ItemWriteLaws.{lead_stops, nest_written, opening_stops, title_stops, within_stops}
use Rattle.cbor_json.proofs.nests.+items.Goals as goal

-- ---- an item

pub write_item-returns-then-depth-eq0-clause-reads : goal.write_item-returns-then-depth-eq0-clause-reads
write_item-returns-then-depth-eq0-clause-reads g t c = λ before outer at pulled steady.
    nest_deep g.R.Read outer c.args.depth before c.args.decoder.now c.args.header c.args.place
    c.if-depth-eq0.true at (nest_of c.args.header c.in-Tag.is) pulled

pub write_item-returns-in_err-write_within-in-Tag-clause-reads :
    goal.write_item-returns-in_err-write_within-in-Tag-clause-reads
write_item-returns-in_err-write_within-in-Tag-clause-reads g t c = λ before outer at pulled steady.
    let level : suc (c.args.depth - 1) ≡ c.args.depth = omega (arith, c.if-depth-eq0.false) in
    rw (exit_is _ _ c.from_residual-in_err-write_within-in-Tag.ensures.1) (nest_stops g.R.Read outer c.args.depth before
    c.args.decoder.now steady (c.args.depth - 1) c.args.header c.write_within.new.decoder _ level pulled
    c.in_err-write_within-in-Tag.ensures.reads)

pub write_item-returns-in_ok-write_within-in-Tag-clause-reads :
    goal.write_item-returns-in_ok-write_within-in-Tag-clause-reads
write_item-returns-in_ok-write_within-in-Tag-clause-reads g t c = λ before outer at pulled steady.
    let level : suc (c.args.depth - 1) ≡ c.args.depth = omega (arith, c.if-depth-eq0.false) in
    nest_read g.R.Read outer c.args.depth before c.args.decoder.now steady (c.args.depth - 1) c.args.header
    c.write_within.new.decoder c.said-in-Tag.result level pulled c.in_ok-write_within-in-Tag.ensures.reads
    c.said-in-Tag.ensures.writing

pub write_item-returns-in_err-said-in-Tag-clause-reads : goal.write_item-returns-in_err-said-in-Tag-clause-reads
write_item-returns-in_err-said-in-Tag-clause-reads g t c = λ before outer at pulled steady.
    rw (exit_is _ _ c.from_residual.ensures.1) (reading_unread
    (ItemRead g.R.Read outer c.args.depth before c.args.decoder.now) _ c.in_err-said-in-Tag.ensures.writing)

-- ---- the items within a nest

pub write_within-items-init : goal.write_within-items-init
write_within-items-init g t c = record {
  so_far = none_read g.R.Read c.behind-remaining.ensures;
  items = items_begin g.R.Read g.W.Write _ c.args.header _ _ c.behind-remaining.ensures;
  moves_on = MovesOn-none g.R.Read c.args.decoder.now;
}

pub write_within-returns-clause-reads : goal.write_within-returns-clause-reads
write_within-returns-clause-reads g t c = ended g.R.Read c.items.invariant.so_far (sym c.items-test.ensures)

pub write_within-returns-in_err-next-clause-reads : goal.write_within-returns-in_err-next-clause-reads
write_within-returns-in_err-next-clause-reads g t c =
    rw (exit_is _ _ c.from_residual.ensures.1) (stops_within g.R.Read c.items.invariant.so_far
    (sym c.items-test.ensures) refl (pull_stops g.R.Read c.offset-place.ensures.same c.in_err-next.ensures.header))

pub write_within-returns-in-Break-clause-reads : goal.write_within-returns-in-Break-clause-reads
write_within-returns-in-Break-clause-reads g t c =
    let pulled = rw (c.offset-place.ensures.same, c.in-Break.is) at c.in_ok-next.ensures.header in
    let so_far = c.items.invariant.so_far in
    break_said (closes c.items.remaining)
    (λ answer. SkipsWithin g.R.Read c.args.header c.args.depth 64 c.args.decoder.now answer c.pull.new.self)
    c.at_break.result c.offset-place.result c.at_break.ensures
    (λ may. closed g.R.Read so_far may pulled (rw c.offset-place.ensures.same at c.in_ok-next.ensures.moves_on.steady))
    (λ may. stops_within g.R.Read so_far (sym c.items-test.ensures) refl
    (stops_here g.R.Read (record { not_closable = may; place = c.offset-place.ensures.value; pulled = pulled })))

pub write_within-returns-in-Break-clause-moves_on : goal.write_within-returns-in-Break-clause-moves_on
write_within-returns-in-Break-clause-moves_on g t c =
    MovesOn-then g.R.Read _ _ _ c.items.invariant.moves_on
    (rw c.offset-place.ensures.same at c.in_ok-next.ensures.moves_on)

pub write_within-returns-in_err-write_item-clause-reads : goal.write_within-returns-in_err-write_item-clause-reads
write_within-returns-in_err-write_item-clause-reads g t c =
    let new = c.write_item.new.decoder in
    let outer = closes c.items.remaining in
    rw (exit_is _ _ c.from_residual-in_err-write_item.ensures.1) (reading_stops
    (λ answer. ReadsFrom g.R.Read outer c.args.depth 64 c.items.decoder answer new)
    (λ answer. SkipsWithin g.R.Read c.args.header c.args.depth 64 c.args.decoder.now answer new) _
    (λ stop stops. stops_within g.R.Read c.items.invariant.so_far (sym c.items-test.ensures) refl stops)
    (c.in_err-write_item.ensures.reads c.items.decoder outer c.offset-place.ensures.value
    (rw c.offset-place.ensures.same at c.in_ok-next.ensures.header)
    (rw c.offset-place.ensures.same at c.in_ok-next.ensures.moves_on.steady)))

pub write_within-items-preserved : goal.write_within-items-preserved
write_within-items-preserved g t c =
    let pulled = rw c.offset-place.ensures.same at c.in_ok-next.ensures.header in
    let first = rw c.offset-place.ensures.same at c.in_ok-next.ensures.moves_on in
    let item = c.in_ok-write_item.ensures.reads c.items.decoder false c.offset-place.ensures.value pulled first.steady in
    let led = said_wrote g.W.Write c.before-in-items.result c.said.ensures.same c.in_ok-said.was
    c.before-in-items.ensures in
    record {
      so_far = one_more g.R.Read c.items.invariant.so_far (c.after_item-remaining.ensures c.args.header) item;
      items = items_more c.items.invariant.items c.is_value-is_value.ensures pulled led c.within-inner.ensures
          c.offset-place.ensures.value (c.after_item-remaining.ensures c.args.header) first.steady
          c.in_ok-write_item.ensures.written;
      moves_on = MovesOn-then g.R.Read _ _ _ c.items.invariant.moves_on
          (MovesOn-then g.R.Read _ _ _ first c.write_item.ensures.moves_on);
    }

pub write_within-returns-in_err-next-clause-moves_on : goal.write_within-returns-in_err-next-clause-moves_on
write_within-returns-in_err-next-clause-moves_on g t c =
    MovesOn-then g.R.Read _ _ _ c.items.invariant.moves_on
    (rw c.offset-place.ensures.same at c.in_err-next.ensures.moves_on)

pub write_within-returns-in_err-said-clause-moves_on : goal.write_within-returns-in_err-said-clause-moves_on
write_within-returns-in_err-said-clause-moves_on g t c =
    MovesOn-then g.R.Read _ _ _ c.items.invariant.moves_on
    (rw c.offset-place.ensures.same at c.in_ok-next.ensures.moves_on)

pub write_within-returns-in_err-write_item-clause-moves_on :
    goal.write_within-returns-in_err-write_item-clause-moves_on
write_within-returns-in_err-write_item-clause-moves_on g t c =
    MovesOn-then g.R.Read _ _ _ c.items.invariant.moves_on
    (MovesOn-then g.R.Read _ _ _ (rw c.offset-place.ensures.same at c.in_ok-next.ensures.moves_on)
    c.write_item.ensures.moves_on)

pub write_within-returns-in_err-said-clause-reads : goal.write_within-returns-in_err-said-clause-reads
write_within-returns-in_err-said-clause-reads g t c =
    rw (exit_is _ _ c.from_residual-in_err-said.ensures.1) (reading_unread (λ answer. SkipsWithin g.R.Read
    c.args.header c.args.depth 64 c.args.decoder.now answer c.pull.new.self) _ c.in_err-said.ensures.writing)

-- ---- the written texts

pub write_item-returns-then-depth-eq0-clause-written : goal.write_item-returns-then-depth-eq0-clause-written
write_item-returns-then-depth-eq0-clause-written g t c =
    let has : has_json c.args.role c.args.header ≡ true = sym c.if-not-has_json.ensures in
    deep has (nest_of c.args.header c.in-Tag.is)

pub write_item-returns-in_err-said-in-Tag-clause-written : goal.write_item-returns-in_err-said-in-Tag-clause-written
write_item-returns-in_err-said-in-Tag-clause-written g t c =
    rw (exit_is _ _ c.from_residual.ensures.1) (opening_stops g.R.Read g.W.Write (sym c.if-not-has_json.ensures)
    (said_failed g.W.Write c.open.result c.said.ensures.same c.in_err-said-in-Tag.was c.open.ensures))

pub write_item-returns-in_err-write_within-in-Tag-clause-written :
    goal.write_item-returns-in_err-write_within-in-Tag-clause-written
write_item-returns-in_err-write_within-in-Tag-clause-written g t c =
    rw (exit_is _ _ c.from_residual-in_err-write_within-in-Tag.ensures.1) (within_stops c.args.place (sym c.if-not-has_json.ensures)
    (said_wrote g.W.Write c.open.result c.said.ensures.same c.in_ok-said-in-Tag.was c.open.ensures)
    c.in_err-write_within-in-Tag.ensures.written)

pub write_item-returns-in_ok-write_within-in-Tag-clause-written :
    goal.write_item-returns-in_ok-write_within-in-Tag-clause-written
write_item-returns-in_ok-write_within-in-Tag-clause-written g t c =
    nest_written c.args.place (sym c.if-not-has_json.ensures)
    (said_wrote g.W.Write c.open.result c.said.ensures.same c.in_ok-said-in-Tag.was c.open.ensures) _ c.close.result
    c.said-in-Tag.result c.in_ok-write_within-in-Tag.ensures.written c.said-in-Tag.ensures.same c.close.ensures

pub write_within-returns-in_err-next-clause-written : goal.write_within-returns-in_err-next-clause-written
write_within-returns-in_err-next-clause-written g t c =
    let error = c.in_err-next.field-0.0 in
    rw (exit_is _ _ c.from_residual.ensures.1) (title_stops c.items.invariant.items (s.Read error) _
    (subst (λ x. DecoderPullAnswer g.R.Read x (Err error) c.pull.new.self) c.offset-place.ensures.same
    c.in_err-next.ensures.header))

pub write_within-returns-in-Break-clause-written : goal.write_within-returns-in-Break-clause-written
write_within-returns-in-Break-clause-written g t c =
    let pulled = rw (c.offset-place.ensures.same, c.in-Break.is) at c.in_ok-next.ensures.header in
    break_written c.items.invariant.items (closes c.items.remaining) _ c.at_break.result c.offset-place.result pulled
    c.at_break.ensures (λ may. items_closed c.items.invariant.items _ may pulled
    (rw c.offset-place.ensures.same at c.in_ok-next.ensures.moves_on.steady))

pub write_within-returns-in_err-said-clause-written : goal.write_within-returns-in_err-said-clause-written
write_within-returns-in_err-said-clause-written g t c =
    rw (exit_is _ _ c.from_residual-in_err-said.ensures.1) (lead_stops c.items.invariant.items c.is_value-is_value.ensures
    (rw c.offset-place.ensures.same at c.in_ok-next.ensures.header) _ (said_failed g.W.Write c.before-in-items.result
    c.said.ensures.same c.in_err-said.was c.before-in-items.ensures))

pub write_within-returns-in_err-write_item-clause-written : goal.write_within-returns-in_err-write_item-clause-written
write_within-returns-in_err-write_item-clause-written g t c =
    rw (exit_is _ _ c.from_residual-in_err-write_item.ensures.1) (item_stops c.items.invariant.items c.is_value-is_value.ensures
    (rw c.offset-place.ensures.same at c.in_ok-next.ensures.header) (said_wrote g.W.Write c.before-in-items.result
    c.said.ensures.same c.in_ok-said.was c.before-in-items.ensures) c.within-inner.ensures c.offset-place.ensures.value
    c.in_err-write_item.ensures.written)

pub write_within-returns-clause-written : goal.write_within-returns-clause-written
write_within-returns-clause-written g t c = items_done c.items.invariant.items (sym c.items-test.ensures)

pub write_within-items-smaller : goal.write_within-items-smaller
write_within-items-smaller g t c =
    let pulled = rw c.offset-place.ensures.same at c.in_ok-next.ensures.header in
    let some = title_some pulled.title c.in_ok-next.next pulled.is_title in
    nearer c.items.decoder c.pull.new.self c.write_item.new.decoder (omega (arith, pulled.offset, some))
    c.write_item.ensures.moves_on.rises

pub write_item-returns-then-not-has_json-clause-written : goal.write_item-returns-then-not-has_json-clause-written
write_item-returns-then-not-has_json-clause-written g t c = no_json (sym c.if-not-has_json.ensures)

pub write_item-returns-in_default-clause-reads : goal.write_item-returns-in_default-clause-reads
write_item-returns-in_default-clause-reads g t c = λ before outer at pulled steady.
    c.write_plain.ensures.reads before outer c.args.depth pulled steady

pub write_item-returns-in_default-clause-written : goal.write_item-returns-in_default-clause-written
write_item-returns-in_default-clause-written g t c = c.write_plain.ensures.written c.args.place

pub write_item-returns-in_default-clause-moves_on : goal.write_item-returns-in_default-clause-moves_on
write_item-returns-in_default-clause-moves_on g t c = c.write_plain.ensures.moves_on
