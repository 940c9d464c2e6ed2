use Rattle.ciborium_ll.specs.Strings.{Bytes}
use Rattle.std.proofs.Common.{◌≡◌, ◌-◌, suc, length, Some, Bool, false, Err, sym, subst, refl, arith}
use Rattle.ciborium_ll.proofs.DecodingLaws.{exit_is, MovesOn-none, MovesOn-then, nearer}
use Rattle.ciborium_ll_decoder.proofs.NestLaws.{title_some}
use Rattle.cbor_skip.specs.declared.SkipError.TheVariants as s
use Rattle.cbor_skip.specs.Remaining.{closes}
use Rattle.cbor_skip.specs.Skipping.{SkipsWithin}
use Rattle.cbor_skip.proofs.ItemSteps.{none_read, one_more, stops_here, pull_stops, stops_within, ended, closed}
use Rattle.cbor_diag.specs.Showing.{ReadsFrom}
use Rattle.cbor_diag.proofs.ShowLaws.{break_said, reading_stops, reading_unread}
use Rattle.cbor_diag.proofs.ItemLaws.{ItemRead, nest_deep, nest_of, nest_read, nest_stops, string_read}
use Rattle.ciborium_ll.specs.Decoding.{DecoderPullAnswer}
use Rattle.cbor_diag.specs.ItemStops.{deep}
use Rattle.cbor_diag.proofs.ItemTextLaws.{break_shown, item_stops, items_begin, items_closed, items_done, items_more}
use Rattle.cbor_diag.proofs.ItemTextLaws.{lead_stops, nest_shown, opening_stops, plain_shown, said_failed, said_wrote}
use Rattle.cbor_diag.proofs.ItemTextLaws.{title_stops, within_stops}
use Rattle.cbor_diag.proofs.PlaceLaws.{within_place}
use Rattle.cbor_diag.proofs.nests.+items.Goals as goal

-- ---- an item

pub show_item-returns-then-depth-eq0-clause-reads : goal.show_item-returns-then-depth-eq0-clause-reads
show_item-returns-then-depth-eq0-clause-reads g t c = λ before outer at pulled steady.
    nest_deep g.R.Read outer c.args.depth before c.args.decoder.now c.args.marked.header c.args.place
    c.if-depth-eq0.true at (nest_of c.args.marked.header c.in-Tag.is) pulled

pub show_item-returns-in_err-is_empty-in-Tag-clause-reads : goal.show_item-returns-in_err-is_empty-in-Tag-clause-reads
show_item-returns-in_err-is_empty-in-Tag-clause-reads g t c = λ before outer at pulled steady.
    let level : suc (c.args.depth - 1) ≡ c.args.depth = omega (arith, c.if-depth-eq0.false) in
    rw (exit_is _ _ c.from_residual-in_err-is_empty-in-Tag.ensures.1) (nest_stops g.R.Read outer c.args.depth before
    c.args.decoder.now steady (c.args.depth - 1) c.args.marked.header c.show_within.new.decoder _ level pulled
    c.in_err-is_empty-in-Tag.ensures.reads)

pub show_item-returns-in_ok-is_empty-in-Tag-clause-reads : goal.show_item-returns-in_ok-is_empty-in-Tag-clause-reads
show_item-returns-in_ok-is_empty-in-Tag-clause-reads g t c = λ before outer at pulled steady.
    let level : suc (c.args.depth - 1) ≡ c.args.depth = omega (arith, c.if-depth-eq0.false) in
    nest_read g.R.Read outer c.args.depth before c.args.decoder.now steady (c.args.depth - 1) c.args.marked.header
    c.show_within.new.decoder c.said-in-Tag.result level pulled c.in_ok-is_empty-in-Tag.ensures.reads
    c.said-in-Tag.ensures.writing

pub show_item-returns-in_err-said-in-Tag-clause-moves_on : goal.show_item-returns-in_err-said-in-Tag-clause-moves_on
show_item-returns-in_err-said-in-Tag-clause-moves_on g t c = MovesOn-none g.R.Read c.args.decoder.now

pub show_item-returns-in_err-is_empty-in-Tag-clause-moves_on :
    goal.show_item-returns-in_err-is_empty-in-Tag-clause-moves_on
show_item-returns-in_err-is_empty-in-Tag-clause-moves_on g t c = c.show_within.ensures.moves_on

pub show_item-returns-in_err-said-in-Tag-clause-reads : goal.show_item-returns-in_err-said-in-Tag-clause-reads
show_item-returns-in_err-said-in-Tag-clause-reads g t c = λ before outer at pulled steady.
    rw (exit_is _ _ c.from_residual.ensures.1) (reading_unread (Unit {0})
    (ItemRead g.R.Read outer c.args.depth before c.args.decoder.now) _ c.in_err-said-in-Tag.ensures.writing)

pub show_item-returns-in-Some-clause-reads : goal.show_item-returns-in-Some-clause-reads
show_item-returns-in-Some-clause-reads g t c = λ before outer at pulled steady.
    string_read g.R.Read outer c.args.depth before c.args.decoder.now steady Bytes (Some c.in-Some.len)
    c.show_held.new.decoder c.show_held.result (rw c.in-Some.ensures.0 at pulled) c.show_held.ensures.reads

-- ---- the items within a nest

pub show_within-items-init : goal.show_within-items-init
show_within-items-init g t c = record {
  so_far = none_read g.R.Read c.behind-remaining.ensures;
  items = items_begin g.R.Read g.W.Write _ c.args.nest.now.header c.args.nest.now.mark _ _ c.behind-remaining.ensures;
  moves_on = MovesOn-none g.R.Read c.args.decoder.now;
}

pub show_within-returns-clause-reads : goal.show_within-returns-clause-reads
show_within-returns-clause-reads g t c = ended g.R.Read c.items.invariant.so_far (sym c.items-test.ensures)

pub show_within-returns-in_err-next-clause-reads : goal.show_within-returns-in_err-next-clause-reads
show_within-returns-in_err-next-clause-reads g t c =
    rw (exit_is _ _ c.from_residual.ensures.1) (stops_within g.R.Read c.items.invariant.so_far
    (sym c.items-test.ensures) refl (pull_stops g.R.Read c.offset-place.ensures.same c.in_err-next.ensures.pulls))

pub show_within-returns-in-Break-clause-reads : goal.show_within-returns-in-Break-clause-reads
show_within-returns-in-Break-clause-reads g t c =
    let pulled = rw (c.offset-place.ensures.same, c.in-Break.is) at c.in_ok-next.ensures.pulls.pulled in
    let so_far = c.items.invariant.so_far in
    break_said (closes c.items.remaining)
    (λ answer. SkipsWithin g.R.Read c.args.nest.now.header c.args.depth 64 c.args.decoder.now answer c.pull_marked.new.decoder)
    c.at_break.result c.items.is_first c.offset-place.result c.at_break.ensures
    (λ may. closed g.R.Read so_far may pulled (rw c.offset-place.ensures.same at c.in_ok-next.ensures.moves_on.steady))
    (λ may. stops_within g.R.Read so_far (sym c.items-test.ensures) refl
    (stops_here g.R.Read (record { not_closable = may; place = c.offset-place.ensures.value; pulled = pulled })))

pub show_within-returns-in-Break-clause-moves_on : goal.show_within-returns-in-Break-clause-moves_on
show_within-returns-in-Break-clause-moves_on g t c =
    MovesOn-then g.R.Read _ _ _ c.items.invariant.moves_on
    (rw c.offset-place.ensures.same at c.in_ok-next.ensures.moves_on)

pub show_within-returns-in_err-show_item-clause-reads : goal.show_within-returns-in_err-show_item-clause-reads
show_within-returns-in_err-show_item-clause-reads g t c =
    let new = c.show_item.new.decoder in
    let outer = closes c.items.remaining in
    rw (exit_is _ _ c.from_residual-in_err-show_item.ensures.1) (reading_stops (Unit {0}) Bool
    (λ answer. ReadsFrom g.R.Read outer c.args.depth 64 c.items.decoder answer new)
    (λ answer. SkipsWithin g.R.Read c.args.nest.now.header c.args.depth 64 c.args.decoder.now answer new) _
    (λ stop stops. stops_within g.R.Read c.items.invariant.so_far (sym c.items-test.ensures) refl stops)
    (c.in_err-show_item.ensures.reads c.items.decoder outer c.offset-place.ensures.value
    (rw c.offset-place.ensures.same at c.in_ok-next.ensures.pulls.pulled)
    (rw c.offset-place.ensures.same at c.in_ok-next.ensures.moves_on.steady)))

pub show_within-items-preserved : goal.show_within-items-preserved
show_within-items-preserved g t c =
    let marked = rw c.offset-place.ensures.same at c.in_ok-next.ensures.pulls in
    let pulled = marked.pulled in
    let first = rw c.offset-place.ensures.same at c.in_ok-next.ensures.moves_on in
    let item = c.in_ok-show_item.ensures.reads c.items.decoder false c.offset-place.ensures.value pulled first.steady in
    let led = said_wrote g.W.Write c.before-in-items.result c.said.ensures.same c.in_ok-said.was
    c.before-in-items.ensures in
    record {
      so_far = one_more g.R.Read c.items.invariant.so_far (c.after_item-remaining.ensures c.args.nest.now.header) item;
      items = items_more c.items.invariant.items c.is_value.ensures pulled led
          (c.after_item-remaining.ensures c.args.nest.now.header) first.steady (rw (marked.mark, c.items.auto.memory) at c.in_ok-show_item.ensures.shown);
      moves_on = MovesOn-then g.R.Read _ _ _ c.items.invariant.moves_on
          (MovesOn-then g.R.Read _ _ _ first c.show_item.ensures.moves_on);
    }

pub show_within-returns-in_err-next-clause-moves_on : goal.show_within-returns-in_err-next-clause-moves_on
show_within-returns-in_err-next-clause-moves_on g t c =
    MovesOn-then g.R.Read _ _ _ c.items.invariant.moves_on
    (rw c.offset-place.ensures.same at c.in_err-next.ensures.moves_on)

pub show_within-returns-in_err-said-clause-moves_on : goal.show_within-returns-in_err-said-clause-moves_on
show_within-returns-in_err-said-clause-moves_on g t c =
    MovesOn-then g.R.Read _ _ _ c.items.invariant.moves_on
    (rw c.offset-place.ensures.same at c.in_ok-next.ensures.moves_on)

pub show_within-returns-in_err-show_item-clause-moves_on : goal.show_within-returns-in_err-show_item-clause-moves_on
show_within-returns-in_err-show_item-clause-moves_on g t c =
    MovesOn-then g.R.Read _ _ _ c.items.invariant.moves_on
    (MovesOn-then g.R.Read _ _ _ (rw c.offset-place.ensures.same at c.in_ok-next.ensures.moves_on)
    c.show_item.ensures.moves_on)

pub show_within-returns-in_err-said-clause-reads : goal.show_within-returns-in_err-said-clause-reads
show_within-returns-in_err-said-clause-reads g t c =
    rw (exit_is _ _ c.from_residual-in_err-said.ensures.1) (reading_unread Bool (λ answer. SkipsWithin g.R.Read
    c.args.nest.now.header c.args.depth 64 c.args.decoder.now answer c.pull_marked.new.decoder) _ c.in_err-said.ensures.writing)

pub show_within-returns-clause-moves_on : goal.show_within-returns-clause-moves_on
show_within-returns-clause-moves_on g t c = c.items.invariant.moves_on

pub show_item-returns-in_default-header-clause-reads : goal.show_item-returns-in_default-header-clause-reads
show_item-returns-in_default-header-clause-reads g t c = λ before outer at pulled steady.
    c.show_plain.ensures.reads before outer c.args.depth pulled steady

pub show_item-returns-in_default-header-clause-moves_on : goal.show_item-returns-in_default-header-clause-moves_on
show_item-returns-in_default-header-clause-moves_on g t c = c.show_plain.ensures.moves_on

-- ---- the written texts

pub show_item-returns-then-depth-eq0-clause-shown : goal.show_item-returns-then-depth-eq0-clause-shown
show_item-returns-then-depth-eq0-clause-shown g t c = deep

pub show_item-returns-in_err-said-in-Tag-clause-shown : goal.show_item-returns-in_err-said-in-Tag-clause-shown
show_item-returns-in_err-said-in-Tag-clause-shown g t c =
    rw (exit_is _ _ c.from_residual.ensures.1) (opening_stops g.R.Read g.W.Write _ (said_failed g.W.Write c.open.result
    c.said.ensures.same c.in_err-said-in-Tag.was c.open.ensures))

pub show_item-returns-in_err-is_empty-in-Tag-clause-shown : goal.show_item-returns-in_err-is_empty-in-Tag-clause-shown
show_item-returns-in_err-is_empty-in-Tag-clause-shown g t c =
    rw (exit_is _ _ c.from_residual-in_err-is_empty-in-Tag.ensures.1) (within_stops _ _ (within_place c.args.marked.header c.args.line.now
    c.within-inner.result g.B.Bodies.strings c.args.depth (length c.args.memory.now) c.within-inner.ensures) (said_wrote g.W.Write c.open.result c.said.ensures.same c.in_ok-said-in-Tag.was
    c.open.ensures) c.in_err-is_empty-in-Tag.ensures.shown)

pub show_item-returns-in_ok-is_empty-in-Tag-clause-shown : goal.show_item-returns-in_ok-is_empty-in-Tag-clause-shown
show_item-returns-in_ok-is_empty-in-Tag-clause-shown g t c =
    nest_shown _ _ (within_place c.args.marked.header c.args.line.now c.within-inner.result g.B.Bodies.strings c.args.depth
    (length c.args.memory.now) c.within-inner.ensures) (said_wrote g.W.Write c.open.result c.said.ensures.same c.in_ok-said-in-Tag.was c.open.ensures) _ c.close.result
    c.said-in-Tag.result c.in_ok-is_empty-in-Tag.ensures.shown c.said-in-Tag.ensures.same c.close.ensures

pub show_item-returns-in_default-header-clause-shown : goal.show_item-returns-in_default-header-clause-shown
show_item-returns-in_default-header-clause-shown g t c =
    plain_shown g.R.Read g.W.Write _ _ c.args.marked.header c.args.marked.mark _ _ c.show_plain.result c.in_default.ensures
    c.show_plain.ensures.text (c.show_plain.ensures.shown _ refl c.in_default.ensures)

pub show_within-returns-in_err-next-clause-shown : goal.show_within-returns-in_err-next-clause-shown
show_within-returns-in_err-next-clause-shown g t c =
    let error = c.in_err-next.field-0.0 in
    rw (exit_is _ _ c.from_residual.ensures.1) (title_stops c.items.invariant.items (s.Read error) _
    (subst (λ x. DecoderPullAnswer g.R.Read x (Err error) c.pull_marked.new.decoder) c.offset-place.ensures.same
    c.in_err-next.ensures.pulls))

pub show_within-returns-in-Break-clause-shown : goal.show_within-returns-in-Break-clause-shown
show_within-returns-in-Break-clause-shown g t c =
    let pulled = rw (c.offset-place.ensures.same, c.in-Break.is) at c.in_ok-next.ensures.pulls.pulled in
    break_shown c.items.invariant.items _ (closes c.items.remaining) _ c.at_break.result c.offset-place.result pulled
    c.at_break.ensures (λ may. items_closed c.items.invariant.items _ may pulled
    (rw c.offset-place.ensures.same at c.in_ok-next.ensures.moves_on.steady))

pub show_within-returns-in_err-said-clause-shown : goal.show_within-returns-in_err-said-clause-shown
show_within-returns-in_err-said-clause-shown g t c =
    rw (exit_is _ _ c.from_residual-in_err-said.ensures.1) (lead_stops c.items.invariant.items c.is_value.ensures
    (rw c.offset-place.ensures.same at c.in_ok-next.ensures.pulls.pulled) _ (said_failed g.W.Write c.before-in-items.result
    c.said.ensures.same c.in_err-said.was c.before-in-items.ensures))

pub show_within-returns-in_err-show_item-clause-shown : goal.show_within-returns-in_err-show_item-clause-shown
show_within-returns-in_err-show_item-clause-shown g t c =
    let marked = rw c.offset-place.ensures.same at c.in_ok-next.ensures.pulls in
    rw (exit_is _ _ c.from_residual-in_err-show_item.ensures.1) (item_stops c.items.invariant.items c.is_value.ensures
    marked.pulled (said_wrote g.W.Write c.before-in-items.result c.said.ensures.same c.in_ok-said.was
    c.before-in-items.ensures) (rw (marked.mark, c.items.auto.memory) at c.in_err-show_item.ensures.shown))

pub show_within-returns-clause-shown : goal.show_within-returns-clause-shown
show_within-returns-clause-shown g t c = items_done c.items.invariant.items (sym c.items-test.ensures)

pub show_within-items-smaller : goal.show_within-items-smaller
show_within-items-smaller g t c =
    let pulled = rw c.offset-place.ensures.same at c.in_ok-next.ensures.pulls.pulled in
    let some = title_some pulled.title c.in_ok-next.next.header pulled.is_title in
    nearer c.items.decoder c.pull_marked.new.decoder c.show_item.new.decoder (omega (arith, pulled.offset, some))
    c.show_item.ensures.moves_on.rises

-- ---- the requirements of the calls

pub show_item-within-inner-requires : goal.show_item-within-inner-requires
show_item-within-inner-requires g t c = omega (arith, c.requires.shallow, c.if-depth-eq0.false)

pub show_within-behind-remaining-requires : goal.show_within-behind-remaining-requires
show_within-behind-remaining-requires g t c = c.requires.nest

pub show_within-after_item-remaining-requires : goal.show_within-after_item-remaining-requires
show_within-after_item-remaining-requires g t c = sym c.items-test.ensures

pub show_item-returns-in_ok-is_empty-in-Tag-clause-moves_on :
    goal.show_item-returns-in_ok-is_empty-in-Tag-clause-moves_on
show_item-returns-in_ok-is_empty-in-Tag-clause-moves_on g t c = c.show_within.ensures.moves_on

pub show_item-returns-then-depth-eq0-clause-moves_on : goal.show_item-returns-then-depth-eq0-clause-moves_on
show_item-returns-then-depth-eq0-clause-moves_on g t c = MovesOn-none g.R.Read c.args.decoder.now
