use Rattle.std.proofs.Common.{rules, ◌≡◌, ◌-◌, false, true, arith}
use Rattle.ciborium_ll.specs.Types.Header.TheVariants as h
use Rattle.cbor_skip.specs.Remaining.{is_done}
use Rattle.cbor_skip.specs.Skipping.{ReadsItem, allowed_by}
use Rattle.cbor_skip.proofs.ItemSteps.{ended, none_read, one_more}
use Rattle.uses.specs.declared.cose.TheConstants.{MAP_DEPTH}
use Rattle.ciborium_ll.proofs.ItemJoins.{item_some}
use Rattle.uses.proofs.PairLaws.{pairs_end}
use Rattle.uses.proofs.cose.pairs.Goals as goal

pub items-init : goal.items-init
items-init g c = none_read g.R.Read c.behind-remaining.ensures

pub returns : goal.returns
returns g c =
    let done : is_done c.items.remaining ≡ true = search rules in
    ended g.R.Read c.items.invariant done

pub returns-in-Err : goal.returns-in-Err
returns-in-Err g c =
    let some : is_done c.items.remaining ≡ false = search rules in
    let moves_on = rw c.offset-place.ensures.same at c.in-Err.ensures.skipped.moves_on in
    let stops = rw c.offset-place.ensures.same at c.in-Err.ensures.skipped.skipped in
    pairs_end g.R.Read c.args.len (MAP_DEPTH - 1) 64 c.args.decoder.now c.items.decoder c.skip_item.new.decoder
    c.items.remaining _ c.offset-place.result _ c.items.invariant some moves_on.steady c.offset-place.ensures.value stops
    (rw c.closes.ensures at c.answer_end.ensures)

-- Each item takes at least one byte.
pub items-smaller : goal.items-smaller
items-smaller g c =
    let item : ReadsItem g.R.Read (MAP_DEPTH - 1) c.items.decoder c.skip_item.new.decoder =
    rw c.offset-place.ensures.same at c.in_default.ensures.skipped.skipped in
    let some = item_some (allowed_by c.items.decoder) (MAP_DEPTH - 1) item.item item.is_item in
    omega (arith, some, item.passed.offset)

pub items-preserved : goal.items-preserved
items-preserved g c =
    let item : ReadsItem g.R.Read (MAP_DEPTH - 1) c.items.decoder c.skip_item.new.decoder =
    rw c.offset-place.ensures.same at c.in_default.ensures.skipped.skipped in
    one_more g.R.Read c.items.invariant (c.after_item-remaining.ensures (h.Map c.args.len)) item
