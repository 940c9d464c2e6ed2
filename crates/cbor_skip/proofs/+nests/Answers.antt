use Rattle.std.proofs.Common.{◌≡◌, ◌∙◌, ◌-◌, suc, true, false, Ok, Err, refl, arith, rules, length}
use Rattle.std.proofs.Common.{Bool, ℕ, ◌<◌, ◌≤◌, ◌^◌, subst, sym}
use Rattle.ciborium_ll_decoder.specs.declared.dec.Decoder.{Decoder}
use Rattle.ciborium_ll_decoder.proofs.DecodingLaws.{exit_is, nearer, MovesOn-none, MovesOn-then}
use Rattle.cbor_skip.specs.declared.SkipError.TheVariants as s
use Rattle.cbor_skip.specs.declared.Begun.{Begun}
use Rattle.cbor_skip.specs.declared.Begun.TheVariants.{Break}
use Rattle.cbor_skip.specs.Remaining.{is_done, closes}
use Rattle.cbor_skip.specs.Skipping.{IsBegun, StopsItem}
use Rattle.cbor_skip.specs.Due.{IsNest}
use Rattle.ciborium_ll_io.specs.declared.io.Read.{Ghosts}
use Rattle.ciborium_ll_grammar.specs.declared.hdr.Header.{Header}
use Rattle.ciborium_ll_decoder.specs.Decoding.{PullsTitle}
use Rattle.cbor_skip.proofs.ItemRuns.{counted_nest, counted_within, item_decides, nest_decides, none_due, rest_read}
use Rattle.cbor_skip.proofs.ItemRuns.{stops_first}
use Rattle.cbor_skip.proofs.ItemSteps.{stops_here, title_stops, none_read, one_more, stops_within, ended, closed}
use Rattle.cbor_skip.proofs.+nests.Goals as goal
use Rattle.cbor_skip.proofs.+nests.Goals.{skip_items-in_default-via-in-Items+then-left-eq0+else-levels-gt0}
use Rattle.cbor_skip.proofs.+nests.Goals.{skip_items-in_default-via-in-Items+else-left-eq0}
use Rattle.cbor_skip.proofs.+nests.Goals.{skip_items-in_default-via-in-Item-1}
use Rattle.cbor_skip.proofs.+nests.Goals.{skip_rest-in-Items+else-depth-gt0, skip_rest-in-Nest+else-depth-gt0-2}

-- A number above 0 is the successor of a number.
one_before : (n : ℕ) → 0 < n → suc (n - 1) ≡ n
one_before n some = omega arith

-- If no level is left, a nest is too deep.
too_deep : {R E : Type 0} (source : Ghosts R E) {closable : Bool} {depth room at : ℕ} {before new : Decoder R}
    {header : Header} → depth ≤ 0 → at ≡ before.offset → IsNest header → PullsTitle source before header new
    → StopsItem source closable depth room before (s.Deep at) new
too_deep source {depth = depth} none place nest pulled = let none_left : depth ≡ 0 = omega arith in
    stops_here source (search)

-- After a read of some bytes, the decoder is nearer to the last offset.
nearer_now : {R : Type 0} (before old new : Decoder R) → old ≡ before → old.offset < new.offset
    → 2 ^ 64 - new.offset < 2 ^ 64 - before.offset
nearer_now before old new same risen = rw (sym same) (nearer old new new risen (omega arith))

-- After a read of some bytes and any further read, the decoder is nearer to the last offset.
nearer_behind : {R : Type 0} (before old between new : Decoder R) → old ≡ before → old.offset < between.offset
    → between.offset ≤ new.offset → 2 ^ 64 - new.offset < 2 ^ 64 - before.offset
nearer_behind before old between new same risen rises = rw (sym same) (nearer old between new risen rises)

-- ---- `count` items: the ends

pub skip_items-items-init : goal.skip_items-items-init
skip_items-items-init g t c = record {
  deep = omega arith;
  whole = λ result new skips. skips;
  moves_on = MovesOn-none g.R.Read c.args.decoder.now;
}

pub skip_items-returns-clause-skipped : goal.skip_items-returns-clause-skipped
skip_items-returns-clause-skipped g t c =
    let none : c.items.left ≡ 0 = omega (arith, c.items-test.false) in
    let last = none_due g.R.Read c.items.levels c.items.decoder in
    c.items.invariant.whole (Ok (tt {0})) c.items.decoder (rw none last)

-- ---- `count` items: the errors

pub skip_items-returns-in_err-begun-clause-skipped : goal.skip_items-returns-in_err-begun-clause-skipped
skip_items-returns-in_err-begun-clause-skipped g t c =
    let some = one_before c.items.left c.items-test.true in
    let error = c.in_err-begun.field-0.0 in
    let same = exit_is c.from_residual.result (s.Read error) c.from_residual.ensures.1 in
    let stops = title_stops g.R.Read c.offset-place.ensures.same c.items.auto.buffer c.in_err-begun.ensures.begun in
    rw same (c.items.invariant.whole (Err (s.Read error)) c.skip_title.new.decoder (stops_first g.R.Read some stops))

-- ---- the items that remain: the ends

pub skip_within-items-init : goal.skip_within-items-init
skip_within-items-init g t c = record {
  so_far = none_read g.R.Read c.behind-remaining.ensures;
  moves_on = MovesOn-none g.R.Read c.args.decoder.now;
}

pub skip_within-returns-clause-skipped : goal.skip_within-returns-clause-skipped
skip_within-returns-clause-skipped g t c =
    let done : is_done c.items.remaining ≡ true = search rules in
    ended g.R.Read c.items.invariant.so_far done

-- ---- the items that remain: the errors

pub skip_within-returns-in_err-begun-clause-skipped : goal.skip_within-returns-in_err-begun-clause-skipped
skip_within-returns-in_err-begun-clause-skipped g t c =
    let some : is_done c.items.remaining ≡ false = search rules in
    let error = c.in_err-begun.field-0.0 in
    let same = exit_is c.from_residual.result (s.Read error) c.from_residual.ensures.1 in
    rw same (stops_within g.R.Read c.items.invariant.so_far some c.items.auto.buffer
    (title_stops g.R.Read c.offset-place.ensures.same refl c.in_err-begun.ensures.begun))

-- ---- the decoder moves on

pub skip_items-returns-in_err-begun-clause-moves_on : goal.skip_items-returns-in_err-begun-clause-moves_on
skip_items-returns-in_err-begun-clause-moves_on g t c =
    MovesOn-then g.R.Read _ _ _ c.items.invariant.moves_on
    (rw c.offset-place.ensures.same at c.skip_title.ensures.moves_on)

pub skip_within-returns-in_err-begun-clause-moves_on : goal.skip_within-returns-in_err-begun-clause-moves_on
skip_within-returns-in_err-begun-clause-moves_on g t c =
    MovesOn-then g.R.Read _ _ _ c.items.invariant.moves_on
    (rw c.offset-place.ensures.same at c.skip_title.ensures.moves_on)

-- ---- the decoder is nearer to the last offset

pub skip_items-items-preserved-then-levels-gt0 : goal.skip_items-items-preserved-then-levels-gt0
skip_items-items-preserved-then-levels-gt0 g t c =
    let last : 1 ≡ c.items.left = omega (arith, c.items-test.true, c.if-left-eq0.true) in
    let level = one_before c.items.levels c.if-levels-gt0.true in
    let nest = rw (c.offset-place.ensures.same, c.in-Items.is) at c.in_ok-begun.ensures.begun in
    let first = rw c.offset-place.ensures.same at c.skip_title.ensures.moves_on in
    record {
      deep = omega (arith, c.items.invariant.deep);
      whole = nest_decides g.R.Read last level nest.1 c.items.invariant.whole nest.2 first.steady;
      moves_on = MovesOn-then g.R.Read _ _ _ c.items.invariant.moves_on first;
    }

pub skip_items-items-preserved : goal.skip_items-items-preserved
skip_items-items-preserved g t c =
    let some = one_before c.items.left c.items-test.true in
    let same : c.in_default-1.begun ≡ c.in_ok-begun.begun = elim c.in_default-1.branch [
      | skip_items-in_default-via-in-Items+then-left-eq0+else-levels-gt0 w ↦ w.begun-is ∙ sym w.in-Items.is
      | skip_items-in_default-via-in-Items+else-left-eq0 w ↦ w.begun-is ∙ sym w.in-Items.is
      | skip_items-in_default-via-in-Item-1 w ↦ w.begun-is
    ] in
    let first = rw c.offset-place.ensures.same at c.skip_title.ensures.moves_on in
    let begun = subst (λ (b : Begun). IsBegun g.R.Read b c.items.decoder c.skip_title.new.decoder) (sym same)
    (rw c.offset-place.ensures.same at c.in_ok-begun.ensures.begun) in
    let item = c.in_ok-skip_rest-in_default.ensures.skipped false c.items.decoder begun first
    c.offset-place.ensures.value (λ break. refl) in
    record {
      deep = c.items.invariant.deep;
      whole = item_decides g.R.Read some c.items.invariant.whole item;
      moves_on = MovesOn-then g.R.Read _ _ _ c.items.invariant.moves_on
          (MovesOn-then g.R.Read _ _ _ first c.skip_rest.ensures.moves_on);
    }

pub skip_items-returns-in_err-skip_rest-in_default-clause-skipped :
    goal.skip_items-returns-in_err-skip_rest-in_default-clause-skipped
skip_items-returns-in_err-skip_rest-in_default-clause-skipped g t c =
    let some = one_before c.items.left c.items-test.true in
    let same : c.in_default-1.begun ≡ c.in_ok-begun.begun = elim c.in_default-1.branch [
      | skip_items-in_default-via-in-Items+then-left-eq0+else-levels-gt0 w ↦ w.begun-is ∙ sym w.in-Items.is
      | skip_items-in_default-via-in-Items+else-left-eq0 w ↦ w.begun-is ∙ sym w.in-Items.is
      | skip_items-in_default-via-in-Item-1 w ↦ w.begun-is
    ] in
    let first = rw c.offset-place.ensures.same at c.skip_title.ensures.moves_on in
    let begun = subst (λ (b : Begun). IsBegun g.R.Read b c.items.decoder c.skip_title.new.decoder) (sym same)
    (rw c.offset-place.ensures.same at c.in_ok-begun.ensures.begun) in
    let error = c.in_err-skip_rest-in_default in
    let residual = c.from_residual-in_err-skip_rest-in_default in
    let exit = exit_is residual.result error.field-0.0 residual.ensures.1 in
    let stops = error.ensures.skipped false c.items.decoder begun first c.offset-place.ensures.value (λ break. refl) in
    let stopped = rw (c.skip_title.auto.buffer, c.items.auto.buffer) at stops in
    rw exit (c.items.invariant.whole (Err error.field-0.0) c.skip_rest.new.decoder
    (stops_first g.R.Read some stopped))

pub skip_within-returns-in-Break-clause-skipped : goal.skip_within-returns-in-Break-clause-skipped
skip_within-returns-in-Break-clause-skipped g t c =
    let may : closes c.items.remaining ≡ true = search rules in
    let pulled = rw (c.offset-place.ensures.same, c.in-Break.is) at c.in_ok-begun.ensures.begun in
    let steady = rw c.offset-place.ensures.same at c.skip_title.ensures.moves_on.steady in
    closed g.R.Read c.items.invariant.so_far may pulled steady

pub skip_within-returns-in_err-skip_rest-in_default-clause-skipped :
    goal.skip_within-returns-in_err-skip_rest-in_default-clause-skipped
skip_within-returns-in_err-skip_rest-in_default-clause-skipped g t c =
    let some : is_done c.items.remaining ≡ false = search rules in
    let first = rw c.offset-place.ensures.same at c.skip_title.ensures.moves_on in
    let begun = rw c.offset-place.ensures.same at c.in_ok-begun.ensures.begun in
    let stays : c.in_ok-begun.begun ≡ Break → closes c.items.remaining ≡ false =
    search rules in
    let error = c.in_err-skip_rest-in_default in
    let residual = c.from_residual-in_err-skip_rest-in_default in
    let exit = exit_is residual.result error.field-0.0 residual.ensures.1 in
    let stops = error.ensures.skipped (closes c.items.remaining) c.items.decoder begun first
    c.offset-place.ensures.value stays in
    rw exit (stops_within g.R.Read c.items.invariant.so_far some c.items.auto.buffer
    (rw c.skip_title.auto.buffer at stops))

pub skip_within-items-preserved : goal.skip_within-items-preserved
skip_within-items-preserved g t c =
    let first = rw c.offset-place.ensures.same at c.skip_title.ensures.moves_on in
    let begun = rw c.offset-place.ensures.same at c.in_ok-begun.ensures.begun in
    let item = c.in_ok-skip_rest-in_default.ensures.skipped false c.items.decoder begun first
    c.offset-place.ensures.value (λ break. refl) in
    record {
      so_far = one_more g.R.Read c.items.invariant.so_far (c.after_item-remaining.ensures c.args.header) item;
      moves_on = MovesOn-then g.R.Read _ _ _ c.items.invariant.moves_on
          (MovesOn-then g.R.Read _ _ _ first c.skip_rest.ensures.moves_on);
    }

-- ---- the rest of an item

pub skip_rest-returns-in-Item-clause-skipped : goal.skip_rest-returns-in-Item-clause-skipped
skip_rest-returns-in-Item-clause-skipped g t c = λ closable before begun moved place stays.
    let item = rw c.in-Item.is at begun in
    item c.args.depth

pub skip_rest-returns-in-Break-clause-skipped : goal.skip_rest-returns-in-Break-clause-skipped
skip_rest-returns-in-Break-clause-skipped g t c = λ closable before begun moved place stays.
    stops_here g.R.Read (record {
      not_closable = stays c.in-Break.is;
      place = place;
      pulled = rw c.in-Break.is at begun;
    })

pub skip_rest-returns-in-Items-clause-skipped : goal.skip_rest-returns-in-Items-clause-skipped
skip_rest-returns-in-Items-clause-skipped g t c = λ closable before begun moved place stays.
    let nest = rw c.in-Items.is at begun in
    rest_read g.R.Read closable (length c.args.buffer.now) (one_before c.args.depth c.if-depth-gt0.true) nest.2 moved
    c.skip_items.result
    c.skip_items.new.decoder
    (counted_within g.R.Read nest.0 c.in-Items.count (c.args.depth - 1) (length c.args.buffer.now)
    c.args.decoder.now nest.1 c.skip_items.result c.skip_items.new.decoder c.skip_items.ensures.skipped)

pub skip_rest-returns-in-Nest-clause-skipped : goal.skip_rest-returns-in-Nest-clause-skipped
skip_rest-returns-in-Nest-clause-skipped g t c = λ closable before begun moved place stays.
    let nest = rw c.in-Nest.is at begun in
    rest_read g.R.Read closable (length c.args.buffer.now) (one_before c.args.depth c.if-depth-gt0-2.true) nest.1 moved
    c.skip_within.result
    c.skip_within.new.decoder c.skip_within.ensures.skipped

pub skip_rest-returns-in-Items-2-clause-skipped : goal.skip_rest-returns-in-Items-2-clause-skipped
skip_rest-returns-in-Items-2-clause-skipped g t c = λ closable before begun moved place stays.
    elim c.in-Items-2-1.branch [
      | skip_rest-in-Items+else-depth-gt0 w ↦
          let nest = rw w.in-Items.is at begun in
          too_deep g.R.Read w.if-depth-gt0.false place (counted_nest nest.0 w.in-Items.count nest.1) nest.2
      | skip_rest-in-Nest+else-depth-gt0-2 w ↦
          let nest = rw w.in-Nest.is at begun in
          too_deep g.R.Read w.if-depth-gt0-2.false place nest.0 nest.1
    ]

-- ---- the decoder moves on

pub skip_items-returns-in_err-skip_rest-in_default-clause-moves_on :
    goal.skip_items-returns-in_err-skip_rest-in_default-clause-moves_on
skip_items-returns-in_err-skip_rest-in_default-clause-moves_on g t c =
    let first = rw c.offset-place.ensures.same at c.skip_title.ensures.moves_on in
    MovesOn-then g.R.Read _ _ _ c.items.invariant.moves_on
    (MovesOn-then g.R.Read _ _ _ first c.skip_rest.ensures.moves_on)

pub skip_within-returns-in_err-skip_rest-in_default-clause-moves_on :
    goal.skip_within-returns-in_err-skip_rest-in_default-clause-moves_on
skip_within-returns-in_err-skip_rest-in_default-clause-moves_on g t c =
    let first = rw c.offset-place.ensures.same at c.skip_title.ensures.moves_on in
    MovesOn-then g.R.Read _ _ _ c.items.invariant.moves_on
    (MovesOn-then g.R.Read _ _ _ first c.skip_rest.ensures.moves_on)

pub skip_within-returns-in-Break-clause-moves_on : goal.skip_within-returns-in-Break-clause-moves_on
skip_within-returns-in-Break-clause-moves_on g t c =
    MovesOn-then g.R.Read _ _ _ c.items.invariant.moves_on
    (rw c.offset-place.ensures.same at c.skip_title.ensures.moves_on)

-- ---- the decoder is nearer to the last offset

pub skip_items-items-smaller-then-levels-gt0 : goal.skip_items-items-smaller-then-levels-gt0
skip_items-items-smaller-then-levels-gt0 g t c =
    nearer_now c.items.decoder _ c.skip_title.new.decoder c.offset-place.ensures.same
    (c.in_ok-begun.ensures.rises (search rules))

pub skip_items-items-smaller : goal.skip_items-items-smaller
skip_items-items-smaller g t c =
    nearer_behind c.items.decoder _ c.skip_title.new.decoder c.skip_rest.new.decoder
    c.offset-place.ensures.same (c.in_ok-begun.ensures.rises (search rules)) c.skip_rest.ensures.moves_on.rises

pub skip_within-items-smaller : goal.skip_within-items-smaller
skip_within-items-smaller g t c =
    nearer_behind c.items.decoder _ c.skip_title.new.decoder c.skip_rest.new.decoder
    c.offset-place.ensures.same (c.in_ok-begun.ensures.rises (search rules)) c.skip_rest.ensures.moves_on.rises

-- ---- the premises of the calls, which a search finds
