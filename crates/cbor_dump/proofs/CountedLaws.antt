-- The reads of `skip_items`: items, one after the other, and the bytes that follow them.
use Rattle.std.proofs.Common.{◌≡◌, ℕ, ◌<◌, List, ◌++◌, Result, Ok, Err, IsOk, ◌↔◌, refl, sym, subst}
use Rattle.std.proofs.Common.{◌∙◌, arith}
use Rattle.ciborium_ll_grammar.specs.declared.spelling.Spelling.{Spelling}
use Rattle.ciborium_ll.specs.Types.Read.{Ghosts}
use Rattle.ciborium_ll.specs.Types.Decoder.{Decoder}
use Rattle.ciborium_ll.specs.Items.{AreItems, more_items, no_items}
use Rattle.ciborium_ll.proofs.ItemLaws.{one_item}
use Rattle.cbor_skip.specs.declared.SkipError.{SkipError}
use Rattle.cbor_skip.specs.ItemFaults.{BeginsWithItem}
use Rattle.cbor_skip.specs.Skipping.{ReadsCounted, SkipsItem, SkipsCounted, StopsCounted}
use Rattle.ciborium_ll.specs.Premises.{CanRead}
use Rattle.cbor_skip.proofs.ItemSteps.{item_of}
use Rattle.cbor_skip.proofs.SkippingToldLaws.{skip_exactly}
use Rattle.ciborium_ll.specs.Decoding.{spelling_of}
use Rattle.cbor_dump.specs.Counted.{BeginsWithItems, SkipsAllItems, SkipsFewItems, SkipsItemsTold}
use Rattle.cbor_dump.specs.Sequences.{ReadsItems}
use Rattle.cbor_dump.proofs.ItemRows.{item_apart}
use Rattle.cbor_dump.proofs.SequenceLaws.{behind, items_ready, met_behind}

-- If the same bytes begin with some items and with more items, one more item follows the first ones.
pub fewer_meet : (b : Spelling) (d n : ℕ) (w : List ℕ) → AreItems b d n w → (m : ℕ) (u : List ℕ) → AreItems b d m u
    → (r s : List ℕ) → u ++ r ≡ w ++ s → n < m → BeginsWithItem b d s
fewer_meet b d n w no_items m u no_items r s e few = absurd (omega (arith, few))
fewer_meet b d n w no_items m u (more_items {title = t} {rest = q} {others = a} {header = x} p g c i) r s e few =
    record { item = t ++ q; rest = a ++ r; is_item = item_of b d t q x p g c; is = sym e ∙ item_apart t q a r }
fewer_meet b d n w (more_items {title = t} {rest = q} {others = a} {header = x} p g c i) m u no_items r s e few =
    absurd (omega (arith, few))
fewer_meet b d n w (more_items {count = k} {title = t'} {rest = q'} {others = a'} {header = x'} p' g' c' i') m u
    (more_items {count = j} {title = t} {rest = q} {others = a} {header = x} p g c i) r s e few =
    let both : (t ++ q) ++ (a ++ r) ≡ (t' ++ q') ++ (a' ++ s) =
    sym (item_apart t q a r) ∙ (e ∙ item_apart t' q' a' s) in
    let o = one_item b b d d (t ++ q) (t' ++ q') (a ++ r) (a' ++ s) (item_of b d t q x p g c)
    (item_of b d t' q' x' p' g' c') both in
    fewer_meet b d k a' i' j a i r s o.1 (omega (arith, few))

module _ {R E : Type 0} (source : Ghosts R E) where
  -- The items were read as `skip_items` says.
  pub counted : (depth count : ℕ) (old new : Decoder R) → ReadsItems source depth count old new
      → ReadsCounted source count depth old new
  counted depth count old new reads = record {
    items = reads.bytes;
    are_items = reads.are_items;
    passed = reads.passed;
  }

  -- Fewer items were read, and the read of a further one failed.
  pub counted_stops : (depth room count items : ℕ) (old between new : Decoder R) (error : SkipError E) → items < count
      → ReadsItems source depth items old between → SkipsItem source depth room between (Err error) new
      → StopsCounted source count depth room old error new
  counted_stops depth room count items old between new error more reads fails = record {
    before = items;
    items = reads.bytes;
    more = more;
    are_items = reads.are_items;
    between = between;
    passed = reads.passed;
    stops = fails;
  }

  module _ (depth room : ℕ) (old : Decoder R) (due : List ℕ) (ready : CanRead source room old due) where
    all_told : (count : ℕ) (new : Decoder R) → ReadsCounted source count depth old new
        → SkipsAllItems source count depth due old new
    all_told count new counts =
        let reads : ReadsItems source depth count old new = record {
          bytes = counts.items;
          are_items = counts.are_items;
          passed = counts.passed;
        } in
        let c = behind source depth room old due ready count new reads in
        record {
          front = record {
            items = counts.items;
            rest = c.ahead;
            are_items = items_ready source depth room old due ready count new reads;
            is = c.parts;
          };
          left = c.still_ready.told;
          offset = counts.passed.offset;
        }

    few_told : (count : ℕ) (new : Decoder R) (error : SkipError E) → StopsCounted source count depth room old error new
        → SkipsFewItems source count depth due old error new
    few_told count new error stops =
        let reads : ReadsItems source depth stops.before old stops.between = record {
          bytes = stops.items;
          are_items = stops.are_items;
          passed = stops.passed;
        } in
        let c = behind source depth room old due ready stops.before stops.between reads in
        let exactly = skip_exactly source depth room stops.between c.ahead c.still_ready new (Err error) stops.stops in
        record {
          few = stops.before;
          fewer = stops.more;
          before = stops.items;
          ahead = c.ahead;
          are_items = items_ready source depth room old due ready stops.before stops.between reads;
          is = c.parts;
          no_item = λ front. (let ok = exactly.1 (subst (λ (b : Spelling). BeginsWithItem b depth c.ahead)
              (sym stops.passed.mode) front) in absurd cc);
          between = stops.between;
          at = stops.passed.offset;
          met = met_behind source depth room old due ready stops.before stops.between reads (Err error) new stops.stops;
        }

    pub counted_told : (count : ℕ) (new : Decoder R) (result : Result (Unit {0}) (SkipError E))
        → SkipsCounted source count depth room old result new → SkipsItemsTold source count depth due old result new
    counted_told count new (Ok done) counts = all_told count new counts
    counted_told count new (Err error) stops = few_told count new error stops

    exactly_told : (count : ℕ) (new : Decoder R) (result : Result (Unit {0}) (SkipError E))
        → SkipsItemsTold source count depth due old result new
        → IsOk result ↔ BeginsWithItems (spelling_of old) depth count due
    exactly_told count new (Ok done) told = (λ ok. told.front, λ is. refl)
    exactly_told count new (Err error) told = (
      λ ok. absurd cc,
      λ is. absurd (told.no_item (fewer_meet (spelling_of old) depth told.few told.before told.are_items count is.items
          is.are_items is.rest told.ahead (sym is.is ∙ told.is) told.fewer)),
    )

    pub counted_exactly : (count : ℕ) (new : Decoder R) (result : Result (Unit {0}) (SkipError E))
        → SkipsCounted source count depth room old result new
        → IsOk result ↔ BeginsWithItems (spelling_of old) depth count due
    counted_exactly count new result counts = exactly_told count new result (counted_told count new result counts)
