-- The read of the items of a map after its title, each by its own skip.
use Rattle.std.proofs.Common.{◌≡◌, ℕ, suc, Bool, true, false, List, [], ◌∷◌, ◌++◌, length, Option, Some, None}
use Rattle.std.proofs.Common.{Result, Ok, Err, refl, sym, ap, subst, ◌∙◌, inl, inr, ◌⊎◌, arith, append-nil}
use Rattle.ciborium_ll_grammar.specs.declared.spelling.Spelling.{Spelling}
use Rattle.ciborium_ll.specs.Types.Read.{Ghosts}
use Rattle.ciborium_ll.specs.Types.Header.TheVariants as h
use Rattle.ciborium_ll.specs.Types.Decoder.{Decoder}
use Rattle.ciborium_ll.specs.Items.{AreItems, Completes, open_pairs}
use Rattle.ciborium_ll.specs.Decoding.{IsSteady, ReadsPast}
use Rattle.ciborium_ll.proofs.DecodingLaws.{ReadsPast-pulled, ReadsPast-then}
use Rattle.ciborium_ll.proofs.Lists.{length_zero}
use Rattle.ciborium_ll.proofs.NestLaws.{alone_bytes}
use Rattle.cbor_skip.specs.declared.SkipError.{SkipError}
use Rattle.cbor_skip.specs.declared.SkipError.TheVariants as s
use Rattle.cbor_skip.specs.Types.Remaining.{Remaining}
use Rattle.cbor_skip.specs.Types.Remaining.TheVariants as r
use Rattle.cbor_skip.specs.Due.{ItemDue, here, within}
use Rattle.cbor_skip.specs.Remaining.{IsRemaining, closes, is_done}
use Rattle.cbor_skip.specs.Skipping.{StopsDue, StopsItem, StopsWithin, SkipsWithin, ReadsWithin, allowed_by}
use Rattle.cbor_skip.proofs.ItemSteps.{SoFar, stops_within}
use Rattle.uses.specs.Cose.{EndsPairs}

-- If a break may stand after the items of a map, the items and the break complete the map.
pairs_closed : (allowed : Spelling) (len : Option ℕ) (depth count : ℕ) (items : List ℕ) (remaining : Remaining)
    → IsRemaining (h.Map len) count remaining → closes remaining ≡ true → AreItems allowed depth count items
    → Completes allowed (suc depth) (h.Map len) (items ++ 0xff ∷ [])
pairs_closed allowed None depth count items r.OpenPairs is may i =
    open_pairs is.0 (subst (λ (m : ℕ). AreItems allowed depth m items) is.1 i)
pairs_closed allowed None depth count items r.OpenValue is may i = absurd cc
pairs_closed allowed (Some n) depth count items (r.Pairs m) is may i = absurd cc
pairs_closed allowed (Some n) depth count items (r.Value m) is may i = absurd cc
pairs_closed allowed len depth count items remaining is may i = absurd is

-- A beginning of an item is empty, or also a beginning if a break may stand in place of the whole item.
due_open : (allowed : Spelling) (depth : ℕ) (bytes : List ℕ) (levels : ℕ) (closable : Bool)
    → ItemDue allowed false depth bytes levels closable
    → ItemDue allowed true depth bytes levels closable ⊎ ((bytes ≡ []) × (levels ≡ depth))
due_open allowed depth bytes levels closable here = inr (refl, refl)
due_open allowed depth bytes levels closable (within is_title taken more items due) =
    inl (within is_title taken more items due)

module _ {R E : Type 0} (source : Ghosts R E) where
  -- An error other than a break at the item's place stops the item at its start, also if a break may stand there.
  stops_open : (levels depth room : ℕ) (closable : Bool) (between new : Decoder R) (place : ℕ) (error : SkipError E)
      → levels ≡ depth → between.offset ≡ place → (error ≡ s.Break place → ⊥)
      → StopsDue source levels closable room between error new → StopsDue source depth true room between error new
  stops_open levels depth room closable between new place (s.Read error) same at other stops = stops
  stops_open levels depth room closable between new place (s.Deep deep) same at other stops = record {
    none_left = sym same ∙ stops.none_left;
    place = stops.place;
    header = stops.header;
    is_nest = stops.is_nest;
    pulled = stops.pulled;
  }
  stops_open levels depth room closable between new place (s.Break found) same at other stops =
      absurd (other (ap (λ (n : ℕ). s.Break n) (stops.place ∙ at)))

  -- An error other than a break at the item's place stops the item, also if a break may stand in its place.
  pub stops_outer : (outer : Bool) (depth room : ℕ) (old new : Decoder R) (error : SkipError E)
      → (outer ≡ true → error ≡ s.Break old.offset → ⊥) → StopsItem source false depth room old error new
      → StopsItem source outer depth room old error new
  stops_outer false depth room old new error other stops = stops
  stops_outer true depth room old new error other stops =
      elim (due_open (allowed_by old) depth stops.bytes stops.levels stops.closable stops.due) [
        | inl due ↦ record {
          bytes = stops.bytes;
          levels = stops.levels;
          closable = stops.closable;
          due = due;
          between = stops.between;
          passed = stops.passed;
          stops = stops.stops;
        }
        | inr first ↦ record {
          bytes = [];
          levels = depth;
          closable = true;
          due = here;
          between = stops.between;
          passed = subst (λ (w : List ℕ). ReadsPast source old w stops.between) first.0 stops.passed;
          stops = stops_open stops.levels depth room stops.closable stops.between new old.offset error first.1
              (omega (arith, stops.passed.offset, ap (λ (w : List ℕ). length w) first.0)) (other refl) stops.stops;
        }
      ]

  -- A break in place of the next item ends the map, if a break may stand there.
  pub break_closes : (len : Option ℕ) (depth room : ℕ) (old now new : Decoder R) (remaining : Remaining) (at : ℕ)
      → SoFar source (h.Map len) depth old now remaining → closes remaining ≡ true
      → (IsSteady source now → IsSteady source new) → at ≡ now.offset
      → StopsItem source false depth room now (s.Break at) new → ReadsWithin source (h.Map len) depth old new
  break_closes len depth room old now new remaining at so_far may steady place stops =
      let met = stops.stops in
      let before = ReadsPast-then source old now stops.between so_far.items stops.bytes so_far.passed stops.passed in
      let none : stops.bytes ≡ [] = length_zero stops.bytes (omega (arith, place, met.place, stops.passed.offset)) in
      let reached = subst (λ (w : List ℕ). ReadsPast source old w stops.between)
      (ap (λ (w : List ℕ). so_far.items ++ w) none ∙ append-nil so_far.items) before in
      let still : IsSteady source old → IsSteady source new = λ first. steady (so_far.passed.steady first) in
      let passed = ReadsPast-pulled source old stops.between new so_far.items h.Break met.pulled reached still in
      let lone = alone_bytes met.pulled.title h.Break met.pulled.is_title refl in
      record {
        rest = so_far.items ++ 0xff ∷ [];
        completes = pairs_closed (allowed_by old) len depth so_far.count so_far.items remaining so_far.is_remaining may
            so_far.are_items;
        passed = subst (λ (w : List ℕ). ReadsPast source old (so_far.items ++ w) new) lone passed;
      }

  -- The error of an item gives the answer for the map.
  pub pairs_end : (len : Option ℕ) (depth room : ℕ) (old now new : Decoder R) (remaining : Remaining)
      (error : SkipError E) (place : ℕ) (result : Result (Unit {0}) (SkipError E))
      → SoFar source (h.Map len) depth old now remaining → is_done remaining ≡ false
      → (IsSteady source now → IsSteady source new) → place ≡ now.offset
      → StopsItem source false depth room now error new → EndsPairs (closes remaining) place error result
      → SkipsWithin source (h.Map len) depth room old result new
  pairs_end len depth room old now new remaining error place (Ok done) so_far some steady at stops ends =
      break_closes len depth room old now new remaining place so_far ends.0 steady at
      (subst (λ (e : SkipError E). StopsItem source false depth room now e new) ends.1 stops)
  pairs_end len depth room old now new remaining error place (Err other) so_far some steady at stops ends =
      let no_break : closes remaining ≡ true → error ≡ s.Break now.offset → ⊥ =
      λ may found. ends.1 may (found ∙ ap (λ (n : ℕ). s.Break n) (sym at)) in
      subst (λ (e : SkipError E). StopsWithin source (h.Map len) depth room old e new) (sym ends.0)
      (stops_within source so_far some refl
      (stops_outer (closes remaining) depth room now new error no_break stops))
