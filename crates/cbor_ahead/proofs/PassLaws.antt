-- Bytes that were read ahead and passed, and items in a row.
use Rattle.std.proofs.Common.{◌≡◌, ℕ, suc, ◌+◌, ◌*◌, ◌/◌, ◌%◌, ◌<◌, ◌≤◌, ◌↔◌, ◌==◌, Bool, true, false, List, [], ◌∷◌}
use Rattle.std.proofs.Common.{◌++◌, length, take, drop, Option, Some, None, IfSome, IsSome, IsTrue}
use Rattle.std.proofs.Common.{Err, refl, sym, ap, subst, ◌∙◌, arith, inr}
use Rattle.std.proofs.lemmas.Bool.Decides.{nat_tests}
use Rattle.std.proofs.lemmas.List.{take-append-drop, take-append-le}
use Rattle.std.specs.Io.KnownBytes.{Consumes}
use Rattle.ciborium_ll_io.specs.declared.io.Read.{Ghosts}
use Rattle.ciborium_ll_grammar.specs.declared.spelling.Spelling.{Spelling}
use Rattle.ciborium_ll_grammar.specs.declared.hdr.Header.{Header}
use Rattle.ciborium_ll_grammar.specs.declared.hdr.Header.TheVariants as h
use Rattle.ciborium_ll_grammar.specs.Items.{AreItems, Completes, no_items, open_array, open_pairs}
use Rattle.ciborium_ll_grammar.proofs.ItemJoins.{item_some, items_joined}
use Rattle.ciborium_ll_decoder.specs.declared.dec.Decoder.{Decoder}
use Rattle.ciborium_ll_decoder.specs.Decoding.{IsSteady, PullsTitle, ReadsPast, failures_of, spelling_of}
use Rattle.ciborium_ll_decoder.proofs.DecodingLaws.{ReadsPast-none, ReadsPast-pull, ReadsPast-then}
use Rattle.ciborium_ll_decoder.proofs.NestLaws.{alone_bytes}
use Rattle.cbor_skip.specs.Due.{IsNest, TakesMore, item_count, may_close}
use Rattle.cbor_skip.specs.declared.SkipError.{SkipError}
use Rattle.cbor_skip.specs.Skipping.{ReadsCounted, ReadsItem, ReadsWithin, SkipsItem, StopsCounted, StopsItem}
use Rattle.cbor_skip.specs.Skipping.{StopsWithin, allowed_by}
use Rattle.cbor_skip.proofs.StrictnessLaws.{items_looser, passed_keeps, strict_settled}

-- A test that no header waits.
pub none_waits : (waiting : Option Header) (waits : Bool) → (IsTrue waits ↔ IsSome waiting) → waits ≡ false
    → waiting ≡ None
none_waits None waits same is = refl
none_waits (Some header) waits same is = absurd (cc (same.1 refl, is))

-- The first bytes of a front are the first bytes.
pub front_taken : (len room : ℕ) (bytes : List ℕ) → len ≤ length (take room bytes)
    → take len (take room bytes) ≡ take len bytes
front_taken len room bytes less =
    sym (take-append-le len (take room bytes) (drop room bytes) less)
    ∙ ap (λ (z : List ℕ). take len z) (take-append-drop room bytes)

-- A nest that counts no items takes any number.
takes_any : (header : Header) (count : ℕ) → IsNest header → item_count header ≡ None → TakesMore header count
takes_any header count nest none = grind arith

-- An even number is twice its half.
half : (count : ℕ) → (count % 2 == 0) ≡ true → 2 * (count / 2) ≡ count
half count even = grind (arith, nat_tests)

-- Items and a break complete a nest, if a break may stand after the items.
open_completes : (s : Spelling) (header : Header) (depth count : ℕ) (items : List ℕ)
    → may_close header count ≡ true → AreItems s depth count items → Completes s (suc depth) header (items ++ 0xff ∷ [])
open_completes s (h.Array None) depth count items may are = open_array are
open_completes s (h.Map None) depth count items may are =
    open_pairs (count / 2) (subst (λ (n : ℕ). AreItems s depth n items) (sym (half count may)) are)
open_completes s header depth count items may are = absurd cc

module _ {R E : Type 0} (source : Ghosts R E) where
  -- ---- bytes

  -- Items that the bytes begin with are read.
  pub passes_items : (old new : Decoder R) (depth count : ℕ) (bytes : List ℕ) → old.waiting ≡ None
      → AreItems (spelling_of old) depth count bytes → ReadsPast source old bytes new
      → ReadsCounted source count depth old new
  passes_items old new depth count bytes none are passed = record {
    items = bytes;
    are_items = rw (strict_settled old.waiting (spelling_of old) none) are;
    passed = passed;
  }

  -- ---- items in a row

  pub none_counted : (depth : ℕ) (old : Decoder R) → ReadsCounted source 0 depth old old
  none_counted depth old = record { items = []; are_items = no_items; passed = ReadsPast-none source old }

  -- More items are read after others.
  pub more_counted : (depth some more : ℕ) (old now new : Decoder R) → ReadsCounted source some depth old now
      → ReadsCounted source more depth now new → ReadsCounted source (some + more) depth old new
  more_counted depth some more old now new first second = record {
    items = first.items ++ second.items;
    are_items = items_joined (allowed_by old) depth some more first.items second.items first.are_items
        (items_looser (allowed_by old) (allowed_by now) (passed_keeps source first.passed) depth more second.items
        second.are_items);
    passed = ReadsPast-then source old now new first.items second.items first.passed second.passed;
  }

  -- One item is read after others.
  pub one_counted : (depth some : ℕ) (old now new : Decoder R) → ReadsCounted source some depth old now
      → ReadsItem source depth now new → ReadsCounted source (some + 1) depth old new
  one_counted depth some old now new first item =
      more_counted depth some 1 old now new first
      (record { items = item.item; are_items = item.is_item; passed = item.passed })

  -- The read of an item stops after others.
  pub stops_counted : (depth room some count : ℕ) (old now new : Decoder R) (error : SkipError E)
      → ReadsCounted source some depth old now → some < count → SkipsItem source depth room now (Err error) new
      → StopsCounted source count depth room old error new
  stops_counted depth room some count old now new error first less stops = record {
    before = some;
    items = first.items;
    more = less;
    are_items = first.are_items;
    between = now;
    passed = first.passed;
    stops = stops;
  }

  -- ---- a nest of indefinite length

  -- The read of a nest that counts no items stops after some items.
  pub stops_open : (depth room count : ℕ) (old now new : Decoder R) (header : Header) (error : SkipError E)
      → IsNest header → item_count header ≡ None → ReadsCounted source count depth old now
      → StopsItem source (may_close header count) depth room now error new
      → StopsWithin source header depth room old error new
  stops_open depth room count old now new header error nest none first stops = record {
    count = count;
    items = first.items;
    takes_more = takes_any header count nest none;
    are_items = first.are_items;
    between = now;
    passed = first.passed;
    stops = stops;
  }

  -- A break after some items ends a nest that counts no items.
  pub ends_open : (depth count : ℕ) (old now new : Decoder R) (header : Header)
      → may_close header count ≡ true → ReadsCounted source count depth old now → PullsTitle source now h.Break new
      → (IsSteady source now → IsSteady source new) → ReadsWithin source header depth old new
  ends_open depth count old now new header may first title steady = record {
    rest = first.items ++ 0xff ∷ [];
    completes = open_completes (allowed_by old) header depth count first.items may first.are_items;
    passed = rw (alone_bytes title.title h.Break title.is_title refl) at
        (ReadsPast-pull source _ _ _ _ _ title first.passed steady);
  }

  -- The read of an item moves the decoder on.
  pub item_rises : (depth : ℕ) (old new : Decoder R) → ReadsItem source depth old new → old.offset < new.offset
  item_rises depth old new item =
      omega (arith, item.passed.offset, item_some (allowed_by old) depth item.item item.is_item)
