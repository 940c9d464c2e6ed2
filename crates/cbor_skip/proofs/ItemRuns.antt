-- Items that follow one another, over any reader, if only their number is known.
use Rattle.std.proofs.Common.{◌≡◌, ℕ, suc, ◌<◌, Bool, [], Some, Result, Ok, Err}
use Rattle.std.proofs.Common.{refl, sym, arith, false, MatchResult}
use Rattle.ciborium_ll_io.specs.declared.io.Read.{Ghosts}
use Rattle.ciborium_ll_grammar.specs.declared.hdr.Header.{Header}
use Rattle.ciborium_ll_decoder.specs.declared.dec.Decoder.{Decoder}
use Rattle.ciborium_ll_grammar.specs.Items.{AreItems, no_items}
use Rattle.ciborium_ll_decoder.specs.Decoding.{IsSteady, MovesOn, PullsTitle}
use Rattle.ciborium_ll_decoder.proofs.DecodingLaws.{ReadsPast-none, ReadsPast-then}
use Rattle.ciborium_ll_grammar.proofs.ItemJoins.{item_before}
use Rattle.cbor_skip.specs.declared.SkipError.{SkipError}
use Rattle.cbor_skip.specs.Due.{IsNest, TakesMore, item_count, may_close}
use Rattle.cbor_skip.specs.Skipping.{ReadsItem, ReadsCounted, SkipsCounted, SkipsWithin, StopsItem, StopsCounted}
use Rattle.cbor_skip.specs.Skipping.{SkipsItem, allowed_by}
use Rattle.cbor_skip.proofs.ItemSteps.{counted_completes, reads_nest, stops_nest, no_items_read}
use Rattle.cbor_skip.proofs.StrictnessLaws.{items_looser, due_looser, passed_keeps}

-- A header that counts items begins a nest.
pub counted_nest : (x : Header) (n : ℕ) → item_count x ≡ Some n → IsNest x
counted_nest x n is = grind arith

counted_more : (x : Header) (n m : ℕ) → item_count x ≡ Some n → m < n → TakesMore x m × (may_close x m ≡ false)
counted_more x n m is less = grind arith

module _ {R E : Type 0} (source : Ghosts R E) where
  -- Each answer of a read of the items due now is the answer of the whole read.
  abbrev pub Decides : (room left levels : ℕ) (now : Decoder R) (count depth : ℕ) (old : Decoder R) → Type 0
  Decides room left levels now count depth old =
      (result : Result (Unit {0}) (SkipError E)) (new : Decoder R)
      → SkipsCounted source left levels room now result new → SkipsCounted source count depth room old result new

  -- ---- the ends

  pub none_due : (d : ℕ) (now : Decoder R) → ReadsCounted source 0 d now now
  none_due d now = record { items = []; are_items = no_items; passed = ReadsPast-none source now }

  -- An error in the first item that is due stops the read.
  pub stops_first : {left after d room : ℕ} {now : Decoder R} {error : SkipError E} {new : Decoder R} → suc after ≡ left
      → StopsItem source false d room now error new → StopsCounted source left d room now error new
  stops_first {left = left} {d = d} {now = now} some stops =
      let more : 0 < left = omega arith in
      let none : AreItems (allowed_by now) d 0 [] = no_items in
      let passed = ReadsPast-none source now in
      search

  -- ---- one item more

  item_then : (n d room : ℕ) (old now : Decoder R) → ReadsItem source d old now
      → (result : Result (Unit {0}) (SkipError E)) (new : Decoder R)
      → SkipsCounted source n d room now result new → SkipsCounted source (suc n) d room old result new
  item_then n d room old now first (Ok done) new others =
      let items = items_looser _ _ (passed_keeps source first.passed) _ _ _ others.are_items in
      search (item_before _ _ _ _ _ first.is_item items, ReadsPast-then source _ _ _ _ _ first.passed others.passed)
  item_then n d room old now first (Err error) new others =
      let items = items_looser _ _ (passed_keeps source first.passed) _ _ _ others.are_items in
      let more : suc others.before < suc n = omega arith in
      search (item_before _ _ _ _ _ first.is_item items, ReadsPast-then source _ _ _ _ _ first.passed others.passed)

  pub item_decides : {room left after levels count depth : ℕ} {now next old : Decoder R} → suc after ≡ left
      → Decides room left levels now count depth old → ReadsItem source levels now next
      → Decides room after levels next count depth old
  item_decides some whole item result new others =
      whole result new (rw (sym some) (item_then _ _ _ _ _ item result new others))

  -- ---- the contents of a nest whose items are counted

  pub counted_within : (x : Header) (n d room : ℕ) (old : Decoder R) → item_count x ≡ Some n
      → (result : Result (Unit {0}) (SkipError E)) (new : Decoder R)
      → SkipsCounted source n d room old result new → SkipsWithin source x d room old result new
  counted_within x n d room old is (Ok done) new reads =
      record { rest = reads.items; completes = counted_completes x is reads.are_items; passed = reads.passed }
  counted_within x n d room old is (Err error) new stops =
      let more = counted_more x n stops.before is stops.more in
      let stopped : StopsItem source (may_close x stops.before) d room stops.between error new =
      rw more.1 stops.stops in
      search

  -- The read after a nest's title is the read of one item.
  pub rest_read : (outer : Bool) (room : ℕ) {levels d : ℕ} {before titled : Decoder R} {x : Header} → suc levels ≡ d
      → PullsTitle source before x titled → MovesOn source before titled → (result : Result (Unit {0}) (SkipError E))
      (new : Decoder R) → SkipsWithin source x levels room titled result new
      → MatchResult result (λ done. ReadsItem source d before new)
      (λ error. StopsItem source outer d room before error new)
  rest_read outer room level title moved (Ok done) new reads = reads_nest source level title moved.steady reads
  rest_read outer room level title moved (Err error) new stops = stops_nest source level title moved.steady stops

  -- The read after a nest's title is the read of `count` items, if `count` is 1.
  nest_alone : (x : Header) (levels d room : ℕ) (old titled : Decoder R) → suc levels ≡ d
      → PullsTitle source old x titled → (IsSteady source old → IsSteady source titled)
      → (result : Result (Unit {0}) (SkipError E)) (new : Decoder R)
      → SkipsWithin source x levels room titled result new → SkipsCounted source 1 d room old result new
  nest_alone x levels d room old titled level title steady (Ok done) new reads =
      let item = reads_nest source level title steady reads in
      record { items = item.item; are_items = item.is_item; passed = item.passed }
  nest_alone x levels d room old titled level title steady (Err error) new stops =
      stops_first refl (stops_nest source level title steady stops)

  -- If the nest is the last item due, the read of its contents is the whole read.
  pub nest_decides : {room left levels inner within count depth : ℕ} {now titled old : Decoder R} {x : Header}
      → 1 ≡ left → suc inner ≡ levels → item_count x ≡ Some within → Decides room left levels now count depth old
      → PullsTitle source now x titled → (IsSteady source now → IsSteady source titled)
      → Decides room within inner titled count depth old
  nest_decides {x = x} last level is whole title steady result new skips =
      whole result new (rw (sym last) (nest_alone x _ _ _ _ _ level title steady result new
      (counted_within x _ _ _ _ is result new skips)))

  -- ---- the whole

  -- The read of an item in whose place no break may stand is the read of one item.
  pub as_item : (depth room : ℕ) (old new : Decoder R) (result : Result (Unit {0}) (SkipError E))
      → MatchResult result (λ done. ReadsItem source depth old new)
      (λ error. StopsItem source false depth room old error new) → SkipsItem source depth room old result new
  as_item depth room old new (Ok done) reads = reads
  as_item depth room old new (Err error) stops = stops

  pub one_item : (d room : ℕ) (old : Decoder R) (result : Result (Unit {0}) (SkipError E)) (new : Decoder R)
      → SkipsCounted source 1 d room old result new → SkipsItem source d room old result new
  one_item d room old (Ok done) new reads =
      record { item = reads.items; is_item = reads.are_items; passed = reads.passed }
  one_item d room old (Err error) new stops =
      let inner = stops.stops in
      let none = no_items_read _ d stops.before stops.items stops.more stops.are_items in
      let due = due_looser _ _ (passed_keeps source stops.passed) _ _ _ _ _ inner.due in
      let passed = rw none at (ReadsPast-then source _ _ _ _ _ stops.passed inner.passed) in
      search
