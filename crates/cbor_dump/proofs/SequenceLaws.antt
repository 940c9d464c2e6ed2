-- The reads of `check`: items, one after the other, and the bytes that follow them.
use Rattle.std.proofs.lemmas.Bool.Decides.{nat_tests}
use Rattle.std.proofs.Common.{◌≡◌, ℕ, suc, ◌+◌, false, List, [], ◌∷◌, ◌++◌, length, Some, Result, Ok, Err}
use Rattle.std.proofs.Common.{IsOk, IfOk, ◌↔◌, refl, sym, ap, subst, ◌∙◌, inl, inr, arith, append-nil}
use Rattle.std.proofs.Common.{length-append}
use Rattle.std.proofs.Math.Seq.{drop-nil}
use Rattle.ciborium_ll_grammar.specs.declared.spelling.Spelling.{Spelling}
use Rattle.ciborium_ll.specs.Types.Read.{Ghosts}
use Rattle.ciborium_ll.specs.Types.Decoder.{Decoder}
use Rattle.ciborium_ll.specs.Types.Error.TheVariants as e
use Rattle.ciborium_ll.specs.Items.{AreItems, no_items}
use Rattle.ciborium_ll.specs.Faults.{Answer, Short, Syntax}
use Rattle.ciborium_ll.specs.Decoding.{failures_of, view, spelling_of}
use Rattle.ciborium_ll.proofs.DecodingLaws.{ReadsPast-none, ReadsPast-then}
use Rattle.ciborium_ll.proofs.CopyingTold.{consumes_told}
use Rattle.ciborium_ll.proofs.NestLaws.{title_some}
use Rattle.cbor_skip.specs.declared.SkipError.{SkipError}
use Rattle.cbor_skip.specs.declared.SkipError.TheVariants as s
use Rattle.cbor_skip.specs.Failures.{CountsItemFailure}
use Rattle.cbor_skip.specs.ItemFaults.{BeginsWithItem}
use Rattle.cbor_skip.specs.Skipping.{ReadsItem, SkipsItem, allowed_by}
use Rattle.ciborium_ll.specs.Premises.{CanRead}
use Rattle.cbor_skip.specs.SkippingTold.{MeetsItemFault, SkipsTold}
use Rattle.cbor_skip.proofs.FailureLaws.{stop_fails}
use Rattle.cbor_skip.proofs.ItemSteps.{items_item}
use Rattle.cbor_skip.proofs.SkippingToldLaws.{ready_mode, skip_told, skip_exactly}
use Rattle.cbor_skip.proofs.StrictnessLaws.{items_looser, none_behind, passed_keeps}
use Rattle.cbor_dump.specs.declared.sequence.Sequence.{Sequence}
use Rattle.cbor_dump.specs.declared.sequence.Stopped.{Stopped}
use Rattle.cbor_dump.specs.Sequences.{IsSequence, IsEnd, EndsSequence, ReadsItems, ChecksItems, CountsCheck}
use Rattle.cbor_dump.specs.Sequences.{ChecksTold}
use Rattle.cbor_dump.proofs.ItemRows.{items_counted, rows_meet, due_first, fault_first, first_fault}
use Rattle.cbor_dump.proofs.ItemRows.{nothing}

module _ {R E : Type 0} (source : Ghosts R E) where
  -- ---- items so far

  pub none_read : (depth : ℕ) (old : Decoder R) → ReadsItems source depth 0 old old
  none_read depth old = record { bytes = []; are_items = no_items; passed = ReadsPast-none source old }

  pub one_more : (depth count : ℕ) (old now new : Decoder R) → ReadsItems source depth count old now
      → ReadsItem source depth now new → ReadsItems source depth (suc count) old new
  one_more depth count old now new so_far item = record {
    bytes = so_far.bytes ++ item.item;
    are_items = items_item (allowed_by old) depth count so_far.bytes item.item so_far.are_items
        (items_looser (allowed_by old) (allowed_by now) (passed_keeps source so_far.passed) depth 1 item.item
        item.is_item);
    passed = ReadsPast-then source old now new so_far.bytes item.item so_far.passed item.passed;
  }

  -- The end of a read answers as a check does.
  pub ends : (depth room items start place stop : ℕ) (old between new : Decoder R) (error : SkipError E)
      (result : Result (Sequence E) (Stopped E))
      → ReadsItems source depth items old between
      → SkipsItem source depth room between (Err error) new → EndsSequence error items start place stop result
      → start ≡ old.offset → place ≡ between.offset → stop ≡ new.offset
      → ChecksItems source depth room old result new
  ends depth room items start place stop old between new error (Ok sequence) reads fails is from here there = record {
    between = between;
    reads = record {
      bytes = reads.bytes;
      are_items = subst (λ (n : ℕ). AreItems (allowed_by old) depth n reads.bytes) (sym is.2) reads.are_items;
      passed = reads.passed;
    };
    counted = omega (arith, is.3, from, here, reads.passed.offset);
    fails = subst (λ (x : SkipError E). SkipsItem source depth room between (Err x) new) is.0 fails;
    still = sym there ∙ (is.1 ∙ here);
  }
  ends depth room items start place stop old between new error (Err stopped) reads fails is from here there =
      let counted : stopped.items ≡ items = ap (λ (x : Stopped E). x.items) is.0 in
      let at : stopped.place ≡ place = ap (λ (x : Stopped E). x.place) is.0 in
      let why : stopped.error ≡ error = ap (λ (x : Stopped E). x.error) is.0 in
      record {
        between = between;
        reads = subst (λ (n : ℕ). ReadsItems source depth n old between) (sym counted) reads;
        place = at ∙ here;
        fails = subst (λ (x : SkipError E). SkipsItem source depth room between (Err x) new) (sym why) fails;
        no_end = λ is_end. is.1 (subst (λ (x : SkipError E). IsEnd x place stop) why
            (subst (λ (n : ℕ). IsEnd stopped.error place n) (sym there)
            (subst (λ (n : ℕ). IsEnd stopped.error n new.offset) (sym here) is_end)));
      }

  -- The reader fails as often as the answer of a check says.
  pub check_failures : (depth room : ℕ) (old new : Decoder R) (result : Result (Sequence E) (Stopped E))
      → ChecksItems source depth room old result new
      → CountsCheck result (failures_of source old) (failures_of source new)
  check_failures depth room old new (Ok sequence) finds =
      let last = stop_fails source false depth room (s.Read (e.Io sequence.«end»)) finds.between new finds.fails in
      last ∙ ap (λ (n : ℕ). n + 1) finds.reads.passed.failures
  check_failures depth room old new (Err stopped) finds =
      let last = stop_fails source false depth room stopped.error finds.between new finds.fails in
      subst (λ (n : ℕ). CountsItemFailure stopped.error n (failures_of source new)) finds.reads.passed.failures last

  -- ---- the bytes are told

  module _ (depth room : ℕ) (old : Decoder R) (due : List ℕ) (ready : CanRead source room old due) where
    -- After some items the reader is ready for the bytes that follow them.
    pub record Behind (count : ℕ) (between : Decoder R) (reads : ReadsItems source depth count old between) : Type 0 where
      pub ahead : List ℕ
      pub parts : due ≡ reads.bytes ++ ahead
      pub still_ready : CanRead source room between ahead

    pub behind : (count : ℕ) (between : Decoder R) (reads : ReadsItems source depth count old between)
        → Behind count between reads
    behind count between reads =
        let gone = consumes_told _ _ due reads.bytes ready.told reads.passed.consumed in
        let counted = ap length gone.2 in
        let offset = reads.passed.offset in
        let both = length-append reads.bytes gone.0 in
        record {
          ahead = gone.0;
          parts = gone.2;
          still_ready = record {
            none_waits = none_behind source reads.passed ready.none_waits;
            steady = reads.passed.steady ready.steady;
            told = gone.1;
            fits-title = omega (arith, counted, offset, both, ready.fits-title);
            fits-chunk = omega (arith, counted, offset, both, ready.fits-chunk);
          };
        }

    -- If a fault consumes nothing, no byte was left.
    pub no_byte : (ahead : List ℕ) (between new : Decoder R)
        → MeetsItemFault source (spelling_of old) depth ahead Short between new
        → new.offset ≡ between.offset → (ahead ≡ []) × (view source new ≡ Some [])
    no_byte ahead between new meets still = grind (arith, nat_tests, nothing, due_first, fault_first, ahead, drop-nil)

    -- If no byte is left, the item is short, and nothing is consumed.
    no_bytes : (ahead : List ℕ) (answer : Answer) (between new : Decoder R)
        → MeetsItemFault source (spelling_of old) depth ahead answer between new
        → ahead ≡ [] → (answer ≡ Short) × (new.offset ≡ between.offset)
    no_bytes ahead answer between new meets none =
        let fault = meets.fault in
        let counted = ap length (sym fault.is ∙ none) in
        let both = length-append fault.before fault.ahead in
        let first = nothing fault.before (omega (arith, counted, both)) in
        let last = nothing fault.ahead (omega (arith, counted, both)) in
        let at = due_first (spelling_of old) depth fault.before fault.point fault.reach first in
        let short =
        first_fault (spelling_of old) fault.before fault.point fault.ahead fault.answer fault.written fault.consumed
        fault.fault at last
        in
        let begins = ap length first in
        (sym meets.answered ∙ short.0, omega (arith, meets.offset, short.1, begins))

    -- If no byte is left, the read of an item fails at the end.
    ends_there : (ahead : List ℕ) (between new : Decoder R) (error : SkipError E)
        → SkipsTold source (spelling_of old) depth ahead between (Err error) new
        → ahead ≡ [] → IsEnd error between.offset new.offset
    ends_there ahead between new (s.Break at) met none =
        let counted = ap length (sym met.fault.is ∙ none) in
        absurd (omega (arith, counted, length-append met.fault.before (0xff ∷ met.fault.rest)))
    ends_there ahead between new (s.Deep at) met none =
        let fault = met.fault in
        let counted = ap length (sym fault.is ∙ none) in
        absurd (omega (
          arith,
          counted,
          length-append fault.before (fault.title ++ fault.rest),
          length-append fault.title fault.rest,
          title_some fault.title fault.header fault.is_title,
        ))
    ends_there ahead between new (s.Read (e.Io fault)) met none = (no_bytes ahead Short between new met none).1
    ends_there ahead between new (s.Read (e.Syntax at)) met none =
        let short = (no_bytes ahead (Syntax met.0) between new met.2 none).0 in absurd cc
    ends_there ahead between new (s.Read e.TooLong) met none = absurd met
    ends_there ahead between new (s.Read e.Waiting) met none = absurd met

    -- The items that were read are in the spelling of the decoder's mode.
    pub items_ready : (count : ℕ) (between : Decoder R) (reads : ReadsItems source depth count old between)
        → AreItems (spelling_of old) depth count reads.bytes
    items_ready count between reads = grind (arith, nat_tests, ready_mode)

    -- The read of an item after some items meets the bytes that follow them.
    pub met_behind : (count : ℕ) (between : Decoder R) (reads : ReadsItems source depth count old between)
        (result : Result (Unit {0}) (SkipError E)) (new : Decoder R) → SkipsItem source depth room between result new
        → SkipsTold source (spelling_of old) depth (behind count between reads).ahead between result new
    met_behind count between reads result new skips =
        let c = behind count between reads in
        subst (λ (b : Spelling). SkipsTold source b depth c.ahead between result new) reads.passed.mode
        (skip_told source depth room between c.ahead c.still_ready new result skips)

    pub check_told : (new : Decoder R) (result : Result (Sequence E) (Stopped E))
        → ChecksItems source depth room old result new
        → ChecksTold source depth due old result new
    check_told new (Ok sequence) finds =
        let c = behind sequence.items finds.between finds.reads in
        let met = met_behind sequence.items finds.between finds.reads (Err (s.Read (e.Io sequence.«end»))) new
        finds.fails in
        let none = no_byte c.ahead finds.between new met finds.still in
        let all = c.parts ∙ (ap (λ (z : List ℕ). finds.reads.bytes ++ z) none.0 ∙ append-nil finds.reads.bytes) in
        let counted = ap length all in
        record {
          are_items = subst (λ (z : List ℕ). AreItems (spelling_of old) depth sequence.items z) (sym all)
              (items_ready sequence.items finds.between finds.reads);
          counted = finds.counted ∙ sym counted;
          left = none.1;
          offset = omega (arith, finds.still, finds.reads.passed.offset, counted);
        }
    check_told new (Err stopped) finds =
        let c = behind stopped.items finds.between finds.reads in
        let met = met_behind stopped.items finds.between finds.reads (Err stopped.error) new finds.fails in
        let exactly = skip_exactly source depth room finds.between c.ahead c.still_ready new (Err stopped.error)
        finds.fails in
        record {
          before = finds.reads.bytes;
          ahead = c.ahead;
          are_items = items_ready stopped.items finds.between finds.reads;
          is = c.parts;
          place = finds.place ∙ finds.reads.passed.offset;
          no_item = λ front. (let ok = exactly.1 (subst (λ (b : Spelling). BeginsWithItem b depth c.ahead)
              (sym finds.reads.passed.mode) front) in absurd cc);
          no_end = λ none. finds.no_end (ends_there c.ahead finds.between new stopped.error met none);
          between = finds.between;
          at = sym finds.place;
          met = met;
        }

    exactly_told : (new : Decoder R) (result : Result (Sequence E) (Stopped E))
        → ChecksTold source depth due old result new
        → IsOk result ↔ IsSequence (spelling_of old) depth due
    exactly_told new (Ok sequence) told = (λ ok. (sequence.items, told.are_items), λ is. refl)
    exactly_told new (Err stopped) told = (
      λ ok. absurd cc,
      λ is.
          elim (rows_meet (spelling_of old) depth stopped.items told.before told.are_items is.0 due is.1 told.ahead
          told.is) [
            | inl comes ↦ absurd (told.no_item comes)
            | inr ends ↦ absurd (told.no_end ends.1)
          ],
    )

    pub check_exactly : (new : Decoder R) (result : Result (Sequence E) (Stopped E))
        → ChecksItems source depth room old result new
        → IsOk result ↔ IsSequence (spelling_of old) depth due
    check_exactly new result checks = exactly_told new result (check_told new result checks)

    number_told : (count : ℕ) → AreItems (spelling_of old) depth count due → (new : Decoder R)
        (result : Result (Sequence E) (Stopped E))
        → ChecksTold source depth due old result new
        → IfOk result (λ sequence. sequence.items ≡ count)
    number_told count items new (Ok sequence) told =
        elim (rows_meet (spelling_of old) depth sequence.items due told.are_items count due items []
        (sym (append-nil due))) [
          | inl comes ↦ (
              let counted = ap length comes.is in
              let some = items_counted (spelling_of old) depth 1 comes.item comes.is_item in
              absurd (omega (arith, counted, some, length-append comes.item comes.rest))
              )
          | inr ends ↦ sym ends.0
        ]
    number_told count items new (Err stopped) told = tt

    pub check_number : (count : ℕ) → AreItems (spelling_of old) depth count due → (new : Decoder R)
        (result : Result (Sequence E) (Stopped E))
        → ChecksItems source depth room old result new
        → IfOk result (λ sequence. sequence.items ≡ count)
    check_number count items new result checks = number_told count items new result (check_told new result checks)
