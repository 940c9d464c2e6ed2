-- The reads of `check_one`: an item, and the bytes that follow it.
use Rattle.std.proofs.lemmas.Bool.Decides.{nat_tests}
use Rattle.std.proofs.Common.{◌≡◌, ℕ, ◌+◌, false, List, [], ◌++◌, length, Some, Result, Ok, Err}
use Rattle.std.proofs.Common.{IsOk, ◌↔◌, refl, sym, ap, subst, ◌∙◌, arith, append-nil, length-append}
use Rattle.std.proofs.lemmas.List.{length-take}
use Rattle.ciborium_ll_grammar.specs.declared.spelling.Spelling.{Spelling}
use Rattle.ciborium_ll.specs.Types.Read.{Ghosts}
use Rattle.ciborium_ll.specs.Types.Header.{Header}
use Rattle.ciborium_ll.specs.Types.Decoder.{Decoder}
use Rattle.ciborium_ll.specs.Types.Error.{Error}
use Rattle.ciborium_ll.specs.Types.Error.TheVariants as e
use Rattle.ciborium_ll.specs.Items.{AreItems, IsItem}
use Rattle.ciborium_ll.specs.Decoding.{failures_of, view, DecoderPullAnswer, spelling_of}
use Rattle.ciborium_ll.proofs.CopyingTold.{consumes_told, next_read_small}
use Rattle.ciborium_ll.proofs.ItemLaws.{one_item}
use Rattle.ciborium_ll.proofs.NestLaws.{title_some}
use Rattle.cbor_skip.specs.Skipping.{ReadsItem, allowed_by}
use Rattle.ciborium_ll.specs.Premises.{CanRead}
use Rattle.cbor_skip.proofs.FailureLaws.{pull_fails, stop_fails}
use Rattle.cbor_skip.proofs.SkippingToldLaws.{ready_mode, skip_told, skip_exactly}
use Rattle.cbor_dump.specs.declared.sequence.Sequence.{Sequence}
use Rattle.cbor_dump.specs.declared.single.NotOne.{NotOne}
use Rattle.cbor_dump.specs.declared.single.NotOne.TheVariants as n
use Rattle.cbor_dump.specs.Singles.{EndsOne, ChecksOne, ChecksOneTold, CountsOne}
use Rattle.cbor_dump.proofs.ItemRows.{nothing}

module _ {R E : Type 0} (source : Ghosts R E) where
  -- The pull after an item answers as `check_one` does.
  pub ends_one : (depth room start place stop : ℕ) (old between new : Decoder R) (pulled : Result Header (Error E))
      (result : Result (Sequence E) (NotOne E)) → ReadsItem source depth old between
      → DecoderPullAnswer source between pulled new → EndsOne pulled start place stop result
      → start ≡ old.offset → place ≡ between.offset → stop ≡ new.offset
      → ChecksOne source depth room old result new
  ends_one depth room start place stop old between new pulled (Ok sequence) reads pulls is from here there = record {
    between = between;
    reads = reads;
    one = is.2;
    counted = omega (arith, is.3, from, here, reads.passed.offset);
    fails = subst (λ (x : Result Header (Error E)). DecoderPullAnswer source between x new) is.0 pulls;
    still = sym there ∙ (is.1 ∙ here);
  }
  ends_one depth room start place stop old between new pulled (Err (n.Item error)) reads pulls is from here there =
      absurd is
  ends_one depth room start place stop old between new pulled (Err (n.More at next)) reads pulls is from here there =
      record {
        between = between;
        reads = reads;
        place = is.0 ∙ here;
        pulls = subst (λ (x : Result Header (Error E)). DecoderPullAnswer source between x new) (sym is.1) pulls;
        no_end = λ fault fails still. is.2 fault (sym is.1 ∙ fails) (there ∙ (still ∙ sym here));
      }

  -- The reader fails as often as the answer of `check_one` says.
  more_failures : (old between new : Decoder R) (at : ℕ) (next : Result Header (Error E))
      → failures_of source between ≡ failures_of source old → DecoderPullAnswer source between next new
      → CountsOne {E = E} (Err (n.More at next)) (failures_of source old) (failures_of source new)
  more_failures old between new at next same pulls = grind (arith, pull_fails)

  pub one_failures : (depth room : ℕ) (old new : Decoder R) (result : Result (Sequence E) (NotOne E))
      → ChecksOne source depth room old result new
      → CountsOne result (failures_of source old) (failures_of source new)
  one_failures depth room old new (Ok sequence) finds =
      finds.fails.failures ∙ ap (λ (n : ℕ). n + 1) finds.reads.passed.failures
  one_failures depth room old new (Err (n.Item error)) stops = stop_fails source false depth room error old new stops
  one_failures depth room old new (Err (n.More at next)) finds =
      more_failures old finds.between new at next finds.reads.passed.failures finds.pulls

  module _ (depth room : ℕ) (old : Decoder R) (due : List ℕ) (ready : CanRead source room old due) where
    -- If no byte is left, the pull finds the end.
    end_found : (between new : Decoder R) (pulled : Result Header (Error E)) → DecoderPullAnswer source between pulled new
        → view source between ≡ Some [] → spelling_of between ≡ spelling_of old
        → between.offset ≡ old.offset + length due
        → (fault : E) × (pulled ≡ Err (e.Io fault)) × (new.offset ≡ between.offset)
    end_found between new pulled p q r s =
        grind (arith, nat_tests, consumes_told, title_some, length-append, next_read_small)

    -- The item that was read is in the spelling of the decoder's mode.
    item_ready : (item : List ℕ) → IsItem (allowed_by old) depth item → IsItem (spelling_of old) depth item
    item_ready item i =
        subst (λ (b : Spelling). IsItem b depth item) (ready_mode source depth room old due ready) i

    pub one_told : (new : Decoder R) (result : Result (Sequence E) (NotOne E)) → ChecksOne source depth room old result
        new
        → ChecksOneTold source depth due old result new
    one_told new (Ok sequence) finds =
        let passed = finds.reads.passed in
        let gone = consumes_told _ _ due finds.reads.item ready.told passed.consumed in
        let cut = finds.fails.steady (passed.steady ready.steady) in
        let left = consumes_told _ _ gone.0 finds.fails.read gone.1 cut.0 in
        let none : finds.fails.read ≡ [] = nothing finds.fails.read (omega (arith, finds.fails.offset, finds.still)) in
        let first = rw gone.1 at cut.1 in
        let short = ap length (sym first.1 ∙ none) in
        let rest : gone.0 ≡ [] = nothing gone.0 (omega (arith, short, length-take 1 gone.0)) in
        let counted = ap length (sym left.2 ∙ rest) in
        let last : left.0 ≡ [] =
        nothing left.0 (omega (arith, counted, length-append finds.fails.read left.0)) in
        let all : due ≡ finds.reads.item =
        gone.2 ∙ (ap (λ (z : List ℕ). finds.reads.item ++ z) rest ∙ append-nil finds.reads.item) in (
          finds.one,
          record {
            are_items = subst (λ (n : ℕ). AreItems (spelling_of old) depth n due) (sym finds.one)
                (subst (λ (z : List ℕ). IsItem (spelling_of old) depth z) (sym all)
                (item_ready finds.reads.item finds.reads.is_item));
            counted = finds.counted ∙ sym (ap length all);
            left = left.1 ∙ ap Some last;
            offset = finds.still ∙ (passed.offset ∙ ap (λ (z : List ℕ). old.offset + length z) (sym all));
          },
        )
    one_told new (Err (n.Item error)) skips = skip_told source depth room old due ready new (Err error) skips
    one_told new (Err (n.More at next)) finds =
        let passed = finds.reads.passed in
        let gone = consumes_told _ _ due finds.reads.item ready.told passed.consumed in
        record {
          front = record { item = finds.reads.item; rest = gone.0; is_item = item_ready finds.reads.item finds.reads.is_item; is = gone.2 };
          some = λ none.
              let counted = ap length (gone.2 ∙ (ap (λ (z : List ℕ). finds.reads.item ++ z) none
              ∙ append-nil finds.reads.item)) in
              let found =
              end_found finds.between new next finds.pulls (gone.1 ∙ ap Some none) passed.mode
              (omega (arith, passed.offset, counted)) in
              finds.no_end found.0 found.1 found.2;
          place = finds.place ∙ passed.offset;
        }

    one_exactly_told : (new : Decoder R) (result : Result (Sequence E) (NotOne E))
        → ChecksOne source depth room old result new
        → ChecksOneTold source depth due old result new → IsOk result ↔ IsItem (spelling_of old) depth due
    one_exactly_told new (Ok sequence) checks told =
        (λ ok. subst (λ (n : ℕ). AreItems (spelling_of old) depth n due) told.0 told.1.are_items, λ item. refl)
    one_exactly_told new (Err (n.Item error)) checks told = (
      λ ok. absurd cc,
      λ item. (let ok = (skip_exactly source depth room old due ready new (Err error) checks).1
          (record { item = due; rest = []; is_item = item; is = sym (append-nil due) }) in
          absurd cc),
    )
    one_exactly_told new (Err (n.More at next)) checks told = (
      λ ok. absurd cc,
      λ item. (let front = told.front in
          let o =
          one_item (spelling_of old) (spelling_of old) depth depth due front.item [] front.rest item front.is_item
          (append-nil due ∙ front.is) in
          absurd (told.some (sym o.1))),
    )

    pub one_exactly : (new : Decoder R) (result : Result (Sequence E) (NotOne E))
        → ChecksOne source depth room old result new → IsOk result ↔ IsItem (spelling_of old) depth due
    one_exactly new result checks = one_exactly_told new result checks (one_told new result checks)
