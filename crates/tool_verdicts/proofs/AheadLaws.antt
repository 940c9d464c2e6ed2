-- Verdicts on an input that is read ahead.
use Rattle.std.proofs.Common.{◌≡◌, ℕ, ◌+◌, ◌-◌, ◌≤◌, ◌↔◌, Bool, false, IsTrue, length, Option, Some, None, Result, Ok, Err, unwrap_or}
use Rattle.std.proofs.Common.{refl, ap, ◌∙◌, inl, inr, arith}
use Rattle.ciborium_ll.specs.Types.Read.{Ghosts}
use Rattle.ciborium_ll.specs.Types.Decoder.{Decoder}
use Rattle.ciborium_ll.specs.Types.Error.{Error}
use Rattle.ciborium_ll.specs.Types.Error.TheVariants as e
use Rattle.ciborium_ll.specs.Types.Header.{Header}
use Rattle.ciborium_ll.specs.Decoding.{DecoderPullAnswer}
use Rattle.cbor_skip.specs.declared.SkipError.{SkipError}
use Rattle.cbor_skip.specs.declared.SkipError.TheVariants as s
use Rattle.cbor_skip.specs.Skipping.{ReadsCounted, SkipsCounted, SkipsItem}
use Rattle.cbor_skip.proofs.ItemRuns.{one_item}
use Rattle.cbor_dump.specs.declared.sequence.Sequence.{Sequence}
use Rattle.cbor_dump.specs.declared.single.NotOne.{NotOne}
use Rattle.cbor_dump.specs.declared.single.NotOne.TheVariants as n
use Rattle.cbor_dump.specs.Sequences.{IsEnd, ReadsItems}
use Rattle.cbor_dump.specs.Singles.{EndsOne}
use Rattle.cbor_dump.proofs.SingleLaws.{ends_one}
use Rattle.tool_verdicts.specs.Checking.{SaysItems, SaysOne, fault_said, single_said}
use Rattle.tool_verdicts.specs.Parts.{EndsAt, EndsSome, IsAtMost, IsBelow, SaysSome, enough, stops}
use Rattle.tool_verdicts.proofs.PartLaws.{ends_same}
use Rattle.tool_verdicts.specs.declared.verdict.Verdict.{Verdict}
use Rattle.tool_verdicts.specs.declared.verdict.Verdict.TheVariants as v

module _ {R E : Type 0} (source : Ghosts R E) (depth room : ℕ) (old new : Decoder R) (verdict : Verdict) where
  module _ (count : ℕ) (between : Decoder R) (reads : ReadsItems source depth count old between) where
    -- The verdict at the end of all items.
    ended_all : (error : SkipError E) → IsEnd error between.offset new.offset
        → SkipsItem source depth room between (Err error) new → verdict ≡ v.Well count (length reads.bytes)
        → SaysItems source depth room old verdict new
    ended_all (s.Break at) is fails said = absurd is
    ended_all (s.Deep at) is fails said = absurd is
    ended_all (s.Read (e.Io fault)) is fails said = record {
      answer = Ok (record { items = count; bytes = length reads.bytes; «end» = fault });
      checks = record { between = between; reads = reads; counted = refl; fails = fails; still = is };
      said = said;
    }
    ended_all (s.Read (e.Syntax at)) is fails said = absurd is
    ended_all (s.Read e.TooLong) is fails said = absurd is
    ended_all (s.Read e.Waiting) is fails said = absurd is

    all_ended : EndsSome source depth room None count (length reads.bytes) between verdict new
        → SaysItems source depth room old verdict new
    all_ended (enough is same said) = absurd cc
    all_ended (stops error below fails (inl there)) = ended_all error there.0 fails there.1
    all_ended (stops error below fails (inr named)) = record {
      answer = Err (record { items = count; place = between.offset; error = error });
      checks = record { between = between; reads = reads; place = refl; fails = fails; no_end = named.0 };
      said = named.1;
    }

  -- The verdict on at most a number of items is that on all, if there is no limit.
  pub says_all : SaysSome source depth room None old verdict new → SaysItems source depth room old verdict new
  says_all some = all_ended some.count some.between some.reads some.ends

module _ {R E : Type 0} (source : Ghosts R E) (depth room : ℕ) (old new : Decoder R) (verdict : Verdict) where
  -- The verdict after one item, by the pull after it.
  pub says_alone : (start place stop : ℕ) (between : Decoder R) (pulled : Result Header (Error E))
      (answer : Result (Sequence E) (NotOne E)) → ReadsCounted source 1 depth old between
      → DecoderPullAnswer source between pulled new → EndsOne pulled start place stop answer → start ≡ old.offset
      → place ≡ between.offset → stop ≡ new.offset → verdict ≡ single_said answer stop
      → SaysOne source depth room old verdict new
  says_alone start place stop between pulled answer reads pulls is from here there said = record {
    answer = answer;
    checks = ends_one source depth room start place stop old between new pulled answer
        (record { item = reads.items; is_item = reads.are_items; passed = reads.passed }) pulls is from here there;
    said = said ∙ ap (λ (at : ℕ). single_said answer at) there;
  }

  -- The verdict on bytes that do not begin with an item.
  pub says_no_item : (error : SkipError E) (place : ℕ) → SkipsCounted source 1 depth room old (Err error) new
      → place ≡ new.offset → verdict ≡ fault_said error place → SaysOne source depth room old verdict new
  says_no_item error place fails there said = record {
    answer = Err (n.Item error);
    checks = one_item source depth room old (Err error) new fails;
    said = said ∙ ap (λ (at : ℕ). fault_said error at) there;
  }

-- Items that are at most the limit are at most the number that stands for it.
pub within_most : (most : Option ℕ) (all items : ℕ) → items ≤ all → IsAtMost most items → items ≤ unwrap_or most all
within_most None all items within few = within
within_most (Some most) all items within few = few

-- If there is room for some more items, all are at most the limit.
pub more_most : (most : Option ℕ) (all items more : ℕ) → IsAtMost most items → more ≤ unwrap_or most all - items
    → IsAtMost most (items + more)
more_most None all items more few room = tt
more_most (Some most) all items more few room = omega (arith, few, room)

-- A test that does not hold.
pub test_fails : (test : Bool) (P : Type 0) → (IsTrue test ↔ P) → test ≡ false → P → ⊥
test_fails test P same is holds = absurd (cc (same.1 holds, is))

-- The verdict says what the items that were read before its error are.
pub says_stopped : {R E : Type 0} (source : Ghosts R E) (depth room : ℕ) (most : Option ℕ) (old between new : Decoder R)
    (error : SkipError E) (verdict : Verdict) (count bytes place stop : ℕ)
    (reads : ReadsCounted source count depth old between) → IsBelow most count
    → SkipsItem source depth room between (Err error) new → EndsAt error count bytes place stop verdict
    → bytes ≡ length reads.items → place ≡ between.offset → stop ≡ new.offset
    → SaysSome source depth room most old verdict new
says_stopped source depth room most old between new error verdict count bytes place stop reads below fails ends length_is
    at there = record {
      count = count;
      between = between;
      reads = record { bytes = reads.items; are_items = reads.are_items; passed = reads.passed };
      ends = stops error below fails (ends_same error count count bytes (length reads.items) place between.offset stop
          new.offset verdict ends refl length_is at there);
    }

-- The verdict says that enough items were read.
pub says_enough : {R E : Type 0} (source : Ghosts R E) (depth room : ℕ) (most : Option ℕ) (old between new : Decoder R)
    (verdict : Verdict) (count bytes : ℕ) (reads : ReadsCounted source count depth old between) → most ≡ Some count
    → new ≡ between → verdict ≡ v.Well count bytes → bytes ≡ length reads.items
    → SaysSome source depth room most old verdict new
says_enough source depth room most old between new verdict count bytes reads is same said length_is = record {
  count = count;
  between = between;
  reads = record { bytes = reads.items; are_items = reads.are_items; passed = reads.passed };
  ends = enough is same (said ∙ ap (λ (n : ℕ). v.Well count n) length_is);
}
