-- Parts of a sequence of items: the places of items, and the verdicts on bytes that are told.
use Rattle.std.proofs.lemmas.Bool.Decides.{nat_tests}
use Rattle.std.proofs.Common.{◌≡◌, ℕ, ◌+◌, ◌-◌, Bool, List, [], ◌∷◌, ◌++◌, length, Option, Some, None, Result, Ok}
use Rattle.std.proofs.Common.{Err, append-nil, append_assoc}
use Rattle.std.proofs.Common.{inl, inr, sym, ap, subst, ◌∙◌, arith, length-append}
use Rattle.ciborium_ll.specs.Types.Spelling.{Spelling}
use Rattle.ciborium_ll.specs.Types.Read.{Ghosts}
use Rattle.ciborium_ll.specs.Types.Decoder.{Decoder}
use Rattle.ciborium_ll.specs.Types.Error.TheVariants as e
use Rattle.ciborium_ll.specs.Items.{AreItems, no_items}
use Rattle.ciborium_ll.proofs.DecodingLaws.{ReadsPast-none, ReadsPast-then}
use Rattle.cbor_skip.specs.declared.SkipError.{SkipError}
use Rattle.cbor_skip.specs.declared.SkipError.TheVariants as s
use Rattle.cbor_skip.specs.Skipping.{ReadsCounted, ReadsItem, allowed_by}
use Rattle.ciborium_ll.specs.Premises.{CanRead}
use Rattle.cbor_skip.specs.SkippingTold.{SkipsTold}
use Rattle.cbor_skip.proofs.ItemSteps.{items_item}
use Rattle.cbor_skip.proofs.StrictnessLaws.{items_looser, passed_keeps}
use Rattle.cbor_dump.specs.Counted.{SkipsFewItems}
use Rattle.cbor_dump.specs.Sequences.{IsEnd, ReadsItems}
use Rattle.cbor_dump.proofs.SequenceLaws.{behind, items_ready, met_behind, no_byte}
use Rattle.ciborium_ll.specs.Decoding.{spelling_of}
use Rattle.tool_verdicts.specs.Checking.{StopsAsNamed, StopsBehind, fault_said}
use Rattle.tool_verdicts.specs.Parts.{AddsSpans, AreSpans, EndsAt, EndsSome, FindsSome, IndexesAll, IndexesItems, IsAtMost, IsBelow, ReadsSpans, SaysSome, ended}
use Rattle.tool_verdicts.specs.Parts.{FindsPart, FindsRest, enough, faulty, found, found_rest, more_spans, no_spans, stops}
use Rattle.tool_verdicts.specs.declared.part.Span.{Span}
use Rattle.tool_verdicts.specs.declared.verdict.Verdict.{Verdict}
use Rattle.tool_verdicts.proofs.FoundLaws.{fault_met}

-- A number that is at most the limit, and another one, is below it.
pub below_by : (most : Option ℕ) (count : ℕ) → (most ≡ Some count → ⊥) → IsAtMost most count → IsBelow most count
below_by None count other few = tt
below_by (Some most) count other few = grind (arith, nat_tests, other, few)

-- One more item than a number below the limit is at most the limit.
pub up_to : (most : Option ℕ) (count : ℕ) → IsBelow most count → IsAtMost most (count + 1)
up_to None count below = tt
up_to (Some most) count below = omega (arith, below)

-- No item is at most any limit.
pub least_of : (most : Option ℕ) → IsAtMost most 0
least_of None = tt
least_of (Some most) = omega arith

-- Bytes with places are as many items.
spans_items : (allowed : Spelling) (depth start : ℕ) (spans : List Span) (bytes : List ℕ)
    → AreSpans allowed depth start spans bytes → AreItems allowed depth (length spans) bytes
spans_items allowed depth start spans bytes no_spans = no_items
spans_items allowed depth start spans bytes (more_spans {spans = front} {bytes = before} {item = item} span are is at
    len) =
    subst (λ (n : ℕ). AreItems allowed depth n (before ++ item)) (omega (arith, length-append front (span ∷ [])))
    (items_item allowed depth (length front) before item (spans_items allowed depth start front before are) is)

module _ {R E : Type 0} (source : Ghosts R E) where
  pub spans_none : (depth : ℕ) (old : Decoder R) → ReadsSpans source depth old [] old
  spans_none depth old = record { bytes = []; are = no_spans; passed = ReadsPast-none source old }

  -- The place of one more item.
  pub spans_one_more : (depth : ℕ) (old now new : Decoder R) (spans : List Span) (span : Span)
      → ReadsSpans source depth old spans now → ReadsItem source depth now new → span.offset ≡ now.offset
      → span.len ≡ new.offset - now.offset → ReadsSpans source depth old (spans ++ span ∷ []) new
  spans_one_more depth old now new spans span so_far item at len = record {
    bytes = so_far.bytes ++ item.item;
    are = more_spans span so_far.are
        (items_looser (allowed_by old) (allowed_by now) (passed_keeps source so_far.passed) depth 1 item.item
        item.is_item)
        (at ∙ so_far.passed.offset) (omega (arith, len, item.passed.offset));
    passed = ReadsPast-then source old now new so_far.bytes item.item so_far.passed item.passed;
  }

  -- Items with places were read.
  pub read_items : (depth : ℕ) (old new : Decoder R) (spans : List Span) → ReadsSpans source depth old spans new
      → ReadsItems source depth (length spans) old new
  read_items depth old new spans reads = record {
    bytes = reads.bytes;
    are_items = spans_items (allowed_by old) depth old.offset spans reads.bytes reads.are;
    passed = reads.passed;
  }

  -- An index says what a check of some items says.
  pub some_said : (depth room : ℕ) (most : Option ℕ) (taken then_taken : Option (List Span)) (old new : Decoder R)
      (verdict : Verdict) → IndexesAll source most depth room taken then_taken old verdict new
      → SaysSome source depth room most old verdict new
  some_said depth room most taken then_taken old new verdict all = record {
    count = length all.spans;
    between = all.between;
    reads = record {
      bytes = all.reads.bytes;
      are_items = spans_items (allowed_by old) depth old.offset all.spans all.reads.bytes all.reads.are;
      passed = all.reads.passed;
    };
    ends = all.ends;
  }

  -- ---- the bytes are told

  module _ (depth room : ℕ) (old : Decoder R) (due : List ℕ) (ready : CanRead source room old due) where
    -- The end of the read consumed nothing, so no byte was left.
    at_end : (ahead : List ℕ) (between new : Decoder R) (error : SkipError E)
        → SkipsTold source (spelling_of old) depth ahead between (Err error) new → IsEnd error between.offset new.offset
        → ahead ≡ []
    at_end ahead between new (s.Break at) met still = absurd still
    at_end ahead between new (s.Deep at) met still = absurd still
    at_end ahead between new (s.Read (e.Io fault)) met still =
        (no_byte source depth room old due ready ahead between new met still).0
    at_end ahead between new (s.Read (e.Syntax at)) met still = absurd still
    at_end ahead between new (s.Read e.TooLong) met still = absurd still
    at_end ahead between new (s.Read e.Waiting) met still = absurd still

    ends_found : (most : Option ℕ) (count : ℕ) (between new : Decoder R) (verdict : Verdict)
        (reads : ReadsItems source depth count old between)
        → EndsSome source depth room most count (length reads.bytes) between verdict new
        → FindsSome (spelling_of old) depth most due old.offset verdict
    ends_found most count between new verdict reads (enough is same said) =
        let c = behind source depth room old due ready count between reads in
        record {
          count = count;
          before = reads.bytes;
          ahead = c.ahead;
          are_items = items_ready source depth room old due ready count between reads;
          is = c.parts;
          ends = found is said;
        }
    ends_found most count between new verdict reads (stops error below fails (inl there)) =
        let c = behind source depth room old due ready count between reads in
        let met = met_behind source depth room old due ready count between reads (Err error) new fails in
        record {
          count = count;
          before = reads.bytes;
          ahead = c.ahead;
          are_items = items_ready source depth room old due ready count between reads;
          is = c.parts;
          ends = ended below (at_end c.ahead between new error met there.0) there.1;
        }
    ends_found most count between new verdict reads (stops error below fails (inr named)) =
        let c = behind source depth room old due ready count between reads in
        let met = met_behind source depth room old due ready count between reads (Err error) new fails in
        record {
          count = count;
          before = reads.bytes;
          ahead = c.ahead;
          are_items = items_ready source depth room old due ready count between reads;
          is = c.parts;
          ends = faulty below (subst (λ (z : Verdict). StopsAsNamed (spelling_of old) depth c.ahead
              (old.offset + length reads.bytes) z) (sym named.1)
              (fault_met source (spelling_of old) depth c.ahead between new (old.offset + length reads.bytes) error met
              reads.passed.offset));
        }

    pub some_found : (most : Option ℕ) (verdict : Verdict) (new : Decoder R)
        → SaysSome source depth room most old verdict new
        → FindsSome (spelling_of old) depth most due old.offset verdict
    some_found most verdict new says = ends_found most says.count says.between new verdict says.reads says.ends

  -- The items before the fault are fewer than those that are passed over.
  pub few_found : (depth skip : ℕ) (due : List ℕ) (old new : Decoder R) (error : SkipError E)
      (few : SkipsFewItems source skip depth due old error new)
      → StopsBehind (spelling_of old) depth few.few due old.offset (fault_said error new.offset)
  few_found depth skip due old new error few = record {
    before = few.before;
    ahead = few.ahead;
    are_items = few.are_items;
    is = few.is;
    stops =
        fault_met source (spelling_of old) depth few.ahead few.between new (old.offset + length few.before) error
        few.met few.at;
  }

  -- The items that are passed over were read.
  pub counted_items : (depth count : ℕ) (old new : Decoder R) → ReadsCounted source count depth old new
      → ReadsItems source depth count old new
  counted_items depth count old new counts = record {
    bytes = counts.items;
    are_items = counts.are_items;
    passed = counts.passed;
  }

-- No places are added.
pub adds_none : (taken : Option (List Span)) → AddsSpans taken taken []
adds_none None = tt
adds_none (Some spans) = sym (append-nil spans)

-- Places are added after others.
pub adds_more : (taken now new : Option (List Span)) (spans more : List Span) → AddsSpans taken now spans
    → AddsSpans now new more → AddsSpans taken new (spans ++ more)
adds_more None now new spans more first second = tt
adds_more (Some old) None new spans more first second = absurd first
adds_more (Some old) (Some mid) None spans more first second = absurd second
adds_more (Some old) (Some mid) (Some new) spans more first second =
    second ∙ ap (λ (z : List Span). z ++ more) first ∙ append_assoc old spans more

-- The same end of a read, by other names of its numbers.
pub ends_same : {E : Type 0} (error : SkipError E) (count count' bytes bytes' place place' stop stop' : ℕ)
    (verdict : Verdict) → EndsAt error count bytes place stop verdict → count ≡ count' → bytes ≡ bytes'
    → place ≡ place' → stop ≡ stop' → EndsAt error count' bytes' place' stop' verdict
ends_same error count count' bytes bytes' place place' stop stop' verdict ends a b c d = rw (a, b, c, d) at ends

-- A result of an index over items whose verdict is told.
pub index_said : {R E F : Type 0} (source : Ghosts R E) (depth room : ℕ) (most : Option ℕ)
    (taken then_taken : Option (List Span)) (old new : Decoder R) (result : Result Verdict F) (verdict : Verdict)
    → result ≡ Ok verdict → IndexesItems source most depth room taken then_taken old result new
    → SaysSome source depth room most old verdict new
index_said source depth room most taken then_taken old new result verdict is indexes =
    some_said source depth room most taken then_taken old new verdict
    (subst (λ (z : Result Verdict _). IndexesItems source most depth room taken then_taken old z new) is indexes)

-- After the items that are passed over, the verdict is that on the bytes that follow them.
pub rest_found : {R E : Type 0} (source : Ghosts R E) (skip : ℕ) (most : Option ℕ) (one : Bool) (depth room : ℕ)
    (old between : Decoder R) (due : List ℕ) → CanRead source room old due
    → ReadsCounted source skip depth old between → (verdict : Verdict)
    → ((ahead : List ℕ) → CanRead source room between ahead
    → FindsRest most one (spelling_of between) depth ahead between.offset verdict)
    → FindsPart skip most one (spelling_of old) depth due old.offset verdict
unfolding counted_items
rest_found source skip most one depth room old between due ready counts verdict finds =
    let reads = counted_items source depth skip old between counts in
    let c = behind source depth room old due ready skip between reads in
    found_rest counts.items c.ahead (items_ready source depth room old due ready skip between reads) c.parts
    (subst (λ (n : ℕ). FindsRest most one (spelling_of old) depth c.ahead n verdict) counts.passed.offset
    (subst (λ (b : Spelling). FindsRest most one b depth c.ahead between.offset verdict) counts.passed.mode
    (finds c.ahead c.still_ready)))
