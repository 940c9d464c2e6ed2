-- The meaning of a check's verdict for an input whose bytes are told.
use Rattle.std.proofs.Common.{◌≡◌, ℕ, Bool, true, false, List, ◌++◌, length, Option, None, Some, Result, Ok, Err}
use Rattle.std.proofs.Common.{IfSome, append_assoc, ap, arith, inl, inr, refl, sym, ◌∙◌}
use Rattle.std.specs.Io.KnownBytes.{Consumes}
use Rattle.ciborium_ll_grammar.specs.declared.spelling.Spelling.{Spelling}
use Rattle.ciborium_ll.specs.Types.BufferedReader.{BufferedReader}
use Rattle.ciborium_ll.specs.Types.Decoder.{Decoder}
use Rattle.ciborium_ll.specs.Types.Read.{Ghosts}
use Rattle.ciborium_ll.specs.Types.ReadFault.{ReadFault}
use Rattle.ciborium_ll.specs.Types.ReadFault.TheVariants as r
use Rattle.ciborium_ll.specs.Decoding.{IsFreshAs, ReadsPast, spelling_of, view}
use Rattle.ciborium_ll.specs.Items.{AreItems}
use Rattle.cbor_skip.specs.declared.SkipError.{SkipError}
use Rattle.cbor_skip.specs.Skipping.{allowed_by}
use Rattle.cbor_skip.proofs.StrictnessLaws.{items_looser, passed_keeps, strict_settled}
use Rattle.cbor_dump.specs.declared.sequence.Sequence.{Sequence}
use Rattle.cbor_dump.specs.declared.sequence.Stopped.{Stopped}
use Rattle.cbor_dump.specs.declared.single.NotOne.{NotOne}
use Rattle.cbor_dump.specs.declared.single.NotOne.TheVariants as n
use Rattle.cbor_dump.specs.Sequences.{ChecksItems, ReadsItems}
use Rattle.cbor_dump.specs.Singles.{ChecksOne}
use Rattle.tool_verdicts.specs.Checking.{fault_said, sequence_said, single_said}
use Rattle.tool_verdicts.specs.Checking.{unless_failed}
use Rattle.tool_verdicts.specs.Parts.{EndsSome, IsAtMost, IsBelow, PassesOver, SaysPart, SaysRest, enough}
use Rattle.tool_verdicts.specs.Parts.{few, rest, stops}
use Rattle.tool_verdicts.specs.declared.verdict.Verdict.{Verdict}
use Rattle.tool_verdicts.specs.declared.verdict.Verdict.TheVariants as v
use Rattle.tool_files.specs.Inputs.{CountsItems, IsFront, IsFrontBehind}

-- Told bytes begin with the consumed bytes.
consumes_front : (bytes front : List ℕ) (after : Option (List ℕ)) → Consumes (Some bytes) after front
    → IsFront front bytes
consumes_front bytes front None consumed = absurd consumed
consumes_front bytes front (Some others) consumed = (others, consumed)

-- The bytes after the consumed bytes are told.
pub consumed_rest : (bytes front : List ℕ) (after : Option (List ℕ)) → Consumes (Some bytes) after front
    → (rest : List ℕ) × (after ≡ Some rest) × (bytes ≡ front ++ rest)
consumed_rest bytes front None consumed = absurd consumed
consumed_rest bytes front (Some others) consumed = (others, refl, consumed)

-- A fault has no numbers of items.
fault_counted : {E : Type 0} (skip : ℕ) (most : Option ℕ) (one : Bool) (allowed : Spelling) (depth : ℕ) (bytes : List ℕ)
    (error : SkipError E) (offset : ℕ) → CountsItems skip most one allowed depth bytes (fault_said error offset)
fault_counted skip None true allowed depth bytes error offset = grind arith
fault_counted skip None false allowed depth bytes error offset = grind arith
fault_counted skip (Some most) one allowed depth bytes error offset = grind arith

-- A number below the limit is at most the limit.
below_most : (most : Option ℕ) (count : ℕ) → IsBelow most count → IsAtMost most count
below_most None count below = tt
below_most (Some most) count below = omega (arith, below)

same_most : (most : Option ℕ) (count : ℕ) → most ≡ Some count → IsAtMost most count
same_most None count same = absurd cc
same_most (Some most) count same = grind (arith, same)

module _ {T E : Type 0} (reads : Ghosts (BufferedReader T) E) (allowed : Spelling) (skip depth : ℕ) (bytes : List ℕ)
    (old between new : Decoder (BufferedReader T)) (mode : allowed_by old ≡ allowed) (begins : old.offset ≡ 0)
    (told : view reads old ≡ Some bytes) (passes : PassesOver reads skip depth old between) where
  -- The bytes that are left after the items that were passed over.
  left : (rest : List ℕ) × (view reads between ≡ Some rest) × (bytes ≡ passes.reads.items ++ rest)
  left = consumed_rest bytes passes.reads.items (view reads between) (rw told at passes.reads.passed.consumed)

  behind_of : (front : List ℕ) (after : Decoder (BufferedReader T)) → ReadsPast reads between front after
      → IsFrontBehind skip allowed depth front bytes
  behind_of front after passed =
      let next = consumes_front left.0 front (view reads after) (rw left.1 at passed.consumed) in
      record {
        before = passes.reads.items;
        are_before = rw mode at passes.reads.are_items;
        is = (
          next.0,
          left.2 ∙ ap (λ (z : List ℕ). passes.reads.items ++ z) next.1
              ∙ sym (append_assoc passes.reads.items front next.0),
        );
      }

  -- The items were read in the spelling of the check.
  are_strict : (count : ℕ) (items : List ℕ) → AreItems (allowed_by between) depth count items
      → AreItems allowed depth count items
  are_strict count items are =
      rw mode at (items_looser (allowed_by old) (allowed_by between) (passed_keeps reads passes.reads.passed) depth
      count
      items are)

  items_counted : (answer : Result (Sequence E) (Stopped E)) → ChecksItems reads depth 512 between answer new
      → CountsItems skip None false allowed depth bytes (sequence_said answer new.offset)
  items_counted (Ok sequence) checks = (
    checks.reads.bytes,
    behind_of checks.reads.bytes checks.between checks.reads.passed,
    are_strict sequence.items checks.reads.bytes checks.reads.are_items,
    checks.counted,
    tt,
  )
  items_counted (Err stopped) checks = fault_counted skip None false allowed depth bytes stopped.error new.offset

  one_counted : (answer : Result (Sequence E) (NotOne E)) → ChecksOne reads depth 512 between answer new
      → CountsItems skip None true allowed depth bytes (single_said answer new.offset)
  unfolding behind_of
  one_counted (Ok sequence) checks = (
    checks.reads.item,
    behind_of checks.reads.item checks.between checks.reads.passed,
    are_strict 1 checks.reads.item checks.reads.is_item,
    checks.one,
    checks.counted,
  )
  one_counted (Err (n.Item error)) checks = fault_counted skip None true allowed depth bytes error new.offset
  one_counted (Err (n.More place next)) checks = (
    checks.reads.item,
    behind_of checks.reads.item checks.between checks.reads.passed,
    are_strict 1 checks.reads.item checks.reads.is_item,
    omega (arith, checks.place, checks.reads.passed.offset, passes.reads.passed.offset, begins),
  )

  well_counted : (most : ℕ) (one : Bool) (count : ℕ) (after : Decoder (BufferedReader T))
      (items : ReadsItems reads depth count between after) → IsAtMost (Some most) count
      → CountsItems skip (Some most) one allowed depth bytes (v.Well count (length items.bytes))
  well_counted most one count after items less = (
    items.bytes,
    behind_of items.bytes after items.passed,
    are_strict count items.bytes items.are_items,
    refl,
    less,
  )

  some_counted : (most : ℕ) (one : Bool) (found : Verdict) (count : ℕ) (after : Decoder (BufferedReader T))
      (items : ReadsItems reads depth count between after)
      → EndsSome reads depth 512 (Some most) count (length items.bytes) after found new
      → CountsItems skip (Some most) one allowed depth bytes found
  some_counted most one found count after items (enough is same said) =
      rw said (well_counted most one count after items (same_most (Some most) count is))
  some_counted most one found count after items (stops error below fails (inl there)) =
      rw there.1 (well_counted most one count after items (below_most (Some most) count below))
  some_counted most one found count after items (stops error below fails (inr named)) =
      rw named.1 (fault_counted skip (Some most) one allowed depth bytes error new.offset)

  rest_counted : (most : Option ℕ) (one : Bool) (found : Verdict)
      → SaysRest reads most one depth 512 between found new → CountsItems skip most one allowed depth bytes found
  rest_counted None true found says = rw says.said (one_counted says.answer says.checks)
  rest_counted None false found says = rw says.said (items_counted says.answer says.checks)
  rest_counted (Some most) one found says = some_counted most one found says.count says.between says.reads says.ends

module _ {T E : Type 0} (reads : Ghosts (BufferedReader T) E) (allowed : Spelling) (skip depth : ℕ) (bytes : List ℕ)
    (old new : Decoder (BufferedReader T)) (mode : allowed_by old ≡ allowed) (begins : old.offset ≡ 0)
    (told : view reads old ≡ Some bytes) where
  found_counted : (most : Option ℕ) (one : Bool) (found : Verdict)
      → SaysPart reads skip most one depth 512 old found new → CountsItems skip most one allowed depth bytes found
  found_counted most one found (few error stopped said) =
      rw said (fault_counted skip most one allowed depth bytes error new.offset)
  found_counted most one found (rest between passes says) =
      rest_counted reads allowed skip depth bytes old between new mode begins told passes most one found says

-- A failed read leaves the numbers of the verdict, or has none.
unless_counted : (skip : ℕ) (most : Option ℕ) (one : Bool) (allowed : Spelling) (depth : ℕ) (bytes : List ℕ)
    (fault : Option ReadFault) (found : Verdict) → CountsItems skip most one allowed depth bytes found
    → CountsItems skip most one allowed depth bytes (unless_failed fault found)
unless_counted skip most one allowed depth bytes None found counted = counted
unless_counted skip most one allowed depth bytes (Some r.End) found counted = counted
unless_counted skip None true allowed depth bytes (Some (r.Failed error)) found counted = tt
unless_counted skip None false allowed depth bytes (Some (r.Failed error)) found counted = tt
unless_counted skip (Some most) one allowed depth bytes (Some (r.Failed error)) found counted = tt

-- The verdict of a check from the start counts items of the told bytes.
pub verdict_counted : {T E : Type 0} (reads : Ghosts (BufferedReader T) E) (allowed : Spelling) (skip : ℕ)
    (most : Option ℕ) (one : Bool) (depth : ℕ) (known : Option (List ℕ)) (start : BufferedReader T)
    (old new : Decoder (BufferedReader T)) (found verdict : Verdict) (fault : Option ReadFault)
    → IsFreshAs allowed start 0 old → reads.ahead start ≡ known → SaysPart reads skip most one depth 512 old found new
    → verdict ≡ unless_failed fault found
    → IfSome known (λ bytes. CountsItems skip most one allowed depth bytes verdict)
verdict_counted reads allowed skip most one depth None start old new found verdict fault fresh ahead says said = tt
verdict_counted reads allowed skip most one depth (Some bytes) start old new found verdict fault fresh ahead says said =
    let mode : allowed_by old ≡ allowed = strict_settled old.waiting (spelling_of old) fresh.none_waits ∙ fresh.mode in
    let told : view reads old ≡ Some bytes = rw (fresh.none_waits, fresh.reader) ahead in
    rw said (unless_counted skip most one allowed depth bytes fault found
    (found_counted reads allowed skip depth bytes old new mode fresh.offset told most one found says))
