-- The meaning of the libraries' answers for told bytes, as the program says these answers.
use Rattle.std.proofs.Common.{◌≡◌, ℕ, ◌+◌, List, [], length, None, Result, Ok, Err, refl, subst, ◌∙◌, arith}
use Rattle.std.proofs.Common.{◌↔◌, IsOk, rules}
use Rattle.std.specs.declared.io.Error.{Error}
use Rattle.ciborium_ll.specs.Types.Spelling.{Spelling}
use Rattle.ciborium_ll.specs.Types.Read.{Ghosts}
use Rattle.ciborium_ll.specs.Types.Decoder.{Decoder}
use Rattle.ciborium_ll.specs.Types.Error.TheVariants as e
use Rattle.ciborium_ll.specs.Items.{AreItems, no_items}
use Rattle.cbor_skip.specs.declared.SkipError.{SkipError}
use Rattle.cbor_skip.specs.declared.SkipError.TheVariants as s
use Rattle.cbor_skip.specs.SkippingTold.{SkipsTold}
use Rattle.cbor_dump.specs.declared.sequence.Sequence.{Sequence}
use Rattle.cbor_dump.specs.declared.sequence.Stopped.{Stopped}
use Rattle.cbor_dump.specs.declared.single.NotOne.{NotOne}
use Rattle.cbor_dump.specs.declared.single.NotOne.TheVariants as n
use Rattle.cbor_dump.specs.Sequences.{ChecksTold}
use Rattle.cbor_dump.specs.declared.dump.DumpError.{DumpError}
use Rattle.cbor_dump.specs.declared.dump.DumpError.TheVariants as u
use Rattle.cbor_dump.specs.Checking.{AnswersAs, AnswersTold}
use Rattle.cbor_dump.specs.Singles.{ChecksOneTold}
use Rattle.ciborium_ll.specs.Decoding.{spelling_of}
use Rattle.tool_verdicts.specs.Checking.{fault_said, sequence_said, single_said, FoundWell, StopsAsNamed, StopsBehind}
use Rattle.tool_verdicts.specs.Checking.{FindsAll, FindsBehindRows, FindsOne, dump_said}

-- A named fault after some items is found in a sequence.
fault_found_all : {E : Type 0} (allowed : Spelling) (depth count : ℕ) (due : List ℕ) (start offset : ℕ)
    (error : SkipError E)
    → StopsBehind allowed depth count due start (fault_said error offset)
    → FindsAll allowed depth due start (fault_said error offset)
fault_found_all allowed depth count due start offset (s.Break at) stops = (count, stops)
fault_found_all allowed depth count due start offset (s.Deep at) stops = (count, stops)
fault_found_all allowed depth count due start offset (s.Read (e.Io fault)) stops = (count, stops)
fault_found_all allowed depth count due start offset (s.Read (e.Syntax at)) stops = (count, stops)
fault_found_all allowed depth count due start offset (s.Read e.TooLong) stops = (count, stops)
fault_found_all allowed depth count due start offset (s.Read e.Waiting) stops = (count, stops)

-- A named fault is not a good verdict.
fault_not_well : {E : Type 0} (error : SkipError E) (offset : ℕ) → FoundWell (fault_said error offset) → ⊥
fault_not_well (s.Break at) offset well = well
fault_not_well (s.Deep at) offset well = well
fault_not_well (s.Read (e.Io fault)) offset well = well
fault_not_well (s.Read (e.Syntax at)) offset well = well
fault_not_well (s.Read e.TooLong) offset well = well
fault_not_well (s.Read e.Waiting) offset well = well

fault_found_one : {E : Type 0} (allowed : Spelling) (depth : ℕ) (due : List ℕ) (start offset : ℕ) (error : SkipError E)
    → StopsBehind allowed depth 0 due start (fault_said error offset)
    → FindsOne allowed depth due start (fault_said error offset)
fault_found_one allowed depth due start offset (s.Break at) stops = stops
fault_found_one allowed depth due start offset (s.Deep at) stops = stops
fault_found_one allowed depth due start offset (s.Read (e.Io fault)) stops = stops
fault_found_one allowed depth due start offset (s.Read (e.Syntax at)) stops = stops
fault_found_one allowed depth due start offset (s.Read e.TooLong) stops = stops
fault_found_one allowed depth due start offset (s.Read e.Waiting) stops = stops

-- A sequence has a good verdict exactly if its check answers `Ok`.
pub sequence_well : {E : Type 0} (answer : Result (Sequence E) (Stopped E)) (offset : ℕ) (P : Type 0)
    → (IsOk answer ↔ P) → (FoundWell (sequence_said answer offset) ↔ P)
sequence_well (Ok sequence) offset P same = (λ well. same.0 refl, λ holds. tt)
sequence_well (Err stopped) offset P same = (
  λ well. absurd (fault_not_well stopped.error offset well),
  λ holds. let none = same.1 holds in absurd (search rules),
)

module _ {R E : Type 0} (source : Ghosts R E) where
  -- The error of an item's skip names the fault that stops its read.
  pub fault_met : (allowed : Spelling) (depth : ℕ) (due : List ℕ) (old new : Decoder R) (start : ℕ)
      (error : SkipError E)
      → SkipsTold source allowed depth due old (Err error) new → old.offset ≡ start
      → StopsAsNamed allowed depth due start (fault_said error new.offset)
  fault_met allowed depth due old new start (s.Break at) met from = (met.fault, omega (arith, met.place, from))
  fault_met allowed depth due old new start (s.Deep at) met from = (met.fault, omega (arith, met.place, from))
  fault_met allowed depth due old new start (s.Read (e.Io fault)) met from =
      (met.fault, met.answered, omega (arith, met.offset, from))
  fault_met allowed depth due old new start (s.Read (e.Syntax at)) met from =
      (met.2.fault, met.0, met.2.answered, omega (arith, met.1, from))
  fault_met allowed depth due old new start (s.Read e.TooLong) met from = absurd met
  fault_met allowed depth due old new start (s.Read e.Waiting) met from = absurd met

  sequence_stops : (depth : ℕ) (due : List ℕ) (old new : Decoder R) (stopped : Stopped E)
      → ChecksTold source depth due old (Err stopped) new
      → StopsBehind (spelling_of old) depth stopped.items due old.offset (fault_said stopped.error new.offset)
  sequence_stops depth due old new stopped told = record {
    before = told.before;
    ahead = told.ahead;
    are_items = told.are_items;
    is = told.is;
    stops =
        fault_met (spelling_of old) depth told.ahead told.between new (old.offset + length told.before) stopped.error
        told.met
        (told.at ∙ told.place);
  }

  pub sequence_found : (depth : ℕ) (due : List ℕ) (old new : Decoder R) (answer : Result (Sequence E) (Stopped E))
      → ChecksTold source depth due old answer new
      → FindsAll (spelling_of old) depth due old.offset (sequence_said answer new.offset)
  sequence_found depth due old new (Ok sequence) told = (told.are_items, told.counted)
  sequence_found depth due old new (Err stopped) told =
      fault_found_all (spelling_of old) depth stopped.items due old.offset new.offset stopped.error
      (sequence_stops depth due old new stopped told)

  -- The verdict of a dump is that of a check with the same answer.
  ends_found : (depth : ℕ) (due : List ℕ) (old new : Decoder R)
      (checked : Result (Sequence E) (Stopped E)) (result : Result E (DumpError E Error)) → AnswersAs checked result
      → ChecksTold source depth due old checked new
      → FindsBehindRows (spelling_of old) depth due old.offset (dump_said result None new.offset)
  ends_found depth due old new (Ok sequence) (Ok fault) answers told = (sequence.items, told.are_items)
  ends_found depth due old new (Err stopped) (Ok fault) answers told = absurd answers
  ends_found depth due old new (Ok sequence) (Err (u.Item error)) answers told = absurd answers
  ends_found depth due old new (Err stopped) (Err (u.Item error)) answers told = (
    stopped.items,
    subst (λ (x : SkipError E). StopsBehind (spelling_of old) depth stopped.items due old.offset
        (fault_said x new.offset))
        answers (sequence_stops depth due old new stopped told),
  )
  ends_found depth due old new (Ok sequence) (Err (u.Rows fault)) answers told = absurd answers
  ends_found depth due old new (Err stopped) (Err (u.Rows fault)) answers told = absurd answers

  pub dump_found : (depth : ℕ) (due : List ℕ) (old new : Decoder R) (result : Result E (DumpError E Error))
      → AnswersTold source depth due old result new
      → FindsBehindRows (spelling_of old) depth due old.offset (dump_said result None new.offset)
  dump_found depth due old new result answers =
      ends_found depth due old new answers.checked result answers.answers answers.told

  pub single_found : (depth : ℕ) (due : List ℕ) (old new : Decoder R) (answer : Result (Sequence E) (NotOne E))
      → ChecksOneTold source depth due old answer new
      → FindsOne (spelling_of old) depth due old.offset (single_said answer new.offset)
  single_found depth due old new (Ok sequence) told =
      (told.0, subst (λ (n : ℕ). AreItems (spelling_of old) depth n due) told.0 told.1.are_items, told.1.counted)
  single_found depth due old new (Err (n.Item error)) told =
      fault_found_one (spelling_of old) depth due old.offset new.offset error (record {
        before = [];
        ahead = due;
        are_items = no_items;
        is = refl;
        stops =
            fault_met (spelling_of old) depth due old new (old.offset + length {A = ℕ} []) error told (omega (arith));
      })
  single_found depth due old new (Err (n.More place next)) told = record {
    front = told.front;
    some = told.some;
    at = told.place;
  }
