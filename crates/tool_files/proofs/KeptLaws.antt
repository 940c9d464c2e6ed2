-- An answer of a dump with a kept fault, and the same answer with the fault itself.
use Rattle.std.proofs.Common.{◌≡◌, ℕ, List, Ok, Err, Result}
use Rattle.std.specs.declared.io.Error.{Error}
use Rattle.ciborium_ll.specs.Types.Decoder.{Decoder}
use Rattle.ciborium_ll.specs.Types.Read.{Ghosts}
use Rattle.ciborium_ll_buffers.specs.declared.buffered.FaultKept.{FaultKept}
use Rattle.cbor_dump.specs.Checking.{AnswersAs, AnswersTold, ReadsAsCheck}
use Rattle.cbor_dump.specs.Dumps.{AreRowsTaken, IsRefused}
use Rattle.cbor_dump.specs.declared.sequence.Sequence.{Sequence}
use Rattle.cbor_dump.specs.declared.sequence.Stopped.{Stopped}
use Rattle.cbor_dump.specs.declared.dump.DumpError.{DumpError}
use Rattle.cbor_dump.specs.declared.dump.DumpError.TheVariants as d
use Rattle.cbor_skip.specs.declared.SkipError.{SkipError}
use Rattle.tool_files.specs.Shows.{TellsKept}

-- If a row was refused, not all rows were taken.
not_both : {E : Type 0} (told : Result E (DumpError E Error)) → IsRefused told → AreRowsTaken told → ⊥
not_both (Ok end) refused taken = refused
not_both (Err (d.Item error)) refused taken = refused
not_both (Err (d.Rows fault)) refused taken = taken

-- A check that answers as a dump with the one error of rows does answers as one with the other.
end_alike : {E : Type 0} (checked : Result (Sequence E) (Stopped E)) (end : E)
    → AnswersAs {W = FaultKept} checked (Ok end) → AnswersAs {W = Error} checked (Ok end)
end_alike (Ok sequence) end answers = answers
end_alike (Err stopped) end answers = answers

item_alike : {E : Type 0} (checked : Result (Sequence E) (Stopped E)) (error : SkipError E)
    → AnswersAs {W = FaultKept} checked (Err (d.Item error)) → AnswersAs {W = Error} checked (Err (d.Item error))
item_alike (Ok sequence) error answers = answers
item_alike (Err stopped) error answers = answers

-- If all rows were taken by the one answer, they were by the other.
pub told_taken : {E : Type 0} (outcome : Result E (DumpError E FaultKept)) (told : Result E (DumpError E Error))
    → TellsKept outcome told → AreRowsTaken told → AreRowsTaken outcome
told_taken (Ok end) told is taken = tt
told_taken (Err (d.Item error)) told is taken = tt
told_taken (Err (d.Rows kept)) told refused taken = absurd (not_both told refused taken)

module _ {R E : Type 0} (source : Ghosts R E) (depth : ℕ) (old new : Decoder R) where
  -- Both answers answer as the same check does.
  pub told_reads : (outcome : Result E (DumpError E FaultKept)) (told : Result E (DumpError E Error))
      → TellsKept outcome told → AreRowsTaken told → ReadsAsCheck source depth old outcome new
      → ReadsAsCheck source depth old told new
  told_reads (Ok end) told is taken reads = rw is (record {
    checked = reads.checked;
    answers = end_alike reads.checked end reads.answers;
    checks = reads.checks;
  })
  told_reads (Err (d.Item error)) told is taken reads = rw is (record {
    checked = reads.checked;
    answers = item_alike reads.checked error reads.answers;
    checks = reads.checks;
  })
  told_reads (Err (d.Rows kept)) told refused taken reads = absurd (not_both told refused taken)

  -- The same for a check of bytes that are told.
  pub told_answers : (due : List ℕ) (outcome : Result E (DumpError E FaultKept)) (told : Result E (DumpError E Error))
      → TellsKept outcome told → AreRowsTaken outcome → AnswersTold source depth due old outcome new
      → AnswersTold source depth due old told new
  told_answers due (Ok end) told is taken answers = rw is (record {
    checked = answers.checked;
    answers = end_alike answers.checked end answers.answers;
    told = answers.told;
  })
  told_answers due (Err (d.Item error)) told is taken answers = rw is (record {
    checked = answers.checked;
    answers = item_alike answers.checked error answers.answers;
    told = answers.told;
  })
  told_answers due (Err (d.Rows kept)) told refused taken answers = absurd taken
