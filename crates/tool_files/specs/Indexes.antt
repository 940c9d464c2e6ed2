-- The index of an input: a line for each item, with its offset and its length.
use Rattle.std.specs.Prelude.{◌≡◌, ℕ, List, ◌++◌, Option, Result, Ok, Err, codes, decimal}
use Rattle.ciborium_ll_grammar.specs.declared.spelling.Spelling.{Spelling}
use Rattle.ciborium_ll.specs.Types.BufferedReader.{BufferedReader}
use Rattle.ciborium_ll.specs.Types.Decoder.{Decoder}
use Rattle.ciborium_ll.specs.Types.Read.{Ghosts}
use Rattle.ciborium_ll.specs.Types.ReadFault.{ReadFault}
use Rattle.ciborium_ll_buffers.specs.Buffers.{buffered_read_fault}
use Rattle.tool_verdicts.specs.Checking.{unless_failed}
use Rattle.tool_verdicts.specs.Parts.{IndexesPart}
use Rattle.tool_verdicts.specs.declared.check.TheConstants.{BUFFER_SIZE}
use Rattle.tool_verdicts.specs.declared.part.Span.{Span}
use Rattle.tool_verdicts.specs.declared.verdict.Verdict.{Verdict}
use Rattle.tool_files.specs.Inputs.{BeginsInput}

-- The line of an item: `5 3` and a line feed for the offset 5 and the length 3.
abbrev pub span_line : Span → List ℕ
span_line span = decimal span.offset ++ (codes " " ++ (decimal span.len ++ codes "\n"))

-- The verdict of an index, if no place was refused. A read that failed for another reason than the end takes precedence.
abbrev pub index_said : {F : Type 0} → Result Verdict F → Option ReadFault → Result Verdict F
index_said (Ok verdict) fault = Ok (unless_failed fault verdict)
index_said (Err error) fault = Err error

module _ {T E F : Type 0} (reads : Ghosts (BufferedReader T) E) where
  -- The items were indexed from the start of the input, as a check of them reads it. Of `01 81 02` the places 0 and 1
  -- were taken, with the lengths 1 and 2.
  pub record IndexesInput (allowed : Spelling) (skip : ℕ) (most : Option ℕ) (depth : ℕ) (reader : T)
      (taken then_taken : Option (List Span)) (result : Result Verdict F) : Type 0 where
    pub old : Decoder (BufferedReader T)
    pub new : Decoder (BufferedReader T)
    pub found : Result Verdict F
    pub begins : BeginsInput allowed reader old
    pub indexes : IndexesPart reads skip most depth BUFFER_SIZE taken then_taken old found new
    pub said : result ≡ index_said found (buffered_read_fault new.reader)
