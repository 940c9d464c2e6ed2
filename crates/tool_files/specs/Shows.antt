-- How an input is shown.
use Rattle.std.specs.Prelude.{◌≡◌, ℕ, Bool, [], Option, None, Some, Result, Ok, Err}
use Rattle.std.specs.declared.io.Error.{Error}
use Rattle.ciborium_ll_grammar.specs.declared.spelling.Spelling.{Spelling}
use Rattle.ciborium_ll.specs.Types.BufferedReader.{BufferedReader}
use Rattle.ciborium_ll.specs.Types.Decoder.{Decoder}
use Rattle.ciborium_ll.specs.Types.KeepingReader.{KeepingReader}
use Rattle.ciborium_ll.specs.Types.Read.{Ghosts}
use Rattle.ciborium_ll.specs.Types.ReadFault.{ReadFault}
use Rattle.ciborium_ll.specs.Types.Write.{Ghosts as Sink}
use Rattle.ciborium_ll.specs.Decoding.{IsFreshAs}
use Rattle.ciborium_ll.specs.Sides.{sides}
use Rattle.ciborium_ll_buffers.specs.declared.buffered.FaultKept.{FaultKept}
use Rattle.ciborium_ll_buffers.specs.Buffers.{buffered_read_fault, keeping_capacity, keeping_fault, keeping_held}
use Rattle.ciborium_ll_buffers.specs.Buffers.{keeping_source}
use Rattle.cbor_skip.specs.declared.SkipError.{SkipError}
use Rattle.cbor_skip.specs.Skipping.{StopsCounted}
use Rattle.cbor_dump.specs.Checking.{ReadsAsCheck}
use Rattle.cbor_dump.specs.Dumps.{AreRowsTaken, IsRefused}
use Rattle.cbor_dump.specs.declared.dump.DumpError.{DumpError}
use Rattle.cbor_dump.specs.declared.dump.DumpError.TheVariants as d
use Rattle.cbor_json.specs.declared.JsonError.{JsonError}
use Rattle.tool_verdicts.specs.Checking.{dump_said, fault_said, items_said, unless_failed}
use Rattle.tool_verdicts.specs.Lines.{WritesPart}
use Rattle.tool_verdicts.specs.Parts.{PassesOver}
use Rattle.tool_verdicts.specs.declared.check.TheConstants.{BUFFER_SIZE}
use Rattle.tool_verdicts.specs.declared.items.Ending.{Ending}
use Rattle.tool_verdicts.specs.declared.items.Form.{Form}
use Rattle.tool_verdicts.specs.declared.items.Form.TheVariants as f
use Rattle.tool_verdicts.specs.declared.verdict.Verdict.{Verdict}
use Rattle.tool_files.specs.Fences.{IsFenced, fence_depth, fence_source}
use Rattle.tool_files.specs.Inputs.{BeginsInput}
use Rattle.tool_files.specs.declared.check.TheConstants.{ROOM}
use Rattle.tool_files.specs.declared.fence.Fence.{Fence}
use Rattle.tool_files.specs.declared.options.Options.{Options}

-- The form of items in notation, as the options choose it. `--pretty` sets the indented layout, `--exact` the exact
-- notation, and `--embedded` the byte strings that are shown as items.
abbrev pub chosen_notation : Options → Form
chosen_notation options =
    f.Notation (record { layout = options.layout; is_exact = options.exact }) options.embedded

-- The form of items as JSON, as the options choose it. `--lossy` sets the mode `Lossy`.
abbrev pub chosen_json : Options → Form
chosen_json options = f.Json options.mode

module _ {I G T E W F : Type 0} (memory : Ghosts I G) (reads : Ghosts (BufferedReader T) E) (sink : Sink W F) where
  -- Items were written from the start of the input, each in a line or in lines of its own. With a `skip` or a limit they
  -- are a part of the items. With `one` it is one item, and nothing may follow it. The result has the verdict after
  -- them. For `01 f5` the lines are `1` and `true`.
  pub record WritesInput (allowed : Spelling) (skip : ℕ) (most : Option ℕ) (one : Bool) (depth : ℕ) (form : Form)
      (reader : T) (writer : W) (result : Result (Result (Unit {0}) Verdict) F) (then_writer : W) : Type 0 where
    pub old : Decoder (BufferedReader T)
    pub new : Decoder (BufferedReader T)
    pub outcome : Result (Ending E) (JsonError E F)
    pub begins : BeginsInput allowed reader old
    pub written :
        WritesPart memory reads sink form depth skip most one BUFFER_SIZE (sides old writer) outcome
        (sides new then_writer)
    pub said : result ≡ items_said outcome (buffered_read_fault new.reader) new.offset

-- The answer of a dump, with another error in place of one that only says that it is kept. After `82` of `82 01`, if a
-- row was refused, both say so.
abbrev pub TellsKept : {E : Type 0} → Result E (DumpError E FaultKept) → Result E (DumpError E Error) → Type 0
TellsKept (Ok end) told = told ≡ Ok end
TellsKept (Err (d.Item error)) told = told ≡ Err (d.Item error)
TellsKept (Err (d.Rows kept)) told = IsRefused told

module _ {R E : Type 0} (reads : Ghosts R E) where
  -- The rows of the items from the state of the decoder on were printed, up to this offset. If one was refused, nothing
  -- is said. Over `01 1c` the rows end at 2.
  pub record PrintsRows (depth : ℕ) (old : Decoder R) (outcome : Result E (DumpError E Error)) (offset : ℕ) : Type 0
    where
      pub between : Decoder R
      pub dumped : AreRowsTaken outcome → ReadsAsCheck reads depth old outcome between
      pub at : offset ≡ between.offset

  -- The items were dumped from the state of the decoder on. The result has the verdict after the rows, by the fault of
  -- its reader. If a row could not be printed, it has the row's error. Over `01 1c` it has `syntax 1`.
  pub record DumpsRows (fault_of : R → Option ReadFault) (depth : ℕ) (old : Decoder R) (result : Result (Unit {0}) Verdict)
      : Type 0 where
    pub new : Decoder R
    pub outcome : Result E (DumpError E Error)
    pub offset : ℕ
    pub prints : PrintsRows depth old outcome offset
    pub said : result ≡ dump_said outcome (fault_of new.reader) offset

-- Why the reader within a fence failed, if it did: `End` after a call that gave 0 bytes.
abbrev pub fenced_fault : {T : Type 0} → Fence (KeepingReader T) → Option ReadFault
fenced_fault f = keeping_fault (fence_source f)

-- All items that the decoder reads were dumped: both of `01 02`.
abbrev pub DumpsAll : {T E : Type 0} → Ghosts (KeepingReader T) E → ℕ → Decoder (KeepingReader T) → Result (Unit {0}) Verdict → Type 0
DumpsAll reads depth old result = DumpsRows reads keeping_fault depth old result

-- The items up to a fence were dumped: one of `01 02`, if the fence stands after one item. The fence stands over the
-- decoder's reader, and the offset goes on.
pub record DumpsSome {T E : Type 0} (reads : Ghosts (Fence (KeepingReader T)) E) (allowed : Spelling) (items depth : ℕ)
    (old : Decoder (KeepingReader T)) (result : Result (Unit {0}) Verdict) : Type 0 where
  pub fence : Fence (KeepingReader T)
  pub is_fenced : IsFenced items [] fence
  pub depth_is : fence_depth fence ≡ depth
  pub source : fence_source fence ≡ old.reader
  pub start : Decoder (Fence (KeepingReader T))
  pub fresh : IsFreshAs allowed fence old.offset start
  pub rows : DumpsRows reads fenced_fault depth start result

module _ {T E F : Type 0} (reads : Ghosts (KeepingReader T) E) (fences : Ghosts (Fence (KeepingReader T)) F) where
  -- All items were dumped, or with a limit the items up to a fence. Over `01 02` these are both, and with a limit of 1
  -- it is `01`.
  abbrev pub DumpsRest : Spelling → Option ℕ → ℕ → Decoder (KeepingReader T) → Result (Unit {0}) Verdict → Type 0
  DumpsRest allowed None depth old result = DumpsAll reads depth old result
  DumpsRest allowed (Some items) depth old result = DumpsSome fences allowed items depth old result

  -- The items after the first `skip` items were dumped, or the result has the verdict on a fault among these. If one
  -- item of `01 02` is passed over, the row of `02` has the offset 1.
  pub data DumpsPart (allowed : Spelling) (skip : ℕ) (most : Option ℕ) (depth : ℕ) (old : Decoder (KeepingReader T))
      (result : Result (Unit {0}) Verdict) : Type 0 where
    dumps_none : (error : SkipError E) (new : Decoder (KeepingReader T))
        → StopsCounted reads skip depth BUFFER_SIZE old error new
        → result ≡ Err (unless_failed (keeping_fault new.reader) (fault_said error new.offset))
        → DumpsPart allowed skip most depth old result
    dumps_rest : (between : Decoder (KeepingReader T)) → PassesOver reads skip depth old between
        → DumpsRest allowed most depth between result → DumpsPart allowed skip most depth old result

  -- The input was dumped from its start, and the result has the verdict after the rows. After the row of `01` in `01 1c`
  -- it has `syntax 1`.
  pub record DumpsInput (allowed : Spelling) (skip : ℕ) (most : Option ℕ) (depth : ℕ) (reader : T)
      (result : Result (Unit {0}) Verdict) : Type 0 where
    pub start : KeepingReader T
    pub source : keeping_source start ≡ reader
    pub none_held : keeping_held start ≡ []
    pub room : keeping_capacity start ≡ ROOM
    pub old : Decoder (KeepingReader T)
    pub fresh : IsFreshAs allowed start 0 old
    pub part : DumpsPart allowed skip most depth old result
