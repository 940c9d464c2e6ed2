-- The effect of a show on its decoder if the writer does not fail, and the text that it writes of a header.
use Rattle.std.specs.Prelude.{◌≡◌, ℕ, Bool, List, Option, Some, None, Result, Ok, Err}
use Rattle.ciborium_ll.specs.Types.Read.{Ghosts}
use Rattle.ciborium_ll.specs.Types.Write.{Ghosts as Sink}
use Rattle.ciborium_ll.specs.Types.Header.{Header}
use Rattle.ciborium_ll.specs.Types.Header.TheVariants as h
use Rattle.ciborium_ll.specs.Types.Decoder.{Decoder}
use Rattle.ciborium_ll.specs.Types.Error.{Error}
use Rattle.ciborium_ll.specs.Decoding.{MovesOn, failures_of}
use Rattle.ciborium_ll.specs.Encoding.{WritesBytes}
use Rattle.ciborium_ll.specs.Sides.{Sides}
use Rattle.ciborium_ll.specs.Strings.{Bytes, Text}
use Rattle.cbor_skip.specs.declared.SkipError.{SkipError}
use Rattle.cbor_skip.specs.declared.SkipError.TheVariants as s
use Rattle.cbor_skip.specs.Failures.{CountsItemFailure}
use Rattle.cbor_skip.specs.Skipping.{ReadsItem, SkipsItem, StopsItem}
use Rattle.cbor_diag.specs.declared.DiagError.{DiagError}
use Rattle.cbor_diag.specs.declared.DiagError.TheVariants as d
use Rattle.cbor_diag.specs.Floats.{IsShownFloat}
use Rattle.cbor_diag.specs.declared.marks.Mark.{Mark}
use Rattle.cbor_diag.specs.Notation.{header_notation}
use Rattle.cbor_diag.specs.OpenShows.{ShowsStringBy}
use Rattle.cbor_diag.specs.declared.strings.TheConstants.{BUFFER_SIZE}

module _ {E F : Type 0} where
  -- The error is that of the writer, and not that of the read, as a break in `81 ff` gives.
  abbrev pub IsWriting : DiagError E F → Type 0
  IsWriting (d.Read error) = ⊥
  IsWriting (d.Write fault) = Unit {0}

  -- The answer of a write, as the answer of a show. The answer `Err(7)` gives `Err(Write(7))`.
  abbrev pub said_of : {T : Type 0} → Result T F → Result T (DiagError E F)
  said_of (Ok done) = Ok done
  said_of (Err fault) = Err (d.Write fault)

  -- The relation holds for the read, by its answer. If the writer failed, the read has no answer. For
  -- `Err(Read(error))`, as a break in `81 ff` gives, it holds for `Err(error)`.
  abbrev pub OnReading : {T : Type 0} → (Result (Unit {0}) (SkipError E) → Type 0) → Result T (DiagError E F) → Type 0
  OnReading Holds (Ok done) = Holds (Ok (tt {0}))
  OnReading Holds (Err (d.Read error)) = Holds (Err error)
  OnReading Holds (Err (d.Write fault)) = Unit {0}

  -- The relation holds for the read of a string, which fails as the decoder does. It can fail for the text `61 ff`, but
  -- never with a break.
  abbrev pub OnString : (Result (Unit {0}) (Error E) → Type 0) → Result (Unit {0}) (DiagError E F) → Type 0
  OnString Holds (Ok done) = Holds (Ok (tt {0}))
  OnString Holds (Err (d.Read (s.Read error))) = Holds (Err error)
  OnString Holds (Err (d.Read (s.Break at))) = ⊥
  OnString Holds (Err (d.Read (s.Deep at))) = ⊥
  OnString Holds (Err (d.Write fault)) = Unit {0}

  -- How often the reader failed, by the answer of a show: once if the error of the read says so. If the writer failed,
  -- the reader did not fail. On `Ok` for `82 01 02` it did not fail, and for a cut `19` it failed once.
  abbrev pub CountsShown : {T : Type 0} → Result T (DiagError E F) → ℕ → ℕ → Type 0
  CountsShown (Ok done) old new = new ≡ old
  CountsShown (Err (d.Read error)) old new = CountsItemFailure error old new
  CountsShown (Err (d.Write fault)) old new = new ≡ old

module _ {R E : Type 0} (source : Ghosts R E) where
  -- The read of an item, by its answer. `outer` says whether a break may stand in its place. It can be `Ok` for
  -- `82 01 02`, and not for `1c`.
  abbrev pub ReadsFrom : Bool → ℕ → ℕ → Decoder R → Result (Unit {0}) (SkipError E) → Decoder R → Type 0
  ReadsFrom outer depth room old (Ok done) new = ReadsItem source depth old new
  ReadsFrom outer depth room old (Err error) new = StopsItem source outer depth room old error new

  -- The reads of `diagnose` if the writer does not fail, and the facts that it keeps for each answer. On `Ok` for
  -- `82 01 02` it read all 3 bytes.
  pub record ReadsShown {F : Type 0} (depth : ℕ) (old : Decoder R) (result : Result (Unit {0}) (DiagError E F))
      (new : Decoder R) : Type 0 where
    pub reads : OnReading (λ answer. SkipsItem source depth BUFFER_SIZE old answer new) result
    pub failures : CountsShown result (failures_of source old) (failures_of source new)
    pub moves_on : MovesOn source old new

module _ {E W F : Type 0} (sink : Sink W F) where
  -- The whole text was written, or the writer failed and a beginning of the text was written. If it failed, it can have
  -- written `1` of the text `10`.
  abbrev pub ShowsText : Option (List ℕ) → W → Result (Unit {0}) (DiagError E F) → W → Type 0
  ShowsText None old result new = ⊥
  ShowsText (Some text) old (Ok done) new = WritesBytes sink {T = Unit {0}} old (Ok done) text new
  ShowsText (Some text) old (Err (d.Write fault)) new = WritesBytes sink {T = Unit {0}} old (Err fault) text new
  ShowsText (Some text) old (Err (d.Read error)) new = ⊥

module _ {R E W F : Type 0} (source : Ghosts R E) (sink : Sink W F) where
  -- After the header of an integer, a simple value or a float its text was written, and nothing was read. If the writer
  -- failed, a beginning of the text was written. After `20` the text is `-1`.
  pub record ShowsAlone (text : Option (List ℕ)) (old : Sides R W) (result : Result (Unit {0}) (DiagError E F))
      (new : Sides R W) : Type 0 where
    pub written : ShowsText sink text old.writer result new.writer
    pub unread : new.decoder ≡ old.decoder

  -- After the header of an integer, a simple value, a float or a string the rest of the item was read and its text
  -- written, in plain or in exact notation. For a float it is a text that fits, and for a string the text of what was
  -- read. After `41` the rest `61` has the text `h'61'`.
  abbrev pub ShowsHeader : Bool → Header → Mark → Sides R W → Result (Unit {0}) (DiagError E F) → Sides R W → Type 0
  ShowsHeader exact (h.Float float) mark old result new =
      (text : List ℕ) × IsShownFloat exact float text × ShowsAlone (Some text) old result new
  ShowsHeader exact (h.Bytes len) mark old result new =
      ShowsStringBy source sink Bytes exact len mark BUFFER_SIZE old result new
  ShowsHeader exact (h.Text len) mark old result new =
      ShowsStringBy source sink Text exact len mark BUFFER_SIZE old result new
  ShowsHeader exact header mark old result new = ShowsAlone (header_notation header mark) old result new
