-- The answer of a read, by the answer of a show.
use Rattle.std.proofs.Common.{◌≡◌, if◌then◌else◌, ℕ, Bool, true, false, List, Some, Result, Ok, Err}
use Rattle.std.proofs.Common.{IfErr, arith}
use Rattle.ciborium_ll.specs.Types.Read.{Ghosts}
use Rattle.ciborium_ll.specs.Types.Float.{Float as Raw}
use Rattle.ciborium_ll.specs.Types.Header.{Header}
use Rattle.ciborium_ll.specs.Types.Header.TheVariants as h
use Rattle.ciborium_ll.specs.Types.Error.{Error}
use Rattle.ciborium_ll.specs.Types.Write.{Ghosts as Sink}
use Rattle.ciborium_ll.specs.Encoding.{WritesBytes}
use Rattle.ciborium_ll.specs.Sides.{Sides}
pub use Rattle.ciborium_ll.proofs.EncodingLaws.{writes}
use Rattle.cbor_skip.specs.declared.SkipError.{SkipError}
use Rattle.cbor_skip.specs.declared.SkipError.TheVariants as s
use Rattle.cbor_diag.specs.declared.DiagError.{DiagError}
use Rattle.cbor_diag.specs.declared.DiagError.TheVariants as d
use Rattle.cbor_diag.specs.declared.marks.Mark.{Mark}
use Rattle.cbor_diag.specs.Floats.{IsShownFloat}
use Rattle.cbor_diag.specs.Showing.{IsWriting, OnReading, OnString, ShowsHeader, ShowsText, said_of}
use Rattle.cbor_diag.specs.Writing.{ShowsOne}

module _ {E F : Type 0} where
  -- If the writer failed, each relation holds of the read.
  pub reading_unread : (T : Type 0) (Holds : Result (Unit {0}) (SkipError E) → Type 0) (error : DiagError E F)
      → IsWriting error → OnReading {T = T} Holds (Err error)
  reading_unread T Holds error writing = grind arith

  pub string_unread : (Holds : Result (Unit {0}) (Error E) → Type 0) (error : DiagError E F) → IsWriting error
      → OnString Holds (Err error)
  string_unread Holds error writing = grind arith

  -- If only the writer can fail, a relation that holds of a whole read holds.
  pub reading_whole : (Holds : Result (Unit {0}) (SkipError E) → Type 0) (result : Result (Unit {0}) (DiagError E F))
      → Holds (Ok (tt {0})) → IfErr result IsWriting → OnReading Holds result
  reading_whole Holds result holds writing = grind arith

  pub string_whole : (Holds : Result (Unit {0}) (Error E) → Type 0) (result : Result (Unit {0}) (DiagError E F))
      → Holds (Ok (tt {0})) → IfErr result IsWriting → OnString Holds result
  string_whole Holds result holds writing = grind arith

  -- If the errors of one read are errors of another read, the answer of the show carries over.
  pub reading_stops : (T U : Type 0) (One Other : Result (Unit {0}) (SkipError E) → Type 0) (error : DiagError E F)
      → ((stop : SkipError E) → One (Err stop) → Other (Err stop)) → OnReading {T = T} One (Err error)
      → OnReading {T = U} Other (Err error)
  reading_stops T U One Other error goes holds = grind arith

  pub string_stops : (One Other : Result (Unit {0}) (Error E) → Type 0) (error : DiagError E F)
      → ((fault : Error E) → One (Err fault) → Other (Err fault)) → OnString One (Err error)
      → OnString Other (Err error)
  string_stops One Other error goes holds = grind arith

  -- A break in place of an item gives a whole read if it may stand there. Otherwise it gives its error.
  pub break_said : (may : Bool) (Holds : Result (Unit {0}) (SkipError E) → Type 0)
      (result : Result Bool (DiagError E F)) (is_first : Bool) (place : ℕ)
      → result ≡ (if may then Ok is_first else Err (d.Read (s.Break place)))
      → (may ≡ true → Holds (Ok (tt {0}))) → (may ≡ false → Holds (Err (s.Break place)))
      → OnReading {T = Bool} Holds result
  break_said may Holds result is_first place same closed stops = grind arith

  -- A relation of a string's read gives a relation of an item's read.
  pub reading_string : (One : Result (Unit {0}) (Error E) → Type 0) (Other : Result (Unit {0}) (SkipError E) → Type 0)
      (result : Result (Unit {0}) (DiagError E F)) → (One (Ok (tt {0})) → Other (Ok (tt {0})))
      → ((fault : Error E) → One (Err fault) → Other (Err (s.Read fault))) → OnString One result
      → OnReading Other result
  reading_string One Other result whole stops holds = grind arith

-- The answer of a text's write, as the answer of a show.
pub said_text : {E W F : Type 0} (sink : Sink W F) (old new : W) (answer : Result (Unit {0}) F)
    (result : Result (Unit {0}) (DiagError E F)) (text : List ℕ) → result ≡ said_of answer
    → WritesBytes sink old answer text new → ShowsText sink (Some text) old result new
said_text sink old new answer result text same wrote = grind arith

module _ {R E W F : Type 0} (source : Ghosts R E) (sink : Sink W F) where
  -- The answer of a write of a float's text, as the answer of a show.
  pub float_said : (exact : Bool) (header : Header) (mark : Mark) (float : Raw) (old new : Sides R W)
      (answer : Result (Unit {0}) F) (result : Result (Unit {0}) (DiagError E F)) → header ≡ h.Float float
      → new.decoder ≡ old.decoder → result ≡ said_of answer
      → ShowsOne sink (IsShownFloat exact float) old.writer answer new.writer
      → ShowsHeader source sink exact header mark old result new
  float_said exact header mark float old new answer result is still same shown = rw is (
    shown.text,
    shown.is_text,
    record {
      written = said_text sink old.writer new.writer answer result shown.text same shown.written;
      unread = still;
    },
  )
