-- The answer of a read, by the answer of a write.
use Rattle.std.proofs.Common.{◌≡◌, if◌then◌else◌, ℕ, Bool, true, false, List, Result, Ok, Err, IfErr, arith}
use Rattle.ciborium_ll.specs.Types.Error.{Error}
use Rattle.ciborium_ll.specs.Types.RecodeError.{RecodeError}
use Rattle.ciborium_ll.specs.Types.Write.{Ghosts as Writer}
use Rattle.ciborium_ll.specs.Encoding.{WritesAll, WritesBytes, WritesFront}
use Rattle.cbor_skip.specs.declared.SkipError.{SkipError}
use Rattle.cbor_skip.specs.declared.SkipError.TheVariants as s
use Rattle.cbor_json.specs.declared.JsonError.{JsonError}
use Rattle.cbor_json.specs.declared.JsonError.TheVariants as j
use Rattle.cbor_json.specs.Reading.{IsWriting, OnCopy, OnReading, OnString, said_of}

module _ {E F : Type 0} where
  -- If the writer failed, each relation holds of the read.
  pub reading_unread : (Holds : Result (Unit {0}) (SkipError E) → Type 0) (error : JsonError E F) → IsWriting error
      → OnReading Holds (Err error)
  reading_unread Holds error writing = grind arith

  pub string_unread : (Holds : Result (Unit {0}) (Error E) → Type 0) (error : JsonError E F) → IsWriting error
      → OnString Holds (Err error)
  string_unread Holds error writing = grind arith

  -- If only the writer can fail, a relation that holds of a whole read holds.
  pub reading_whole : (Holds : Result (Unit {0}) (SkipError E) → Type 0) (result : Result (Unit {0}) (JsonError E F))
      → Holds (Ok (tt {0})) → IfErr result IsWriting → OnReading Holds result
  reading_whole Holds result holds writing = grind arith

  pub string_whole : (Holds : Result (Unit {0}) (Error E) → Type 0) (result : Result (Unit {0}) (JsonError E F))
      → Holds (Ok (tt {0})) → IfErr result IsWriting → OnString Holds result
  string_whole Holds result holds writing = grind arith

  -- If the errors of one read are errors of another read, the answer carries over.
  pub reading_stops : (One Other : Result (Unit {0}) (SkipError E) → Type 0) (error : JsonError E F)
      → ((stop : SkipError E) → One (Err stop) → Other (Err stop)) → OnReading One (Err error)
      → OnReading Other (Err error)
  reading_stops One Other error goes holds = grind arith

  pub copy_stops : (One Other : Result (Unit {0}) (Error E) → Type 0) (error : RecodeError E F)
      → ((fault : Error E) → One (Err fault) → Other (Err fault)) → OnCopy One (Err error) → OnCopy Other (Err error)
  copy_stops One Other error goes holds = grind arith

  -- A break in place of an item gives a whole read if it may stand there. Otherwise it gives its error.
  pub break_said : (may : Bool) (Holds : Result (Unit {0}) (SkipError E) → Type 0)
      (result : Result (Unit {0}) (JsonError E F)) (place : ℕ)
      → result ≡ (if may then Ok (tt {0}) else Err (j.Read (s.Break place)))
      → (may ≡ true → Holds (Ok (tt {0}))) → (may ≡ false → Holds (Err (s.Break place))) → OnReading Holds result
  break_said may Holds result place same closed stops = grind arith

  -- A relation of a string's read gives a relation of an item's read.
  pub reading_string : (One : Result (Unit {0}) (Error E) → Type 0) (Other : Result (Unit {0}) (SkipError E) → Type 0)
      (result : Result (Unit {0}) (JsonError E F)) → (One (Ok (tt {0})) → Other (Ok (tt {0})))
      → ((fault : Error E) → One (Err fault) → Other (Err (s.Read fault))) → OnString One result
      → OnReading Other result
  reading_string One Other result whole stops holds = grind arith

-- ---- the answer of a write

module _ {E W F : Type 0} (sink : Writer W F) {old new : W} {text : List ℕ}
    {said : Result (Unit {0}) (JsonError E F)} where
  -- A write that succeeded wrote its whole text.
  pub said_wrote : (answer : Result (Unit {0}) F) {done : Unit {0}} → said ≡ said_of answer → said ≡ Ok done
      → WritesBytes sink old answer text new → WritesAll sink old text new
  said_wrote answer same is wrote = grind arith

  -- A write that failed wrote a beginning of its text.
  pub said_failed : (answer : Result (Unit {0}) F) {error : JsonError E F} → said ≡ said_of answer → said ≡ Err error
      → WritesBytes sink old answer text new → (fault : F) × (error ≡ j.Write fault) × WritesFront sink old text new
  said_failed answer same is wrote = grind arith
