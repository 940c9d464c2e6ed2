-- Texts that are written one after the other.
use Rattle.std.proofs.Common.{arith, ◌≡◌, ℕ, List, [], ◌++◌, Some, Result, Ok, Err, IsErr}
use Rattle.ciborium_ll.specs.Types.Write.{Ghosts}
use Rattle.ciborium_ll.specs.Encoding.{WritesAll, WritesBytes, WritesFront}
use Rattle.ciborium_ll.proofs.EncodingLaws.{WritesBytes-stopped, WritesBytes-then}
use Rattle.ciborium_ll.proofs.PiecesWritten.{writes_nothing}
use Rattle.cbor_diag.specs.declared.DiagError.{DiagError}
use Rattle.cbor_diag.specs.Showing.{ShowsText}

module _ {W F : Type 0} {sink : Ghosts W F} {old mid : W} {xs : List ℕ} (first : WritesAll sink old xs mid) where
  -- Two texts that were written one after the other are written as one text.
  pub wrote_both : {new : W} {ys : List ℕ} → WritesAll sink mid ys new → WritesAll sink old (xs ++ ys) new
  wrote_both {new} {ys} second = WritesBytes-then sink {T = Unit {0}} old mid new (Ok (tt {0})) xs ys first second

  -- If the writer fails at the second text, it wrote a beginning of both texts.
  pub wrote_first : {new : W} {ys : List ℕ} → F → WritesFront sink mid ys new → WritesFront sink old (xs ++ ys) new
  wrote_first {new} {ys} fault second =
      WritesBytes-then sink {T = Unit {0}} old mid new (Err fault) xs ys first second

  -- The show of both texts answers as the show of the second text does.
  pub said_then : {E : Type 0} (ys : List ℕ) (new : W) (result : Result (Unit {0}) (DiagError E F))
      → ShowsText sink (Some ys) mid result new → ShowsText sink (Some (xs ++ ys)) old result new
  said_then ys new result second = grind (arith, wrote_both, wrote_first)

module _ {W F : Type 0} (sink : Ghosts W F) where
  -- The first pieces were written. A write of the rest now does the same as a write of all pieces did.
  pub record GoesOn (all rest : List ℕ) (old now : W) : Type 0 where
    pub goes_on : (result : Result (Unit {0}) F) (new : W) → WritesBytes sink now result rest new
        → WritesBytes sink old result all new

module _ {W F : Type 0} {sink : Ghosts W F} {all rest : List ℕ} {old now : W} (far : GoesOn sink all rest old now) where
  -- After one more piece, a write of the rest goes on.
  pub piece_more : {piece behind : List ℕ} {new : W} → rest ≡ piece ++ behind → WritesAll sink now piece new
      → GoesOn sink all behind old new
  piece_more {piece} {behind} {new} split wrote = record {
    goes_on = λ result last w.
        far.goes_on result last (rw split (WritesBytes-then sink now new last result piece behind wrote w));
  }

  -- If the writer fails at a piece, the write of all pieces fails.
  pub piece_stops : (piece behind : List ℕ) (new : W) (result : Result (Unit {0}) F) → rest ≡ piece ++ behind
      → IsErr result → WritesFront sink now piece new → WritesBytes sink old result all new
  piece_stops piece behind new result split fails wrote =
      far.goes_on result new (rw split (WritesBytes-stopped sink now new result piece behind fails wrote))

  -- If no piece is left, all pieces were written.
  pub pieces_end : rest ≡ [] → WritesAll sink old all now
  pieces_end none = far.goes_on (Ok (tt {0})) now (rw none (writes_nothing sink now))
