-- Rows that were refused.
use Rattle.std.proofs.Common.{◌≡◌, ℕ, ◌<◌, List, [], ◌∷◌, length, Option, Some, None, Result, Ok, Err, OnErr}
use Rattle.std.proofs.Common.{IsErrAnd, MatchResult, refl, arith}
use Rattle.ciborium_ll.specs.Types.Read.{Ghosts}
use Rattle.ciborium_ll.specs.Types.Decoder.{Decoder}
use Rattle.cbor_dump.specs.declared.dump.DumpError.{DumpError}
use Rattle.cbor_dump.specs.Levels.{Line, Meant}
use Rattle.cbor_dump.specs.Dumps.{Draws, DrawsRefused, IsRefused, LinesRefused, ShowsBehindRefused, fault_lines}
use Rattle.cbor_dump.specs.Dumps.{with_line}
use Rattle.cbor_dump.proofs.TitleLaws.{title_only}

draws_line : (old : Option (List Line)) (line : Line) → Draws old (with_line old line) (line ∷ [])
draws_line None line = tt
draws_line (Some lines) line = refl

-- A refused row leaves the lines unchanged. If it had been taken, it would be their next line.
pub draws_refused : (old new : Option (List Line)) (line : Line) → new ≡ old → DrawsRefused old new (line ∷ [])
draws_refused old new line same = record { row = line; draws = rw same (draws_line old line) }

fault_refused : (old new : Option (List Line)) (level offset : ℕ) (bytes : List ℕ) → 0 < length bytes → new ≡ old
    → DrawsRefused old new (fault_lines level offset bytes)
fault_refused old new level offset [] some same = absurd (omega (arith, some))
fault_refused old new level offset (byte ∷ bytes) some same = draws_refused old new _ same

-- If the row of bytes at fault is refused, the call draws the line with that row left out.
pub row_refused : {T F : Type 0} (result : Result T F) (old new : Option (List Line)) (level offset : ℕ)
    (bytes : List ℕ) → 0 < length bytes → OnErr result (new ≡ old) → OnErr result (DrawsRefused old new (fault_lines level offset bytes))
row_refused (Ok done) old new level offset bytes some same = tt
row_refused (Err error) old new level offset bytes some same = fault_refused old new level offset bytes some same

-- If a dump answers with the refusal of a row, it draws the line with that row left out.
pub mapped_refused : {E W : Type 0} (row : Result (Unit {0}) W) (result : Result (Unit {0}) (DumpError E W))
    (old new : Option (List Line)) (line : Line) (Post : W → DumpError E W → Type 0)
    → MatchResult row (λ done. result ≡ Ok done) (λ fault. IsErrAnd result (Post fault)) → OnErr row (new ≡ old)
    → IsRefused result → DrawsRefused old new (line ∷ [])
mapped_refused (Ok done) result old new line Post cases same refused = absurd (rw cases at refused)
mapped_refused (Err fault) result old new line Post cases same refused = draws_refused old new line same

module _ {R E : Type 0} (source : Ghosts R E) where
  -- If the row of a title was refused and nothing was read after it, the title and no further byte was shown.
  pub behind_refused : (depth start : ℕ) (drawn then_drawn : Option (List Line)) (before title : List ℕ)
      (decoder : Decoder R) → LinesRefused depth start drawn then_drawn before title
      → ShowsBehindRefused source depth start drawn then_drawn before title decoder decoder
  behind_refused depth start drawn then_drawn before title decoder but = record {
    row = but.row;
    how = Meant;
    bytes = [];
    shows = title_only source depth start drawn _ before title decoder but.lines (λ shown left. tt);
  }
