-- Laws of pieces that are written one by one.
use Rattle.std.proofs.Common.{arith, ◌≡◌, ℕ, add-one, ◌<◌, ◌^◌, List, [], ◌∷◌, ◌++◌, length, Option, Result, Ok}
use Rattle.std.proofs.Common.{IsErr, refl, IsOk, ◌↔◌, append_assoc, length-append}
use Rattle.std.proofs.lemmas.List.{append-nil}
use Rattle.std.proofs.KnownBytes.{Appends-nil}
use Rattle.ciborium_ll_io.specs.declared.io.Read.{Ghosts as Reader}
use Rattle.ciborium_ll_io.specs.declared.io.Write.{Ghosts}
use Rattle.ciborium_ll_decoder.specs.declared.dec.Decoder.{Decoder}
use Rattle.ciborium_ll_decoder.specs.declared.copy.RecodeError.{RecodeError}
use Rattle.ciborium_ll_grammar.specs.declared.spelling.Spelling.TheVariants.{Any}
use Rattle.ciborium_ll_grammar.specs.Faults.{BeginsWithElements}
use Rattle.ciborium_ll_recode.specs.RecodingTold.{RecodesTold}
use Rattle.ciborium_ll_decoder.specs.BodyCopies.{sides}
use Rattle.ciborium_ll_grammar.specs.declared.hdr.Header.{Header}
use Rattle.ciborium_ll.specs.declared.laws.pieces.Piece.{Piece}
use Rattle.ciborium_ll_grammar.specs.Title.{IsInRange, shortest_title}
use Rattle.ciborium_ll_grammar.specs.Strings.{Kind, IsWritable}
use Rattle.ciborium_ll_grammar.specs.Elements.{Mark, Plain, IsPlain, spelling, IsElement, plain, IsRun, done}
use Rattle.ciborium_ll_grammar.specs.Values.{value_limit, IsWritten}
use Rattle.ciborium_ll_io.specs.Writes.{WritesAll, WritesFront, WritesBytes}
use Rattle.ciborium_ll_encoder.specs.Encoding.{WritesValue}
use Rattle.ciborium_ll.specs.Pieces.{IsValue, IsPiece, HaveMarks, CopiesSame, WritesMarked, WritesEach, WritesElements}
use Rattle.ciborium_ll.specs.Pieces.HaveMarks.{none as no_pieces, next as next_piece}
use Rattle.ciborium_ll_grammar.proofs.TitleLaws.{IsTitle-shortest}
use Rattle.ciborium_ll_io.proofs.WriteLaws.{Shrinks-zero, WritesBytes-then}
use Rattle.ciborium_ll_grammar.proofs.ElementLaws.{spelling-append, one_run}
use Rattle.ciborium_ll_grammar.proofs.StepLaws.{add_element}
use Rattle.ciborium_ll_grammar.proofs.ValueLaws.{written_element, sound_pieces, segments_of_pieces}

-- ---- the marks of a value

-- The bodies of the marks, joined, are the value.
pub value_of : (k : Kind) (segment : Option ℕ) (value : List ℕ) (marks : List Mark)
    → IsWritten k (value_limit k segment value) value marks → IsValue k segment value marks
value_of k segment value marks w = grind (arith, segments_of_pieces, sound_pieces, append-nil)

-- ---- one piece

module _ {W F : Type 0} (sink : Ghosts W F) where
  pub header_marked : {T : Type 0} (header : Header) (old new : W) (result : Result T F) → IsPlain header
      → IsInRange header → WritesBytes sink old result (shortest_title header) new → sink.target new ≡ sink.target old
      → WritesMarked sink (λ marks. marks ≡ Plain header ∷ []) old result new
  header_marked header old new result plain_one range wrote target = grind (arith, append-nil, plain, IsTitle-shortest)

  pub value_marked : {T : Type 0} (k : Kind) (segment : Option ℕ) (value : List ℕ) (old new : W) (result : Result T F)
      → IsWritable k value → length value < 2 ^ 64 → WritesValue sink k segment value old result new
      → sink.target new ≡ sink.target old → WritesMarked sink (IsValue k segment value) old result new
  value_marked k segment value old new result sound n wrote target = grind (arith, value_of, written_element)

-- ---- the loop over the pieces

have_one : {pieces : List Piece} {marks : List Mark} → HaveMarks pieces marks → (piece : Piece) (others : List Mark)
    → IsPiece piece others → HaveMarks (pieces ++ piece ∷ []) (marks ++ others)
have_one no_pieces piece others is = rw append-nil at (next_piece others is no_pieces)
have_one (next_piece ms {others = ns} one more) piece others is =
    rw (append_assoc ms ns others) (next_piece ms one (have_one more piece others is))

module _ {W F : Type 0} (sink : Ghosts W F) where
  -- A writer that writes nothing stays as it is.
  pub writes_nothing : (writer : W) → WritesAll sink writer [] writer
  writes_nothing writer = record {
    appended = Appends-nil (sink.written writer);
    room = Shrinks-zero (sink.room writer);
    failures = refl;
  }

  -- The pieces before `rest` were written.
  pub record Midway (all rest : List Piece) (old now : W) : Type 0 where
    pub front : List Piece
    pub are : all ≡ front ++ rest
    pub written : WritesEach sink front old now

  pub midway_first : (all : List Piece) (writer : W) → Midway all all writer writer
  midway_first all writer = record {
    front = [];
    are = refl;
    written = record {
      spelled = record { marks = []; have_marks = no_pieces; run = done };
      written = writes_nothing writer;
    };
  }

  module _ {all rest behind : List Piece} {piece : Piece} {old now new : W} (marks : List Mark)
      (split : rest ≡ piece ∷ behind) (m : Midway all rest old now) (is : IsPiece piece marks) where
    -- If the next piece is written too, one piece fewer is left.
    pub midway_more : IsElement (spelling marks) marks → WritesAll sink now (spelling marks) new
        → Midway all behind old new
    midway_more element wrote =
        let s = m.written.spelled in
        record {
          front = m.front ++ piece ∷ [];
          are = cc (m.are, split, append_assoc m.front (piece ∷ []) behind);
          written = record {
            spelled = record {
              marks = s.marks ++ marks;
              have_marks = have_one s.have_marks piece marks is;
              run = rw (length-append m.front (piece ∷ []), add-one, spelling-append s.marks marks)
                  (add_element (length m.front) (spelling s.marks) s.marks s.run (spelling marks) marks element);
            };
            written = rw (spelling-append s.marks marks)
                (WritesBytes-then sink old now new (Ok (tt {0})) _ _ m.written.written wrote);
          };
        }

    -- If the write of the next piece fails, `write_pieces` stops at this piece.
    pub midway_stops : (result : Result (Unit {0}) F) → IsErr result → WritesFront sink now (spelling marks) new
        → WritesElements sink all old result new
    midway_stops result e wrote = grind (arith, append_assoc)

  -- If no piece is left, all pieces were written.
  pub midway_last : {all rest : List Piece} {old now : W} → rest ≡ [] → Midway all rest old now
      → WritesEach sink all old now
  midway_last e m = rw (m.are, e, append-nil) m.written

-- ---- a copy of elements in their shortest spelling

module _ {R E W F : Type 0} (source : Reader R E) (sink : Ghosts W F) where
  -- The elements at the start of the bytes due are the elements that were written.
  pub copied_same : (count : ℕ) (marks : List Mark) (rest written : List ℕ) (old new : Decoder R) (writer' : W)
      (result : Result (Unit {0}) (RecodeError E F)) → IsRun count (spelling marks) marks
      → (IsOk result ↔ BeginsWithElements Any count (spelling marks ++ rest))
      → RecodesTold source sink Any count (spelling marks ++ rest) written old result (sides new writer')
      → CopiesSame source sink (spelling marks) rest written result new writer'
  copied_same count marks rest written old new writer' result run exactly told = grind (arith, one_run)
