-- Pieces: the arguments of calls that write, a header or a value of bytes or of text (RFC 7049, 2.1).
use Rattle.std.specs.Prelude.{◌≡◌, ℕ, List, [], ◌∷◌, ◌++◌, length, Option, Some, Result, Ok, Err, IsOk}
use Rattle.ciborium_ll_io.specs.declared.io.Read.{Ghosts as Reader}
use Rattle.ciborium_ll_io.specs.declared.io.Write.{Ghosts}
use Rattle.ciborium_ll_decoder.specs.declared.dec.Decoder.{Decoder}
use Rattle.ciborium_ll.specs.declared.laws.pieces.Piece.{Piece}
use Rattle.ciborium_ll.specs.declared.laws.pieces.Piece.TheVariants as p
use Rattle.ciborium_ll_text.specs.Text.{joined}
use Rattle.ciborium_ll_grammar.specs.Strings.{Kind, Bytes, Text}
use Rattle.ciborium_ll_grammar.specs.Elements.{Mark, Plain, IsPlain, IsElement, IsRun, spelling}
use Rattle.ciborium_ll_grammar.specs.Values.{value_limit, IsWritten, segments}
use Rattle.ciborium_ll_decoder.specs.Decoding.{view}
use Rattle.ciborium_ll_io.specs.Writes.{WritesAll, WritesBytes, WritesFront}

-- A header piece begins no string: strings are written as values of bytes and of text. So it may be the header of `82`,
-- but not that of `42`.
abbrev pub IsPlainPiece : Piece → Type 0
IsPlainPiece (p.Header header) = IsPlain header
IsPlainPiece (p.Bytes value segment) = Unit {0}
IsPlainPiece (p.Text value segment) = Unit {0}

-- The marks of a value in segments of at most `value_limit` bytes (RFC 7049, 2.2.2). Their bodies, joined, are the
-- value. The bytes `01 02 03` in segments of 2 bytes are `5f 42 01 02 41 03 ff`.
pub record IsValue (kind : Kind) (segment : Option ℕ) (value : List ℕ) (marks : List Mark) : Type 0 where
  pub written : IsWritten kind (value_limit kind segment value) value marks
  pub whole : joined (segments marks) ≡ value

-- The marks of one piece: the header's own mark, or the marks of a value under its limit. The header of an array of two
-- items is `82`.
abbrev pub IsPiece : Piece → List Mark → Type 0
IsPiece (p.Header header) marks = marks ≡ Plain header ∷ []
IsPiece (p.Bytes value segment) marks = IsValue Bytes segment value.now marks
IsPiece (p.Text value segment) marks = IsValue Text segment value.now marks

-- The marks of the pieces, one piece after the other: `81 41 ff` spells the header of an array of one item and the
-- bytes `ff`.
pub data HaveMarks : List Piece → List Mark → Type 0 where
  none : HaveMarks [] []
  next : {piece : Piece} {rest : List Piece} (marks : List Mark) {others : List Mark} → IsPiece piece marks
      → HaveMarks rest others
      → HaveMarks (piece ∷ rest) (marks ++ others)

-- Marks of the pieces, whose spelling is one element for each piece. For the header of `82` and the bytes `01` the
-- spelling is `82 41 01`.
pub record HaveSpelling (pieces : List Piece) : Type 0 where
  pub marks : List Mark
  pub have_marks : HaveMarks pieces marks
  pub run : IsRun (length pieces) (spelling marks) marks

module _ {W F : Type 0} (sink : Ghosts W F) where
  -- The spelling of one piece, which is one element, was written, or a beginning of it. The writer stays on its slice.
  -- For the header of `18 17` this is `17`.
  pub record WritesMarked {T : Type 0} (are_marks : List Mark → Type 0) (old : W) (result : Result T F) (new : W) :
      Type 0 where
    pub marks : List Mark
    pub are : are_marks marks
    pub element : IsElement (spelling marks) marks
    pub bytes : WritesBytes sink old result (spelling marks) new
    pub target : sink.target new ≡ sink.target old

  -- Each piece was written, as one element: `a0 61 61` for the header of `a0` and the text `61`.
  pub record WritesEach (pieces : List Piece) (old new : W) : Type 0 where
    pub spelled : HaveSpelling pieces
    pub written : WritesAll sink old (spelling spelled.marks) new

  -- The writer failed at one of the pieces. The pieces before it were written, and a beginning of its spelling. With
  -- room for 2 bytes, this is the second of the headers of `01` and `19 01 00`.
  pub record StopsAtPiece (pieces : List Piece) (old new : W) : Type 0 where
    pub front : List Piece
    pub piece : Piece
    pub behind : List Piece
    pub are : pieces ≡ front ++ piece ∷ behind
    pub between : W
    pub written : WritesEach front old between
    pub marks : List Mark
    pub is_piece : IsPiece piece marks
    pub stopped : WritesFront sink between (spelling marks) new

  -- The effect of `write_pieces`, by its answer: all pieces were written, or the pieces before one of them. With room
  -- for 1 byte, of the headers of `01` and `02` only the first was written.
  abbrev pub WritesElements : {T : Type 0} → List Piece → W → Result T F → W → Type 0
  WritesElements pieces old (Ok done) new = WritesEach pieces old new
  WritesElements pieces old (Err fault) new = StopsAtPiece pieces old new

  -- The effect of `write_pieces`, with the fact that the writer stays on its slice. After `00`, the header of `80`
  -- makes `00 80`.
  pub record WritesPieceList {T : Type 0} (pieces : List Piece) (old : W) (result : Result T F) (new : W) : Type 0 where
    pub elements : WritesElements pieces old result new
    pub target : sink.target new ≡ sink.target old

module _ {R E W F : Type 0} (source : Reader R E) (sink : Ghosts W F) where
  -- The bytes were copied unchanged, and exactly the bytes that follow them are left: `05` after `81 17`, if `81 17 05`
  -- was due.
  pub record CopiesSame {T X : Type 0} (bytes rest written : List ℕ) (result : Result T X) (new : Decoder R)
      (writer' : W) : Type 0 where
    pub ok : IsOk result
    pub output : sink.written writer' ≡ Some (written ++ bytes)
    pub left : view source new ≡ Some rest
