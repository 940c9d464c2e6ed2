-- A value of bytes or of text, as an encoder writes it in pieces of limited length (RFC 7049, 2.2.2).
use Rattle.std.specs.Prelude.{◌≡◌, ℕ, ◌<◌, ◌≤◌, max, List, [], ◌∷◌, length, Option, Some, None}
use Rattle.std.specs.List.{AllByRecursion}
use Rattle.ciborium_ll_text.specs.Text.{joined}
use Rattle.ciborium_ll_grammar.specs.Strings.{Kind, Bytes, Text}
use Rattle.ciborium_ll_grammar.specs.Elements.{Mark, Plain, Whole, Open, Piece, Close, open_marks}
use Rattle.ciborium_ll_text.specs.Cuts.{IsNonempty, IsCut, IsFullCut}

-- The least limit of the kind: one byte, or for text the 4 bytes of the longest characters, as `f0 9f 98 80`.
abbrev pub least_limit : Kind → ℕ
least_limit Bytes = 1
least_limit Text = 4

-- The requested limit, or the value's length if there is none, but at least the least limit of the kind. For a text and
-- the limit 2 it is 4.
abbrev pub value_limit : Kind → Option ℕ → List ℕ → ℕ
value_limit kind (Some limit) value = max (least_limit kind) limit
value_limit kind None value = max (least_limit kind) (length value)

-- Each piece has exactly `limit` bytes, but the last has at least one byte and at most `limit` bytes (RFC 7049, 2.2.2).
-- For the limit 2, `01 02` and `03` are such pieces.
abbrev pub AreFullPieces : ℕ → List (List ℕ) → Type 0
AreFullPieces limit [] = ⊥
AreFullPieces limit (piece ∷ []) = (0 < length piece) × (length piece ≤ limit)
AreFullPieces limit (piece ∷ following ∷ others) = (length piece ≡ limit) × AreFullPieces limit (following ∷ others)

-- The pieces of a byte string that is longer than the limit: `limit` bytes each, and the remainder last (RFC 7049,
-- 2.2.2). For the limit 2, `01 02 03` has the pieces `01 02` and `03`.
abbrev pub AreBytePieces : ℕ → List ℕ → List (List ℕ) → Type 0
AreBytePieces limit value members = (value ≡ joined members) × AreFullPieces limit members

-- The pieces of a text that is longer than the limit: a full cut of the text (RFC 7049, 2.2.2). For the limit 4,
-- `61 62 63 c3 a4` has the pieces `61 62 63` and `c3 a4`.
abbrev pub AreTextPieces : ℕ → List ℕ → List (List ℕ) → Type 0
AreTextPieces limit value members = IsFullCut value limit members

-- The pieces of a value that is longer than the limit, by its kind. For the limit 4, `61 62 63 c3 a4` has the pieces
-- `61 62 63 c3` and `a4` as bytes, and `61 62 63` and `c3 a4` as text.
abbrev pub ArePieces : Kind → ℕ → List ℕ → List (List ℕ) → Type 0
ArePieces Bytes limit value members = AreBytePieces limit value members
ArePieces Text limit value members = AreTextPieces limit value members

-- `IsWritten kind limit value marks`: the marks of the value. A value no longer than the limit is one string of a
-- definite length. A longer value is a string of indefinite length with its pieces (RFC 7049, 2.2.2). For the limit 2,
-- the byte string `01 02 03` has the marks of `5f 42 01 02 41 03 ff`.
pub data IsWritten (kind : Kind) (limit : ℕ) (value : List ℕ) : List Mark → Type 0 where
  in_one : length value ≤ limit → IsWritten kind limit value (Whole kind value ∷ [])
  in_pieces : (members : List (List ℕ)) → limit < length value → ArePieces kind limit value members
      → IsWritten kind limit value (open_marks kind members)

-- The segments of the marks: the body of each string of a definite length, and each piece. The marks of
-- `5f 42 01 02 41 03 ff` have the segments `01 02` and `03`.
abbrev pub segments : List Mark → List (List ℕ)
segments [] = []
segments (Plain header ∷ marks) = segments marks
segments (Whole kind body ∷ marks) = body ∷ segments marks
segments (Open kind ∷ marks) = segments marks
segments (Piece kind body ∷ marks) = body ∷ segments marks
segments (Close ∷ marks) = segments marks

-- The number of segments. A string of a definite length counts as one segment. `5f 42 01 02 41 03 ff` has 2.
abbrev pub segment_count : List Mark → ℕ
segment_count marks = length (segments marks)

-- The segments are texts, not empty, and joined they are the text. No cut of the text within the limit has fewer
-- members. For the limit 4, `61 62 63 c3 a4` needs two.
pub record HasFewestSegments (limit : ℕ) (text : List ℕ) (marks : List Mark) : Type 0 where
  pub cut : IsCut text limit (segments marks)
  pub nonempty : AllByRecursion IsNonempty (segments marks)
  pub fewest : (members : List (List ℕ)) → IsCut text limit members → segment_count marks ≤ length members
