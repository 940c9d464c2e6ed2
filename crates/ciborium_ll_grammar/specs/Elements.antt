-- Elements, the marks that they leave, and the marks' shortest spelling. An *element* is the unit of a copy: a title
-- that begins no string, or a whole string. `83` and `43 01 02 03` are one element each.
use Rattle.std.specs.Prelude.{◌≡◌, ℕ, zero, suc, List, [], ◌∷◌, ◌++◌, length, Some, None}
use Rattle.std.specs.List.{AllByRecursion}
use Rattle.ciborium_ll_grammar.specs.declared.hdr.Header.{Header}
use Rattle.ciborium_ll_grammar.specs.declared.hdr.Header.TheVariants as h
use Rattle.ciborium_ll_grammar.specs.Title.{IsTitle, IsSmallSimple, shortest_title}
use Rattle.ciborium_ll_grammar.specs.Strings.{Kind, kind_header, IsString, definite, indefinite, IsWritable}

-- A copy may write each body by itself: any bytes, or for a text UTF-8 (RFC 7049, 2.2.2). It may write the bodies `c3`
-- and `a4` of a byte string, but not of a text.
abbrev pub AreWritable : Kind → List (List ℕ) → Type 0
AreWritable kind bodies = AllByRecursion (IsWritable kind) bodies

-- The header begins no string (RFC 7049, 2.1). The header of `83` is plain, and that of `43` is not.
abbrev pub IsPlain : Header → Type 0
IsPlain (h.Bytes len) = ⊥
IsPlain (h.Text len) = ⊥
IsPlain header = Unit {0}

-- The trace of an element: a header that begins no string, or a whole string of a definite length. A string of
-- indefinite length leaves an open, a piece for each body, and a close (RFC 7049, 2.2.2). `42 01 02` leaves one mark,
-- and `5f 41 01 41 02 ff` leaves four.
pub data Mark : Type 0 where
  Plain : Header → Mark
  Whole : Kind → List ℕ → Mark
  Open : Kind → Mark
  Piece : Kind → List ℕ → Mark
  Close : Mark

-- The shortest title of a body, and the body (RFC 7049, 2.1 and 3.9). For the body `01 02` of a byte string it is
-- `42 01 02`.
abbrev pub body_spelling : Kind → List ℕ → List ℕ
body_spelling kind body = shortest_title (kind_header kind (Some (length body))) ++ body

-- The shortest bytes of a mark (RFC 7049, 2.1, 2.2.2 and 3.9). For the open of a byte string they are `5f`.
abbrev pub mark_spelling : Mark → List ℕ
mark_spelling (Plain header) = shortest_title header
mark_spelling (Whole kind body) = body_spelling kind body
mark_spelling (Open kind) = shortest_title (kind_header kind None)
mark_spelling (Piece kind body) = body_spelling kind body
mark_spelling Close = 0xff ∷ []

-- The shortest bytes of marks, joined. For the marks of `18 01 58 01 02` they are `01 41 02`.
abbrev pub spelling : List Mark → List ℕ
spelling [] = []
spelling (mark ∷ marks) = mark_spelling mark ++ spelling marks

-- A piece for each body (RFC 7049, 2.2.2). The bodies `01` and `02` of a byte string have the pieces `41 01` and
-- `41 02`.
abbrev pub pieces : Kind → List (List ℕ) → List Mark
pieces kind [] = []
pieces kind (body ∷ bodies) = Piece kind body ∷ pieces kind bodies

-- The marks of a string of indefinite length (RFC 7049, 2.2.2). `5f 41 01 ff` has an open, one piece and a close.
abbrev pub open_marks : Kind → List (List ℕ) → List Mark
open_marks kind bodies = Open kind ∷ (pieces kind bodies ++ Close ∷ [])

-- The marks of a string, by its form (RFC 7049, 2.2.2). `41 01` has one mark, and `5f 41 01 ff` has three.
abbrev pub string_marks : {kind : Kind} {bytes : List ℕ} {bodies : List (List ℕ)} → IsString kind bytes bodies
    → List Mark
string_marks {kind = kind} (definite {body = body} is_title) = Whole kind body ∷ []
string_marks {kind = kind} (indefinite {bodies = bodies} is_title strings) = open_marks kind bodies

-- The bytes are an element with these marks: a title that begins no string, or a string whose bodies a copy may write
-- (RFC 7049, 2.1 and 2.2.2). Opens inside a string leave no mark. `83` is an element, and `61 ff` is none.
pub data IsElement : List ℕ → List Mark → Type 0 where
  plain : {title : List ℕ} (header : Header) → IsTitle title header → IsPlain header
      → IsElement title (Plain header ∷ [])
  string : {bytes : List ℕ} {bodies : List (List ℕ)} (kind : Kind) (is_string : IsString kind bytes bodies)
      → AreWritable kind bodies → IsElement bytes (string_marks is_string)

-- The bytes are this many elements, joined, with these marks. `82 01 41 02` is a run of three elements.
pub data IsRun : ℕ → List ℕ → List Mark → Type 0 where
  done : IsRun zero [] []
  next : {count : ℕ} {first rest : List ℕ} {marks others : List Mark} → IsElement first marks → IsRun count rest others
      → IsRun (suc count) (first ++ rest) (marks ++ others)

-- ---- the elements of a strict decoder

-- The mark is no simple value from 24 to 31 (RFC 7049, 2.3). The mark of `f8 18` is one of them.
abbrev pub IsNoSmallSimple : Mark → Type 0
IsNoSmallSimple (Plain header) = IsSmallSimple header → ⊥
IsNoSmallSimple mark = Unit {0}

-- The bytes are the marks' shortest spelling and then `more` (RFC 7049, 3.9). No mark is a simple value from 24 to 31
-- (2.3). For the mark of `01` and the bytes `01 43`, `more` is `43`.
pub record IsStrictSpelling (bytes : List ℕ) (marks : List Mark) (more : List ℕ) : Type 0 where
  pub same : bytes ≡ spelling marks ++ more
  pub meant : AllByRecursion IsNoSmallSimple marks

-- The bytes are `count` elements in their shortest spelling, without a simple value from 24 to 31. So each title is the
-- shortest of its header, and no string of indefinite length is inside another (RFC 7049, 2.2.2, 2.3 and 3.9). `81 01`
-- is such a run, and `81 18 01` is none.
pub record IsStrictRun (count : ℕ) (bytes : List ℕ) (marks : List Mark) : Type 0 where
  pub run : IsRun count bytes marks
  pub same : bytes ≡ spelling marks
  pub meant : AllByRecursion IsNoSmallSimple marks
