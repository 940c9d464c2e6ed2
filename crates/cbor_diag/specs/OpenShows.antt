-- The text of a string of indefinite length in exact notation (RFC 8949, 8 and 8.1): each string within it has its own
-- text, and its title its mark.
use Rattle.std.specs.Prelude.{◌≡◌, ℕ, suc, Bool, true, false, List, [], ◌∷◌, ◌++◌, length, Option, Some, None}
use Rattle.std.specs.Prelude.{Result, Ok, Err}
use Rattle.ciborium_ll.specs.Types.Read.{Ghosts as Reader}
use Rattle.ciborium_ll.specs.Types.Write.{Ghosts as Writer}
use Rattle.ciborium_ll.specs.Types.Decoder.{Decoder}
use Rattle.ciborium_ll.specs.Types.Error.{Error}
use Rattle.ciborium_ll.specs.Types.Header.TheVariants as h
use Rattle.ciborium_ll.specs.Title.{IsTitle}
use Rattle.ciborium_ll.specs.Strings.{Kind, kind_header, IsString}
use Rattle.ciborium_ll.specs.Title.{shortest_title}
use Rattle.ciborium_ll.specs.Decoding.{ReadsPast, PullsTitle}
use Rattle.ciborium_ll.specs.Encoding.{WritesAll, WritesFront}
use Rattle.ciborium_ll.specs.Sides.{Sides, sides}
use Rattle.cbor_skip.specs.declared.SkipError.TheVariants as s
use Rattle.cbor_diag.specs.declared.DiagError.{DiagError}
use Rattle.cbor_diag.specs.declared.DiagError.TheVariants as d
use Rattle.cbor_diag.specs.declared.marks.Mark.{Mark}
use Rattle.cbor_diag.specs.declared.marks.Mark.TheVariants as m
use Rattle.cbor_diag.specs.Marks.{mark_text, title_mark}
use Rattle.cbor_diag.specs.StringShows.{BodyShown, BodyStopped, BodyUnshown, MeetsNoBody, ShowsString, begun_text, end_text}
use Rattle.cbor_diag.specs.StringShows.{is_indefinite, kind_quotes, lead_text, quoted_body}
use Rattle.cbor_diag.specs.StringShows.{string_text}

-- ---- the text

-- The mark of the title of a string with this many bytes, by the length of the title. The title `58 01` has the mark
-- `_0`.
abbrev pub body_mark : Kind → ℕ → ℕ → List ℕ
body_mark kind len title_len = mark_text (title_mark true (kind_header kind (Some len)) title_len)

-- The text after the strings within an open, by whether there is none: `)`, or the text of an open without strings.
-- `5f ff` is shown as `''_`, and `5f 40 ff` ends with `)`.
abbrev pub open_end : Kind → Bool → List ℕ
open_end kind first = end_text true (kind_quotes kind) m.Absent first

mutual
  -- `IsOneShown kind string text`: the text shows this one string. `58 01 61` is shown as `h'61'_0`, and
  -- `5f 58 01 61 40 ff` as `(_ h'61'_0, h'')`.
  pub data IsOneShown (kind : Kind) : List ℕ → List ℕ → Type 0 where
    definite : (title body : List ℕ) → IsTitle title (kind_header kind (Some (length body)))
        → IsOneShown kind (title ++ body)
        (quoted_body (kind_quotes kind) body ++ body_mark kind (length body) (length title))
    indefinite : (title strings text : List ℕ) (first : Bool) → IsTitle title (kind_header kind None)
        → AreAllShown kind first strings text
        → IsOneShown kind (title ++ (strings ++ 0xff ∷ [])) (text ++ open_end kind first)

  -- `AreAllShown kind first strings text`: the text shows these strings within an open, each with the text before it.
  -- `first` says whether there is none. After `5f` the strings `41 01 5f ff` are shown as `(_ h'01', ''_`.
  pub data AreAllShown (kind : Kind) : Bool → List ℕ → List ℕ → Type 0 where
    none : AreAllShown kind true [] []
    more : (first : Bool) (strings string text one : List ℕ) → AreAllShown kind first strings text
        → IsOneShown kind string one
        → AreAllShown kind false (strings ++ string) (text ++ (lead_text true first ++ one))

-- `IsInsideShown kind opens first behind text`: after its open these bytes begin a string, and the text shows them.
-- `opens` opens are not closed, and `first` says that no string follows the last one. After `5f` the bytes `5f 41 01`
-- leave two opens, and are shown as `(_ (_ h'01'`.
pub data IsInsideShown (kind : Kind) : ℕ → Bool → List ℕ → List ℕ → Type 0 where
  opened : {first : Bool} {strings text : List ℕ} → AreAllShown kind first strings text
      → IsInsideShown kind 1 first strings text
  deeper : {opens : ℕ} (outer : Bool) {inner : Bool} (behind title strings text within : List ℕ)
      → IsInsideShown kind opens outer behind text → IsTitle title (kind_header kind None)
      → AreAllShown kind inner strings within
      → IsInsideShown kind (suc opens) inner (behind ++ (title ++ strings)) (text ++ (lead_text true outer ++ within))

-- The text of a string of the indefinite form after its open. After `5f` the bytes `58 01 61 ff` have the text
-- `(_ h'61'_0)`.
pub record IsOpenText (kind : Kind) (rest text : List ℕ) : Type 0 where
  pub first : Bool
  pub strings : List ℕ
  pub front : List ℕ
  pub are : AreAllShown kind first strings front
  pub rest_is : rest ≡ strings ++ 0xff ∷ []
  pub text_is : text ≡ front ++ open_end kind first

-- The text of a string after its title, by its bodies. After `42` the bytes `01 02` have the text `h'0102'`.
pub record IsBodiesText (kind : Kind) (len : Option ℕ) (mark : Mark) (rest text : List ℕ) : Type 0 where
  pub bodies : List (List ℕ)
  pub is_string : IsString kind (shortest_title (kind_header kind len) ++ rest) bodies
  pub text_is : text ≡ string_text (is_indefinite len) (kind_quotes kind) mark bodies

-- The text of a string after its title. In exact notation one of the indefinite form shows the strings within it. In
-- exact notation `5f 58 01 61 ff` has the text `(_ h'61'_0)`, and in plain notation `(_ h'61')`.
abbrev pub IsStringText : Bool → Kind → Option ℕ → Mark → List ℕ → List ℕ → Type 0
IsStringText true kind None mark rest text = IsOpenText kind rest text
IsStringText true kind (Some len) mark rest text = IsBodiesText kind (Some len) mark rest text
IsStringText false kind len mark rest text = IsBodiesText kind len mark rest text

-- ---- one string within an open

-- The text of a string of a definite length within an open: the text before it, its body in quotes, and its mark. For a
-- second string `58 01 61` it is `, h'61'_0`.
abbrev pub chunk_text : Kind → Bool → List ℕ → List ℕ → List ℕ
chunk_text kind first mark body = lead_text true first ++ (quoted_body (kind_quotes kind) body ++ mark)

-- The text of such a string whose body was read in part. For a second string `42 01` it is `, h'01`.
abbrev pub cut_text : Kind → Bool → List ℕ → List ℕ
cut_text kind first front = lead_text true first ++ begun_text (kind_quotes kind) front

-- ---- the show of one string of the indefinite form

module _ {R E W F : Type 0} (source : Reader R E) (sink : Writer W F) (kind : Kind) where
  -- The show of one string of a definite length within an open, after its title, which has the mark: the text before it,
  -- its body of this length and at this place, and the mark. After `42` it can be `Ok` for `01 02`.
  abbrev pub ShowsChunk : ℕ → ℕ → ℕ → Bool → List ℕ → Sides R W → Result (Unit {0}) (DiagError E F) → Sides R W → Type 0
  ShowsChunk len room place first mark old (Ok done) new =
      BodyShown source sink kind len room place (chunk_text kind first mark) old new
  ShowsChunk len room place first mark old (Err (d.Read (s.Read error))) new =
      BodyStopped source sink kind len room place (cut_text kind first) old error new
  ShowsChunk len room place first mark old (Err (d.Read (s.Break at))) new = ⊥
  ShowsChunk len room place first mark old (Err (d.Read (s.Deep at))) new = ⊥
  ShowsChunk len room place first mark old (Err (d.Write fault)) new =
      BodyUnshown source sink kind len (chunk_text kind first mark) old new

  -- A whole string was read after its open, and shown. After `5f` the bytes `41 01 ff` are shown as `(_ h'01')`.
  pub record OpenShown (old new : Sides R W) : Type 0 where
    pub rest : List ℕ
    pub text : List ℕ
    pub is_text : IsOpenText kind rest text
    pub passed : ReadsPast source old.decoder rest new.decoder
    pub written : WritesAll sink old.writer text new.writer

  -- A beginning of a string was read after its open, and shown. After `5f` the bytes `41 01` are shown as `(_ h'01'`.
  pub record OpenBegun (opens : ℕ) (first : Bool) (old now : Sides R W) : Type 0 where
    pub behind : List ℕ
    pub text : List ℕ
    pub begun : IsInsideShown kind opens first behind text
    pub passed : ReadsPast source old.decoder behind now.decoder
    pub written : WritesAll sink old.writer text now.writer

  -- The read stopped at a title that is due, or within a body. The text ends there. After `5f` it stopped at `1c` of
  -- `41 01 1c`, with the text `(_ h'01'`.
  pub data OpenStops (room : ℕ) (old : Sides R W) (error : Error E) (new : Sides R W) : Type 0 where
    at_title : {opens : ℕ} {first : Bool} {between : Decoder R}
        → OpenBegun opens first old (sides between new.writer)
        → MeetsNoBody source kind between error new.decoder → OpenStops room old error new
    in_body : {opens len : ℕ} {first : Bool} {between : Sides R W} {titled : Decoder R}
        → OpenBegun opens first old between → PullsTitle source between.decoder (kind_header kind (Some len)) titled
        → BodyStopped source sink kind len room between.decoder.offset (cut_text kind first)
        (sides titled between.writer) error new
        → OpenStops room old error new

  -- The writer failed: at a string of a definite length, at an open, or at a break. After `41 01 ff` it can fail at the
  -- parenthesis of `(_ h'01')`.
  pub data OpenUnshown (old new : Sides R W) : Type 0 where
    at_string : {opens len : ℕ} {first : Bool} {between : Sides R W} {titled : Decoder R}
        → OpenBegun opens first old between
        → (pulled : PullsTitle source between.decoder (kind_header kind (Some len)) titled)
        → BodyUnshown source sink kind len (chunk_text kind first (body_mark kind len (length pulled.title)))
        (sides titled between.writer) new
        → OpenUnshown old new
    at_open : {opens : ℕ} {first : Bool} {between : Sides R W} → OpenBegun opens first old between
        → PullsTitle source between.decoder (kind_header kind None) new.decoder
        → WritesFront sink between.writer (lead_text true first) new.writer → OpenUnshown old new
    at_break : {opens : ℕ} {first : Bool} {between : Sides R W} → OpenBegun opens first old between
        → PullsTitle source between.decoder h.Break new.decoder
        → WritesFront sink between.writer (open_end kind first) new.writer → OpenUnshown old new

  -- The show of a string of the indefinite form after its open, through a buffer of this room. After `5f` it can be
  -- `Ok` for `41 01 ff`.
  abbrev pub ShowsOpen : ℕ → Sides R W → Result (Unit {0}) (DiagError E F) → Sides R W → Type 0
  ShowsOpen room old (Ok done) new = OpenShown old new
  ShowsOpen room old (Err (d.Read (s.Read error))) new = OpenStops room old error new
  ShowsOpen room old (Err (d.Read (s.Break at))) new = ⊥
  ShowsOpen room old (Err (d.Read (s.Deep at))) new = ⊥
  ShowsOpen room old (Err (d.Write fault)) new = OpenUnshown old new

  -- The show of a string after its header, in plain or in exact notation. In exact notation it shows `58 01 61 ff` after
  -- `5f` as `(_ h'61'_0)`.
  abbrev pub ShowsStringBy : Bool → Option ℕ → Mark → ℕ → Sides R W → Result (Unit {0}) (DiagError E F) → Sides R W
      → Type 0
  ShowsStringBy true None mark room old result new = ShowsOpen room old result new
  ShowsStringBy true (Some len) mark room old result new =
      ShowsString source sink kind (kind_quotes kind) (Some len) mark room old result new
  ShowsStringBy false len mark room old result new =
      ShowsString source sink kind (kind_quotes kind) len mark room old result new
