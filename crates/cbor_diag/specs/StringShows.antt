-- The text of a string in diagnostic notation (RFC 8949, section 8), and the text of a string that was read in part.
use Rattle.std.specs.Prelude.{◌≡◌, ◌⊎◌, ℕ, ◌+◌, ◌≤◌, Bool, true, false, List, [], ◌∷◌, ◌++◌, drop, length, codes}
use Rattle.std.specs.Prelude.{Option, Some, None, Result, Ok, Err}
use Rattle.ciborium_ll.specs.Types.Read.{Ghosts as Reader}
use Rattle.ciborium_ll.specs.Types.Write.{Ghosts as Writer}
use Rattle.ciborium_ll.specs.Types.Decoder.{Decoder}
use Rattle.ciborium_ll.specs.Types.Header.{Header}
use Rattle.ciborium_ll.specs.Types.Error.{Error}
use Rattle.ciborium_ll.specs.Types.RecodeError.{RecodeError}
use Rattle.ciborium_ll.specs.Types.RecodeError.TheVariants as r
use Rattle.ciborium_ll.specs.Title.{IsTitle, shortest_title}
use Rattle.ciborium_ll.specs.Strings.{Kind, Bytes, Text, kind_header, IsString, IsWritable, most_kept}
use Rattle.ciborium_ll.specs.Faults.{IsInside}
use Rattle.ciborium_ll_text.specs.Text.{IsFront}
use Rattle.ciborium_ll.specs.Decoding.{ReadsPast, DecoderPullAnswer, PullsTitle}
use Rattle.ciborium_ll.specs.Encoding.{WritesAll, WritesFront}
use Rattle.ciborium_ll.specs.Finishing.{ReadsRest, StopsRest}
use Rattle.ciborium_ll.specs.Sides.{Sides, sides}
use Rattle.cbor_skip.specs.declared.SkipError.TheVariants as s
use Rattle.cbor_diag.specs.declared.DiagError.{DiagError}
use Rattle.cbor_diag.specs.declared.DiagError.TheVariants as d
use Rattle.cbor_diag.specs.declared.strings.quotes.Quotes.{Quotes}
use Rattle.cbor_diag.specs.declared.strings.quotes.Quotes.TheVariants as q
use Rattle.cbor_diag.specs.declared.marks.Mark.{Mark}
use Rattle.cbor_diag.specs.Marks.{mark_text}
use Rattle.cbor_diag.specs.Notation.{body_text}

-- ---- the text

-- The quotes of a string of the kind (RFC 8949, 8). `41 61` is shown as `h'61'`, and `61 61` as `"a"`.
abbrev pub kind_quotes : Kind → Quotes
kind_quotes Bytes = q.Hex
kind_quotes Text = q.Text

-- The text before a body: `h'` or a quote, which is 34.
abbrev pub opening : Quotes → List ℕ
opening q.Hex = codes "h'"
opening q.Text = 34 ∷ []
opening q.Base16 = codes "h'"
opening q.Base64 = codes "b64'"
opening q.Base64Url = codes "b64'"

-- The text after a body: `'` after `h'01`, and a quote after a text.
abbrev pub closing : Quotes → List ℕ
closing q.Hex = codes "'"
closing q.Text = 34 ∷ []
closing q.Base16 = codes "'"
closing q.Base64 = codes "'"
closing q.Base64Url = codes "'"

-- A body in quotes: `h'0102'` for the bytes `01 02`.
abbrev pub quoted_body : Quotes → List ℕ → List ℕ
quoted_body quotes body = (opening quotes ++ body_text quotes body) ++ closing quotes

-- A body in quotes whose end is missing: `h'01` for the byte `01`.
abbrev pub begun_text : Quotes → List ℕ → List ℕ
begun_text quotes front = opening quotes ++ body_text quotes front

-- The front of a body that is shown: the whole body of a byte string, and of a text the longest front that is UTF-8.
-- Of `61 ff` it is `61`.
abbrev pub IsShownFront : Kind → List ℕ → List ℕ → Type 0
IsShownFront Bytes bytes front = front ≡ bytes
IsShownFront Text bytes front = IsFront bytes front (drop (length front) bytes)

-- ---- one body

module _ {R E W F : Type 0} (source : Reader R E) (sink : Writer W F) (kind : Kind) (len : ℕ) where
  -- The writer failed within the text of these bytes of the body, which were read. Those of a text are whole
  -- characters, and up to three more bytes were read after them. For the body `01 02` in quotes it can have written
  -- `h'01`.
  pub record BodyUnshown (text : List ℕ → List ℕ) (old new : Sides R W) : Type 0 where
    pub bytes : List ℕ
    pub kept : List ℕ
    pub passed : ReadsPast source old.decoder (bytes ++ kept) new.decoder
    pub within : length bytes + length kept ≤ len
    pub few : length kept ≤ most_kept kind
    pub sound : IsWritable kind bytes
    pub stopped : WritesFront sink old.writer (text bytes) new.writer

module _ {R E W F : Type 0} (source : Reader R E) (sink : Writer W F) (kind : Kind) (len room place : ℕ) where
  -- A body of this length was read whole, and its text was written. For the body `01 02` in quotes it is `h'0102'`.
  pub record BodyShown (text : List ℕ → List ℕ) (old new : Sides R W) : Type 0 where
    pub ends : ReadsRest source kind [] len old.decoder new.decoder
    pub written : WritesAll sink old.writer (text ends.read) new.writer

  -- The read of a body stopped, through a buffer of this room. The text of the bytes that were handed out was written.
  -- For a body of 3 bytes and a room of 2 it can be `h'0102`.
  pub record BodyStopped (text : List ℕ → List ℕ) (old : Sides R W) (error : Error E) (new : Sides R W) : Type 0 where
    pub ends : StopsRest source kind [] len room place old.decoder error new.decoder
    pub written : WritesAll sink old.writer (text ends.part.front) new.writer

  -- A body was copied to a quoting writer. The body `0a` of a text is written as `\n`.
  abbrev pub CopiesQuoted : Quotes → Sides R W → Result (Unit {0}) (RecodeError E F) → Sides R W → Type 0
  CopiesQuoted quotes old (Ok done) new = BodyShown (body_text quotes) old new
  CopiesQuoted quotes old (Err (r.Read error)) new = BodyStopped (body_text quotes) old error new
  CopiesQuoted quotes old (Err (r.Write fault)) new = BodyUnshown source sink kind len (body_text quotes) old new

  -- A body was shown in quotes. If its read stopped, the text ends after the bytes that were handed out. The body
  -- `01 02` of a byte string is shown as `h'0102'`.
  abbrev pub ShowsBody : Quotes → Sides R W → Result (Unit {0}) (DiagError E F) → Sides R W → Type 0
  ShowsBody quotes old (Ok done) new = BodyShown (quoted_body quotes) old new
  ShowsBody quotes old (Err (d.Read (s.Read error))) new = BodyStopped (begun_text quotes) old error new
  ShowsBody quotes old (Err (d.Read (s.Break at))) new = ⊥
  ShowsBody quotes old (Err (d.Read (s.Deep at))) new = ⊥
  ShowsBody quotes old (Err (d.Write fault)) new = BodyUnshown source sink kind len (quoted_body quotes) old new

-- ---- the text of a string

-- The text before a body, by whether the string has the indefinite form, and whether the body is its first. In
-- `(_ h'01', h'02')` it is `(_ `, and then a comma and a space.
abbrev pub lead_text : Bool → Bool → List ℕ
lead_text false first = []
lead_text true true = codes "(_ "
lead_text true false = codes ", "

-- Whether there is no body. `5f ff` has none, and `5f 40 ff` has an empty one.
abbrev pub is_none : List (List ℕ) → Bool
is_none [] = true
is_none (body ∷ bodies) = false

-- The bodies after the first body, each in quotes. In `(_ h'01', h'02')` they are `, h'02'`.
abbrev pub more_bodies : Bool → Quotes → List (List ℕ) → List ℕ
more_bodies opens quotes [] = []
more_bodies opens quotes (body ∷ bodies) =
    (lead_text opens false ++ quoted_body quotes body) ++ more_bodies opens quotes bodies

-- All bodies of a string: `(_ h'01', h'02'` in the indefinite form.
abbrev pub bodies_text : Bool → Quotes → List (List ℕ) → List ℕ
bodies_text opens quotes [] = []
bodies_text opens quotes (body ∷ bodies) =
    (lead_text opens true ++ quoted_body quotes body) ++ more_bodies opens quotes bodies

-- A string of the indefinite form that has no body: its quotes and an underscore (RFC 8949, 8.1). `5f ff` is shown as
-- `''_`.
abbrev pub none_text : Quotes → List ℕ
none_text q.Hex = codes "''_"
none_text q.Text = 34 ∷ 34 ∷ 95 ∷ []
none_text q.Base16 = codes "''_"
none_text q.Base64 = codes "''_"
none_text q.Base64Url = codes "''_"

-- The text after the bodies, by whether there is none. In the definite form it is the mark of the string's title.
-- `5f ff` is shown as `''_`, and `5f 40 ff` ends with `)`.
abbrev pub end_text : Bool → Quotes → Mark → Bool → List ℕ
end_text false quotes mark none = mark_text mark
end_text true quotes mark true = none_text quotes
end_text true quotes mark false = codes ")"

-- A string with these bodies, whose title has this mark: `(_ h'01', h'02')` in the indefinite form.
abbrev pub string_text : Bool → Quotes → Mark → List (List ℕ) → List ℕ
string_text opens quotes mark bodies = bodies_text opens quotes bodies ++ end_text opens quotes mark (is_none bodies)

-- Whether the form is indefinite, by the length or the count. It is for `5f`, which has none, and not for `42`.
abbrev pub is_indefinite : Option ℕ → Bool
is_indefinite None = true
is_indefinite (Some len) = false

-- ---- one string

-- These bytes follow the header of a string and begin it, with these bodies. After `5f` the bytes `41 01` begin it with
-- the body `01`.
abbrev pub BeginsBodies : Kind → Option ℕ → List ℕ → List (List ℕ) → Type 0
BeginsBodies kind (Some len) behind bodies = (behind ≡ []) × (bodies ≡ [])
BeginsBodies kind None behind bodies = IsInside kind (shortest_title (kind_header kind None) ++ behind) bodies

-- The bytes end with the title of one more body, of this many bytes. In a string of the definite form that title is its
-- header. After `5f` the bytes `41 01 42` end with the title of a body of 2 bytes.
abbrev pub IsTitled : Kind → Option ℕ → List ℕ → List (List ℕ) → ℕ → Type 0
IsTitled kind (Some len) behind bodies count = (behind ≡ []) × (bodies ≡ []) × (count ≡ len)
IsTitled kind None behind bodies count =
    (strings : List ℕ) × (title : List ℕ) × (behind ≡ strings ++ title) × BeginsBodies kind None strings bodies
    × IsTitle title (kind_header kind (Some count))

-- A title is due, and none came, or the title begins no body. After `5f` the title `01` begins none, and `41` begins
-- one.
abbrev pub MeetsNoBody : {R E : Type 0} → Reader R E → Kind → Decoder R → Error E → Decoder R → Type 0
MeetsNoBody source kind between error new =
    DecoderPullAnswer source between (Err error) new ⊎
    ((header : Header) × PullsTitle source between header new
    × ((count : ℕ) → header ≡ kind_header kind (Some count) → ⊥))

-- A whole string was read after its header. After that of `42` its bytes can be `01 02`, and after that of `5f`,
-- `41 01 ff`.
pub record StringRead {R E : Type 0} (source : Reader R E) (kind : Kind) (len : Option ℕ) (old new : Decoder R)
    : Type 0 where
  pub behind : List ℕ
  pub bodies : List (List ℕ)
  pub is_string : IsString kind (shortest_title (kind_header kind len) ++ behind) bodies
  pub passed : ReadsPast source old behind new

module _ {R E W F : Type 0} (source : Reader R E) (sink : Writer W F) (kind : Kind) (quotes : Quotes)
    (len : Option ℕ) (mark : Mark) where
  -- A whole string was read and shown. After `42` the bytes `01 02` are shown as `h'0102'`.
  pub record StringShown (old new : Sides R W) : Type 0 where
    pub reads : StringRead source kind len old.decoder new.decoder
    pub written : WritesAll sink old.writer (string_text (is_indefinite len) quotes mark reads.bodies) new.writer

  -- A beginning of a string was read, and its bodies were shown. After `5f` the bytes `41 01` are shown as `(_ h'01'`.
  pub record StringBegun (old now : Sides R W) : Type 0 where
    pub behind : List ℕ
    pub bodies : List (List ℕ)
    pub begun : BeginsBodies kind len behind bodies
    pub passed : ReadsPast source old.decoder behind now.decoder
    pub written : WritesAll sink old.writer (bodies_text (is_indefinite len) quotes bodies) now.writer

  -- A beginning of a string was read, up to the title of one more body of this many bytes. The earlier bodies were
  -- shown, and the text before the new body was written. After `5f` the bytes `41 01 42` give `(_ h'01'`, a comma and a
  -- space.
  pub record BodyAnnounced (count : ℕ) (old now : Sides R W) : Type 0 where
    pub behind : List ℕ
    pub bodies : List (List ℕ)
    pub titled : IsTitled kind len behind bodies count
    pub passed : ReadsPast source old.decoder behind now.decoder
    pub written : WritesAll sink old.writer
        (bodies_text (is_indefinite len) quotes bodies ++ lead_text (is_indefinite len) (is_none bodies)) now.writer

  -- The read stopped at a title that is due, or within a body. The text ends there. In `5f 41 01 1c` it stopped at
  -- `1c`, after `(_ h'01'`.
  pub data StringStops (room : ℕ) (old : Sides R W) (error : Error E) (new : Sides R W) : Type 0 where
    at_title : (between : Decoder R) → StringBegun old (sides between new.writer)
        → MeetsNoBody source kind between error new.decoder → StringStops room old error new
    in_body : (count place : ℕ) (between : Sides R W) → BodyAnnounced count old between
        → BodyStopped source sink kind count room place (begun_text quotes) between error new
        → StringStops room old error new

  -- The writer failed: before a body, within it, or after the last body. After the body of `5f 41 01 ff` it can fail at
  -- the parenthesis that closes `(_ h'01')`.
  pub data StringUnshown (old new : Sides R W) : Type 0 where
    at_lead : (behind : List ℕ) (bodies : List (List ℕ)) (count : ℕ) → IsTitled kind len behind bodies count
        → ReadsPast source old.decoder behind new.decoder
        → WritesFront sink old.writer
        (bodies_text (is_indefinite len) quotes bodies ++ lead_text (is_indefinite len) (is_none bodies)) new.writer
        → StringUnshown old new
    at_body : (count : ℕ) (between : Sides R W) → BodyAnnounced count old between
        → BodyUnshown source sink kind count (quoted_body quotes) between new → StringUnshown old new
    at_end : (reads : StringRead source kind len old.decoder new.decoder)
        → WritesFront sink old.writer (string_text (is_indefinite len) quotes mark reads.bodies) new.writer
        → StringUnshown old new

  -- The show of a string after its header, through a buffer of this room. After `42` it can be `Ok` for `01 02`.
  abbrev pub ShowsString : ℕ → Sides R W → Result (Unit {0}) (DiagError E F) → Sides R W → Type 0
  ShowsString room old (Ok done) new = StringShown old new
  ShowsString room old (Err (d.Read (s.Read error))) new = StringStops room old error new
  ShowsString room old (Err (d.Read (s.Break at))) new = ⊥
  ShowsString room old (Err (d.Read (s.Deep at))) new = ⊥
  ShowsString room old (Err (d.Write fault)) new = StringUnshown old new
