-- The diagnostic notation of whole items (RFC 8949, section 8): the text of an item, by its bytes.
use Rattle.std.specs.Prelude.{◌≡◌, ℕ, zero, suc, ◌*◌, ◌%◌, ◌==◌, Bool, true, false, List, [], ◌∷◌, ◌++◌, codes, decimal}
use Rattle.std.specs.Prelude.{Option, Some, None, ◌||◌, length}
use Rattle.ciborium_ll.specs.Types.Read.{Ghosts as Reader}
use Rattle.ciborium_ll.specs.Types.Write.{Ghosts as Writer}
use Rattle.ciborium_ll.specs.Types.Float.{Float}
use Rattle.ciborium_ll.specs.Types.Header.{Header}
use Rattle.ciborium_ll.specs.Types.Header.TheVariants as h
use Rattle.ciborium_ll.specs.Title.{IsTitle}
use Rattle.ciborium_ll.specs.Strings.{Kind, kind_header}
use Rattle.ciborium_ll.specs.Decoding.{ReadsPast}
use Rattle.ciborium_ll.specs.Encoding.{WritesAll}
use Rattle.ciborium_ll.specs.Sides.{Sides}
use Rattle.cbor_diag.specs.declared.layout.Layout.{Layout}
use Rattle.cbor_diag.specs.declared.layout.Layout.TheVariants as l
use Rattle.cbor_diag.specs.declared.layout.Style.{Style}
use Rattle.cbor_diag.specs.declared.marks.Mark.{Mark}
use Rattle.cbor_diag.specs.Floats.{IsShownFloat}
use Rattle.cbor_diag.specs.Marks.{is_marked, mark_text, title_mark}
use Rattle.cbor_diag.specs.Notation.{header_notation}
use Rattle.cbor_diag.specs.OpenShows.{IsStringText}
use Rattle.cbor_diag.specs.Places.{IsEmbedded, Place, first_place, place_inside, place_within}
use Rattle.cbor_diag.specs.StringShows.{is_indefinite}

-- ---- the text around the items of a tag, an array or a map

-- The text before the items: a tag's number and a parenthesis, or a bracket, with the mark of the title, and with an
-- underscore in the indefinite forms (RFC 8949, 8 and 8.1). `82` gives `[`, `bf` gives `{_`, and `c1` gives `1(`. In
-- exact notation `98 02` gives `[_0`.
abbrev pub nest_opening : Header → Mark → List ℕ
nest_opening (h.Tag number) mark = (decimal number ++ mark_text mark) ++ codes "("
nest_opening (h.Array (Some count)) mark = codes "[" ++ mark_text mark
nest_opening (h.Array None) mark = codes "[_"
nest_opening (h.Map (Some count)) mark = codes "{" ++ mark_text mark
nest_opening (h.Map None) mark = codes "{_"
nest_opening header mark = []

-- The text after the items (RFC 8949, 8): `82` gives `]`, and `c1` gives `)`.
abbrev pub nest_closing : Header → List ℕ
nest_closing (h.Tag number) = codes ")"
nest_closing (h.Array len) = codes "]"
nest_closing (h.Map len) = codes "}"
nest_closing header = []

-- Two spaces for each level: the level 2 has 4 spaces.
abbrev pub indent : ℕ → List ℕ
indent zero = []
indent (suc level) = codes "  " ++ indent level

-- A line feed, and the indent of a line of this level. At the level 1 it is `0a 20 20`.
abbrev pub new_line : ℕ → List ℕ
new_line level = 10 ∷ indent level

-- Whether an underscore follows the bracket of an array or a map: in the indefinite form, or by a mark. It does in
-- `[_ 1]` and `[_0 1]`.
abbrev pub is_apart : Option ℕ → Mark → Bool
is_apart len mark = is_indefinite len || is_marked mark

-- The space before an item, by whether an underscore follows the bracket, and whether the item is the first. With lines
-- it is a new line, and otherwise a space. After a bracket alone on one line there is none. On one line `1` has a space
-- in `[_ 1]`, and none in `[1]`.
abbrev pub item_space : Layout → ℕ → Bool → Bool → List ℕ
item_space l.Indented level apart first = new_line level
item_space l.OneLine level true first = codes " "
item_space l.OneLine level false true = []
item_space l.OneLine level false false = codes " "

-- The space before an item within this header. An item of a tag has none, as `2` in `1(2)`.
abbrev pub nest_space : Header → Mark → Layout → ℕ → Bool → List ℕ
nest_space (h.Array len) mark layout level first = item_space layout level (is_apart len mark) first
nest_space (h.Map len) mark layout level first = item_space layout level (is_apart len mark) first
nest_space header mark layout level first = []

-- The comma before an item, by whether it is the first: in `[1, 2]` there is none before `1`, and one before `2`.
abbrev pub comma : Bool → List ℕ
comma true = []
comma false = codes ","

-- The text before an item within this header, by whether it is the value of a pair, and whether it is the first item.
-- On one line it is `, ` before the second item of `82`.
abbrev pub item_lead : Header → Mark → Layout → ℕ → Bool → Bool → List ℕ
item_lead header mark layout level true first = codes ": "
item_lead header mark layout level false first = comma first ++ nest_space header mark layout level first

-- The space after the last item, by whether an underscore follows the bracket, and whether there is no item. With lines
-- it is a new line. After an underscore and no item there is a space, as in `[_ ]` for `9f ff`.
abbrev pub last_space : Layout → ℕ → Bool → Bool → List ℕ
last_space layout level true true = codes " "
last_space layout level false true = []
last_space l.Indented level apart false = new_line level
last_space l.OneLine level apart false = []

-- The space after the last item within this header. An item of a tag has none. With lines it is a new line for `81`,
-- and nothing for `80`.
abbrev pub nest_last : Header → Mark → Layout → ℕ → Bool → List ℕ
nest_last (h.Array len) mark layout level empty = last_space layout level (is_apart len mark) empty
nest_last (h.Map len) mark layout level empty = last_space layout level (is_apart len mark) empty
nest_last header mark layout level empty = []

-- ---- an item

-- After `count` items within the header the next item is the value of a pair: in a map, each second item (RFC 7049,
-- 2.1). After `a1 01` it is a value.
abbrev pub is_value_at : Header → ℕ → Bool
is_value_at (h.Map len) count = count % 2 == 1
is_value_at header count = false

-- Whether the next item is the first after `count` items: it is after 0 items, and not after 1.
abbrev pub is_first_at : ℕ → Bool
is_first_at zero = true
is_first_at (suc count) = false

-- `count` items are all that the header contains: one in a tag, as many as an array counts, and two for each pair of a
-- map. An indefinite form has any number, and an indefinite map an even number (RFC 7049, 2.1, 2.2.1 and 2.4). For `a2`
-- they are 4.
abbrev pub IsAll : Header → ℕ → Type 0
IsAll (h.Tag number) count = count ≡ 1
IsAll (h.Array (Some len)) count = count ≡ len
IsAll (h.Map (Some len)) count = count ≡ 2 * len
IsAll (h.Array None) count = Unit {0}
IsAll (h.Map None) count = (pairs : ℕ) × (count ≡ 2 * pairs)
IsAll header count = ⊥

-- The end of the items: a break, which is `ff`, in the indefinite forms (RFC 7049, 2.2.1).
abbrev pub nest_end : Header → List ℕ
nest_end (h.Array None) = 0xff ∷ []
nest_end (h.Map None) = 0xff ∷ []
nest_end header = []

mutual
  -- `IsShown place header mark rest text`: the text shows an item at this place. A title of the header, with this mark,
  -- begins the item, and the rest follows it (RFC 8949, 8). `82 01 02` is shown on one line as `[1, 2]`.
  pub data IsShown : Place → Header → Mark → List ℕ → List ℕ → Type 0 where
    scalar : {place : Place} {header : Header} {mark : Mark} {text : List ℕ} → header_notation header mark ≡ Some text
        → IsShown place header mark [] text
    float : {place : Place} {value : Float} {mark : Mark} {text : List ℕ}
        → IsShownFloat place.line.style.is_exact value text → IsShown place (h.Float value) mark [] text
    string : {place : Place} {mark : Mark} {rest text : List ℕ} (kind : Kind) (len : Option ℕ)
        → IsStringText place.line.style.is_exact kind len mark rest text
        → (IsEmbedded place (kind_header kind len) rest → ⊥)
        → IsShown place (kind_header kind len) mark rest text
    -- The body of a byte string is one item (RFC 8610, G.3). `41 00` is shown as `<<0>>`.
    embedded : {place : Place} {header first : Header} {mark : Mark} {title rest text : List ℕ}
        → IsEmbedded place header (title ++ rest) → IsTitle title first
        → IsShown (place_inside (length (title ++ rest)) place) first
        (title_mark place.line.style.is_exact first (length title)) rest text
        → IsShown place header mark (title ++ rest) (codes "<<" ++ (text ++ (codes ">>" ++ mark_text mark)))
    nest : {place : Place} {count : ℕ} {header : Header} {mark : Mark} {items text : List ℕ} → IsAll header count
        → AreShown (place_within header place) header mark count items text
        → IsShown place header mark (items ++ nest_end header)
        (nest_opening header mark ++ (text
        ++ (nest_last header mark place.line.style.layout place.line.level (is_first_at count) ++ nest_closing header)))

  -- `AreShown place header mark count items text`: the text shows `count` items at this place within the header, each
  -- with the text before it. After `82` the items `01 02` are shown on one line as `1, 2`.
  pub data AreShown : Place → Header → Mark → ℕ → List ℕ → List ℕ → Type 0 where
    none : {place : Place} {header : Header} {mark : Mark} → AreShown place header mark zero [] []
    more : {place : Place} {count : ℕ} {header first : Header} {mark : Mark} {items text title rest item : List ℕ}
        → AreShown place header mark count items text → IsTitle title first
        → IsShown place first (title_mark place.line.style.is_exact first (length title)) rest item
        → AreShown place header mark (suc count) (items ++ (title ++ rest))
        (text ++ (item_lead header mark place.line.style.layout place.line.level (is_value_at header count)
        (is_first_at count) ++ item))

-- The text shows one whole item at this place. `82 01 02` is shown on one line as `[1, 2]`.
pub record IsItemText (place : Place) (item text : List ℕ) : Type 0 where
  pub title : List ℕ
  pub header : Header
  pub rest : List ℕ
  pub is_title : IsTitle title header
  pub shown : IsShown place header (title_mark place.line.style.is_exact header (length title)) rest text
  pub is : item ≡ title ++ rest

module _ {R E W F : Type 0} (source : Reader R E) (sink : Writer W F) where
  -- After its header the rest of an item was read, and its whole text was written. After `82` the rest `01 02` has the
  -- text `[1, 2]` on one line.
  pub record RestShown (place : Place) (header : Header) (mark : Mark) (old new : Sides R W) : Type 0 where
    pub rest : List ℕ
    pub text : List ℕ
    pub shown : IsShown place header mark rest text
    pub passed : ReadsPast source old.decoder rest new.decoder
    pub written : WritesAll sink old.writer text new.writer

  -- After the header all its content was read, and its text was written. The answer says whether it contains nothing.
  -- After `82` the content `01 02` has the text `1, 2` on one line.
  pub record WithinShown (place : Place) (header : Header) (mark : Mark) (old : Sides R W) (empty : Bool)
      (new : Sides R W) : Type 0 where
    pub count : ℕ
    pub items : List ℕ
    pub text : List ℕ
    pub all : IsAll header count
    pub shown : AreShown place header mark count items text
    pub passed : ReadsPast source old.decoder (items ++ nest_end header) new.decoder
    pub written : WritesAll sink old.writer text new.writer
    pub counted : empty ≡ (is_first_at count)

  -- One whole item was read at this place, and its whole text was written. The item `82 01 02` has the text `[1, 2]` on
  -- one line.
  pub record ItemShownAt (place : Place) (old new : Sides R W) : Type 0 where
    pub title : List ℕ
    pub header : Header
    pub rest : List ℕ
    pub text : List ℕ
    pub is_title : IsTitle title header
    pub shown : IsShown place header (title_mark place.line.style.is_exact header (length title)) rest text
    pub passed : ReadsPast source old.decoder (title ++ rest) new.decoder
    pub written : WritesAll sink old.writer text new.writer

  -- The same for an item that no header contains, in a text that shows no string as an item. In this text `41 00` is
  -- `h'00'`.
  abbrev pub ItemShown : Style → Sides R W → Sides R W → Type 0
  ItemShown style old new = ItemShownAt (first_place style) old new
