-- The JSON of whole items (RFC 8949, section 6.1; RFC 8259): the text of an item, by its bytes.
use Rattle.std.specs.Prelude.{◌≡◌, ℕ, zero, suc, Bool, true, false, List, [], ◌++◌, codes, Option}
use Rattle.ciborium_ll.specs.Types.Read.{Ghosts as Reader}
use Rattle.ciborium_ll.specs.Types.Write.{Ghosts as Writer}
use Rattle.ciborium_ll.specs.Types.Header.{Header}
use Rattle.ciborium_ll.specs.Types.Header.TheVariants as h
use Rattle.ciborium_ll.specs.Title.{IsTitle, shortest_title}
use Rattle.ciborium_ll.specs.Strings.{Kind, kind_header, IsString}
use Rattle.ciborium_ll.specs.Decoding.{ReadsPast}
use Rattle.ciborium_ll.specs.Encoding.{WritesAll}
use Rattle.ciborium_ll.specs.Sides.{Sides}
use Rattle.cbor_diag.specs.ItemTexts.{IsAll, comma, is_first_at, is_value_at, nest_end}
use Rattle.cbor_json.specs.declared.role.Role.{Role}
use Rattle.cbor_json.specs.Roles.{has_json, item_role}
use Rattle.cbor_json.specs.Scalars.{IsScalarJson}
use Rattle.cbor_json.specs.StringTexts.{string_json}

-- ---- the text around the items of a tag, an array or a map

-- The text before the items: a bracket (RFC 8259, 4 and 5). A tag has no text of its own. `82` gives `[`, `bf` gives
-- `{`, and `c1` gives nothing.
abbrev pub nest_opening : Header → List ℕ
nest_opening (h.Array len) = codes "["
nest_opening (h.Map len) = codes "{"
nest_opening header = []

-- The text after the items (RFC 8259, 4 and 5): `82` gives `]`, and `c1` gives nothing.
abbrev pub nest_closing : Header → List ℕ
nest_closing (h.Array len) = codes "]"
nest_closing (h.Map len) = codes "}"
nest_closing header = []

-- The text before an item, by whether it is the value of a pair, and whether it is the first item (RFC 8259, 4 and 5).
-- It is a comma before the second item of `82`, and a colon before the value of `a1`.
abbrev pub item_lead : Bool → Bool → List ℕ
item_lead true first = codes ":"
item_lead false first = comma first

-- ---- an item

mutual
  -- `IsJson role header rest text`: the text is the JSON of an item of this role. A title of the header begins the
  -- item, and the rest follows it (RFC 8949, 6.1; RFC 8259). `82 01 02` has the text `[1,2]`.
  pub data IsJson : Role → Header → List ℕ → List ℕ → Type 0 where
    -- An integer, a float or a simple value.
    scalar : {role : Role} {header : Header} {text : List ℕ} → has_json role header ≡ true
        → IsScalarJson role.is_key header text → IsJson role header [] text
    -- A string, with the bodies of all its segments.
    string : {role : Role} {rest : List ℕ} {bodies : List (List ℕ)} (kind : Kind) (len : Option ℕ)
        → has_json role (kind_header kind len) ≡ true
        → IsString kind (shortest_title (kind_header kind len) ++ rest) bodies
        → IsJson role (kind_header kind len) rest (string_json kind role.base bodies)
    -- A tag, an array or a map.
    nest : {role : Role} {count : ℕ} {header : Header} {items text : List ℕ} → has_json role header ≡ true
        → IsAll header count → AreJson role header count items text
        → IsJson role header (items ++ nest_end header) (nest_opening header ++ (text ++ nest_closing header))

  -- `AreJson role header count items text`: the text is the JSON of `count` items within the header, which has this
  -- role, each with the text before it. After `82` the items `01 02` have the text `1,2`.
  pub data AreJson : Role → Header → ℕ → List ℕ → List ℕ → Type 0 where
    none : {role : Role} {header : Header} → AreJson role header zero [] []
    more : {role : Role} {count : ℕ} {header first : Header} {items text title rest item : List ℕ}
        → AreJson role header count items text → IsTitle title first
        → IsJson (item_role role header (is_value_at header count)) first rest item
        → AreJson role header (suc count) (items ++ (title ++ rest))
        (text ++ (item_lead (is_value_at header count) (is_first_at count) ++ item))

module _ {R E W F : Type 0} (source : Reader R E) (sink : Writer W F) where
  -- After its header the rest of an item was read, and its whole text was written. After `82` the rest `01 02` has the
  -- text `[1,2]`.
  pub record RestWritten (role : Role) (header : Header) (old new : Sides R W) : Type 0 where
    pub rest : List ℕ
    pub text : List ℕ
    pub json : IsJson role header rest text
    pub passed : ReadsPast source old.decoder rest new.decoder
    pub written : WritesAll sink old.writer text new.writer

  -- After the header all its content was read, and its text was written. After `82` the content `01 02` has the text
  -- `1,2`.
  pub record WithinWritten (role : Role) (header : Header) (old new : Sides R W) : Type 0 where
    pub count : ℕ
    pub items : List ℕ
    pub text : List ℕ
    pub all : IsAll header count
    pub json : AreJson role header count items text
    pub passed : ReadsPast source old.decoder (items ++ nest_end header) new.decoder
    pub written : WritesAll sink old.writer text new.writer

  -- One whole item was read, and its whole text was written. The item `82 01 02` has the text `[1,2]`.
  pub record ItemWritten (role : Role) (old new : Sides R W) : Type 0 where
    pub title : List ℕ
    pub header : Header
    pub rest : List ℕ
    pub text : List ℕ
    pub is_title : IsTitle title header
    pub json : IsJson role header rest text
    pub passed : ReadsPast source old.decoder (title ++ rest) new.decoder
    pub written : WritesAll sink old.writer text new.writer
