-- The result of `cll_headers`.
use Rattle.std.specs.Prelude.{◌≡◌, ℕ, ◌+◌, ◌<◌, ◌≤◌, ◌⊎◌, List, [], ◌∷◌, ◌++◌, length, take, drop, Some}
use Rattle.ciborium_ll_grammar.specs.declared.spelling.Spelling.TheVariants.{Any}
use Rattle.ciborium_ll.specs.Types.Header.{Header}
use Rattle.ciborium_ll.specs.Types.Header.TheVariants as h
use Rattle.ciborium_ll.specs.Faults.{Short, Syntax}
use Rattle.ciborium_ll.specs.Title.{IsTitle}
use Rattle.ciborium_ll_text.specs.Text.{IsCharacters}
use Rattle.cbor_skip.specs.ItemFaults.{HasItemFault}
use Rattle.capi.specs.declared.answer.CllAnswer.{CllAnswer}
use Rattle.capi.specs.declared.answer.CllAnswer.TheVariants as a
use Rattle.capi.specs.declared.answer.CllReport.{CllReport}
use Rattle.capi.specs.declared.titles.CllTitle.{CllTitle}
use Rattle.capi.specs.Answers.{Reports}
use Rattle.capi.specs.Headers.{kind_number, open_of, value_of}
use Rattle.capi.specs.Lacking.{ItemLacks}

-- ---- titles with their bodies

-- The bytes are the body after a title of this header: those of a string of a definite length, UTF-8 for a text, and
-- none for any other header (RFC 7049, 2.1). After `42` the body is two bytes, as `01 02`, and after `5f` it is empty.
abbrev pub IsBody : Header → List ℕ → Type 0
IsBody (h.Bytes (Some len)) body = length body ≡ len
IsBody (h.Text (Some len)) body = (length body ≡ len) × IsCharacters body
IsBody header body = body ≡ []

-- The bytes begin with a title and its whole body (RFC 7049, 2.1). `42 01 02 ff` begins with the title `42` and its
-- body `01 02`, and `42 01` does not.
pub record BeginsWithBody (bytes : List ℕ) : Type 0 where
  pub title : List ℕ
  pub body : List ℕ
  pub rest : List ℕ
  pub header : Header
  pub is_title : IsTitle title header
  pub is_body : IsBody header body
  pub is : bytes ≡ title ++ (body ++ rest)

-- The entry has the parts of the header, and the offsets at which its title starts and ends. `19 03 e8` at the offset 2
-- has kind 0, value 1000, form 0, start 2 and end 5.
pub record IsEntry (entry : CllTitle) (header : Header) (start end : ℕ) : Type 0 where
  pub kind_is : entry.kind ≡ kind_number header
  pub value_is : entry.value ≡ value_of header
  pub indefinite_is : entry.indefinite ≡ open_of header
  pub start_is : entry.start ≡ start
  pub end_is : entry.end ≡ end

-- `AreTitles start bytes entries`: the bytes, which stand at the offset `start`, are titles with their bodies, joined
-- (RFC 7049, 2.1 to 2.3). The entries are those of the titles, in order. `82 41 ff 01` has an entry for `82`, for `41`
-- and for `01`.
pub data AreTitles : ℕ → List ℕ → List CllTitle → Type 0 where
  no_titles : {start : ℕ} → AreTitles start [] []
  more_titles : {start : ℕ} {title rest : List ℕ} {header : Header} {entry : CllTitle} {entries : List CllTitle}
      (body : List ℕ) → IsTitle title header → IsBody header body
      → IsEntry entry header start (start + length title)
      → AreTitles (start + length title + length body) rest entries
      → AreTitles start (title ++ (body ++ rest)) (entry ∷ entries)

-- The first `taken` bytes are the titles of these entries, with their bodies. They are all bytes, or the entries are as
-- many as there is room for. With room for two, `01 41 ff 02` has two entries, and 3 bytes are taken.
pub record HasTitles (room : ℕ) (bytes : List ℕ) (taken : ℕ) (entries : List CllTitle) : Type 0 where
  pub are_titles : AreTitles 0 (take taken bytes) entries
  pub within : taken ≤ length bytes
  pub in_room : length entries ≤ room
  pub ends : (length entries ≡ room) ⊎ (taken ≡ length bytes)

-- The first `taken` bytes are the titles of these entries, with their bodies. There is room for one more entry, and
-- there are more bytes, but they do not begin with a title and its whole body. With room for two, `01 41` has one
-- entry, and 1 byte is taken.
pub record StopsTitles (room : ℕ) (bytes : List ℕ) (taken : ℕ) (entries : List CllTitle) : Type 0 where
  pub are_titles : AreTitles 0 (take taken bytes) entries
  pub within : taken < length bytes
  pub in_room : length entries < room
  pub none : BeginsWithBody (drop taken bytes) → ⊥

-- ---- the call

-- The output begins with the entries, and is as it was after them. With 3 places and 1 entry, only the first changes.
abbrev pub IsFilled : List CllTitle → List CllTitle → List CllTitle → Type 0
IsFilled old entries new = new ≡ entries ++ drop (length entries) old

-- The output begins with the entries, and the report counts them and the bytes of their titles and bodies. For
-- `01 41 ff` it counts 2 and 3.
abbrev pub Gives : List CllTitle → ℕ → List CllTitle → List CllTitle → CllReport → Type 0
Gives old taken entries new report =
    (report.consumed ≡ taken) × (report.written ≡ length entries) × IsFilled old entries new

-- The fault of the bytes from the offset `taken` on, which `cll_skip` with a depth of 0 finds there. The place is an
-- offset in all bytes, or how many bytes a title or its body lacks. `01 1c` has `Syntax` at 1, and in `01 43 61` two
-- bytes are due.
abbrev pub StopsAt : List ℕ → ℕ → ℕ → CllAnswer → CllReport → Type 0
StopsAt bytes taken count a.Short report =
    (fault : HasItemFault Any 0 (drop taken bytes)) × (fault.answer ≡ Short)
    × ItemLacks Any 1 (drop taken bytes) report.place × Reports report taken count report.place
StopsAt bytes taken count a.Syntax report =
    (fault : HasItemFault Any 0 (drop taken bytes)) × (place : ℕ) × (fault.answer ≡ Syntax place)
    × Reports report taken count (taken + place)
StopsAt bytes taken count answer report = ⊥

-- The result of `cll_headers`, by its answer. The output begins with the entries of the titles that come first. They
-- fill it or end with the bytes, or a fault comes next. `82 01 1c` gives two entries, and is `Syntax` at 2.
abbrev pub FillsTitles : List ℕ → List CllTitle → CllAnswer → List CllTitle → CllReport → Type 0
FillsTitles bytes old a.Ok new report =
    (entries : List CllTitle) × HasTitles (length old) bytes report.consumed entries × IsFilled old entries new
    × Reports report report.consumed (length entries) 0
FillsTitles bytes old answer new report =
    (entries : List CllTitle) × StopsTitles (length old) bytes report.consumed entries × IsFilled old entries new
    × StopsAt bytes report.consumed (length entries) answer report

-- ---- one title

-- The bytes at the offset `start` begin with a title and its body, of this length together, and this is its entry.
-- `41 ff 01` at the offset 3 gives an entry from 3 to 4, and the length 2.
pub record ReadsTitle (bytes : List ℕ) (start : ℕ) (entry : CllTitle) (len : ℕ) : Type 0 where
  pub front : BeginsWithBody bytes
  pub is_entry : IsEntry entry front.header start (start + length front.title)
  pub length_is : len ≡ length front.title + length front.body

-- The rest begins with a body of this length after a title of the header. After `41` the rest `ff 02` has the length 1.
abbrev pub HasBody : Header → List ℕ → ℕ → Type 0
HasBody header rest len = (len ≤ length rest) × IsBody header (take len rest)

-- The rest begins with no body that may follow a title of the header. After `62` the rest `61` has none.
abbrev pub HasNoBody : Header → List ℕ → Type 0
HasNoBody header rest = (body more : List ℕ) → rest ≡ body ++ more → IsBody header body → ⊥
