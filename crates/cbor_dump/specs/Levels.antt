-- The level of each line of a dump: how many tags, arrays, maps and opens are around it.
use Rattle.std.specs.Prelude.{◌≡◌, ℕ, zero, suc, ◌+◌, ◌-◌, ◌*◌, ◌<◌, ◌≤◌, ◌⊎◌, Bool, true, false, List, [], ◌∷◌, ◌++◌}
use Rattle.std.specs.Prelude.{length, min, ◌^◌, Option, Some, None, if◌then◌else◌}
use Rattle.ciborium_ll_grammar.specs.declared.spelling.Spelling.{Spelling}
use Rattle.ciborium_ll_grammar.specs.declared.spelling.Spelling.TheVariants.{Any}
use Rattle.ciborium_ll.specs.Types.Header.{Header}
use Rattle.ciborium_ll.specs.Types.Header.TheVariants as h
use Rattle.ciborium_ll.specs.Title.{IsTitle}
use Rattle.ciborium_ll.specs.Strings.{Kind, Bytes, Text, kind_header, AreStrings, IsWritable}
use Rattle.ciborium_ll.specs.Elements.{AreWritable}
use Rattle.ciborium_ll.specs.Faults.{IsRefusedIn}
use Rattle.ciborium_ll.specs.Finishing.{IsNoText}
use Rattle.ciborium_ll.specs.Items.{AreItems, IsItem, IsTakenTitle}
use Rattle.cbor_skip.specs.Due.{TakesMore, may_close}
use Rattle.cbor_dump.specs.declared.rows.Meaning.{Meaning}
use Rattle.cbor_dump.specs.declared.rows.Meaning.TheVariants as m
use Rattle.cbor_dump.specs.declared.rows.Within.{Within}
use Rattle.cbor_dump.specs.declared.rows.Within.TheVariants as w
use Rattle.cbor_dump.specs.declared.key.Key.{Key}
use Rattle.cbor_dump.specs.Keys.{NamesItem}
use Rattle.cbor_dump.specs.Takings.{IsFirstByte, AnswersTitle, most_bytes}
use Rattle.cbor_dump.specs.Parts.{IsFullPart, IsCutText}

-- ---- around a title

-- A tag, an array or a map, by its header, and how many of its items stand before. After `82 01` the count is 1.
pub record Nest : Type 0 where
  pub header : Header
  pub count : ℕ

-- `StandsBehind allowed depth whole nests bytes`: the bytes begin a sequence of items to the depth, and an item is due
-- after them within exactly these nests, the innermost first. After `whole` items each nest has its title and some of
-- its items, and more of them are due (RFC 7049, 2.1 to 2.4). If `allowed` is `Shortest`, all stand in their shortest
-- spelling. After `83 01 02` an item is due within an array of 3 items that has 2.
pub data StandsBehind (allowed : Spelling) (depth whole : ℕ) : List Nest → List ℕ → Type 0 where
  outside : {items : List ℕ} → AreItems allowed depth whole items → StandsBehind allowed depth whole [] items
  inside : {levels count : ℕ} {nests : List Nest} {before title items : List ℕ} {header : Header}
      → StandsBehind allowed depth whole nests before → length nests + suc levels ≡ depth → IsTitle title header
      → IsTakenTitle allowed title header → TakesMore header count → AreItems allowed levels count items
      → StandsBehind allowed depth whole (record { header = header; count = count } ∷ nests)
      (before ++ (title ++ items))

-- `StandsBehind` in any spelling, after any number of whole items. A level does not depend on the spelling (RFC 7049,
-- 2.1, 2.2.1 and 2.4; RFC 8742). After `01 98 02` an item is due within one array.
abbrev pub StandsWithin : ℕ → List Nest → List ℕ → Type 0
StandsWithin depth nests bytes = (whole : ℕ) × StandsBehind Any depth whole nests bytes

-- `AreOpen kind opens bytes bodies`: the bytes are `opens` opens of the kind, each with strings after it, and none
-- closed. The bodies are those of the strings so far (RFC 7049, 2.2.2). `5f 41 61` is one open with the body `61`.
pub data AreOpen (kind : Kind) : ℕ → List ℕ → List (List ℕ) → Type 0 where
  none : AreOpen kind zero [] []
  more : {opens : ℕ} {outer title strings : List ℕ} {bodies others : List (List ℕ)} → AreOpen kind opens outer bodies
      → IsTitle title (kind_header kind None) → AreStrings kind strings others
      → AreOpen kind (suc opens) (outer ++ (title ++ strings)) (bodies ++ others)

-- After the bytes a title is due: within these nests, and in a string within this many opens. After `81 5f` it is due
-- within one nest and one open.
pub record TitleDue (depth : ℕ) (nests : List Nest) (opens : ℕ) (bytes : List ℕ) : Type 0 where
  pub items : List ℕ
  pub kind : Kind
  pub parts : List ℕ
  pub bodies : List (List ℕ)
  pub within : StandsWithin depth nests items
  pub are_open : AreOpen kind opens parts bodies
  pub sound : AreWritable kind bodies
  pub is : bytes ≡ items ++ parts

-- A break may stand here. It closes the last open, or the innermost nest if no open is left (RFC 7049, 2.2). After `9f
-- 01` and after `bf` a break may stand, and after `bf 01` it may not.
abbrev pub closes_one : List Nest → ℕ → Bool
closes_one nests (suc opens) = true
closes_one [] zero = false
closes_one (nest ∷ nests) zero = may_close nest.header nest.count

-- The level of a title: how many nests and opens it stands within. A break that closes a nest or an open has the level
-- of its title. In `81 9f ff` the titles `9f` and `ff` have the level 1.
abbrev pub title_level : Header → List Nest → ℕ → ℕ
title_level h.Break nests opens =
    if closes_one nests opens then (length nests + opens) - 1 else length nests + opens
title_level header nests opens = length nests + opens

-- The greatest index that a dump shows: an index beyond it is shown as this one.
abbrev pub most_index : ℕ
most_index = 2 ^ 64 - 1

-- The index of the item that is due after `count` items of a nest of this header, if the nest is an array. After
-- `83 01` it is 1, and after `a1` there is none.
abbrev pub index_in : Header → ℕ → Option ℕ
index_in (h.Array len) count = Some (min count most_index)
index_in header count = None

-- The value of a pair is due: after `count` items of a nest of this header, and then one item, which the key names. In
-- `a1 01` the item is `01`, and the key is `Positive(1)`.
pub record IsBehindKey (depth : ℕ) (header : Header) (count : ℕ) (nests : List Nest) (bytes : List ℕ) (key : Key)
    : Type 0 where
  pub before : List ℕ
  pub item : List ℕ
  pub levels : ℕ
  pub due : StandsWithin depth (record { header = header; count = count } ∷ nests) before
  pub left : suc (length nests) + levels ≡ depth
  pub is_item : IsItem Any levels item
  pub is : bytes ≡ before ++ item
  pub names : NamesItem item key

-- The place of the item that is due within a map after `count` of its items (RFC 8949, 3.1). A key has none, and a value
-- has the key of its pair. After `a1 01` it is the key 1.
pub record IsPairPlace (depth : ℕ) (header : Header) (count : ℕ) (nests : List Nest) (bytes : List ℕ) (within : Within)
    : Type 0 where
  pub key_due : (pairs : ℕ) → count ≡ 2 * pairs → within ≡ w.Nothing
  pub value_due : (pairs : ℕ) → count ≡ suc (2 * pairs)
      → (key : Key) × (within ≡ w.Key key) × IsBehindKey depth header (2 * pairs) nests bytes key

-- The place of the item that is due within a nest of this header after `count` of its items. In an array it is the
-- index, counted from 0: after `83 01` it is 1. In a map it is the key of a value, and in a tag there is none.
abbrev pub IsPlaceIn : ℕ → Header → ℕ → List Nest → List ℕ → Within → Type 0
IsPlaceIn depth (h.Array len) count nests bytes within = within ≡ w.Index (min count most_index)
IsPlaceIn depth (h.Map len) count nests bytes within = IsPairPlace depth (h.Map len) count nests bytes within
IsPlaceIn depth header count nests bytes within = within ≡ w.Nothing

-- The place of the item that is due after the bytes within these nests, the innermost first. Outside of all nests it
-- has none.
abbrev pub IsPlace : ℕ → List Nest → List ℕ → Within → Type 0
IsPlace depth [] bytes within = within ≡ w.Nothing
IsPlace depth (nest ∷ nests) bytes within = IsPlaceIn depth nest.header nest.count nests bytes within

-- The place of a title after the bytes, within these nests, and in a string within this many opens. A break and the
-- title of a piece of a string have none. In `82 01 02` the title `02` has the index 1, and in `a1 01 02` the key 1.
abbrev pub IsTitlePlace : ℕ → Header → List Nest → ℕ → List ℕ → Within → Type 0
IsTitlePlace depth h.Break nests opens bytes within = within ≡ w.Nothing
IsTitlePlace depth header nests (suc opens) bytes within = within ≡ w.Nothing
IsTitlePlace depth header nests zero bytes within = IsPlace depth nests bytes within

-- ---- lines

-- A line of a dump: its level, its offset, its bytes, what they mean, and its place within an array or a map. In a dump
-- of `81 01` the line of `01` has the level 1, the offset 1 and the index 0.
pub record Line : Type 0 where
  pub level : ℕ
  pub offset : ℕ
  pub bytes : List ℕ
  pub meaning : Meaning
  pub within : Within

-- The bytes of the lines, joined. The lines of `82`, `01` and `02` give `82 01 02`.
abbrev pub bytes_of : List Line → List ℕ
bytes_of [] = []
bytes_of (line ∷ lines) = line.bytes ++ bytes_of lines

-- After these bytes the line has a title of the header, at its level and its place. After `81` the line of `01` has the
-- level 1 and the index 0.
pub record HasTitle (depth : ℕ) (before : List ℕ) (header : Header) (line : Line) : Type 0 where
  pub nests : List Nest
  pub opens : ℕ
  pub due : TitleDue depth nests opens before
  pub is_title : IsTitle line.bytes header
  pub level : line.level ≡ title_level header nests opens
  pub within : IsTitlePlace depth header nests opens before line.within

-- After these bytes the line has a part of a string's body, one level deeper than the string's title. The part has as
-- many bytes as a row has, or all that is left. After `81 41` the line of `61` has the level 2.
pub record HasBody (depth : ℕ) (before : List ℕ) (kind : Kind) (line : Line) : Type 0 where
  pub nests : List Nest
  pub opens : ℕ
  pub outer : List ℕ
  pub title : List ℕ
  pub front : List ℕ
  pub len : ℕ
  pub due : TitleDue depth nests opens outer
  pub is_title : IsTitle title (kind_header kind (Some len))
  pub is : before ≡ outer ++ (title ++ front)
  pub fits : length front + length line.bytes ≤ len
  pub full : IsFullPart kind (len - length front) line.bytes
  pub level : line.level ≡ suc (length nests + opens)
  pub within : line.within ≡ w.Nothing

-- How lines end. `Meant`: each line has a meaning. `Refused`: the last line is at fault, since a dump, strict or not,
-- refuses its bytes, as `1c`. `Failed` and `Stopped`: the reader failed, or a read stopped for another reason. Each
-- line then has a meaning, or the last line was cut and is at fault, as `19`.
pub data Ending : Type 0 where
  Meant : Ending
  Refused : Spelling → Ending
  Failed : Ending
  Stopped : Ending

-- All bytes of a refused title, within this many opens of the kind. Its first byte is refused, as `1c`, or only strict
-- titles are taken and it is not strict, as `18 17`. Or the string may not contain it, as `01` after `5f` (RFC 7049,
-- 2.1, 2.2.2 and 3.9).
abbrev pub IsNoTitle : Spelling → Kind → ℕ → List ℕ → Type 0
IsNoTitle allowed kind opens bytes = AnswersTitle allowed bytes None
    ⊎ ((0 < opens) × ((header : Header) × IsTitle bytes header × IsRefusedIn allowed kind header))

-- The bytes of a title that a line at fault has, by how the lines end: all of a refused title, or the first byte of a
-- title that was cut. For `Refused` they can be `1c`, and for `Failed` `19`.
abbrev pub IsTitleFault : Ending → Kind → ℕ → List ℕ → Type 0
IsTitleFault Meant kind opens bytes = ⊥
IsTitleFault (Refused allowed) kind opens bytes = IsNoTitle allowed kind opens bytes
IsTitleFault Failed kind opens bytes = IsFirstByte bytes
IsTitleFault Stopped kind opens bytes = IsFirstByte bytes

-- The bytes of a text's body that a line at fault has, if `left` bytes of the body are left: bytes that are no text, or
-- the first bytes of a text that was cut. For `Refused` they can be `ff`. If 9 bytes are left, they can be seven `61`
-- and a `c3` for `Failed`.
abbrev pub IsTextFault : Ending → ℕ → List ℕ → Type 0
IsTextFault Meant left bytes = ⊥
IsTextFault (Refused allowed) left bytes = IsNoText [] left bytes
IsTextFault Failed left bytes = IsCutText left bytes
IsTextFault Stopped left bytes = IsCutText left bytes

-- After these bytes the line has the bytes that were read of a title at fault, at the level of a title that is due.
-- After `81` a line of `1c` has the level 1.
pub record HasNoTitle (how : Ending) (depth : ℕ) (before : List ℕ) (line : Line) : Type 0 where
  pub nests : List Nest
  pub opens : ℕ
  pub due : TitleDue depth nests opens before
  pub fault : IsTitleFault how due.kind opens line.bytes
  pub level : line.level ≡ length nests + opens
  pub within : line.within ≡ w.Nothing

-- After these bytes the line has the bytes that were read of a text's body at fault. After `62` they can be `ff 61`.
pub record HasNoText (how : Ending) (depth : ℕ) (before : List ℕ) (line : Line) : Type 0 where
  pub body : HasBody depth before Text line
  pub fault : IsTextFault how (body.len - length body.front) line.bytes

-- After these bytes the line has the bytes that its meaning says, at its level. After `41` the line of `61` is a part
-- of a byte string, at the level 1.
abbrev pub Stands : Ending → ℕ → List ℕ → Meaning → Line → Type 0
Stands how depth before (m.Header header) line = HasTitle depth before header line
Stands how depth before m.Bytes line = HasBody depth before Bytes line
Stands how depth before m.Text line = HasBody depth before Text line × IsWritable Text line.bytes
Stands how depth before m.Fault line = HasNoTitle how depth before line ⊎ HasNoText how depth before line

-- A line has at least one byte, and at most 16. `82` fits a row, and 17 bytes do not.
abbrev pub FitsRow : List ℕ → Type 0
FitsRow bytes = (0 < length bytes) × (length bytes ≤ most_bytes)

-- Each line has the bytes that its meaning says, fits a row, and has the offset of its first byte. The bytes before
-- begin at the start. If `82` begins at 0, the lines of `01` and `02` have the offsets 1 and 2.
abbrev pub AllStand : Ending → ℕ → ℕ → List ℕ → List Line → Type 0
AllStand how depth start before [] = Unit {0}
AllStand how depth start before (line ∷ lines) = (line.offset ≡ start + length before) × FitsRow line.bytes
    × Stands how depth before line.meaning line × AllStand how depth start (before ++ line.bytes) lines
