-- The text that was written of an item before its show ended with an error.
use Rattle.std.specs.Prelude.{◌≡◌, ℕ, ◌++◌, Bool, true, false, List, length, Some, Result, Ok, Err}
use Rattle.ciborium_ll.specs.Types.Read.{Ghosts as Reader}
use Rattle.ciborium_ll.specs.Types.Write.{Ghosts as Writer}
use Rattle.ciborium_ll.specs.Types.Decoder.{Decoder}
use Rattle.ciborium_ll.specs.Types.Header.{Header}
use Rattle.ciborium_ll.specs.Types.Header.TheVariants as h
use Rattle.ciborium_ll.specs.Decoding.{ReadsPast, DecoderPullAnswer, PullsTitle}
use Rattle.ciborium_ll.specs.Encoding.{WritesAll, WritesFront}
use Rattle.ciborium_ll.specs.Sides.{Sides, sides}
use Rattle.cbor_skip.specs.declared.SkipError.{SkipError}
use Rattle.cbor_skip.specs.declared.SkipError.TheVariants as s
use Rattle.cbor_diag.specs.declared.DiagError.{DiagError}
use Rattle.cbor_diag.specs.declared.DiagError.TheVariants as d
use Rattle.cbor_diag.specs.declared.layout.Style.{Style}
use Rattle.cbor_diag.specs.declared.marks.Mark.{Mark}
use Rattle.cbor_diag.specs.Marks.{title_mark}
use Rattle.cbor_diag.specs.ItemTexts.{nest_opening, nest_closing, nest_last, item_lead, is_value_at, is_first_at}
use Rattle.cbor_diag.specs.ItemTexts.{AreShown, RestShown, WithinShown, ItemShownAt}
use Rattle.cbor_diag.specs.HeldStops.{HeldStops, Inside, nothing_inside}
use Rattle.cbor_diag.specs.Places.{Place, first_place, is_held, place_within}
use Rattle.cbor_diag.specs.Showing.{ShowsHeader}

-- An item is due, and no title came, or a break. After `81` it is so for `1c`, which begins no title, and for `ff`.
abbrev pub ComesNoItem : {R E : Type 0} → Reader R E → Decoder R → SkipError E → Decoder R → Type 0
ComesNoItem source old (s.Read error) new = DecoderPullAnswer source old (Err error) new
ComesNoItem source old (s.Break place) new = PullsTitle source old h.Break new
ComesNoItem source old (s.Deep place) new = ⊥

module _ {R E W F : Type 0} (source : Reader R E) (sink : Writer W F) where
  -- After the header `count` items were read, and their text was written. On one line it can be `01` after `82`, with
  -- the text `1`.
  pub record WithinBegun (place : Place) (header : Header) (mark : Mark) (count : ℕ) (old now : Sides R W) : Type 0 where
    pub items : List ℕ
    pub text : List ℕ
    pub shown : AreShown place header mark count items text
    pub passed : ReadsPast source old.decoder items now.decoder
    pub written : WritesAll sink old.writer text now.writer

-- `inside` says how the show of the item that a byte string contains ends if the writer fails.
module _ {R E W F : Type 0} (source : Reader R E) (sink : Writer W F) (inside : Inside W F) where
  mutual
    -- `RestStops place header mark old error new`: after its header the show of an item at this place ended with the
    -- error. After `81` a break `ff` ends it, and its text is `[`.
    pub data RestStops : Place → Header → Mark → Sides R W → DiagError E F → Sides R W → Type 0 where
      -- In an item that contains no others, or in a string that was not read into the memory.
      plain : {place : Place} {header : Header} {mark : Mark} {old new : Sides R W} {error : DiagError E F}
          → is_held place header ≡ false
          → ShowsHeader source sink place.line.style.is_exact header mark old (Err error) new
          → RestStops place header mark old error new
      -- In a byte string that was read into the memory.
      held : {place : Place} {len : ℕ} {mark : Mark} {old new : Sides R W} {error : DiagError E F}
          → is_held place (h.Bytes (Some len)) ≡ true → HeldStops source sink inside place mark len old error new
          → RestStops place (h.Bytes (Some len)) mark old error new
      -- No level is left, and nothing was written.
      deep : {place : Place} {at : ℕ} {header : Header} {mark : Mark} {now : Sides R W}
          → RestStops place header mark now (d.Read (s.Deep at)) now
      -- The writer failed before the items.
      opening : {place : Place} {header : Header} {mark : Mark} {old : Sides R W} {fault : F} {new : W}
          → WritesFront sink old.writer (nest_opening header mark) new
          → RestStops place header mark old (d.Write fault) (sides old.decoder new)
      -- The show of the items ended.
      within : {place : Place} {header : Header} {mark : Mark} {old new : Sides R W} {error : DiagError E F} {opened : W}
          → WritesAll sink old.writer (nest_opening header mark) opened
          → WithinStops (place_within header place) header mark (sides old.decoder opened) error new
          → RestStops place header mark old error new
      -- The writer failed after the items.
      closing : {place : Place} {header : Header} {mark : Mark} {old : Sides R W} {fault : F} {empty : Bool}
          {between : Sides R W} {opened new : W} → WritesAll sink old.writer (nest_opening header mark) opened
          → WithinShown source sink (place_within header place) header mark (sides old.decoder opened) empty
          between
          → WritesFront sink between.writer (nest_last header mark place.line.style.layout place.line.level empty ++ nest_closing header) new
          → RestStops place header mark old (d.Write fault) (sides between.decoder new)

    -- `WithinStops place header mark old error new`: after the header some items at this place were shown. The show ended
    -- with the error at the next item that was due. In `82 01 1c` it ended at `1c`, after the item `01`.
    pub data WithinStops : Place → Header → Mark → Sides R W → DiagError E F → Sides R W → Type 0 where
      -- No item came, and nothing more was written.
      title : {place : Place} {count : ℕ} {header : Header} {mark : Mark} {old between : Sides R W}
          {error : SkipError E} {new : Decoder R} → WithinBegun source sink place header mark count old between
          → ComesNoItem source between.decoder error new
          → WithinStops place header mark old (d.Read error) (sides new between.writer)
      -- The writer failed before the item.
      lead : {place : Place} {count : ℕ} {header next : Header} {mark : Mark} {old between : Sides R W} {titled : Decoder R}
          {fault : F} {new : W} → WithinBegun source sink place header mark count old between
          → PullsTitle source between.decoder next titled
          → WritesFront sink between.writer
          (item_lead header mark place.line.style.layout place.line.level (is_value_at header count) (is_first_at count)) new
          → WithinStops place header mark old (d.Write fault) (sides titled new)
      -- The show of the item ended.
      item : {place : Place} {count : ℕ} {header next : Header} {mark : Mark} {old between new : Sides R W} {titled : Decoder R}
          {led : W} {error : DiagError E F} → WithinBegun source sink place header mark count old between
          → (pulled : PullsTitle source between.decoder next titled)
          → WritesAll sink between.writer
          (item_lead header mark place.line.style.layout place.line.level (is_value_at header count) (is_first_at count)) led
          → RestStops place next (title_mark place.line.style.is_exact next (length pulled.title)) (sides titled led) error new
          → WithinStops place header mark old error new

  -- The show of an item at this place ended with the error. No title came, or a break, and nothing was written; or it
  -- ended after its title. For `ff` nothing is written, and for `81 ff` the text is `[`.
  pub data ItemStopsAt (place : Place) (old : Sides R W) : DiagError E F → Sides R W → Type 0 where
    no_item : {error : SkipError E} {new : Decoder R} → ComesNoItem source old.decoder error new
        → ItemStopsAt place old (d.Read error) (sides new old.writer)
    behind : {header : Header} {titled : Decoder R} {error : DiagError E F} {new : Sides R W}
        → (pulled : PullsTitle source old.decoder header titled)
        → RestStops place header (title_mark place.line.style.is_exact header (length pulled.title))
        (sides titled old.writer) error new
        → ItemStopsAt place old error new

  -- The show of the rest of an item, by its answer. After `82` it can be `Ok` for `01 02`, and not for `01 ff`.
  abbrev pub ShowsRest : Place → Header → Mark → Sides R W → Result (Unit {0}) (DiagError E F) → Sides R W → Type 0
  ShowsRest place header mark old (Ok done) new = RestShown source sink place header mark old new
  ShowsRest place header mark old (Err error) new = RestStops place header mark old error new

  -- The show of the content of a header, by its answer, which says whether the header contains nothing. After `80` the
  -- answer can be `Ok(true)`, and after `81`, for `01`, it can be `Ok(false)`.
  abbrev pub ShowsWithin : Place → Header → Mark → Sides R W → Result Bool (DiagError E F) → Sides R W → Type 0
  ShowsWithin place header mark old (Ok empty) new = WithinShown source sink place header mark old empty new
  ShowsWithin place header mark old (Err error) new = WithinStops place header mark old error new

  -- The show of an item at this place, by its answer. It can be `Ok` for `82 01 02`, and not for `82 01 ff`.
  abbrev pub ShowsItemAt : Place → Sides R W → Result (Unit {0}) (DiagError E F) → Sides R W → Type 0
  ShowsItemAt place old (Ok done) new = ItemShownAt source sink place old new
  ShowsItemAt place old (Err error) new = ItemStopsAt place old error new

module _ {R E W F : Type 0} (source : Reader R E) (sink : Writer W F) (style : Style) where
  -- The show of an item ended with the error, in a text that shows no string as an item. For `81 ff` the text is `[`.
  abbrev pub ItemStops : Sides R W → DiagError E F → Sides R W → Type 0
  ItemStops old error new = ItemStopsAt source sink nothing_inside (first_place style) old error new

  -- The show of an item, by its answer, in a text that shows no string as an item. It can be `Ok` for `82 01 02`, and
  -- not for `82 01 ff`.
  abbrev pub ShowsItem : Sides R W → Result (Unit {0}) (DiagError E F) → Sides R W → Type 0
  ShowsItem old result new = ShowsItemAt source sink nothing_inside (first_place style) old result new
