-- Items that are read and written one after the other (RFC 8742), in diagnostic notation or as JSON, each on a line of
-- its own: the text of an item, the end of its line, and the answers of a sequence of them.
use Rattle.std.specs.Prelude.{◌≡◌, ℕ, zero, suc, ◌+◌, ◌⊎◌, Bool, true, false, [], ◌∷◌, Option, None, Some}
use Rattle.std.specs.Prelude.{Result, Ok, Err, IsSome}
use Rattle.ciborium_ll.specs.Types.Read.{Ghosts}
use Rattle.ciborium_ll.specs.Types.Write.{Ghosts as Sink}
use Rattle.ciborium_ll.specs.Types.Decoder.{Decoder}
use Rattle.ciborium_ll.specs.Types.Error.{Error}
use Rattle.ciborium_ll.specs.Types.Error.TheVariants as e
use Rattle.ciborium_ll.specs.Types.Header.{Header}
use Rattle.ciborium_ll.specs.Decoding.{DecoderPullAnswer}
use Rattle.ciborium_ll.specs.Encoding.{WritesAll, WritesFront}
use Rattle.ciborium_ll.specs.Sides.{Sides, sides}
use Rattle.cbor_skip.specs.declared.SkipError.{SkipError}
use Rattle.cbor_skip.specs.declared.SkipError.TheVariants as s
use Rattle.cbor_skip.specs.Skipping.{ReadsItem, SkipsItem, StopsCounted}
use Rattle.cbor_dump.specs.Sequences.{IsEnd, ReadsItems}
use Rattle.cbor_diag.specs.declared.DiagError.{DiagError}
use Rattle.cbor_diag.specs.declared.DiagError.TheVariants as d
use Rattle.cbor_diag.specs.declared.TheConstants.{MOST_STRINGS}
use Rattle.cbor_diag.specs.declared.layout.Style.{Style}
use Rattle.cbor_diag.specs.declared.strings.TheConstants.{BUFFER_SIZE}
use Rattle.cbor_diag.specs.EmbeddedShows.{ShowsEmbedded}
use Rattle.cbor_diag.specs.ItemStops.{ShowsItem}
use Rattle.cbor_diag.specs.ItemTexts.{ItemShownAt}
use Rattle.cbor_diag.specs.Places.{Place, first_line, first_place, place_of}
use Rattle.cbor_embedded.specs.declared.Embedded.{Embedded}
use Rattle.cbor_embedded.specs.declared.Embedded.TheVariants as b
use Rattle.cbor_json.specs.declared.JsonError.{JsonError}
use Rattle.cbor_json.specs.declared.JsonError.TheVariants as j
use Rattle.cbor_json.specs.ItemTexts.{ItemWritten}
use Rattle.cbor_json.specs.ItemStops.{ItemStops}
use Rattle.cbor_json.specs.Reading.{CountsWritten, OnReading}
use Rattle.cbor_json.specs.Roles.{first_role}
use Rattle.tool_verdicts.specs.Parts.{IsBelow, PassesOver}
use Rattle.tool_verdicts.specs.declared.items.Ending.{Ending}
use Rattle.tool_verdicts.specs.declared.items.Ending.TheVariants as g
use Rattle.tool_verdicts.specs.declared.items.Form.{Form}
use Rattle.tool_verdicts.specs.declared.items.Form.TheVariants as f
use Rattle.tool_verdicts.specs.declared.items.TheConstants.{EMBEDDED_ROOM}

-- ---- answers

module _ {E F : Type 0} where
  -- The error of a show, in the words of a write of JSON. `Read(Break(1))` stays `Read(Break(1))`.
  abbrev pub json_error : DiagError E F → JsonError E F
  json_error (d.Read error) = j.Read error
  json_error (d.Write fault) = j.Write fault

  -- The answer of a show, in the words of a write of JSON. `Ok` stays `Ok`.
  abbrev pub json_answer : Result (Unit {0}) (DiagError E F) → Result (Unit {0}) (JsonError E F)
  json_answer (Ok done) = Ok done
  json_answer (Err error) = Err (json_error error)

  -- The error says that the reader failed before a byte of an item came: `Io` for an item at the offset 2, if the read
  -- stopped at 2.
  abbrev pub IsEndOfItems : JsonError E F → ℕ → ℕ → Type 0
  IsEndOfItems (j.Read error) place stop = IsEnd error place stop
  IsEndOfItems (j.NoJson at) place stop = ⊥
  IsEndOfItems (j.Write fault) place stop = ⊥

  -- The answer to an error after whole items, of a write that began at the place and stopped at `stop`. For `Io` and
  -- the place 2 it is the end if `stop` is 2, and an error if `stop` is 3.
  abbrev pub EndsLines : JsonError E F → ℕ → ℕ → Result (Ending E) (JsonError E F) → Type 0
  EndsLines error place stop (Ok g.Enough) = ⊥
  EndsLines error place stop (Ok (g.End fault)) = (error ≡ j.Read (s.Read (e.Io fault))) × (stop ≡ place)
  EndsLines error place stop (Ok (g.More at)) = ⊥
  EndsLines error place stop (Err other) = (other ≡ error) × (IsEndOfItems error place stop → ⊥)

  -- How often the reader failed, by the answer: once at the end, and before the end once if the error of the read says
  -- so. At the end after 2 failures there are 3, and after as many items as are wanted there are 2.
  abbrev pub CountsLines : Result (Ending E) (JsonError E F) → ℕ → ℕ → Type 0
  CountsLines (Ok g.Enough) old new = new ≡ old
  CountsLines (Ok (g.End fault)) old new = new ≡ old + 1
  CountsLines (Ok (g.More at)) old new = ⊥
  CountsLines (Err error) old new = CountsWritten (Err error) old new

-- The answer of the pull after the one item that is wanted, which ends at the place. The pull stopped at `stop`. In `01
-- 80` the item ends at 1, and the answer is `More` at 1. It is the end if the reader fails there.
abbrev pub FollowsItem : {E : Type 0} → Result Header (Error E) → ℕ → ℕ → Ending E → Type 0
FollowsItem pulled place stop g.Enough = ⊥
FollowsItem pulled place stop (g.End fault) = (pulled ≡ Err (e.Io fault)) × (stop ≡ place)
FollowsItem {E} pulled place stop (g.More at) = (at ≡ place)
    × ((fault : E) → pulled ≡ Err (e.Io fault) → stop ≡ place → ⊥)

-- ---- the end of a line

module _ {W F : Type 0} (sink : Sink W F) where
  -- A line feed was written, and the writer passed on what it had kept back. A writer that tells its room keeps nothing
  -- back, and so has exactly that byte more. After `31` it then has `31 0a`.
  pub record EndsLine (old new : W) : Type 0 where
    pub between : W
    pub ends : WritesAll sink old (10 ∷ []) between
    pub passed_on : sink.flushed between new
    pub just : IsSome (sink.room old) → WritesAll sink old (10 ∷ []) new

  -- A line feed was written, and the writer did not pass on what it had kept back. If the writer tells its room, the
  -- bytes and the room are as the line feed left them. After `31` the bytes are then `31 0a`.
  pub record KeepsLine (old new : W) : Type 0 where
    pub between : W
    pub ends : WritesAll sink old (10 ∷ []) between
    pub fails : sink.failures new ≡ sink.failures between + 1
    pub bytes : IsSome (sink.room old) → sink.written new ≡ sink.written between
    pub room : IsSome (sink.room old) → sink.room new ≡ sink.room between

  -- The end of a line, by the answer. If one of the two calls failed, it was the last call: the line feed was not
  -- written, or it was written and kept back. With room for no byte, after `31` the line feed was not written.
  abbrev pub EndsOrFails : {T : Type 0} → W → Result T F → W → Type 0
  EndsOrFails old (Ok done) new = EndsLine old new
  EndsOrFails old (Err fault) new = WritesFront sink old (10 ∷ []) new ⊎ KeepsLine old new

-- ---- the reads

module _ {R E : Type 0} (source : Ghosts R E) where
  -- Items were read, and the reader failed at a further item before it consumed a byte: for example, after both items
  -- of `01 02`.
  pub record EndsItems (depth : ℕ) (old : Decoder R) (fault : E) (new : Decoder R) : Type 0 where
    pub count : ℕ
    pub between : Decoder R
    pub reads : ReadsItems source depth count old between
    pub fails : SkipsItem source depth BUFFER_SIZE between (Err (s.Read (e.Io fault))) new
    pub still : new.offset ≡ between.offset

  -- Items were read, and the read of a further item failed. The failure is not an end: in `01 82`, for example, it is
  -- within an array.
  pub record StopsItems (depth : ℕ) (old : Decoder R) (error : SkipError E) (new : Decoder R) : Type 0 where
    pub count : ℕ
    pub between : Decoder R
    pub reads : ReadsItems source depth count old between
    pub fails : SkipsItem source depth BUFFER_SIZE between (Err error) new
    pub no_end : IsEnd error between.offset new.offset → ⊥

  -- The reads of a sequence, by the answer: as many items as are wanted, or fewer up to the end or up to a failed read
  -- of a further item (RFC 8742). Over `01 02` it ends after two items, and over `01 1c` at `1c`. If one item is wanted,
  -- it reads `01` alone. If the writer failed or an item has no JSON, the read has no answer.
  abbrev pub ReadsLines : {F : Type 0} → ℕ → Option ℕ → Decoder R → Result (Ending E) (JsonError E F) → Decoder R
      → Type 0
  ReadsLines depth most old (Ok g.Enough) new = (count : ℕ) × (most ≡ Some count) × ReadsItems source depth count old new
  ReadsLines depth most old (Ok (g.End fault)) new = (ends : EndsItems depth old fault new) × IsBelow most ends.count
  ReadsLines depth most old (Ok (g.More at)) new = ⊥
  ReadsLines depth most old (Err (j.Read error)) new = (stops : StopsItems depth old error new) × IsBelow most stops.count
  ReadsLines depth most old (Err (j.NoJson at)) new = Unit {0}
  ReadsLines depth most old (Err (j.Write fault)) new = Unit {0}

-- ---- the writes

-- The place of an item that no header contains, in a text that shows these byte strings as the items that they contain,
-- to this depth. With `Everywhere` one of at most 65536 bytes is shown so, as `41 00`.
abbrev pub item_place : Style → Embedded → ℕ → Place
item_place style b.Nowhere depth = first_place style
item_place style b.Tagged depth = place_of (first_line style b.Tagged) MOST_STRINGS depth EMBEDDED_ROOM
item_place style b.Everywhere depth = place_of (first_line style b.Everywhere) MOST_STRINGS depth EMBEDDED_ROOM

module _ {R E W F : Type 0} (source : Ghosts R E) (sink : Sink W F) where
  -- One whole item was read, and its whole text in this form was written. The text of `82 01 02` is `[1, 2]` in
  -- notation (RFC 8949, 8), and `[1,2]` as JSON (RFC 8949, 6.1).
  abbrev pub ItemWrittenIn : Form → ℕ → Sides R W → Sides R W → Type 0
  ItemWrittenIn (f.Notation style embedded) depth old new =
      ItemShownAt source sink (item_place style embedded depth) old new
  ItemWrittenIn (f.Json mode) depth old new = ItemWritten source sink (first_role mode) old new

module _ {I G R E W F : Type 0} (memory : Ghosts I G) (source : Ghosts R E) (sink : Sink W F) where
  -- The show of an item in this style, by its answer, with these byte strings shown as the items that they contain.
  -- `41 00` is `h'00'`, and with `Everywhere` it is `<<0>>` (RFC 8949, 8).
  abbrev pub ShowsItemIn : Style → Embedded → ℕ → Sides R W → Result (Unit {0}) (DiagError E F) → Sides R W → Type 0
  ShowsItemIn style b.Nowhere depth old result new = ShowsItem source sink style old result new
  ShowsItemIn style b.Tagged depth old result new =
      ShowsEmbedded memory source sink style b.Tagged MOST_STRINGS depth EMBEDDED_ROOM old result new
  ShowsItemIn style b.Everywhere depth old result new =
      ShowsEmbedded memory source sink style b.Everywhere MOST_STRINGS depth EMBEDDED_ROOM old result new

  -- The write of an item in this form ended with the error. Each item has notation, and some have no JSON. For `81 ff`
  -- the text is `[`, and the error is that of the break.
  abbrev pub ItemStopsIn : Form → ℕ → Sides R W → JsonError E F → Sides R W → Type 0
  ItemStopsIn (f.Notation style embedded) depth old error new =
      (fault : DiagError E F) × (error ≡ json_error fault) × ShowsItemIn style embedded depth old (Err fault) new
  ItemStopsIn (f.Json mode) depth old error new = ItemStops source sink (first_role mode) old error new

module _ {R E W F : Type 0} (source : Ghosts R E) (sink : Sink W F) (form : Form) (depth : ℕ) where
  -- One whole item was written, and its line was ended. The item `01` makes the line `1`.
  pub record LineWritten (old new : Sides R W) : Type 0 where
    pub shown : W
    pub item : ItemWrittenIn source sink form depth old (sides new.decoder shown)
    pub ends : EndsLine sink shown new.writer

  -- `count` items were written, each on a line of its own. The items of `01 02` make the lines `1` and `2`.
  pub data AreLines : ℕ → Sides R W → Sides R W → Type 0 where
    none : {now : Sides R W} → AreLines zero now now
    more : {count : ℕ} {old now new : Sides R W} → AreLines count old now → LineWritten now new
        → AreLines (suc count) old new

module _ {I G R E W F : Type 0} (memory : Ghosts I G) (source : Ghosts R E) (sink : Sink W F) (form : Form) (depth : ℕ)
  where
    -- The write of an item in this form, by its answer. It can be `Ok` for `82 01 02`, and not for `82 01 ff`.
    abbrev pub WritesItemIn : Sides R W → Result (Unit {0}) (JsonError E F) → Sides R W → Type 0
    WritesItemIn old (Ok done) new = ItemWrittenIn source sink form depth old new
    WritesItemIn old (Err error) new = ItemStopsIn memory source sink form depth old error new

    -- The write of an item ended with this error, or its line could not be ended.
    pub data LineStops (old : Sides R W) (error : JsonError E F) (new : Sides R W) : Type 0 where
      at_item : ItemStopsIn memory source sink form depth old error new → LineStops old error new
      at_end : (shown : W) (fault : F) → ItemWrittenIn source sink form depth old (sides new.decoder shown)
          → EndsOrFails sink {T = Unit {0}} shown (Err fault) new.writer → error ≡ j.Write fault
          → LineStops old error new

    -- The write of an item on a line, by its answer. For `01` it can be `Ok` with the line `1`, and not for `1c`.
    abbrev pub WritesLine : Sides R W → Result (Unit {0}) (JsonError E F) → Sides R W → Type 0
    WritesLine old (Ok done) new = LineWritten source sink form depth old new
    WritesLine old (Err error) new = LineStops old error new

    -- After whole lines the write of one more line ended with this error. Over `01 1c` this is after the line `1`.
    pub record StopsLines (old : Sides R W) (error : JsonError E F) (new : Sides R W) : Type 0 where
      pub count : ℕ
      pub between : Sides R W
      pub lines : AreLines source sink form depth count old between
      pub stops : LineStops between error new

    -- The write of a sequence, by its answer. The fault of a read that consumed nothing is that of a further item. Over
    -- `01 02` the answer is the fault after both lines. If one item is wanted, it is `Enough` after the first line.
    abbrev pub WritesLines : Option ℕ → Sides R W → Result (Ending E) (JsonError E F) → Sides R W → Type 0
    WritesLines most old (Ok g.Enough) new = (count : ℕ) × (most ≡ Some count) × AreLines source sink form depth count old new
    WritesLines most old (Ok (g.End fault)) new = StopsLines old (j.Read (s.Read (e.Io fault))) new
    WritesLines most old (Ok (g.More at)) new = ⊥
    WritesLines most old (Err error) new = StopsLines old error new

    -- ---- one item alone

    -- One item was read and written on a line, and the pull after it gave this answer. For `01 80` it is `More` at 1,
    -- after the line `1`.
    pub record OnlyWritten (old : Sides R W) (ending : Ending E) (new : Sides R W) : Type 0 where
      pub between : Decoder R
      pub line : LineWritten source sink form depth old (sides between new.writer)
      pub reads : ReadsItem source depth old.decoder between
      pub next : Result Header (Error E)
      pub pulls : DecoderPullAnswer source between next new.decoder
      pub follows : FollowsItem next between.offset new.decoder.offset ending

    -- The write of the one item ended with this error. No item is one too few, so at the end of the input the read of
    -- an item fails as it does within one.
    pub record OnlyStops (old : Sides R W) (error : JsonError E F) (new : Sides R W) : Type 0 where
      pub stops : LineStops old error new
      pub fails : OnReading (λ answer. SkipsItem source depth BUFFER_SIZE old.decoder answer new.decoder) (Err error)

    -- The write of one item that nothing may follow, by its answer. Over `01` it is the end after the line `1`.
    abbrev pub WritesOnly : Sides R W → Result (Ending E) (JsonError E F) → Sides R W → Type 0
    WritesOnly old (Ok ending) new = OnlyWritten old ending new
    WritesOnly old (Err error) new = OnlyStops old error new

    -- ---- a part of a sequence

    -- The write of at most `most` items, by its answer: what was read, and what was written. If one item of `01 1c` is
    -- wanted, it is `Enough` after the line `1`.
    abbrev pub WritesSome : Option ℕ → Sides R W → Result (Ending E) (JsonError E F) → Sides R W → Type 0
    WritesSome most old result new =
        ReadsLines source depth most old.decoder result new.decoder × WritesLines most old result new

    -- The write of one item alone, if one is wanted and there is no limit, and otherwise that of at most as many as the
    -- limit says. For `01 02` it is the end, or `More` at 1 if one item is wanted.
    abbrev pub WritesRest : Option ℕ → Bool → Sides R W → Result (Ending E) (JsonError E F) → Sides R W → Type 0
    WritesRest None true old result new = WritesOnly old result new
    WritesRest None false old result new = WritesSome None old result new
    WritesRest (Some most) one old result new = WritesSome (Some most) old result new

    -- The write of the items after the first `skip` items, by its answer, or the error that stopped the read of these.
    -- If one item of `01 02` is passed over, the one line is `2`.
    pub data WritesPart (skip : ℕ) (most : Option ℕ) (one : Bool) (room : ℕ) (old : Sides R W)
        (result : Result (Ending E) (JsonError E F)) (new : Sides R W) : Type 0 where
      writes_few : (error : SkipError E) → StopsCounted source skip depth room old.decoder error new.decoder
          → result ≡ Err (j.Read error) → new.writer ≡ old.writer → WritesPart skip most one room old result new
      writes_rest : (between : Decoder R) → PassesOver source skip depth old.decoder between
          → WritesRest most one (sides between old.writer) result new
          → WritesPart skip most one room old result new
