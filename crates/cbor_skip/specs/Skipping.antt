-- `skip_item` and its parts, over any reader. The relations speak of bytes that the reader tells.
use Rattle.std.specs.Prelude.{◌≡◌, ℕ, suc, ◌<◌, ◌⊎◌, Bool, false, List, Option, Some, None, Result, Ok, Err}
use Rattle.ciborium_ll_io.specs.declared.io.Read.{Ghosts}
use Rattle.ciborium_ll_grammar.specs.declared.spelling.Spelling.{Spelling}
use Rattle.ciborium_ll_grammar.specs.declared.spelling.Spelling.TheVariants.{Any}
use Rattle.ciborium_ll_grammar.specs.declared.hdr.Header.{Header}
use Rattle.ciborium_ll_grammar.specs.declared.hdr.Header.TheVariants as h
use Rattle.ciborium_ll_decoder.specs.declared.dec.Decoder.{Decoder}
use Rattle.ciborium_ll_decoder.specs.declared.dec.Error.{Error}
use Rattle.ciborium_ll_grammar.specs.Strings.{Kind, kind_header}
use Rattle.ciborium_ll_grammar.specs.Items.{Completes, AreItems, IsItem}
use Rattle.ciborium_ll_decoder.specs.Decoding.{IsSteady, MovesOn, ReadsPast, DecoderPullAnswer, PullsTitle, spelling_of}
use Rattle.ciborium_ll_decoder.specs.Skipping.{SkipsString}
use Rattle.cbor_skip.specs.declared.Begun.{Begun}
use Rattle.cbor_skip.specs.declared.Begun.TheVariants as b
use Rattle.cbor_skip.specs.declared.SkipError.{SkipError}
use Rattle.cbor_skip.specs.declared.SkipError.TheVariants as s
use Rattle.cbor_skip.specs.Due.{IsNest, TakesMore, may_close, item_count, ItemDue}

-- The spelling that is allowed if this header waits, or none: any if one waits. A decoder gives a header that waits as
-- it was pushed, even that of `f8 18`.
abbrev pub allowed_unless_waiting : Option Header → Spelling → Spelling
allowed_unless_waiting None allowed = allowed
allowed_unless_waiting (Some header) allowed = Any

-- The spelling that a decoder allows ahead (RFC 7049, 3.9): its own if no header waits, and otherwise any. A strict
-- decoder on which no header waits allows `01`, and not `18 01`.
abbrev pub allowed_by : {R : Type 0} → Decoder R → Spelling
allowed_by decoder = allowed_unless_waiting decoder.waiting (spelling_of decoder)

-- The beginning that the header of a nest makes: the number of its items, or the header, if that number is not told or
-- not counted. The title `82` makes 2 items, and `9f` makes its header.
abbrev pub BeginsNest : Header → Begun → Type 0
BeginsNest header b.Item = ⊥
BeginsNest header b.Break = ⊥
BeginsNest header (b.Items count) = item_count header ≡ Some count
BeginsNest header (b.Nest nest) = nest ≡ header

module _ {R E : Type 0} (source : Ghosts R E) where
  -- The title of a string came, and the read of the string failed after it: after `42`, if only `42 01` is due.
  pub record MeetsString (room : ℕ) (between : Decoder R) (error : Error E) (new : Decoder R) : Type 0 where
    pub kind : Kind
    pub len : Option ℕ
    pub titled : Decoder R
    pub pulled : PullsTitle source between (kind_header kind len) titled
    pub steady : IsSteady source between → IsSteady source titled
    pub fails : SkipsString source kind len room titled (Err error) new

  -- No title came, or the title of a string came and then no whole string. At `1c` no title came.
  abbrev pub StopsTitle : ℕ → Decoder R → Error E → Decoder R → Type 0
  StopsTitle room between error new = DecoderPullAnswer source between (Err error) new ⊎ MeetsString room between error new

  -- A break came at this offset, and none may stand there. In `bf 01 ff` from the offset 0 on, this is at 2.
  pub record MeetsBreak (closable : Bool) (between : Decoder R) (at : ℕ) (new : Decoder R) : Type 0 where
    pub not_closable : closable ≡ false
    pub place : at ≡ between.offset
    pub pulled : PullsTitle source between h.Break new

  -- The title of a tag, an array or a map came at this offset, and no level is left. With depth 1, in `81 c1 00` from
  -- the offset 0 on, this is at 1.
  pub record MeetsNest (levels : ℕ) (between : Decoder R) (at : ℕ) (new : Decoder R) : Type 0 where
    pub none_left : levels ≡ 0
    pub place : at ≡ between.offset
    pub header : Header
    pub is_nest : IsNest header
    pub pulled : PullsTitle source between header new

  -- The read fails while an item to `levels` levels is due: no title came, or one of the three things above. If
  -- `levels` is 0, it fails at `80`, and not at `60`.
  abbrev pub StopsDue : ℕ → Bool → ℕ → Decoder R → SkipError E → Decoder R → Type 0
  StopsDue levels closable room between (s.Read error) new = StopsTitle room between error new
  StopsDue levels closable room between (s.Break at) new = MeetsBreak closable between at new
  StopsDue levels closable room between (s.Deep at) new = MeetsNest levels between at new

  -- A beginning of an item was read, and the read failed at the next item that is due. With depth 1, in `82 01 1c` this
  -- is after `82 01`.
  pub record StopsItem (outer : Bool) (depth room : ℕ) (old : Decoder R) (error : SkipError E) (new : Decoder R)
      : Type 0 where
    pub bytes : List ℕ
    pub levels : ℕ
    pub closable : Bool
    pub due : ItemDue (allowed_by old) outer depth bytes levels closable
    pub between : Decoder R
    pub passed : ReadsPast source old bytes between
    pub stops : StopsDue levels closable room between error new

  -- The decoder read one item, in its shortest spelling if it is strict. If `17 02` is due, the item is `17`.
  pub record ReadsItem (depth : ℕ) (old new : Decoder R) : Type 0 where
    pub item : List ℕ
    pub is_item : IsItem (allowed_by old) depth item
    pub passed : ReadsPast source old item new

  -- A title began an item, which was read whole and is an item to any depth. Or the title is a break, or that of a
  -- nest, which may count its items. The titles `01`, `ff` and `82` make these three beginnings.
  abbrev pub IsBegun : Begun → Decoder R → Decoder R → Type 0
  IsBegun b.Item old new = (depth : ℕ) → ReadsItem depth old new
  IsBegun b.Break old new = PullsTitle source old h.Break new
  IsBegun (b.Items count) old new =
      (header : Header) × (item_count header ≡ Some count) × PullsTitle source old header new
  IsBegun (b.Nest header) old new = IsNest header × PullsTitle source old header new

  -- The decoder read `count` items: 2, for example, if it read `01 02`.
  pub record ReadsCounted (count depth : ℕ) (old new : Decoder R) : Type 0 where
    pub items : List ℕ
    pub are_items : AreItems (allowed_by old) depth count items
    pub passed : ReadsPast source old items new

  -- The decoder read some of `count` items, and a beginning of one more. With depth 1, of 2 items in `01 81 1c` these
  -- are `01` and `81`.
  pub record StopsCounted (count depth room : ℕ) (old : Decoder R) (error : SkipError E) (new : Decoder R)
      : Type 0 where
    pub before : ℕ
    pub items : List ℕ
    pub more : before < count
    pub are_items : AreItems (allowed_by old) depth before items
    pub between : Decoder R
    pub passed : ReadsPast source old items between
    pub stops : StopsItem false depth room between error new

  -- The read of `count` items, by its answer. If `count` is 2, over `01 02` it is `Ok`, and over `01 ff` an error.
  abbrev pub SkipsCounted : ℕ → ℕ → ℕ → Decoder R → Result (Unit {0}) (SkipError E) → Decoder R → Type 0
  SkipsCounted count depth room old (Ok done) new = ReadsCounted count depth old new
  SkipsCounted count depth room old (Err error) new = StopsCounted count depth room old error new

  -- `skip_item` through a buffer of `room` bytes, by its answer: it read an item, or stopped after a beginning of one.
  -- The spelling is as the old decoder's `strictness` says. With depth 1, over `81 ff` it stopped after `81`.
  abbrev pub SkipsItem : ℕ → ℕ → Decoder R → Result (Unit {0}) (SkipError E) → Decoder R → Type 0
  SkipsItem depth room old (Ok done) new = ReadsItem depth old new
  SkipsItem depth room old (Err error) new = StopsItem false depth room old error new

  -- After the header of a nest the rest of the nest was read: `01 02` after `82`, or `01 02 ff` after `9f`.
  pub record ReadsWithin (header : Header) (depth : ℕ) (old new : Decoder R) : Type 0 where
    pub rest : List ℕ
    pub completes : Completes (allowed_by old) (suc depth) header rest
    pub passed : ReadsPast source old rest new

  -- After the header of a nest `count` items were read, and a beginning of one more. If `01 1c` follows `82`, `count`
  -- is 1.
  pub record StopsWithin (header : Header) (depth room : ℕ) (old : Decoder R) (error : SkipError E) (new : Decoder R)
      : Type 0 where
    pub count : ℕ
    pub items : List ℕ
    pub takes_more : TakesMore header count
    pub are_items : AreItems (allowed_by old) depth count items
    pub between : Decoder R
    pub passed : ReadsPast source old items between
    pub stops : StopsItem (may_close header count) depth room between error new

  -- The read of a nest's contents, by its answer. After `9f` it is `Ok` over `01 ff`, and an error over `01 1c`.
  abbrev pub SkipsWithin : Header → ℕ → ℕ → Decoder R → Result (Unit {0}) (SkipError E) → Decoder R → Type 0
  SkipsWithin header depth room old (Ok done) new = ReadsWithin header depth old new
  SkipsWithin header depth room old (Err error) new = StopsWithin header depth room old error new

  -- `skip_item`, whatever fails, and the facts that it keeps. If it skips `01` at the offset 3, the offset is then 4.
  pub record SkipsOne (depth room : ℕ) (old : Decoder R) (result : Result (Unit {0}) (SkipError E)) (new : Decoder R) :
      Type 0 where
    pub skipped : SkipsItem depth room old result new
    pub moves_on : MovesOn source old new
