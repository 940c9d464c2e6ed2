-- Sequences of items (RFC 8742), and the answers of `check` about them.
use Rattle.std.specs.Prelude.{◌≡◌, ℕ, ◌+◌, ◌-◌, List, [], ◌++◌, length, Some, Result, Ok, Err}
use Rattle.ciborium_ll_grammar.specs.declared.spelling.Spelling.{Spelling}
use Rattle.ciborium_ll.specs.Types.Read.{Ghosts}
use Rattle.ciborium_ll.specs.Types.Decoder.{Decoder}
use Rattle.ciborium_ll.specs.Types.Error.TheVariants as e
use Rattle.ciborium_ll.specs.Items.{AreItems}
use Rattle.ciborium_ll.specs.Decoding.{view, ReadsPast, spelling_of}
use Rattle.cbor_skip.specs.declared.SkipError.{SkipError}
use Rattle.cbor_skip.specs.declared.SkipError.TheVariants as s
use Rattle.cbor_skip.specs.Failures.{CountsItemFailure}
use Rattle.cbor_skip.specs.ItemFaults.{BeginsWithItem}
use Rattle.cbor_skip.specs.Skipping.{SkipsItem, allowed_by}
use Rattle.cbor_skip.specs.SkippingTold.{SkipsTold}
use Rattle.cbor_dump.specs.declared.sequence.Sequence.{Sequence}
use Rattle.cbor_dump.specs.declared.sequence.Stopped.{Stopped}

-- The bytes are exactly items of at most that depth, one after the other, in any spelling or in the shortest one (RFC
-- 8742, 2). `01 80` is a sequence of two items.
abbrev pub IsSequence : Spelling → ℕ → List ℕ → Type 0
IsSequence allowed depth bytes = (count : ℕ) × AreItems allowed depth count bytes

-- The error says that no byte of an item came: the reader failed, and the offset is still that of the item. For an item
-- at 1 it is so if the reader failed at 1, and not if it failed at 2.
abbrev pub IsEnd : {E : Type 0} → SkipError E → ℕ → ℕ → Type 0
IsEnd (s.Read (e.Io fault)) place stop = stop ≡ place
IsEnd error place stop = ⊥

-- The answer at the end of the read. The items stand from the start to the place, and the read stopped at `stop`. If
-- two items stand from 0 to 3, `Ok` says 2 items and 3 bytes, and `stop` is 3.
abbrev pub EndsSequence : {E : Type 0} → SkipError E → ℕ → ℕ → ℕ → ℕ → Result (Sequence E) (Stopped E) → Type 0
EndsSequence error items start place stop (Ok sequence) = (error ≡ s.Read (e.Io sequence.«end»)) × (stop ≡ place)
    × (sequence.items ≡ items) × (sequence.bytes ≡ place - start)
EndsSequence error items start place stop (Err stopped) =
    (stopped ≡ record { items = items; place = place; error = error }) × (IsEnd error place stop → ⊥)

-- How often the reader failed, by the answer of a check: once at the end, and before the end once if the error says so.
-- `Ok` counts 1 failure, and `Break(1)` none.
abbrev pub CountsCheck : {E : Type 0} → Result (Sequence E) (Stopped E) → ℕ → ℕ → Type 0
CountsCheck (Ok sequence) old new = new ≡ old + 1
CountsCheck (Err stopped) old new = CountsItemFailure stopped.error old new

module _ {R E : Type 0} (source : Ghosts R E) where
  -- `count` items were read, by a strict decoder in their shortest spelling. The bytes `01 80` are two items.
  pub record ReadsItems (depth count : ℕ) (old new : Decoder R) : Type 0 where
    pub bytes : List ℕ
    pub are_items : AreItems (allowed_by old) depth count bytes
    pub passed : ReadsPast source old bytes new

  -- Items were read, and the reader failed at a further item before it consumed a byte. For `01 80` there are 2 items
  -- and 2 bytes.
  pub record FindsEnd (depth room : ℕ) (old : Decoder R) (sequence : Sequence E) (new : Decoder R) : Type 0 where
    pub between : Decoder R
    pub reads : ReadsItems depth sequence.items old between
    pub counted : sequence.bytes ≡ length reads.bytes
    pub fails : SkipsItem source depth room between (Err (s.Read (e.Io sequence.«end»))) new
    pub still : new.offset ≡ between.offset

  -- Items were read, and the read of a further item failed. The failure is not an end. In `01 ff` the place after the
  -- first item is 1.
  pub record FindsNoItem (depth room : ℕ) (old : Decoder R) (stopped : Stopped E) (new : Decoder R) : Type 0 where
    pub between : Decoder R
    pub reads : ReadsItems depth stopped.items old between
    pub place : stopped.place ≡ between.offset
    pub fails : SkipsItem source depth room between (Err stopped.error) new
    pub no_end : IsEnd stopped.error between.offset new.offset → ⊥

  -- The reads of `check` through a buffer of this room, by its answer, after the items that the answer counts. It can
  -- be `Ok` for `01 80`, and not for `01 ff`.
  abbrev pub ChecksItems : ℕ → ℕ → Decoder R → Result (Sequence E) (Stopped E) → Decoder R → Type 0
  ChecksItems depth room old (Ok sequence) new = FindsEnd depth room old sequence new
  ChecksItems depth room old (Err stopped) new = FindsNoItem depth room old stopped new

  -- The bytes are a sequence of as many items as the answer counts, for a strict decoder in their shortest spelling. No
  -- byte is left. The bytes `82 01 02 03` are 2 items.
  pub record FindsSequence (depth : ℕ) (due : List ℕ) (old : Decoder R) (sequence : Sequence E) (new : Decoder R)
      : Type 0 where
    pub are_items : AreItems (spelling_of old) depth sequence.items due
    pub counted : sequence.bytes ≡ length due
    pub left : view source new ≡ Some []
    pub offset : new.offset ≡ old.offset + length due

  -- After the counted items, bytes follow that begin with no item, and the decoder meets the fault that stops the read
  -- of an item. In `01 ff` one item precedes `ff`, which begins none.
  pub record FindsFault (depth : ℕ) (due : List ℕ) (old : Decoder R) (stopped : Stopped E) (new : Decoder R)
      : Type 0 where
    pub before : List ℕ
    pub ahead : List ℕ
    pub are_items : AreItems (spelling_of old) depth stopped.items before
    pub is : due ≡ before ++ ahead
    pub place : stopped.place ≡ old.offset + length before
    pub no_item : BeginsWithItem (spelling_of old) depth ahead → ⊥
    pub no_end : ahead ≡ [] → ⊥
    pub between : Decoder R
    pub at : between.offset ≡ stopped.place
    pub met : SkipsTold source (spelling_of old) depth ahead between (Err stopped.error) new

  -- The reads of `check` with told bytes, by its answer: it reads a sequence, or the items before the fault, and
  -- `SkipsTold` holds of the next item. It is `Ok` for `82 01 02`, and an error for `82 01`.
  abbrev pub ChecksTold : ℕ → List ℕ → Decoder R → Result (Sequence E) (Stopped E) → Decoder R → Type 0
  ChecksTold depth due old (Ok sequence) new = FindsSequence depth due old sequence new
  ChecksTold depth due old (Err stopped) new = FindsFault depth due old stopped new
