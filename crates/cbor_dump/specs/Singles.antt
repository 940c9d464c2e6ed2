-- One item that nothing follows, and the answers of `check_one`.
use Rattle.std.specs.Prelude.{◌≡◌, ℕ, ◌+◌, ◌-◌, List, [], length, Result, Ok, Err}
use Rattle.ciborium_ll.specs.Types.Read.{Ghosts}
use Rattle.ciborium_ll.specs.Types.Header.{Header}
use Rattle.ciborium_ll.specs.Types.Decoder.{Decoder}
use Rattle.ciborium_ll.specs.Types.Error.{Error}
use Rattle.ciborium_ll.specs.Types.Error.TheVariants as e
use Rattle.ciborium_ll.specs.Decoding.{DecoderPullAnswer, spelling_of}
use Rattle.cbor_skip.specs.Failures.{CountsFailure, CountsItemFailure}
use Rattle.cbor_skip.specs.ItemFaults.{BeginsWithItem}
use Rattle.cbor_skip.specs.Skipping.{ReadsItem, SkipsItem}
use Rattle.cbor_skip.specs.SkippingTold.{SkipsTold}
use Rattle.cbor_dump.specs.declared.sequence.Sequence.{Sequence}
use Rattle.cbor_dump.specs.declared.single.NotOne.{NotOne}
use Rattle.cbor_dump.specs.declared.single.NotOne.TheVariants as n
use Rattle.cbor_dump.specs.Sequences.{FindsSequence}

-- The answer of the pull after an item. The item stands from the start to the place, and the pull stopped at `stop`. In
-- `01 80` the item stands from 0 to 1, and the answer is `More` at 1.
abbrev pub EndsOne : {E : Type 0} → Result Header (Error E) → ℕ → ℕ → ℕ → Result (Sequence E) (NotOne E) → Type 0
EndsOne pulled start place stop (Ok sequence) = (pulled ≡ Err (e.Io sequence.«end»)) × (stop ≡ place)
    × (sequence.items ≡ 1) × (sequence.bytes ≡ place - start)
EndsOne pulled start place stop (Err (n.Item error)) = ⊥
EndsOne {E} pulled start place stop (Err (n.More at next)) = (at ≡ place) × (next ≡ pulled)
    × ((fault : E) → pulled ≡ Err (e.Io fault) → stop ≡ place → ⊥)

-- How often the reader failed, by the answer: once at the end, and before the end once if the error says so. After `01`
-- the end counts 1 failure, and a further `80` none.
abbrev pub CountsOne : {E : Type 0} → Result (Sequence E) (NotOne E) → ℕ → ℕ → Type 0
CountsOne (Ok sequence) old new = new ≡ old + 1
CountsOne (Err (n.Item error)) old new = CountsItemFailure error old new
CountsOne (Err (n.More at (Ok header))) old new = new ≡ old
CountsOne (Err (n.More at (Err error))) old new = CountsFailure error old new

module _ {R E : Type 0} (source : Ghosts R E) where
  -- An item was read, and the reader failed after it before it consumed a byte. For `82 01 02` it has 3 bytes.
  pub record FindsAlone (depth : ℕ) (old : Decoder R) (sequence : Sequence E) (new : Decoder R) : Type 0 where
    pub between : Decoder R
    pub reads : ReadsItem source depth old between
    pub one : sequence.items ≡ 1
    pub counted : sequence.bytes ≡ length reads.item
    pub fails : DecoderPullAnswer source between (Err (e.Io sequence.«end»)) new
    pub still : new.offset ≡ between.offset

  -- An item was read, and the pull after it found no end. In `01 80` it found the header of `80` at 1.
  pub record FindsMore (depth : ℕ) (old : Decoder R) (at : ℕ) (next : Result Header (Error E)) (new : Decoder R)
      : Type 0 where
    pub between : Decoder R
    pub reads : ReadsItem source depth old between
    pub place : at ≡ between.offset
    pub pulls : DecoderPullAnswer source between next new
    pub no_end : (fault : E) → next ≡ Err (e.Io fault) → new.offset ≡ between.offset → ⊥

  -- The reads of `check_one` through a buffer of this room, by its answer: one item alone, no item, or more bytes after
  -- it. The bytes `01`, `ff` and `01 80` are examples of these.
  abbrev pub ChecksOne : ℕ → ℕ → Decoder R → Result (Sequence E) (NotOne E) → Decoder R → Type 0
  ChecksOne depth room old (Ok sequence) new = FindsAlone depth old sequence new
  ChecksOne depth room old (Err (n.Item error)) new = SkipsItem source depth room old (Err error) new
  ChecksOne depth room old (Err (n.More at next)) new = FindsMore depth old at next new

  -- The bytes begin with an item, and more bytes follow it from this offset on. In `01 80`, read from the offset 0,
  -- more follows at the offset 1.
  pub record HasMore (depth : ℕ) (due : List ℕ) (old : Decoder R) (at : ℕ) : Type 0 where
    pub front : BeginsWithItem (spelling_of old) depth due
    pub some : front.rest ≡ [] → ⊥
    pub place : at ≡ old.offset + length front.item

  -- The reads of `check_one` with told bytes, by its answer. It is `Ok` for `01`, and `More` at 1 for `01 80`.
  abbrev pub ChecksOneTold : ℕ → List ℕ → Decoder R → Result (Sequence E) (NotOne E) → Decoder R → Type 0
  ChecksOneTold depth due old (Ok sequence) new = (sequence.items ≡ 1) × FindsSequence source depth due old sequence new
  ChecksOneTold depth due old (Err (n.Item error)) new =
      SkipsTold source (spelling_of old) depth due old (Err error) new
  ChecksOneTold depth due old (Err (n.More at next)) new = HasMore depth due old at
