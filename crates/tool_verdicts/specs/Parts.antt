-- The verdicts on a part of a sequence of items (RFC 8742): on the items after the first ones, and on at most a number
-- of them. The places of items, as an index has them.
use Rattle.std.specs.Prelude.{◌≡◌, ℕ, ◌+◌, ◌<◌, ◌≤◌, ◌⊎◌, Bool, List, [], ◌∷◌, ◌++◌, length, Option, Some, None}
use Rattle.std.specs.Prelude.{Result, Ok, Err}
use Rattle.ciborium_ll.specs.Types.Spelling.{Spelling}
use Rattle.ciborium_ll.specs.Types.Read.{Ghosts}
use Rattle.ciborium_ll.specs.Types.Decoder.{Decoder}
use Rattle.ciborium_ll.specs.Items.{AreItems, IsItem}
use Rattle.ciborium_ll.specs.Decoding.{ReadsPast}
use Rattle.cbor_skip.specs.declared.SkipError.{SkipError}
use Rattle.cbor_skip.specs.Skipping.{ReadsCounted, SkipsItem, StopsCounted, allowed_by}
use Rattle.cbor_dump.specs.Sequences.{IsEnd, ReadsItems}
use Rattle.tool_verdicts.specs.Checking.{Finds, SaysVerdict, StopsAsNamed, StopsBehind, fault_said}
use Rattle.tool_verdicts.specs.declared.part.Span.{Span}
use Rattle.tool_verdicts.specs.declared.verdict.Verdict.{Verdict}
use Rattle.tool_verdicts.specs.declared.verdict.Verdict.TheVariants as v

-- More items than these are wanted: with a limit of 3 if there are 2, and without a limit always.
abbrev pub IsBelow : Option ℕ → ℕ → Type 0
IsBelow None count = Unit {0}
IsBelow (Some most) count = count < most

-- No more items than the limit: 2 and 3 for a limit of 3. Without a limit any number is right.
abbrev pub IsAtMost : Option ℕ → ℕ → Type 0
IsAtMost None count = Unit {0}
IsAtMost (Some most) count = count ≤ most

-- The verdict after this many items of this many bytes. The read of a further item from the place on failed, and
-- stopped at `stop`. If it stopped at the place, the items end there. In `01 82` two items are wanted: `Short` at 2.
abbrev pub EndsAt : {E : Type 0} → SkipError E → ℕ → ℕ → ℕ → ℕ → Verdict → Type 0
EndsAt error count bytes place stop verdict = (IsEnd error place stop × (verdict ≡ v.Well count bytes))
    ⊎ ((IsEnd error place stop → ⊥) × (verdict ≡ fault_said error stop))

-- ---- places of items

-- The places so far, if they are told, grow by these places. After the place of `01` that of `80` makes two.
abbrev pub AddsSpans : Option (List Span) → Option (List Span) → List Span → Type 0
AddsSpans None new spans = Unit {0}
AddsSpans (Some old) None spans = ⊥
AddsSpans (Some old) (Some new) spans = new ≡ old ++ spans

-- The bytes are items, one after the other, and these are their offsets and lengths. The first byte has the offset
-- `start`. The items of `01 81 02` from 5 on have the places 5 and 6, and the lengths 1 and 2.
pub data AreSpans (allowed : Spelling) (depth start : ℕ) : List Span → List ℕ → Type 0 where
  no_spans : AreSpans allowed depth start [] []
  more_spans : {spans : List Span} {bytes item : List ℕ} (span : Span) → AreSpans allowed depth start spans bytes
      → IsItem allowed depth item → span.offset ≡ start + length bytes → span.len ≡ length item
      → AreSpans allowed depth start (spans ++ span ∷ []) (bytes ++ item)

module _ {R E : Type 0} (source : Ghosts R E) where
  -- ---- reads

  -- The first items were passed over: none of them, and nothing changed, or this many. Two items of `01 80 05` are `01`
  -- and `80`.
  pub record PassesOver (count depth : ℕ) (old new : Decoder R) : Type 0 where
    pub reads : ReadsCounted source count depth old new
    pub none : count ≡ 0 → new ≡ old

  -- Items were read, and these are their places. After `01 81 02` from the offset 0 on they are 0 and 1.
  pub record ReadsSpans (depth : ℕ) (old : Decoder R) (spans : List Span) (new : Decoder R) : Type 0 where
    pub bytes : List ℕ
    pub are : AreSpans (allowed_by old) depth old.offset spans bytes
    pub passed : ReadsPast source old bytes new

  -- The verdict after this many items of this many bytes: no more are wanted, and nothing more was read. Or the read of
  -- a further item failed. If two items of `01 02 1c` are wanted, `1c` is not read.
  pub data EndsSome (depth room : ℕ) (most : Option ℕ) (count bytes : ℕ) (between : Decoder R) (verdict : Verdict)
      (new : Decoder R) : Type 0 where
    enough : most ≡ Some count → new ≡ between → verdict ≡ v.Well count bytes
        → EndsSome depth room most count bytes between verdict new
    stops : (error : SkipError E) → IsBelow most count → SkipsItem source depth room between (Err error) new
        → EndsAt error count bytes between.offset new.offset verdict
        → EndsSome depth room most count bytes between verdict new

  -- At most `most` items were read, and the verdict says how that ended. If one item of `01 ff` is wanted, it is `Well`
  -- with 1 item in 1 byte.
  pub record SaysSome (depth room : ℕ) (most : Option ℕ) (old : Decoder R) (verdict : Verdict) (new : Decoder R)
      : Type 0 where
    pub count : ℕ
    pub between : Decoder R
    pub reads : ReadsItems source depth count old between
    pub ends : EndsSome depth room most count (length reads.bytes) between verdict new

  -- The verdict without a limit is that of a check of one item or of all, and otherwise that of some items. For `01 02`
  -- it is `Well` with 2 items, and with a limit of 1 `Well` with 1 item.
  abbrev pub SaysRest : Option ℕ → Bool → ℕ → ℕ → Decoder R → Verdict → Decoder R → Type 0
  SaysRest None one depth room old verdict new = SaysVerdict source one depth room old verdict new
  SaysRest (Some most) one depth room old verdict new = SaysSome depth room (Some most) old verdict new

  -- The verdict on the items after the first `skip` items, or on the fault among these. If one item of `01 02` is passed
  -- over, it is `Well` with 1 item.
  pub data SaysPart (skip : ℕ) (most : Option ℕ) (one : Bool) (depth room : ℕ) (old : Decoder R) (verdict : Verdict)
      (new : Decoder R) : Type 0 where
    few : (error : SkipError E) → StopsCounted source skip depth room old error new
        → verdict ≡ fault_said error new.offset → SaysPart skip most one depth room old verdict new
    rest : (between : Decoder R) → PassesOver skip depth old between
        → SaysRest most one depth room between verdict new → SaysPart skip most one depth room old verdict new

  -- ---- an index

  -- The verdict on at most `most` items, and their places were taken. Over `01 02` these are 0 and 1.
  pub record IndexesAll (most : Option ℕ) (depth room : ℕ) (taken then_taken : Option (List Span)) (old : Decoder R)
      (verdict : Verdict) (new : Decoder R) : Type 0 where
    pub spans : List Span
    pub between : Decoder R
    pub reads : ReadsSpans depth old spans between
    pub adds : AddsSpans taken then_taken spans
    pub ends : EndsSome depth room most (length spans) (length reads.bytes) between verdict new

  -- The place of the last item that was read was refused. Those of the items before it were taken.
  pub record RefusesSpan (depth : ℕ) (taken then_taken : Option (List Span)) (old new : Decoder R) : Type 0 where
    pub spans : List Span
    pub last : Span
    pub reads : ReadsSpans depth old (spans ++ last ∷ []) new
    pub adds : AddsSpans taken then_taken spans

  -- An index of at most `most` items, by its answer. Over `01 ff` it takes the place of `01`, and its verdict is `Break`
  -- at 1.
  abbrev pub IndexesItems : {F : Type 0} → Option ℕ → ℕ → ℕ → Option (List Span) → Option (List Span) → Decoder R
      → Result Verdict F → Decoder R → Type 0
  IndexesItems most depth room taken then_taken old (Ok verdict) new =
      IndexesAll most depth room taken then_taken old verdict new
  IndexesItems most depth room taken then_taken old (Err error) new = RefusesSpan depth taken then_taken old new

  -- An index of the items after the first `skip` items, or the verdict on the fault among these, which has no place.
  -- If one item of `01 02` is passed over, the place 1 is taken.
  pub data IndexesPart {F : Type 0} (skip : ℕ) (most : Option ℕ) (depth room : ℕ) (taken then_taken : Option (List Span))
      (old : Decoder R) (result : Result Verdict F) (new : Decoder R) : Type 0 where
    none_behind : (error : SkipError E) → StopsCounted source skip depth room old error new
        → result ≡ Ok (fault_said error new.offset) → then_taken ≡ taken
        → IndexesPart skip most depth room taken then_taken old result new
    index_behind : (between : Decoder R) → PassesOver skip depth old between
        → IndexesItems most depth room taken then_taken between result new
        → IndexesPart skip most depth room taken then_taken old result new

-- ---- verdicts on bytes that are told

-- The verdict after this many items. Their bytes are `before`, and `ahead` follows. If two items of `01 02 1c` are
-- wanted, it is `Well` with 2 items in 2 bytes. Without a limit it is `Syntax(2)`.
pub data EndsFound (allowed : Spelling) (depth : ℕ) (most : Option ℕ) (count : ℕ) (before ahead : List ℕ) (start : ℕ)
    (verdict : Verdict) : Type 0 where
  found : most ≡ Some count → verdict ≡ v.Well count (length before)
      → EndsFound allowed depth most count before ahead start verdict
  ended : IsBelow most count → ahead ≡ [] → verdict ≡ v.Well count (length before)
      → EndsFound allowed depth most count before ahead start verdict
  faulty : IsBelow most count → StopsAsNamed allowed depth ahead (start + length before) verdict
      → EndsFound allowed depth most count before ahead start verdict

-- The verdict on at most `most` items from this offset on. One item of `01 ff` is `Well` with 1 item in 1 byte.
pub record FindsSome (allowed : Spelling) (depth : ℕ) (most : Option ℕ) (due : List ℕ) (start : ℕ) (verdict : Verdict)
    : Type 0 where
  pub count : ℕ
  pub before : List ℕ
  pub ahead : List ℕ
  pub are_items : AreItems allowed depth count before
  pub is : due ≡ before ++ ahead
  pub ends : EndsFound allowed depth most count before ahead start verdict

-- The verdict without a limit is that on one item or on a sequence, and otherwise that on some items. On `01 ff` it is
-- `Break(1)`, and with a limit of 1 `Well` with 1 item.
abbrev pub FindsRest : Option ℕ → Bool → Spelling → ℕ → List ℕ → ℕ → Verdict → Type 0
FindsRest None one allowed depth due start verdict = Finds one allowed depth due start verdict
FindsRest (Some most) one allowed depth due start verdict = FindsSome allowed depth (Some most) due start verdict

-- The verdict on the bytes after the first `skip` items, or the first fault among these. In `01 ff` one item is passed
-- over: `Break(1)`. In `01` two items are to be passed over: `Short(1)`.
pub data FindsPart (skip : ℕ) (most : Option ℕ) (one : Bool) (allowed : Spelling) (depth : ℕ) (due : List ℕ) (start : ℕ)
    (verdict : Verdict) : Type 0 where
  found_few : {count : ℕ} → count < skip → StopsBehind allowed depth count due start verdict
      → FindsPart skip most one allowed depth due start verdict
  found_rest : (before ahead : List ℕ) → AreItems allowed depth skip before → due ≡ before ++ ahead
      → FindsRest most one allowed depth ahead (start + length before) verdict
      → FindsPart skip most one allowed depth due start verdict
