-- The places of pairs in the output.
use Rattle.std.specs.Prelude.{◌≡◌, ℕ, ◌+◌, ◌-◌, ◌*◌, ◌<◌, ◌≤◌, List, [], ◌∷◌, ◌++◌, length, take, drop, map}
use Rattle.std.specs.Prelude.{Option, Result, MatchResult, slice_index_or, cond, max, nat_lt}
use Rattle.std.specs.List.{AllByRecursion}
use Rattle.std.specs.List.Sorted.{IsPermutation}
use Rattle.cbor_deterministic.specs.declared.Order.{Order}
use Rattle.cbor_deterministic.specs.declared.TheConstants.{MAX_DEPTH}
use Rattle.ciborium_ll_grammar.specs.declared.spelling.Spelling.TheVariants.{Any}
use Rattle.ciborium_ll_grammar.specs.Items.{AreItems}
use Rattle.cbor_canonical.specs.declared.pairs.Span.{Span}
use Rattle.cbor_canonical.specs.declared.Stop.{Stop}
use Rattle.cbor_canonical.specs.declared.Stop.TheVariants as stop
use Rattle.cbor_canonical.specs.Runs.{Entry, IsBefore, DoAscend, HasEqualKeys, IsPairOf, TurnsPairs, joined_pairs}
use Rattle.cbor_canonical.specs.Writing.{Adds}

-- The bytes of the key at this place. In `00 18 64 01` the place with the start 1 and the end of the key 3 has the key
-- `18 64`.
abbrev pub key_at : List ℕ → Span → List ℕ
key_at out span = take (span.key_end - span.start) (drop span.start out)

-- The bytes of the value at this place, as `01` from 3 to 4 in `00 18 64 01`.
abbrev pub value_at : List ℕ → Span → List ℕ
value_at out span = take (span.end - span.key_end) (drop span.key_end out)

-- The pair at this place. In `01 02` the place 0, 1, 2 has the key `01` and the value `02`.
abbrev pub entry_at : List ℕ → Span → Entry
entry_at out span = record { key = key_at out span; value = value_at out span }

-- The pairs at these places, as two for the places 0, 1, 2 and 2, 3, 4 in `01 02 03 04`.
abbrev pub entries_at : List ℕ → List Span → List Entry
entries_at out spans = map (entry_at out) spans

-- The place of a pair that begins at this offset. At 5 the pair of `18 64` and `01` has the place 5, 7, 8.
abbrev pub span_of : ℕ → Entry → Span
span_of at entry = record {
  start = at;
  key_end = at + length entry.key;
  end = at + length entry.key + length entry.value;
}

-- The places of pairs that stand one after the other from this offset on. From 0 on, two pairs of keys and values of
-- one byte each have the places 0, 1, 2 and 2, 3, 4.
abbrev pub spans_of : ℕ → List Entry → List Span
spans_of at [] = []
spans_of at (entry ∷ entries) =
    span_of at entry ∷ spans_of (at + length entry.key + length entry.value) entries

-- The start of a pair and its end, as 5 and 8 of the place 5, 7, 8.
abbrev pub bounds : Span → ℕ × ℕ
bounds span = (span.start, span.end)

-- The place was written down after these others. After one place, the second one is put at 1.
abbrev pub PutsSpan : ℕ → Span → List Span → List Span → Type 0
PutsSpan done span old new = take (done + 1) new ≡ take done old ++ span ∷ []

-- The bytes begin with a pair. The call wrote its key and its value, and put its place after these others. For `18 01 02`
-- it writes `01 02`.
pub record WritesPair (order : Order) (depth : ℕ) (bytes rest : List ℕ) (at end : ℕ) (old new : List ℕ) (done : ℕ)
    (before after : List Span) : Type 0 where
  pub front : List ℕ
  pub entry : Entry
  pub is : IsPairOf order depth front entry
  pub whole : bytes ≡ front ++ rest
  pub wrote : Adds (entry.key ++ entry.value) at end old new
  pub put : PutsSpan done (span_of at entry) before after

-- The bytes begin with the pairs of a map of this count and its end. The call wrote the pairs as they come, and put down
-- their places. For `02 01 18 01 02` of two pairs it writes `02 01 01 02`.
pub record WritesPairs (order : Order) (depth : ℕ) (count : Option ℕ) (done : ℕ) (bytes rest : List ℕ) (at end : ℕ)
    (old new : List ℕ) (spans : List Span) : Type 0 where
  pub entries : List Entry
  pub turns : TurnsPairs order depth count bytes rest entries
  pub number : length entries ≡ done
  pub wrote : Adds (joined_pairs entries) at end old new
  pub places : take done spans ≡ spans_of at entries
  pub held : done ≤ length spans

-- The bytes begin with the pairs of a map of this count and its end. The call wrote the pairs in the order of their keys.
-- For `02 01 18 01 02` of two pairs it writes `01 02 02 01`.
pub record WritesMap (order : Order) (depth : ℕ) (count : Option ℕ) (done : ℕ) (bytes rest old new : List ℕ) : Type 0
  where
    pub entries : List Entry
    pub sorted : List Entry
    pub turns : TurnsPairs order depth count bytes rest entries
    pub same : IsPermutation entries sorted
    pub up : DoAscend order sorted
    pub number : length entries ≡ done
    pub wrote : new ≡ old ++ joined_pairs sorted

-- The key of the pair with this index does not come after that of the pair before it, as `01` after `02` at 1.
pub record HasDisorder (order : Order) (at : ℕ) (entries : List Entry) : Type 0 where
  pub from : 0 < at
  pub within : at < length entries
  pub down : (other : Entry)
      → IsBefore order (slice_index_or entries (at - 1) other) (slice_index_or entries at other) → ⊥

-- The end of the key in this cell holds two of the bytes, the lower one first: 513 holds `01 02`. A byte that is not
-- there counts as 0.
abbrev pub HoldsTwo : List ℕ → ℕ → Span → Type 0
HoldsTwo bytes cell span = (slice_index_or bytes (2 * cell) 0 < 256)
    × (slice_index_or bytes (2 * cell + 1) 0 < 256)
    × (span.key_end ≡ slice_index_or bytes (2 * cell) 0 + 256 * slice_index_or bytes (2 * cell + 1) 0)

-- The ends of keys hold the bytes, two in each, as 513 and 3 hold `01 02 03`.
abbrev pub IsSaved : List ℕ → List Span → Type 0
IsSaved bytes spans = (cell : ℕ) (other : Span) → 2 * cell < length bytes
    → (cell < length spans) × HoldsTwo bytes cell (slice_index_or spans cell other)

-- The pair lies between two offsets, and its key before its value. The place 5, 7, 8 lies between 5 and 8.
abbrev pub IsWithin : ℕ → ℕ → Span → Type 0
IsWithin at end span = (at ≤ span.start) × (span.start ≤ span.key_end) × (span.key_end ≤ span.end) × (span.end ≤ end)

-- The call wrote the pairs anew in the order of their places, if they lie between the offsets. For the places 2, 3, 4
-- and 0, 1, 2 it makes `01 02 02 01` of `02 01 01 02`.
abbrev pub MovesPairs : ℕ → ℕ → ℕ → List Span → List ℕ → List ℕ → Type 0
MovesPairs at end after spans old new = AllByRecursion (IsWithin at end) spans
    → Adds (joined_pairs (entries_at old spans)) at after old new

-- The pairs stand from one offset of the output to another, one after the other, at these places. In `02 01 01 02` two
-- pairs stand from 0 to 4, at the places 0, 1, 2 and 2, 3, 4.
pub record ArePlaced (at end : ℕ) (spans : List Span) (out : List ℕ) (entries : List Entry) : Type 0 where
  pub places : spans ≡ spans_of at entries
  pub wrote : take end out ≡ take at out ++ joined_pairs entries

-- The call put the pairs in the order of their keys. It makes `01 02 02 01` of `02 01 01 02`.
pub record IsOrdered (order : Order) (at after : ℕ) (entries : List Entry) (old new : List ℕ) : Type 0 where
  pub sorted : List Entry
  pub same : IsPermutation entries sorted
  pub up : DoAscend order sorted
  pub wrote : Adds (joined_pairs sorted) at after old new

-- The place of no pair: 0, 0, 0.
abbrev pub nowhere : Span
nowhere = record { start = 0; key_end = 0; end = 0 }

-- 1 if a pair begins before this offset, and 0 otherwise. It is 1 for the place 5, 7, 8 and the offset 6.
abbrev pub starts_before : ℕ → Span → ℕ
starts_before offset span = cond (nat_lt span.start offset) 1 0

-- The offset of the later of two pairs: of the one at this index, and of the one before it. For the places 5, 7, 8 and
-- 2, 3, 5 at 1 it is 5.
abbrev pub later_start : ℕ → List Span → ℕ
later_start index spans =
    max (slice_index_or spans (index - 1) nowhere).start (slice_index_or spans index nowhere).start

-- Two of the pairs have the same key, as in `01 02 01 03`. If the bytes begin with items before the later of the two,
-- this many bytes are left from its key on: 2 in these bytes.
pub record IsRepeated (depth : ℕ) (bytes : List ℕ) (entries : List Entry) (left : ℕ) : Type 0 where
  pub sorted : List Entry
  pub same : IsPermutation entries sorted
  pub equal : HasEqualKeys sorted
  pub early : ℕ
  pub late : ℕ
  pub apart : early < late
  pub within : late < length entries
  pub keys : (other : Entry) → (slice_index_or entries early other).key ≡ (slice_index_or entries late other).key
  pub left_is : (front rest : List ℕ) → depth ≤ MAX_DEPTH → AreItems Any depth (2 * late) front
      → bytes ≡ front ++ rest → left ≡ length rest

-- Why pairs are not put in order: two have the same key, or the memory is too small. For `01 02 01 03` it is
-- `Duplicate`.
abbrev pub StopsOrder : ℕ → List ℕ → List Entry → Stop → Type 0
StopsOrder depth bytes entries (stop.Duplicate left) = IsRepeated depth bytes entries left
StopsOrder depth bytes entries stop.Room = Unit {0}
StopsOrder depth bytes entries stop.Malformed = ⊥
StopsOrder depth bytes entries (stop.NoSimple left) = ⊥

-- No key of the pairs is empty. That of `01 02` is not.
abbrev pub HaveKeys : List Entry → Type 0
HaveKeys entries = AllByRecursion (λ entry. 0 < length entry.key) entries

-- The call put the pairs at these places in the order of their keys, or says why not. Of `02 01 01 02` it makes `01 02
-- 02 01`, and for `01 02 01 03` it says `Duplicate`.
abbrev pub OrdersPairs : Order → ℕ → List ℕ → ℕ → ℕ → List Span → List ℕ → Result ℕ Stop → List ℕ → Type 0
OrdersPairs order depth bytes at end spans old result new = (entries : List Entry) → HaveKeys entries
    → ArePlaced at end spans old entries
    → MatchResult result (λ after. IsOrdered order at after entries old new) (StopsOrder depth bytes entries)
