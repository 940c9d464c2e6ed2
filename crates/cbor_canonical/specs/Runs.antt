-- The bytes that a call reads when it rewrites, and those that it writes.
use Rattle.std.specs.Prelude.{◌≡◌, ℕ, zero, suc, ◌+◌, ◌<◌, List, [], ◌∷◌, ◌++◌, length, Option, Some, None}
use Rattle.std.specs.Prelude.{slice_index_or}
use Rattle.std.specs.List.{AllAdjacentBelow}
use Rattle.ciborium_ll_grammar.specs.declared.spelling.Spelling.TheVariants.{Any}
use Rattle.ciborium_ll_grammar.specs.declared.hdr.Header.{Header}
use Rattle.ciborium_ll_grammar.specs.Items.{IsItem}
use Rattle.ciborium_ll_grammar.specs.Title.{IsTitle}
use Rattle.cbor_deterministic.specs.declared.Order.{Order}
use Rattle.cbor_deterministic.specs.Fronts.{NoneInFront}
use Rattle.cbor_deterministic.specs.Laws.{IsSpelling}
use Rattle.cbor_deterministic.specs.Orders.{Precedes}
use Rattle.ciborium_ll_grammar.specs.declared.hdr.Header.TheVariants as h
use Rattle.cbor_canonical.specs.Canonical.{IsRewritten, IsFittingSpelling}
use Rattle.cbor_canonical.specs.Meeting.{MeetsFault, MeetsWithin, MeetsInPair}
use Rattle.cbor_canonical.specs.declared.Stop.{Stop}
use Rattle.cbor_canonical.specs.declared.Stop.TheVariants as stop

-- The bytes begin with a front, and the call wrote bytes after the old bytes. P holds for the front and the written
-- bytes. If P holds for `18 01` and `01`, a call may read `18 01` of `18 01 02` and write `01`.
pub record Turns (P : List ℕ → List ℕ → Type 0) (bytes rest old new : List ℕ) : Type 0 where
  pub front : List ℕ
  pub written : List ℕ
  pub is : P front written
  pub whole : bytes ≡ front ++ rest
  pub wrote : new ≡ old ++ written

-- After a title of the header the bytes complete an item, and its deterministic encoding is written. After `9f` the
-- bytes `18 01 ff` are completed with `81 01`.
abbrev pub IsCompleted : Order → ℕ → Header → List ℕ → List ℕ → Type 0
IsCompleted order depth header bytes written =
    (title : List ℕ) → IsTitle title header → IsRewritten order depth (title ++ bytes) written

-- The bytes are this number of items, and each is rewritten. `18 01 02` are two items, rewritten to `01 02`.
pub data AreRewritten (order : Order) (depth : ℕ) : ℕ → List ℕ → List ℕ → Type 0 where
  none_rewritten : AreRewritten order depth zero [] []
  more_rewritten : {count : ℕ} {bytes others written more : List ℕ} → IsRewritten order depth bytes written
      → AreRewritten order depth count others more
      → AreRewritten order depth (suc count) (bytes ++ others) (written ++ more)

-- `EndsNest count done bytes`: after `done` items or pairs the bytes end an array or a map of this count. They are
-- empty if the count is told and reached, and a break if it is not told (RFC 8949, 3.2.2). The byte `ff` ends `9f 01`.
pub data EndsNest : Option ℕ → ℕ → List ℕ → Type 0 where
  counted : {done : ℕ} → EndsNest (Some done) done []
  at_break : {done : ℕ} → EndsNest None done (0xff ∷ [])

-- The bytes begin with this number of items of an array of this count, and with the array's end. Each item is rewritten
-- after the old bytes. For `01 ff` without a count the call writes `01`.
pub record TurnsItems (order : Order) (depth : ℕ) (count : Option ℕ) (done : ℕ) (bytes rest old new : List ℕ) : Type 0
  where
    pub items : List ℕ
    pub written : List ℕ
    pub tail : List ℕ
    pub are : AreRewritten order depth done items written
    pub ends : EndsNest count done tail
    pub whole : bytes ≡ items ++ (tail ++ rest)
    pub wrote : new ≡ old ++ written

-- The key and the value of a pair, as they are written: `01` and `02` of `01 02`.
pub record Entry : Type 0 where
  pub key : List ℕ
  pub value : List ℕ

-- The bytes are a key and a value, and the entry has both rewritten. `18 01 02` has the key `01` and the value `02` in
-- its entry.
pub record IsPairOf (order : Order) (depth : ℕ) (bytes : List ℕ) (entry : Entry) : Type 0 where
  pub key : List ℕ
  pub value : List ℕ
  pub key_is : IsRewritten order depth key entry.key
  pub value_is : IsRewritten order depth value entry.value
  pub whole : bytes ≡ key ++ value

-- The bytes are the keys and the values of these entries, in order and in any spelling. `18 01 02 03 04` has the
-- entries of 1: 2 and of 3: 4.
pub data ArePairsOf (order : Order) (depth : ℕ) : List ℕ → List Entry → Type 0 where
  no_pairs : ArePairsOf order depth [] []
  more_pairs : {bytes others : List ℕ} {entry : Entry} {entries : List Entry} → IsPairOf order depth bytes entry
      → ArePairsOf order depth others entries → ArePairsOf order depth (bytes ++ others) (entry ∷ entries)

-- The bytes begin with the pairs of a map of this count and its end. The entries are these pairs. Without a count
-- `01 02 ff 03` has one entry and the rest `03`.
pub record TurnsPairs (order : Order) (depth : ℕ) (count : Option ℕ) (bytes rest : List ℕ) (entries : List Entry) :
    Type 0 where
  pub pairs : List ℕ
  pub tail : List ℕ
  pub are : ArePairsOf order depth pairs entries
  pub ends : EndsNest count (length entries) tail
  pub whole : bytes ≡ pairs ++ (tail ++ rest)

-- The keys and the values of the entries, joined: `01 02 03 04` for the entries of 1: 2 and of 3: 4.
abbrev pub joined_pairs : List Entry → List ℕ
joined_pairs [] = []
joined_pairs (entry ∷ entries) = entry.key ++ (entry.value ++ joined_pairs entries)

-- The key of the first entry comes before that of the second (RFC 8949, 4.2.1 and 4.2.3). Length-first the key `20`
-- comes before `18 64`.
abbrev pub IsBefore : Order → Entry → Entry → Type 0
IsBefore order entry other = Precedes order entry.key other.key

-- The keys of the entries ascend (RFC 8949, 4.2.1). The keys `01` and `03` do so, and the keys `01` and `01` do not.
abbrev pub DoAscend : Order → List Entry → Type 0
DoAscend order entries = AllAdjacentBelow (IsBefore order) entries (length entries)

-- No key comes after the next one. The keys `01`, `01` and `03` are sorted, and `03` and `01` are not.
abbrev pub AreSorted : Order → List Entry → Type 0
AreSorted order entries = AllAdjacentBelow (λ entry other. IsBefore order other entry → ⊥) entries (length entries)

-- A key is the same as the next one (RFC 8949, 5.6). So it is with the keys `01`, `03` and `03`, but not with `03`,
-- `01` and `03`.
pub record HasEqualKeys (entries : List Entry) : Type 0 where
  pub at : ℕ
  pub within : at + 1 < length entries
  pub same : (other : Entry)
      → (slice_index_or entries at other).key ≡ (slice_index_or entries (at + 1) other).key

-- ---- bytes at which a call fails

-- The bytes that can't begin the input of a call that stops for this reason. For `Malformed` they are an item to the
-- depth, and for `NoSimple` a spelling of a value. For `Duplicate` they are a spelling of a value in which no map has a
-- key twice. For `Room` there are none. `a2 01 02 01 03` are such bytes for `NoSimple`, but not for `Duplicate`.
abbrev pub IsMissed : ℕ → Stop → List ℕ → Type 0
IsMissed depth stop.Malformed bytes = IsItem Any depth bytes
IsMissed depth (stop.NoSimple left) bytes = IsSpelling bytes
IsMissed depth (stop.Duplicate left) bytes = IsFittingSpelling bytes
IsMissed depth stop.Room bytes = ⊥

-- The bytes are two such lists of bytes, joined: `01 02` for `Malformed`.
pub record ArePairMissed (depth : ℕ) (stop : Stop) (bytes : List ℕ) : Type 0 where
  pub key : List ℕ
  pub value : List ℕ
  pub key_is : IsMissed depth stop key
  pub value_is : IsMissed depth stop value
  pub whole : bytes ≡ key ++ value

-- The bytes are this many lists for which P holds, joined. If P holds for `01`, `01 01` are two.
pub data AreJoined (P : List ℕ → Type 0) : ℕ → List ℕ → Type 0 where
  none_joined : AreJoined P zero []
  more_joined : {count : ℕ} {first others : List ℕ} → P first → AreJoined P count others
      → AreJoined P (suc count) (first ++ others)

-- The bytes don't begin with the items of an array, or the pairs of a map, of this count. P holds for each item or
-- pair. If P holds for `01` alone, `01` fails with the count 2, and `01 02` without a count.
abbrev pub FailsNest : (List ℕ → Type 0) → Option ℕ → List ℕ → Type 0
FailsNest P count bytes = (done : ℕ) (items tail rest : List ℕ) → AreJoined P done items → EndsNest count done tail
    → bytes ≡ items ++ (tail ++ rest) → ⊥

-- `IsMissed` holds for no front of the bytes, and they have the fault. So it is with `1c` for `Malformed`, and with
-- `f8 18` for `NoSimple`.
abbrev pub FailsItem : ℕ → List ℕ → Stop → Type 0
FailsItem depth bytes stop = NoneInFront (IsMissed depth stop) bytes × MeetsFault depth stop bytes

-- `IsMissed` holds for no front of a title of the header and the bytes after it, and they have the fault. After `82` so
-- it is with `01` for `Malformed`.
abbrev pub FailsRest : ℕ → Header → List ℕ → Stop → Type 0
FailsRest depth header bytes stop = (title : List ℕ) → IsTitle title header
    → NoneInFront (IsMissed depth stop) (title ++ bytes) × MeetsFault depth stop (title ++ bytes)

-- The same, if the title begins this many bytes before the end: 2 for the bytes `01` after `82`.
abbrev pub FailsAfter : ℕ → Header → List ℕ → ℕ → Stop → Type 0
FailsAfter depth header bytes left stop = (title : List ℕ) → IsTitle title header → left ≡ length (title ++ bytes)
    → NoneInFront (IsMissed depth stop) (title ++ bytes) × MeetsFault depth stop (title ++ bytes)

-- The bytes don't begin with the items of an array of this count, and they have the fault. With the count 2, `01` fails.
abbrev pub FailsItems : ℕ → Option ℕ → List ℕ → Stop → Type 0
FailsItems depth count bytes stop =
    FailsNest (IsMissed depth stop) count bytes × MeetsWithin depth (h.Array count) stop bytes

-- The bytes don't begin with the pairs of a map of this count, and they have the fault. With the count 1, `01` fails.
abbrev pub FailsPairs : ℕ → Option ℕ → List ℕ → Stop → Type 0
FailsPairs depth count bytes stop =
    FailsNest (ArePairMissed depth stop) count bytes × MeetsWithin depth (h.Map count) stop bytes

-- The bytes don't begin with a pair, and they have the fault. `01` fails for `Malformed`.
abbrev pub FailsPair : ℕ → List ℕ → Stop → Type 0
FailsPair depth bytes stop = NoneInFront (ArePairMissed depth stop) bytes × MeetsInPair depth stop bytes
