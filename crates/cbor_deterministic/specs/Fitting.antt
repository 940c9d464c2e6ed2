-- The values that have a deterministic encoding: each number is in its range, each text is UTF-8, and no two keys of a
-- map are the same.
use Rattle.std.specs.Prelude.{ℕ, ◌<◌, ◌≤◌, ◌^◌, ◌⊎◌, List, length}
use Rattle.ciborium_ll_text.specs.Text.{IsCharacters}
use Rattle.cbor_deterministic.specs.declared.Order.{Order}
use Rattle.cbor_deterministic.specs.Values.{Value, Values, Pairs, Unsigned, Negative, Bytes, Text, Array, Map, Tagged}
use Rattle.cbor_deterministic.specs.Values.{Simple, Float}
use Rattle.cbor_deterministic.specs.Values.{End, Item, None, Pair, item_count, pair_count, Same}
use Rattle.cbor_deterministic.specs.Spellings.{Encodes}
use Rattle.cbor_deterministic.specs.Deterministic.{IsDeterministic}

-- No key of the pairs is the same as this key: no value is the same as both (RFC 8949, 5.6). 3 is a new key for {1: 2},
-- and 1 is not.
abbrev pub IsNewKey : Value → Pairs → Type 0
IsNewKey key None = Unit {0}
IsNewKey key (Pair other value pairs) = ((v : Value) → Same key v → Same v other → ⊥) × IsNewKey key pairs

mutual
  -- Each number of the value is in its range, and each text is UTF-8 (RFC 8949, 3.1 and 3.3). No two keys of a map are
  -- the same (5.6). A text of the byte `ff` does not fit, and neither does {1: 2, 1: 3}.
  pub data Fits : Value → Type 0 where
    fits_unsigned : {n : ℕ} → n < 2 ^ 64 → Fits (Unsigned n)
    fits_negative : {n : ℕ} → n < 2 ^ 64 → Fits (Negative n)
    fits_bytes : {body : List ℕ} → length body < 2 ^ 64 → Fits (Bytes body)
    fits_text : {body : List ℕ} → length body < 2 ^ 64 → IsCharacters body → Fits (Text body)
    fits_array : {values : Values} → item_count values < 2 ^ 64 → AllFit values → Fits (Array values)
    fits_map : {pairs : Pairs} → pair_count pairs < 2 ^ 64 → PairsFit pairs → Fits (Map pairs)
    fits_tagged : {n : ℕ} {value : Value} → n < 2 ^ 64 → Fits value → Fits (Tagged n value)
    fits_simple : {n : ℕ} → (n < 24) ⊎ ((32 ≤ n) × (n < 2 ^ 8)) → Fits (Simple n)
    fits_float : {bits : ℕ} → bits < 2 ^ 64 → Fits (Float bits)

  -- The values of an array fit. Those of [1, simple(32)] do, and those of [1, simple(24)] do not.
  pub data AllFit : Values → Type 0 where
    fits_end : AllFit End
    fits_item : {value : Value} {values : Values} → Fits value → AllFit values → AllFit (Item value values)

  -- The keys and values of a map fit, and no two keys are the same. Values may be the same, as in {1: 2, 3: 2}.
  pub data PairsFit : Pairs → Type 0 where
    fits_none : PairsFit None
    fits_pair : {key value : Value} {pairs : Pairs} → Fits key → Fits value → IsNewKey key pairs → PairsFit pairs
        → PairsFit (Pair key value pairs)

-- Some bytes are the deterministic encoding of a value that is the same as this value. {3: 4, 1: 2} has the encoding
-- `a2 01 02 03 04`.
pub record HasEncoding (order : Order) (value : Value) : Type 0 where
  pub depth : ℕ
  pub bytes : List ℕ
  pub same : Value
  pub is_deterministic : IsDeterministic order depth bytes
  pub encodes : Encodes same bytes
  pub to : Same value same
