-- Items in the deterministic encoding (RFC 8949, 4.2.1). Each title is a preferred title, and the keys of each map
-- ascend by their encodings, in one of two orders. No two keys are the same.
use Rattle.std.specs.Prelude.{◌≡◌, ℕ, zero, suc, ◌≤◌, List, [], ◌++◌, length, take, Some}
use Rattle.ciborium_ll_text.specs.Text.{IsCharacters}
use Rattle.ciborium_ll_grammar.specs.declared.hdr.Header.{Header}
use Rattle.ciborium_ll_grammar.specs.declared.hdr.Header.TheVariants as h
use Rattle.ciborium_ll_grammar.specs.declared.hdr.Float.{Float}
use Rattle.cbor_deterministic.specs.declared.Order.{Order}
use Rattle.cbor_deterministic.specs.Orders.{Precedes}
use Rattle.cbor_deterministic.specs.Preferred.{IsPreferredTitle}

mutual
  -- `Completes order depth header rest`: after a title of the header, the rest completes an item (RFC 8949, 3.1 and
  -- 4.2.1). The rest is empty, a body of the length in the header, one item after a tag, or that many items or pairs.
  -- After `82` the bytes `01 02` complete an array.
  pub data Completes (order : Order) : ℕ → Header → List ℕ → Type 0 where
    positive : {depth number : ℕ} → Completes order depth (h.Positive number) []
    negative : {depth number : ℕ} → Completes order depth (h.Negative number) []
    float : {depth : ℕ} {value : Float} → Completes order depth (h.Float value) []
    simple : {depth number : ℕ} → Completes order depth (h.Simple number) []
    byte_string : {depth len : ℕ} {body : List ℕ} → length body ≡ len → Completes order depth (h.Bytes (Some len)) body
    text_string : {depth len : ℕ} {body : List ℕ} → length body ≡ len → IsCharacters body
        → Completes order depth (h.Text (Some len)) body
    tag : {depth number : ℕ} {item : List ℕ} → IsDeterministic order depth item
        → Completes order (suc depth) (h.Tag number) item
    array : {depth count : ℕ} {items : List ℕ} → AreDeterministic order depth count items
        → Completes order (suc depth) (h.Array (Some count)) items
    pairs : {depth count : ℕ} {bytes : List ℕ} → AreSortedPairs order depth count [] bytes
        → Completes order (suc depth) (h.Map (Some count)) bytes

  -- `IsDeterministic order depth bytes`: the bytes are one item in its deterministic encoding (RFC 8949, 4.2.1, and
  -- 4.2.3 for the length-first order). Tags, arrays and maps are nested to the depth at most; strings take no depth. To
  -- a depth of 1 `a2 01 02 03 04` is one item. `18 17` is none, since `17` is a shorter title of 23.
  pub data IsDeterministic (order : Order) : ℕ → List ℕ → Type 0 where
    item : {depth : ℕ} {title rest : List ℕ} {header : Header} → IsPreferredTitle title header
        → Completes order depth header rest → IsDeterministic order depth (title ++ rest)

  -- The bytes are this many items in the encoding, joined. To a depth of 1 `01 82 02 03` are two items.
  pub data AreDeterministic (order : Order) : ℕ → ℕ → List ℕ → Type 0 where
    no_items : {depth : ℕ} → AreDeterministic order depth zero []
    more_items : {depth count : ℕ} {first others : List ℕ} → IsDeterministic order depth first
        → AreDeterministic order depth count others → AreDeterministic order depth (suc count) (first ++ others)

  -- `AreSortedPairs order depth count above bytes`: the bytes are `count` pairs of a key and a value (RFC 8949, 4.2.1).
  -- The keys ascend, and each comes after the key `above`. No key is empty, so each comes after the empty list.
  -- `01 02 03 04` are two pairs, and `03 04 01 02` are none.
  pub data AreSortedPairs (order : Order) : ℕ → ℕ → List ℕ → List ℕ → Type 0 where
    no_pairs : {depth : ℕ} {above : List ℕ} → AreSortedPairs order depth zero above []
    more_pairs : {depth count : ℕ} {above key value others : List ℕ} → IsDeterministic order depth key
        → Precedes order above key → IsDeterministic order depth value
        → AreSortedPairs order depth count key others
        → AreSortedPairs order depth (suc count) above (key ++ (value ++ others))

-- There are at least `len` bytes, and the first `len` are one item in its deterministic encoding. `01 02` begins with
-- an item of length 1.
pub record HasDeterministic (order : Order) (depth : ℕ) (bytes : List ℕ) (len : ℕ) : Type 0 where
  pub enough : len ≤ length bytes
  pub is_item : IsDeterministic order depth (take len bytes)
