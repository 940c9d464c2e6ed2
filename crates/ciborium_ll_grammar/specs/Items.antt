-- Whole items (RFC 7049, 2.1 to 2.4), with tags, arrays and maps nested to a limited depth: in any spelling, or in the
-- shortest alone.
use Rattle.std.specs.Prelude.{◌≡◌, ℕ, zero, suc, ◌*◌, List, [], ◌∷◌, ◌++◌, length, Some, None}
use Rattle.ciborium_ll_grammar.specs.declared.spelling.Spelling.{Spelling}
use Rattle.ciborium_ll_grammar.specs.declared.spelling.Spelling.TheVariants.{Any, Shortest}
use Rattle.ciborium_ll_grammar.specs.declared.hdr.Header.{Header}
use Rattle.ciborium_ll_grammar.specs.declared.hdr.Header.TheVariants as h
use Rattle.ciborium_ll_grammar.specs.declared.hdr.Float.{Float}
use Rattle.ciborium_ll_grammar.specs.Title.{IsTitle, IsStrictTitle}
use Rattle.ciborium_ll_grammar.specs.Strings.{Kind, Bytes, Text, AreStrings, IsWritable}
use Rattle.ciborium_ll_grammar.specs.Elements.{AreWritable}
use Rattle.ciborium_ll_grammar.specs.StrictElements.{AreFlat}

-- The title is strict, if only the shortest spelling is taken (RFC 7049, 2.3 and 3.9). `18 01` is taken only for `Any`.
abbrev pub IsTakenTitle : Spelling → List ℕ → Header → Type 0
IsTakenTitle Shortest title header = IsStrictTitle title header
IsTakenTitle Any title header = Unit {0}

-- If only the shortest spelling is taken, these strings within an open have definite lengths and strict titles (RFC
-- 7049, 2.2.2 and 3.9). `41 01` is taken, and `58 01 01` only for `Any`.
abbrev pub AreTakenStrings : Spelling → Kind → List ℕ → List (List ℕ) → Type 0
AreTakenStrings Shortest kind strings bodies = AreFlat kind strings bodies
AreTakenStrings Any kind strings bodies = Unit {0}

mutual
  -- `Completes allowed depth header rest`: after a title of the header, the rest completes an item (RFC 7049, 2.1 to
  -- 2.4). It is nothing, a body, one item, or the counted items or pairs. Or it is any number of items or pairs and a
  -- break. After `82`, the bytes `01 02` complete an item of depth 1.
  pub data Completes (allowed : Spelling) : ℕ → Header → List ℕ → Type 0 where
    positive : {depth number : ℕ} → Completes allowed depth (h.Positive number) []
    negative : {depth number : ℕ} → Completes allowed depth (h.Negative number) []
    float : {depth : ℕ} {value : Float} → Completes allowed depth (h.Float value) []
    simple : {depth number : ℕ} → Completes allowed depth (h.Simple number) []
    byte_string : {depth len : ℕ} {body : List ℕ} → length body ≡ len
        → Completes allowed depth (h.Bytes (Some len)) body
    text_string : {depth len : ℕ} {body : List ℕ} → length body ≡ len → IsWritable Text body
        → Completes allowed depth (h.Text (Some len)) body
    open_bytes : {depth : ℕ} {strings : List ℕ} {bodies : List (List ℕ)} → AreStrings Bytes strings bodies
        → AreTakenStrings allowed Bytes strings bodies → Completes allowed depth (h.Bytes None) (strings ++ 0xff ∷ [])
    open_text : {depth : ℕ} {strings : List ℕ} {bodies : List (List ℕ)} → AreStrings Text strings bodies
        → AreTakenStrings allowed Text strings bodies → AreWritable Text bodies
        → Completes allowed depth (h.Text None) (strings ++ 0xff ∷ [])
    tag : {depth number : ℕ} {item : List ℕ} → AreItems allowed depth (suc zero) item
        → Completes allowed (suc depth) (h.Tag number) item
    array : {depth count : ℕ} {items : List ℕ} → AreItems allowed depth count items
        → Completes allowed (suc depth) (h.Array (Some count)) items
    pairs : {depth count : ℕ} {items : List ℕ} → AreItems allowed depth (2 * count) items
        → Completes allowed (suc depth) (h.Map (Some count)) items
    open_array : {depth count : ℕ} {items : List ℕ} → AreItems allowed depth count items
        → Completes allowed (suc depth) (h.Array None) (items ++ 0xff ∷ [])
    open_pairs : {depth : ℕ} {items : List ℕ} (count : ℕ) → AreItems allowed depth (2 * count) items
        → Completes allowed (suc depth) (h.Map None) (items ++ 0xff ∷ [])

  -- `AreItems allowed depth count bytes`: the bytes are `count` items, joined (RFC 7049, 2.1). `05 82 01 02` are two
  -- items of depth 1.
  pub data AreItems (allowed : Spelling) : ℕ → ℕ → List ℕ → Type 0 where
    no_items : {depth : ℕ} → AreItems allowed depth zero []
    more_items : {depth count : ℕ} {title rest others : List ℕ} {header : Header} → IsTitle title header
        → IsTakenTitle allowed title header → Completes allowed depth header rest
        → AreItems allowed depth count others → AreItems allowed depth (suc count) (title ++ (rest ++ others))

-- The bytes are one item, with tags, arrays and maps nested at most `depth` deep (RFC 7049, 2.1 to 2.4). If `allowed`
-- is `Shortest`, the item is in its shortest spelling (3.9). Strings take no depth. `82 01 02` needs a depth of 1, and
-- `81 82 01 02` of 2.
abbrev pub IsItem : Spelling → ℕ → List ℕ → Type 0
IsItem allowed depth bytes = AreItems allowed depth (suc zero) bytes
