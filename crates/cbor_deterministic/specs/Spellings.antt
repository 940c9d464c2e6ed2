-- The spellings of a value (RFC 8949, 3): titles of any size, floats of any width, indefinite forms of strings, arrays
-- and maps, and the pairs of a map in any order.
use Rattle.std.specs.Prelude.{◌≡◌, ℕ, List, [], ◌∷◌, ◌++◌, length, Some, None}
use Rattle.ciborium_ll_text.specs.Text.{IsCharacters, joined}
use Rattle.ciborium_ll_grammar.specs.declared.hdr.Header.{Header}
use Rattle.ciborium_ll_grammar.specs.declared.hdr.Header.TheVariants as h
use Rattle.ciborium_ll_grammar.specs.declared.hdr.Float.{Float}
use Rattle.ciborium_ll_grammar.specs.Title.{IsTitle, IsSmallSimple}
use Rattle.ciborium_ll_grammar.specs.Strings.{AreStrings}
use Rattle.ciborium_ll_grammar.specs.Strings.{Bytes as OfBytes, Text as OfText}
use Rattle.ciborium_ll_grammar.specs.Elements.{AreWritable}
use Rattle.cbor_deterministic.specs.Floats.{IsFloatOf}
use Rattle.cbor_deterministic.specs.Values.{Value, Values, Pairs, End, Item, None as NoPair, Pair, item_count}
use Rattle.cbor_deterministic.specs.Values.{pair_count}
use Rattle.cbor_deterministic.specs.Values.{Unsigned, Negative, Bytes, Text, Array, Map, Tagged, Simple}
use Rattle.cbor_deterministic.specs.Values.{Float as FloatValue}

mutual
  -- `Follows header value bytes`: after a title of the header the bytes complete a spelling of the value (RFC 8949, 3.1
  -- to 3.3). A string of indefinite form may have more of that form inside. A simple value from 24 to 31 has no
  -- spelling. After `9f` the bytes `01 ff` complete a spelling of [1].
  pub data Follows : Header → Value → List ℕ → Type 0 where
    follows_positive : {n : ℕ} → Follows (h.Positive n) (Unsigned n) []
    follows_negative : {n : ℕ} → Follows (h.Negative n) (Negative n) []
    follows_simple : {n : ℕ} → (IsSmallSimple (h.Simple n) → ⊥) → Follows (h.Simple n) (Simple n) []
    follows_float : {float : Float} {bits : ℕ} → IsFloatOf float bits → Follows (h.Float float) (FloatValue bits) []
    follows_bytes : {len : ℕ} {body : List ℕ} → length body ≡ len → Follows (h.Bytes (Some len)) (Bytes body) body
    follows_text : {len : ℕ} {body : List ℕ} → length body ≡ len → IsCharacters body
        → Follows (h.Text (Some len)) (Text body) body
    follows_tag : {n : ℕ} {value : Value} {bytes : List ℕ} → Encodes value bytes
        → Follows (h.Tag n) (Tagged n value) bytes
    follows_array : {count : ℕ} {values : Values} {bytes : List ℕ} → item_count values ≡ count
        → EncodeAll values bytes → Follows (h.Array (Some count)) (Array values) bytes
    follows_map : {count : ℕ} {pairs : Pairs} {bytes : List ℕ} → pair_count pairs ≡ count → EncodePairs pairs bytes
        → Follows (h.Map (Some count)) (Map pairs) bytes
    follows_open_bytes : {strings : List ℕ} {bodies : List (List ℕ)} → AreStrings OfBytes strings bodies
        → Follows (h.Bytes None) (Bytes (joined bodies)) (strings ++ 0xff ∷ [])
    follows_open_text : {strings : List ℕ} {bodies : List (List ℕ)} → AreStrings OfText strings bodies
        → AreWritable OfText bodies → Follows (h.Text None) (Text (joined bodies)) (strings ++ 0xff ∷ [])
    follows_open_array : {values : Values} {bytes : List ℕ} → EncodeAll values bytes
        → Follows (h.Array None) (Array values) (bytes ++ 0xff ∷ [])
    follows_open_map : {pairs : Pairs} {bytes : List ℕ} → EncodePairs pairs bytes
        → Follows (h.Map None) (Map pairs) (bytes ++ 0xff ∷ [])

  -- The bytes are a spelling of the value (RFC 8949, 3). `81 01` and `9f 18 01 ff` are spellings of [1].
  pub data Encodes : Value → List ℕ → Type 0 where
    encodes : {title rest : List ℕ} {header : Header} {value : Value} → IsTitle title header
        → Follows header value rest → Encodes value (title ++ rest)

  -- The bytes are spellings of the values, joined. `01 18 02` are spellings of 1 and 2.
  pub data EncodeAll : Values → List ℕ → Type 0 where
    encode_end : EncodeAll End []
    encode_item : {value : Value} {values : Values} {bytes others : List ℕ} → Encodes value bytes
        → EncodeAll values others → EncodeAll (Item value values) (bytes ++ others)

  -- The bytes are spellings of the keys and values of the pairs, joined. `01 18 02` are spellings of the pair 1: 2.
  pub data EncodePairs : Pairs → List ℕ → Type 0 where
    encode_none : EncodePairs NoPair []
    encode_pair : {key value : Value} {pairs : Pairs} {key_bytes value_bytes others : List ℕ} → Encodes key key_bytes
        → Encodes value value_bytes → EncodePairs pairs others
        → EncodePairs (Pair key value pairs) (key_bytes ++ (value_bytes ++ others))
