-- The deterministic encoding of a value. Each item in this encoding encodes some value.
use Rattle.std.proofs.Common.{◌≡◌, ℕ, zero, suc, List, [], ◌++◌, length, Some}
use Rattle.ciborium_ll_text.specs.Text.{IsCharacters}
use Rattle.ciborium_ll_grammar.specs.declared.hdr.Header.{Header}
use Rattle.ciborium_ll_grammar.specs.declared.hdr.Header.TheVariants as h
use Rattle.ciborium_ll_grammar.specs.declared.hdr.Float.{Float as AnyFloat}
use Rattle.cbor_deterministic.specs.declared.Order.{Order}
use Rattle.cbor_deterministic.specs.Orders.{Precedes}
use Rattle.cbor_deterministic.specs.Preferred.{IsPreferredTitle}
use Rattle.cbor_deterministic.specs.Floats.{IsFloatOf}
use Rattle.cbor_deterministic.specs.Values.{Value, Values, Pairs, Unsigned, Negative, Bytes, Text, Array, Map, Tagged}
use Rattle.cbor_deterministic.specs.Values.{Simple, Float}
use Rattle.cbor_deterministic.specs.Values.{End, Item, None, Pair}
use Rattle.cbor_deterministic.specs.Deterministic.{Completes, IsDeterministic, AreDeterministic, AreSortedPairs}
use Rattle.cbor_deterministic.specs.Deterministic.Completes.{positive as c_positive, negative as c_negative}
use Rattle.cbor_deterministic.specs.Deterministic.Completes.{simple as c_simple}
use Rattle.cbor_deterministic.specs.Deterministic.Completes.{byte_string as c_byte_string, text_string as c_text_string}
use Rattle.cbor_deterministic.specs.Deterministic.Completes.{tag as c_tag, array as c_array, pairs as c_pairs}
use Rattle.cbor_deterministic.specs.Deterministic.Completes.{float as c_float}
use Rattle.cbor_deterministic.specs.Deterministic.{item, no_items, more_items, no_pairs, more_pairs}
use Rattle.cbor_deterministic.proofs.TitleRuns.{preferred_in_range}
use Rattle.cbor_deterministic.proofs.FloatFacts.{float_bits}

mutual
  -- After a title of the header the rest completes the value.
  pub data Fills (ord : Order) : Header → Value → List ℕ → Type 0 where
    unsigned : {n : ℕ} → Fills ord (h.Positive n) (Unsigned n) []
    negative : {n : ℕ} → Fills ord (h.Negative n) (Negative n) []
    simple : {n : ℕ} → Fills ord (h.Simple n) (Simple n) []
    float : {x : AnyFloat} {bits : ℕ} → IsFloatOf x bits → Fills ord (h.Float x) (Float bits) []
    byte_string : {len : ℕ} {body : List ℕ} → length body ≡ len → Fills ord (h.Bytes (Some len)) (Bytes body) body
    text_string : {len : ℕ} {body : List ℕ} → length body ≡ len → IsCharacters body
        → Fills ord (h.Text (Some len)) (Text body) body
    tag : {n : ℕ} {v : Value} {w : List ℕ} → Det ord v w → Fills ord (h.Tag n) (Tagged n v) w
    array : {n : ℕ} {vs : Values} {w : List ℕ} → DetAll ord n vs w → Fills ord (h.Array (Some n)) (Array vs) w
    map : {n : ℕ} {ps : Pairs} {w : List ℕ} → DetPairs ord n [] ps w → Fills ord (h.Map (Some n)) (Map ps) w

  -- The bytes are the deterministic encoding of the value.
  pub data Det (ord : Order) : Value → List ℕ → Type 0 where
    det : {x : Header} {v : Value} {t r : List ℕ} → IsPreferredTitle t x → Fills ord x v r → Det ord v (t ++ r)

  pub data DetAll (ord : Order) : ℕ → Values → List ℕ → Type 0 where
    det_end : DetAll ord zero End []
    det_item : {n : ℕ} {v : Value} {vs : Values} {w u : List ℕ} → Det ord v w → DetAll ord n vs u
        → DetAll ord (suc n) (Item v vs) (w ++ u)

  pub data DetPairs (ord : Order) : ℕ → List ℕ → Pairs → List ℕ → Type 0 where
    det_none : {a : List ℕ} → DetPairs ord zero a None []
    det_pair : {n : ℕ} {k v : Value} {ps : Pairs} {a kw vw u : List ℕ} → Det ord k kw → Precedes ord a kw
        → Det ord v vw → DetPairs ord n kw ps u → DetPairs ord (suc n) a (Pair k v ps) (kw ++ (vw ++ u))

-- The contents complete some value.
pub record Filled (ord : Order) (x : Header) (w : List ℕ) : Type 0 where
  pub value : Value
  pub fills : Fills ord x value w

pub record Valued (ord : Order) (w : List ℕ) : Type 0 where
  pub value : Value
  pub is : Det ord value w

pub record ValuedAll (ord : Order) (n : ℕ) (w : List ℕ) : Type 0 where
  pub values : Values
  pub are : DetAll ord n values w

pub record ValuedPairs (ord : Order) (n : ℕ) (a w : List ℕ) : Type 0 where
  pub pairs : Pairs
  pub are : DetPairs ord n a pairs w

module _ {ord : Order} where
  mutual
    filled : (d : ℕ) (x : Header) (t w : List ℕ) → IsPreferredTitle t x → Completes ord d x w → Filled ord x w
    filled d x t w i (c_positive {number = n}) = record { value = Unsigned n; fills = unsigned }
    filled d x t w i (c_negative {number = n}) = record { value = Negative n; fills = negative }
    filled d x t w i (c_simple {number = n}) = record { value = Simple n; fills = simple }
    filled d x t w i (c_float {value = y}) =
        let b = float_bits y (preferred_in_range t (h.Float y) i) in
        record { value = Float b.bits; fills = float b.is }
    filled d x t w i (c_byte_string l) = record { value = Bytes w; fills = byte_string l }
    filled d x t w i (c_text_string l k) = record { value = Text w; fills = text_string l k }
    filled d x t w i (c_tag {depth = e} {number = n} q) =
        let v = valued e w q in record { value = Tagged n v.value; fills = tag v.is }
    filled d x t w i (c_array {depth = e} {count = n} q) =
        let v = valued_all e n w q in record { value = Array v.values; fills = array v.are }
    filled d x t w i (c_pairs {depth = e} {count = n} q) =
        let v = valued_pairs e n [] w q in record { value = Map v.pairs; fills = map v.are }

    -- Each item in the deterministic encoding encodes a value.
    pub valued : (d : ℕ) (w : List ℕ) → IsDeterministic ord d w → Valued ord w
    valued d w (item {title = t} {rest = r} {header = x} q f) =
        let v = filled d x t r q f in record { value = v.value; is = det q v.fills }

    valued_all : (d n : ℕ) (w : List ℕ) → AreDeterministic ord d n w → ValuedAll ord n w
    valued_all d n w no_items = record { values = End; are = det_end }
    valued_all d n w (more_items {count = m} {first = x} {others = y} q qs) =
        let v = valued d x q in
        let vs = valued_all d m y qs in
        record { values = Item v.value vs.values; are = det_item v.is vs.are }

    valued_pairs : (d n : ℕ) (a w : List ℕ) → AreSortedPairs ord d n a w → ValuedPairs ord n a w
    valued_pairs d n a w no_pairs = record { pairs = None; are = det_none }
    valued_pairs d n a w (more_pairs {count = m} {key = x} {value = y} {others = z} q o u qs) =
        let k = valued d x q in
        let v = valued d y u in
        let ps = valued_pairs d m x z qs in
        record { pairs = Pair k.value v.value ps.pairs; are = det_pair k.is o v.is ps.are }
