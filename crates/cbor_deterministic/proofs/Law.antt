-- The law: values that are the same have one deterministic encoding.
use Rattle.std.proofs.Common.{◌≡◌, ℕ, suc, List, [], refl, ap, subst}
use Rattle.ciborium_ll_grammar.specs.declared.hdr.Header.{Header}
use Rattle.ciborium_ll_grammar.specs.Title.{IsSmallSimple}
use Rattle.cbor_deterministic.specs.declared.Order.{Order}
use Rattle.cbor_deterministic.specs.Values.{Value, Values, Pairs, item_count, pair_count, Same}
use Rattle.cbor_deterministic.specs.Deterministic.{IsDeterministic}
use Rattle.cbor_deterministic.specs.Spellings.{Encodes, encodes, Follows, EncodeAll, EncodePairs}
use Rattle.cbor_deterministic.specs.Spellings.{follows_positive, follows_negative, follows_simple, follows_float}
use Rattle.cbor_deterministic.specs.Spellings.{follows_bytes, follows_text, follows_tag, follows_array, follows_map}
use Rattle.cbor_deterministic.specs.Spellings.{encode_end, encode_item, encode_none, encode_pair}
use Rattle.cbor_deterministic.specs.Laws.{IsSpelling}
use Rattle.cbor_deterministic.proofs.Valued.{Fills, unsigned, negative, simple, float, byte_string, text_string, tag}
use Rattle.cbor_deterministic.proofs.Valued.{array, map}
use Rattle.cbor_deterministic.proofs.Valued.{Det, det, DetAll, det_end, det_item, DetPairs, det_none, det_pair, valued}
use Rattle.cbor_deterministic.proofs.OneValue.{one_value}
use Rattle.cbor_deterministic.proofs.OneEncoding.{one_encoding as same_encoding}

module _ {ord : Order} where
  mutual
    fills_follows : (x : Header) (v : Value) (w : List ℕ) → (IsSmallSimple x → ⊥) → Fills ord x v w → Follows x v w
    fills_follows x v w m unsigned = follows_positive
    fills_follows x v w m negative = follows_negative
    fills_follows x v w m simple = follows_simple m
    fills_follows x v w m (float f) = follows_float f
    fills_follows x v w m (byte_string l) = follows_bytes l
    fills_follows x v w m (text_string l k) = follows_text l k
    fills_follows x v w m (tag d) = follows_tag (det_encodes _ w d)
    fills_follows x v w m (array d) = let e = all_encode _ _ w d in follows_array e.0 e.1
    fills_follows x v w m (map d) = let e = pairs_encode _ _ _ w d in follows_map e.0 e.1

    -- A deterministic encoding is a spelling.
    pub det_encodes : (v : Value) (w : List ℕ) → Det ord v w → Encodes v w
    det_encodes v w (det {x = x} {r = r} p f) = encodes p.is_title (fills_follows x v r p.strict.meant f)

    all_encode : (n : ℕ) (vs : Values) (w : List ℕ) → DetAll ord n vs w → (item_count vs ≡ n) × EncodeAll vs w
    all_encode n vs w det_end = (refl, encode_end)
    all_encode n vs w (det_item {w = x} {u = y} d ds) =
        let e = det_encodes _ x d in
        let f = all_encode _ _ y ds in
        (ap suc f.0, encode_item e f.1)

    pairs_encode : (n : ℕ) (a : List ℕ) (ps : Pairs) (w : List ℕ) → DetPairs ord n a ps w
        → (pair_count ps ≡ n) × EncodePairs ps w
    pairs_encode n a ps w det_none = (refl, encode_none)
    pairs_encode n a ps w (det_pair {kw = x} {vw = y} {u = z} k o v ds) =
        let e = det_encodes _ x k in
        let f = det_encodes _ y v in
        let g = pairs_encode _ _ _ z ds in
        (ap suc g.0, encode_pair e f g.1)

-- An item that is a spelling of a value is its deterministic encoding.
pub det_of : (ord : Order) (d : ℕ) (v : Value) (w : List ℕ) → IsDeterministic ord d w → Encodes v w → Det ord v w
det_of ord d v w i e =
    let a = valued d w i in
    let o = one_value a.value w (det_encodes a.value w a.is) v w [] [] e refl in
    subst (λ (u : Value). Det ord u w) o.0 a.is

pub one_deterministic : (ord : Order) (d d' : ℕ) (v v' : Value) (w w' : List ℕ) → IsDeterministic ord d w → Encodes v w
    → IsDeterministic ord d' w' → Encodes v' w' → Same v v' → w ≡ w'
one_deterministic ord d d' v v' w w' i e i' e' s =
    same_encoding s w w' (det_of ord d v w i e) (det_of ord d' v' w' i' e')

pub some_value : (ord : Order) (d : ℕ) (w : List ℕ) → IsDeterministic ord d w → IsSpelling w
some_value ord d w i = let a = valued d w i in record { value = a.value; encodes = det_encodes a.value w a.is }
