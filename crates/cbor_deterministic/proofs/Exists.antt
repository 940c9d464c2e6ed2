-- Each value whose keys differ and whose numbers fit has a deterministic encoding.
use Rattle.std.proofs.Common.{◌≡◌, ℕ, zero, suc, ◌+◌, ◌-◌, ◌*◌, ◌/◌, ◌%◌, ◌<◌, ◌≤◌, ◌^◌, ◌⊎◌, inl, inr, List, [], ◌++◌}
use Rattle.std.proofs.Common.{length}
use Rattle.std.proofs.Common.{Some, refl, sym, ◌∙◌, ap, subst, arith, length-append}
use Rattle.std.proofs.lemmas.Nat.{pow_pos, pow-add}
use Rattle.std.proofs.lemmas.Grind.{pow_more}
use Rattle.ciborium_ll_grammar.specs.declared.hdr.Header.{Header}
use Rattle.ciborium_ll_grammar.specs.declared.hdr.Header.TheVariants as h
use Rattle.ciborium_ll_grammar.specs.declared.hdr.Float.{Float as AnyFloat}
use Rattle.ciborium_ll_grammar.specs.declared.hdr.Float.TheVariants as fl
use Rattle.ciborium_ll_grammar.specs.Title.{shortest_title, IsInRange, IsFloatInRange, IsSmallSimple}
use Rattle.cbor_deterministic.specs.declared.Order.{Order}
use Rattle.cbor_deterministic.specs.Preferred.{IsPreferredTitle, IsIndefinite, IsWide, IsWideFloat}
use Rattle.cbor_deterministic.specs.Floats.{Parts, half, single, double, parts, IsWidened, zero_float, normal, special}
use Rattle.cbor_deterministic.specs.Floats.{subnormal}
use Rattle.cbor_deterministic.specs.Floats.{HasNarrower, IsFloatOf, double_of, single_of, half_of}
use Rattle.cbor_deterministic.specs.Values.{Value, Values, Pairs, Unsigned, Negative, Bytes, Text, Array, Map, Tagged}
use Rattle.cbor_deterministic.specs.Values.{Simple, Float}
use Rattle.cbor_deterministic.specs.Values.{End, Item, None, Pair, item_count, pair_count, Same, SameAll, EachIn, IsIn}
use Rattle.cbor_deterministic.specs.Values.{here, there}
use Rattle.cbor_deterministic.specs.Values.{each_none, each_pair, same_unsigned, same_negative, same_bytes, same_text}
use Rattle.cbor_deterministic.specs.Values.{same_array}
use Rattle.cbor_deterministic.specs.Values.{same_map, same_tagged, same_simple, same_float, same_end, same_item}
use Rattle.cbor_deterministic.specs.Deterministic.{Completes, IsDeterministic, AreDeterministic, AreSortedPairs, item}
use Rattle.cbor_deterministic.specs.Deterministic.{no_items, more_items}
use Rattle.cbor_deterministic.specs.Deterministic.{no_pairs, more_pairs}
use Rattle.cbor_deterministic.specs.Deterministic.Completes.{positive as c_positive, negative as c_negative}
use Rattle.cbor_deterministic.specs.Deterministic.Completes.{simple as c_simple}
use Rattle.cbor_deterministic.specs.Deterministic.Completes.{float as c_float, tag as c_tag, pairs as c_pairs}
use Rattle.cbor_deterministic.specs.Deterministic.Completes.{byte_string as c_bytes, text_string as c_text}
use Rattle.cbor_deterministic.specs.Deterministic.Completes.{array as c_array}
use Rattle.cbor_deterministic.specs.Fitting.{IsNewKey, Fits, fits_unsigned, fits_negative, fits_bytes, fits_text}
use Rattle.cbor_deterministic.specs.Fitting.{fits_array}
use Rattle.cbor_deterministic.specs.Fitting.{fits_map, fits_tagged, fits_simple, fits_float, AllFit, fits_end}
use Rattle.cbor_deterministic.specs.Fitting.{fits_item}
use Rattle.cbor_deterministic.specs.Fitting.{PairsFit, fits_none, fits_pair, HasEncoding}
use Rattle.cbor_deterministic.proofs.FloatTests.{same_parts}
use Rattle.cbor_deterministic.proofs.FloatFacts.{bits32, from_parts}
use Rattle.cbor_deterministic.proofs.FloatLaws.{decide as decide16}
use Rattle.cbor_deterministic.proofs.FloatLaws64.{decide as decide32}
use Rattle.cbor_deterministic.proofs.OrderLaws.{first_key}
use Rattle.cbor_deterministic.proofs.TitleRuns.{preferred_some, shortest_preferred}
use Rattle.cbor_deterministic.proofs.Valued.{Fills, unsigned, negative, simple, float, byte_string, text_string, tag}
use Rattle.cbor_deterministic.proofs.Valued.{array, map}
use Rattle.cbor_deterministic.proofs.Valued.{Det, det, DetAll, det_end, det_item, DetPairs, det_none, det_pair}
use Rattle.cbor_deterministic.proofs.OneEncoding.{entries}
use Rattle.cbor_deterministic.proofs.OneValue.{one_value}
use Rattle.cbor_deterministic.proofs.Law.{det_encodes}
use Rattle.cbor_deterministic.proofs.Insertion.{NotIn, insert, still_in, new_in, all_in}

-- ---- depth

-- The bytes are an item to this depth and to each greater depth.
pub record DeepItem (ord : Order) (w : List ℕ) : Type 0 where
  pub depth : ℕ
  pub is : (e : ℕ) → depth ≤ e → IsDeterministic ord e w

record DeepRest (ord : Order) (x : Header) (w : List ℕ) : Type 0 where
  pub depth : ℕ
  pub is : (e : ℕ) → depth ≤ e → Completes ord e x w

record DeepAll (ord : Order) (n : ℕ) (w : List ℕ) : Type 0 where
  pub depth : ℕ
  pub are : (e : ℕ) → depth ≤ e → AreDeterministic ord e n w

record DeepPairs (ord : Order) (n : ℕ) (a w : List ℕ) : Type 0 where
  pub depth : ℕ
  pub are : (e : ℕ) → depth ≤ e → AreSortedPairs ord e n a w

module _ {ord : Order} where
  tag_at : (n d e : ℕ) (w : List ℕ) → ((e : ℕ) → d ≤ e → IsDeterministic ord e w) → suc d ≤ e
      → Completes ord e (h.Tag n) w
  tag_at n d zero w f l = absurd (omega arith)
  tag_at n d (suc e) w f l = c_tag (f e (omega arith))

  array_at : (n d e : ℕ) (w : List ℕ) → ((e : ℕ) → d ≤ e → AreDeterministic ord e n w) → suc d ≤ e
      → Completes ord e (h.Array (Some n)) w
  array_at n d zero w f l = absurd (omega arith)
  array_at n d (suc e) w f l = c_array (f e (omega arith))

  map_at : (n d e : ℕ) (w : List ℕ) → ((e : ℕ) → d ≤ e → AreSortedPairs ord e n [] w) → suc d ≤ e
      → Completes ord e (h.Map (Some n)) w
  map_at n d zero w f l = absurd (omega arith)
  map_at n d (suc e) w f l = c_pairs (f e (omega arith))

  mutual
    rest_deep : (x : Header) (v : Value) (w : List ℕ) → Fills ord x v w → DeepRest ord x w
    rest_deep x v w unsigned = record { depth = 0; is = λ e l. c_positive }
    rest_deep x v w negative = record { depth = 0; is = λ e l. c_negative }
    rest_deep x v w simple = record { depth = 0; is = λ e l. c_simple }
    rest_deep x v w (float f) = record { depth = 0; is = λ e l. c_float }
    rest_deep x v w (byte_string k) = record { depth = 0; is = λ e l. c_bytes k }
    rest_deep x v w (text_string k u) = record { depth = 0; is = λ e l. c_text k u }
    rest_deep x v w (tag {n = n} d) =
        let i = item_deep _ w d in record { depth = suc i.depth; is = λ e l. tag_at n i.depth e w i.is l }
    rest_deep x v w (array {n = n} d) =
        let i = all_deep n _ w d in record { depth = suc i.depth; is = λ e l. array_at n i.depth e w i.are l }
    rest_deep x v w (map {n = n} d) =
        let i = pairs_deep n [] _ w d in record { depth = suc i.depth; is = λ e l. map_at n i.depth e w i.are l }

    pub item_deep : (v : Value) (w : List ℕ) → Det ord v w → DeepItem ord w
    item_deep v w (det {x = x} {r = r} p f) =
        let i = rest_deep x v r f in record { depth = i.depth; is = λ e l. item p (i.is e l) }

    all_deep : (n : ℕ) (vs : Values) (w : List ℕ) → DetAll ord n vs w → DeepAll ord n w
    all_deep n vs w det_end = record { depth = 0; are = λ e l. no_items }
    all_deep n vs w (det_item {n = m} {w = x} {u = y} d ds) =
        let i = item_deep _ x d in
        let j = all_deep m _ y ds in
        record {
          depth = i.depth + j.depth;
          are = λ e l. more_items (i.is e (omega arith)) (j.are e (omega arith));
        }

    pairs_deep : (n : ℕ) (a : List ℕ) (ps : Pairs) (w : List ℕ) → DetPairs ord n a ps w → DeepPairs ord n a w
    pairs_deep n a ps w det_none = record { depth = 0; are = λ e l. no_pairs }
    pairs_deep n a ps w (det_pair {n = m} {kw = k} {vw = v} {u = u} dk o dv ds) =
        let i = item_deep _ k dk in
        let j = item_deep _ v dv in
        let q = pairs_deep m k _ u ds in
        record {
          depth = i.depth + (j.depth + q.depth);
          are = λ e l. more_pairs (i.is e (omega arith)) o (j.is e (omega arith)) (q.are e (omega arith));
        }

-- ---- titles

-- The header has a preferred title.
record HasTitle (x : Header) : Type 0 where
  pub title : List ℕ
  pub is : IsPreferredTitle title x

title_for : (x : Header) → IsInRange x → (IsSmallSimple x → ⊥) → (IsIndefinite x → ⊥) → (IsWide x → ⊥) → HasTitle x
title_for x r s d w = record { title = shortest_title x; is = shortest_preferred x r s d w }

no : ⊥ → ⊥
no x = x

-- ---- floats

pub power_fits : (p r k : ℕ) → p < k → r < 2 ^ p → 2 ^ p + r < 2 ^ k
power_fits p r k l h =
    let m : 2 ^ (p + 1) ≡ 2 ^ p * 2 = pow_more 2 p in
    let e : p + 1 + (k - (p + 1)) ≡ k = omega arith in
    let q : 2 ^ (p + 1) * 2 ^ (k - (p + 1)) ≡ 2 ^ k =
    sym (pow-add 2 (p + 1) (k - (p + 1))) ∙ ap (λ (z : ℕ). 2 ^ z) e in
    let g = grow (2 ^ (p + 1)) (2 ^ (k - (p + 1))) (pow_pos (k - (p + 1))) in
    omega (arith, m, q, g)
  where
    grow : (a b : ℕ) → 0 < b → a ≤ a * b
    grow a zero l = absurd (omega arith)
    grow a (suc b) l = omega arith

record InRange (s k m : ℕ) (a : Parts) : Type 0 where
  pub sign : a.sign ≡ s
  pub exponent : a.exponent < 2 ^ k
  pub mantissa : a.mantissa < 2 ^ m

range32 : (a b : Parts) → IsWidened single double a b → InRange b.sign 8 23 a
range32 a b zero_float = record { sign = refl; exponent = omega arith; mantissa = omega arith }
range32 a b (normal l u q) = record { sign = refl; exponent = omega arith; mantissa = q }
range32 a b (special q) = record { sign = refl; exponent = omega arith; mantissa = q }
range32 a b (subnormal {p = p} {r = r} l q) =
    record { sign = refl; exponent = omega arith; mantissa = power_fits p r 23 l q }

range16 : (a b : Parts) → IsWidened half single a b → InRange b.sign 5 10 a
range16 a b zero_float = record { sign = refl; exponent = omega arith; mantissa = omega arith }
range16 a b (normal l u q) = record { sign = refl; exponent = omega arith; mantissa = q }
range16 a b (special q) = record { sign = refl; exponent = omega arith; mantissa = q }
range16 a b (subnormal {p = p} {r = r} l q) =
    record { sign = refl; exponent = omega arith; mantissa = power_fits p r 10 l q }

record Bits16 (b : Parts) : Type 0 where
  pub n : ℕ
  pub range : n < 2 ^ 16
  pub is : parts half n ≡ b

bits16 : (b : Parts) → b.sign < 2 → b.exponent < 32 → b.mantissa < 2 ^ 10 → Bits16 b
bits16 b s e m =
    let n : ℕ = b.sign * 32768 + (b.exponent * 1024 + b.mantissa) in
    let x : n / 32768 ≡ b.sign = omega arith in
    let y : n / 1024 % 32 ≡ b.exponent = omega arith in
    let z : n % 1024 ≡ b.mantissa = omega arith in
    record {
      n = n;
      range = omega arith;
      is = same_parts (n / 32768) b.sign (n / 1024 % 32) b.exponent (n % 1024) b.mantissa x y z;
    }

-- A float with these bits that no smaller width holds.
record Narrowest (bits : ℕ) : Type 0 where
  pub float : AnyFloat
  pub range : IsFloatInRange float
  pub none : IsWideFloat float → ⊥
  pub is : IsFloatOf float bits

narrowest_single : (n bits : ℕ) → n < 2 ^ 32 → bits < 2 ^ 64
    → IsWidened single double (parts single n) (parts double bits)
    → Narrowest bits
narrowest_single n bits l r w =
    go (decide16 (n / 2147483648) (n / 8388608 % 256) (n % 8388608) (omega arith))
  where
    go : HasNarrower half single (parts single n) ⊎ (HasNarrower half single (parts single n) → ⊥) → Narrowest bits
    go (inr none) = record { float = fl.Single n; range = l; none = none; is = single_of r w }
    go (inl v) =
        let g = range16 v.a (parts single n) v.widened in
        let s = g.sign in
        let b = bits16 v.a (omega arith) g.exponent g.mantissa in
        record {
          float = fl.Half b.n;
          range = b.range;
          none = no;
          is = half_of n l (from_parts half single v.a (parts single n) (parts half b.n) b.is v.widened) r w;
        }

narrowest : (bits : ℕ) → bits < 2 ^ 64 → Narrowest bits
narrowest bits l =
    go (decide32 (bits / 9223372036854775808) (bits / 4503599627370496 % 2048) (bits % 4503599627370496) (omega arith))
  where
    go : HasNarrower single double (parts double bits) ⊎ (HasNarrower single double (parts double bits) → ⊥)
        → Narrowest bits
    go (inr none) = record { float = fl.Double bits; range = l; none = none; is = double_of l }
    go (inl v) =
        let g = range32 v.a (parts double bits) v.widened in
        let s = g.sign in
        let b = bits32 v.a (omega arith) g.exponent g.mantissa in
        narrowest_single b.n bits b.range l
        (from_parts single double v.a (parts double bits) (parts single b.n) b.is v.widened)

-- ---- values

pub record Encoded (ord : Order) (v : Value) : Type 0 where
  pub same : Value
  pub bytes : List ℕ
  pub det : Det ord same bytes
  pub to : Same v same
  pub back : Same same v

record EncodedAll (ord : Order) (vs : Values) : Type 0 where
  pub same : Values
  pub bytes : List ℕ
  pub det : DetAll ord (item_count vs) same bytes
  pub to : SameAll vs same
  pub back : SameAll same vs

record EncodedPairs (ord : Order) (ps : Pairs) : Type 0 where
  pub same : Pairs
  pub bytes : List ℕ
  pub det : DetPairs ord (pair_count ps) [] same bytes
  pub to : EachIn ps same
  pub back : EachIn same ps

clash : {l w : Value} {ps : Pairs} → IsIn l w ps → (k : Value) → IsNewKey k ps → Same k l → ⊥
clash {l = l} (here s t) k new e = new.0 l e s
clash (there i) k new e = clash i k new.1 e

module _ {ord : Order} where
  apart : {n : ℕ} {a u : List ℕ} {qs : Pairs} (q : DetPairs ord n a qs u) (ps : Pairs) → EachIn qs ps → (k m : Value)
      (kw : List ℕ) → IsNewKey k ps → Same k m → Det ord m kw → NotIn kw (entries q)
  unfolding entries
  apart det_none ps e k m kw new s d = tt
  apart (det_pair {k = l} {kw = lw} dl o dw q) ps (each_pair i is) k m kw new s d =
      (differ, apart q ps is k m kw new s d)
    where
      differ : kw ≡ lw → ⊥
      differ e =
          let o = one_value m kw (det_encodes m kw d) l lw [] [] (det_encodes l lw dl)
          (ap (λ (z : List ℕ). z ++ []) e) in
          clash i k new (subst (λ (z : Value). Same k z) o.0 s)

each_there : {qs ps : Pairs} (k v : Value) → EachIn qs ps → EachIn qs (Pair k v ps)
each_there k v each_none = each_none
each_there k v (each_pair i is) = each_pair (there i) (each_there k v is)

module _ {ord : Order} where
  det_some : (v : Value) (w : List ℕ) → Det ord v w → 0 < length w
  det_some v w (det {x = x} {t = t} {r = r} p f) = omega (arith, preferred_some t x p, length-append t r)

  put_pair : (k v : Value) (ps : Pairs) → Encoded ord k → Encoded ord v → IsNewKey k ps → EncodedPairs ord ps
      → EncodedPairs ord (Pair k v ps)
  put_pair k v ps ek ev new ep =
      let i = insert ek.same ev.same ek.bytes ev.bytes ek.det ev.det
      (first_key ord ek.bytes (det_some ek.same ek.bytes ek.det)) ep.det
      (apart ep.det ps ep.back k ek.same ek.bytes new ek.to ek.det) in
      record {
        same = i.pairs;
        bytes = i.bytes;
        det = i.are;
        to = each_pair (new_in i.put ek.to ev.to) (still_in i.put ep.to);
        back = all_in i.put (each_there k v ep.back) (here ek.back ev.back);
      }

  plain : (v : Value) (x : Header) (r : List ℕ) → HasTitle x → Fills ord x v r → Same v v → Encoded ord v
  plain v x r p f s = record { same = v; bytes = p.title ++ r; det = det p.is f; to = s; back = s }

simple_fits : (n : ℕ) → (n < 24) ⊎ ((32 ≤ n) × (n < 2 ^ 8)) → n < 2 ^ 8
simple_fits n (inl l) = omega arith
simple_fits n (inr l) = let k = l.1 in omega arith

simple_meant : (n : ℕ) → (n < 24) ⊎ ((32 ≤ n) × (n < 2 ^ 8)) → IsSmallSimple (h.Simple n) → ⊥
simple_meant n (inl l) s = omega (arith, s.0)
simple_meant n (inr l) s = omega (arith, l.0, s.1)

module _ {ord : Order} where
  mutual
    pub encoded : (v : Value) → Fits v → Encoded ord v
    encoded v (fits_unsigned {n = n} l) = plain (Unsigned n) (h.Positive n) [] (title_for (h.Positive n) l no no no)
        unsigned same_unsigned
    encoded v (fits_negative {n = n} l) = plain (Negative n) (h.Negative n) [] (title_for (h.Negative n) l no no no)
        negative same_negative
    encoded v (fits_simple {n = n} m) =
        plain (Simple n) (h.Simple n) [] (title_for (h.Simple n) (simple_fits n m) (simple_meant n m) no no) simple
        same_simple
    encoded v (fits_bytes {body = b} l) =
        plain (Bytes b) (h.Bytes (Some (length b))) b (title_for (h.Bytes (Some (length b))) l no no no)
        (byte_string refl) same_bytes
    encoded v (fits_text {body = b} l u) =
        plain (Text b) (h.Text (Some (length b))) b (title_for (h.Text (Some (length b))) l no no no)
        (text_string refl u) same_text
    encoded v (fits_float {bits = b} l) =
        let f = narrowest b l in
        plain (Float b) (h.Float f.float) [] (title_for (h.Float f.float) f.range no no f.none) (float f.is) same_float
    encoded v (fits_tagged {n = n} {value = u} l q) =
        let e = encoded u q in
        let p = title_for (h.Tag n) l no no no in
        record {
          same = Tagged n e.same;
          bytes = p.title ++ e.bytes;
          det = det p.is (tag e.det);
          to = same_tagged e.to;
          back = same_tagged e.back;
        }
    encoded v (fits_array {values = vs} l q) =
        let e = encoded_all vs q in
        let p = title_for (h.Array (Some (item_count vs))) l no no no in
        record {
          same = Array e.same;
          bytes = p.title ++ e.bytes;
          det = det p.is (array e.det);
          to = same_array e.to;
          back = same_array e.back;
        }
    encoded v (fits_map {pairs = ps} l q) =
        let e = encoded_pairs ps q in
        let p = title_for (h.Map (Some (pair_count ps))) l no no no in
        record {
          same = Map e.same;
          bytes = p.title ++ e.bytes;
          det = det p.is (map e.det);
          to = same_map e.to e.back;
          back = same_map e.back e.to;
        }

    encoded_all : (vs : Values) → AllFit vs → EncodedAll ord vs
    encoded_all vs fits_end = record { same = End; bytes = []; det = det_end; to = same_end; back = same_end }
    encoded_all vs (fits_item {value = v} {values = us} f fs) =
        let e = encoded v f in
        let es = encoded_all us fs in
        record {
          same = Item e.same es.same;
          bytes = e.bytes ++ es.bytes;
          det = det_item e.det es.det;
          to = same_item e.to es.to;
          back = same_item e.back es.back;
        }

    encoded_pairs : (ps : Pairs) → PairsFit ps → EncodedPairs ord ps
    encoded_pairs ps fits_none = record { same = None; bytes = []; det = det_none; to = each_none; back = each_none }
    encoded_pairs ps (fits_pair {key = k} {value = v} {pairs = qs} fk fv new fs) =
        put_pair k v qs (encoded k fk) (encoded v fv) new (encoded_pairs qs fs)

pub has_encoding : (ord : Order) (v : Value) → Fits v → HasEncoding ord v
has_encoding ord v f =
    let e = encoded {ord = ord} v f in
    let d = item_deep e.same e.bytes e.det in
    record {
      depth = d.depth;
      bytes = e.bytes;
      same = e.same;
      is_deterministic = d.is d.depth (omega arith);
      encodes = det_encodes e.same e.bytes e.det;
      to = e.to;
    }
