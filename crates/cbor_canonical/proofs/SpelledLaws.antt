-- A spelling of a value is an item.
use Rattle.std.proofs.Common.{◌≡◌, ℕ, zero, suc, ◌+◌, ◌*◌, ◌≤◌, ◌∙◌, List, [], ◌++◌, Some, arith, append-nil, subst, sym}
use Rattle.ciborium_ll_grammar.specs.declared.spelling.Spelling.TheVariants.{Any}
use Rattle.ciborium_ll_grammar.specs.declared.hdr.Header.{Header}
use Rattle.ciborium_ll_grammar.specs.declared.hdr.Header.TheVariants as h
use Rattle.ciborium_ll_grammar.specs.Items.{Completes, AreItems, IsItem, no_items, positive, negative, simple, float}
use Rattle.ciborium_ll_grammar.specs.Items.{byte_string, text_string, open_bytes, open_text, tag, array, open_array}
use Rattle.ciborium_ll_grammar.specs.Items.{pairs, open_pairs}
use Rattle.ciborium_ll_grammar.proofs.ItemJoins.{item_before}
use Rattle.ciborium_ll_grammar.proofs.ItemLaws.{one_item}
use Rattle.cbor_skip.proofs.ItemSteps.{item_of}
use Rattle.cbor_deterministic.specs.Laws.{IsSpelling}
use Rattle.cbor_deterministic.specs.Fronts.{NoneInFront}
use Rattle.cbor_deterministic.specs.Values.{Value, Values, Pairs, item_count, pair_count}
use Rattle.cbor_deterministic.specs.Spellings.{Follows, follows_positive, follows_negative, follows_simple}
use Rattle.cbor_deterministic.specs.Spellings.{follows_float, follows_bytes, follows_text, follows_tag, follows_array}
use Rattle.cbor_deterministic.specs.Spellings.{follows_map, follows_open_bytes, follows_open_text, follows_open_array}
use Rattle.cbor_deterministic.specs.Spellings.{follows_open_map, Encodes, encodes, EncodeAll, encode_end, encode_item}
use Rattle.cbor_deterministic.specs.Spellings.{EncodePairs, encode_none, encode_pair}

-- The bytes are this many items to a depth, and to each greater depth.
record ItemsFrom (n : ℕ) (w : List ℕ) : Type 0 where
  depth : ℕ
  are : (e : ℕ) → depth ≤ e → AreItems Any e n w

-- After a title of the header the bytes complete an item to a depth, and to each greater depth.
record CompletesFrom (x : Header) (r : List ℕ) : Type 0 where
  depth : ℕ
  is : (e : ℕ) → depth ≤ e → Completes Any e x r

-- A nest is a level deeper than its contents.
deeper : (x : Header) (r : List ℕ) (d : ℕ) → ((e : ℕ) → d ≤ e → Completes Any (suc e) x r) → CompletesFrom x r
deeper x r d f = record { depth = suc d; is = go }
  where
    go : (e : ℕ) → suc d ≤ e → Completes Any e x r
    go zero l = absurd (omega arith)
    go (suc e) l = f e (omega arith)

mutual
  follows_from : (x : Header) (a : Value) (r : List ℕ) → Follows x a r → CompletesFrom x r
  follows_from x a r follows_positive = record { depth = 0; is = λ e l. positive }
  follows_from x a r follows_negative = record { depth = 0; is = λ e l. negative }
  follows_from x a r (follows_simple m) = record { depth = 0; is = λ e l. simple }
  follows_from x a r (follows_float f) = record { depth = 0; is = λ e l. float }
  follows_from x a r (follows_bytes m) = record { depth = 0; is = λ e l. byte_string m }
  follows_from x a r (follows_text m k) = record { depth = 0; is = λ e l. text_string m k }
  follows_from x a r (follows_tag {n = n} q) =
      let i = value_from _ r q in
      deeper (h.Tag n) r i.depth (λ e l. tag (i.are e l))
  follows_from x a r (follows_array {count = n} c q) =
      let i = all_from _ r q in
      deeper (h.Array (Some n)) r i.depth (λ e l. array (subst (λ (m : ℕ). AreItems Any e m r) c (i.are e l)))
  follows_from x a r (follows_map {count = n} c q) =
      let i = pairs_from _ r q in
      deeper (h.Map (Some n)) r i.depth (λ e l. pairs (subst (λ (m : ℕ). AreItems Any e (2 * m) r) c (i.are e l)))
  follows_from x a r (follows_open_bytes q) = record { depth = 0; is = λ e l. open_bytes q tt }
  follows_from x a r (follows_open_text q k) = record { depth = 0; is = λ e l. open_text q tt k }
  follows_from x a r (follows_open_array {bytes = w} q) =
      let i = all_from _ w q in
      deeper _ r i.depth (λ e l. open_array (i.are e l))
  follows_from x a r (follows_open_map {pairs = ps} {bytes = w} q) =
      let i = pairs_from ps w q in
      deeper _ r i.depth (λ e l. open_pairs (pair_count ps) (i.are e l))

  value_from : (a : Value) (w : List ℕ) → Encodes a w → ItemsFrom 1 w
  value_from a w (encodes {title = t} {rest = r} {header = x} p f) =
      let c = follows_from x _ r f in
      record { depth = c.depth; are = λ e l. item_of Any e t r x p tt (c.is e l) }

  all_from : (vs : Values) (w : List ℕ) → EncodeAll vs w → ItemsFrom (item_count vs) w
  all_from vs w encode_end = record { depth = 0; are = λ e l. no_items }
  all_from vs w (encode_item {values = bs} {bytes = u} {others = o} q qs) =
      let i = value_from _ u q in
      let j = all_from bs o qs in
      record {
        depth = i.depth + j.depth;
        are = λ e l. item_before Any e (item_count bs) u o (i.are e (omega arith)) (j.are e (omega arith));
      }

  pairs_from : (ps : Pairs) (w : List ℕ) → EncodePairs ps w → ItemsFrom (2 * pair_count ps) w
  pairs_from ps w encode_none = record { depth = 0; are = λ e l. no_items }
  pairs_from ps w (encode_pair {pairs = qs} {key_bytes = k} {value_bytes = v} {others = o} p q r) =
      let i = value_from _ k p in
      let j = value_from _ v q in
      let m = pairs_from qs o r in
      let n : suc (suc (2 * pair_count qs)) ≡ 2 * suc (pair_count qs) = omega arith in
      record {
        depth = i.depth + j.depth + m.depth;
        are = λ e l. subst (λ (c : ℕ). AreItems Any e c (k ++ (v ++ o))) n
            (item_before Any e (suc (2 * pair_count qs)) k (v ++ o) (i.are e (omega arith))
            (item_before Any e (2 * pair_count qs) v o (j.are e (omega arith)) (m.are e (omega arith))));
      }

-- A spelling that begins some bytes is the item that begins them.
pub spelled_item : (d : ℕ) (f item r rest : List ℕ) → IsSpelling f → IsItem Any d item → f ++ r ≡ item ++ rest
    → f ≡ item
spelled_item d f item r rest s i z =
    let q = value_from s.value f s.encodes in
    (one_item Any Any q.depth d f item r rest (q.are q.depth (omega arith)) i z).0

-- If an item begins with nothing of a kind of spelling, no bytes that begin with the item do.
pub none_more : (P : List ℕ → Type 0) (d : ℕ) (bytes item rest : List ℕ) → ((f : List ℕ) → P f → IsSpelling f)
    → IsItem Any d item → bytes ≡ item ++ rest → NoneInFront P item → NoneInFront P bytes
none_more P d bytes item rest spelled i z none r f =
    let same = spelled_item d f.front item r rest (spelled f.front f.is) i (sym f.whole ∙ z) in
    none [] (record { front = f.front; is = f.is; whole = sym same ∙ sym (append-nil f.front) })
