-- An item in the deterministic encoding is rewritten to itself.
use Rattle.std.proofs.Common.{◌≡◌, ℕ, zero, suc, ◌+◌, ◌<◌, ◌≤◌, ◌^◌, ◌⊎◌, inl, inr, List, [], ◌∷◌, ◌++◌, length}
use Rattle.std.proofs.Common.{Some, refl, sym, ◌∙◌, ap, subst, arith, append_assoc, append-nil, take, drop}
use Rattle.std.proofs.Common.{slice_index_or, take-append-drop, length-append, length-drop}
use Rattle.std.proofs.lemmas.List.{length-take-le}
use Rattle.std.proofs.lemmas.List.Sorted.{IsPermutation-refl}
use Rattle.ciborium_ll_grammar.specs.declared.spelling.Spelling.TheVariants.{Any}
use Rattle.ciborium_ll_grammar.specs.declared.hdr.Header.{Header}
use Rattle.ciborium_ll_grammar.specs.declared.hdr.Header.TheVariants as h
use Rattle.ciborium_ll_grammar.specs.Items.{Completes as CompletesAny}
use Rattle.ciborium_ll_grammar.specs.Items.{positive as any_positive, negative as any_negative, simple as any_simple}
use Rattle.ciborium_ll_grammar.specs.Items.{float as any_float, byte_string as any_bytes, text_string as any_text}
use Rattle.ciborium_ll_grammar.specs.Items.{tag as any_tag, array as any_array}
use Rattle.ciborium_ll_grammar.specs.Title.{shortest_title, IsSmallSimple}
use Rattle.ciborium_ll_grammar.proofs.AloneLaws.{title_some}
use Rattle.ciborium_ll_grammar.proofs.TitleLaws.{title_in_range}
use Rattle.cbor_skip.specs.ItemFaults.{BeginsWithItem}
use Rattle.cbor_deterministic.specs.declared.Order.{Order}
use Rattle.cbor_deterministic.specs.Orders.{Precedes}
use Rattle.cbor_deterministic.specs.Preferred.{IsPreferredTitle}
use Rattle.cbor_deterministic.specs.Deterministic.{Completes, positive, negative, simple, float, byte_string}
use Rattle.cbor_deterministic.specs.Deterministic.{text_string, tag, array, pairs, IsDeterministic, item}
use Rattle.cbor_deterministic.specs.Deterministic.{AreDeterministic, no_items, more_items, AreSortedPairs}
use Rattle.cbor_deterministic.specs.Deterministic.{HasDeterministic}
use Rattle.cbor_deterministic.specs.Deterministic.{no_pairs as none_sorted, more_pairs as more_sorted}
use Rattle.cbor_deterministic.specs.Fitting.{Fits, fits_unsigned, fits_negative, fits_bytes, fits_text, fits_array}
use Rattle.cbor_deterministic.specs.Fitting.{fits_tagged, fits_simple, fits_float}
use Rattle.cbor_deterministic.specs.Spellings.{Follows, follows_positive, follows_negative, follows_simple}
use Rattle.cbor_deterministic.specs.Spellings.{follows_float, follows_bytes, follows_text, follows_tag, follows_array}
use Rattle.cbor_deterministic.specs.Values.{Value, Unsigned, Negative, Bytes, Text, Array, Tagged, Simple, Float, Same}
use Rattle.cbor_deterministic.specs.Values.{same_unsigned, same_negative, same_bytes, same_text, same_array}
use Rattle.cbor_deterministic.specs.Values.{same_tagged, same_simple, same_float}
use Rattle.cbor_deterministic.proofs.FloatFacts.{float_bits}
use Rattle.cbor_canonical.specs.Canonical.{IsRewritten, IsCanonical}
use Rattle.cbor_canonical.specs.Room.{Grows}
use Rattle.cbor_canonical.specs.Runs.{Turns, AreRewritten, none_rewritten, more_rewritten, Entry, IsPairOf, ArePairsOf}
use Rattle.cbor_canonical.specs.Runs.{no_pairs, more_pairs, TurnsPairs, EndsNest, counted, joined_pairs, DoAscend, IsBefore}
use Rattle.cbor_canonical.proofs.ItemRuns.{made, all_of, float_fits}
use Rattle.cbor_canonical.proofs.MapRuns.{map_turned}

-- A preferred title and contents in the deterministic encoding are rewritten to themselves.
same_made : {ord : Order} (d : ℕ) (x : Header) (v w : Value) (t r : List ℕ) → IsPreferredTitle t x
    → CompletesAny Any d x r → Follows x v r → Fits v → Completes ord d x r → Follows x w r → Same v w
    → IsRewritten ord d (t ++ r) (t ++ r)
same_made {ord = o} d x v w t r p c f fit k g to =
    subst (λ (z : List ℕ). IsRewritten o d (t ++ r) (z ++ r)) (sym p.strict.shortest)
    (made d x x v w t r r p.is_title c f fit (title_in_range t x p.is_title) p.strict.meant p.definite p.narrow k g to)

below_or_not : (n k : ℕ) → (n < k) ⊎ (k ≤ n)
below_or_not n zero = inr (omega arith)
below_or_not zero (suc k) = inl (omega arith)
below_or_not (suc n) (suc k) = elim (below_or_not n k) [
  | inl less ↦ inl (omega (arith, less))
  | inr more ↦ inr (omega (arith, more))
]

-- The range of a simple value that is not from 24 to 31.
simple_range : (n : ℕ) → (IsSmallSimple (h.Simple n) → ⊥) → n < 2 ^ 8 → (n < 24) ⊎ ((32 ≤ n) × (n < 2 ^ 8))
simple_range n meant range = elim (below_or_not n 24) [
  | inl less ↦ inl less
  | inr least ↦ (elim (below_or_not n 32) [
    | inl small ↦ absurd (meant (least, small))
    | inr most ↦ inr (most, range)
  ])
]

-- The pairs of a map in the deterministic encoding, as entries. Their keys come after this key.
record HasEntries (ord : Order) (d n : ℕ) (above w : List ℕ) : Type 0 where
  entries : List Entry
  are : ArePairsOf ord d w entries
  joined : joined_pairs entries ≡ w
  count : length entries ≡ n
  first : (e : Entry) (es : List Entry) → entries ≡ e ∷ es → Precedes ord above e.key
  ascend : DoAscend ord entries

no_entries : (ord : Order) (d : ℕ) (above : List ℕ) → HasEntries ord d zero above []
no_entries ord d above = record {
  entries = [];
  are = no_pairs;
  joined = refl;
  count = refl;
  first = λ e es none. absurd (grind (arith, none));
  ascend = λ k e less. absurd (omega (arith, less));
}

-- The keys ascend if the first key comes before the next one and the others ascend.
ascend_more : (ord : Order) (e : Entry) (es : List Entry)
    → ((f : Entry) (fs : List Entry) → es ≡ f ∷ fs → Precedes ord e.key f.key) → DoAscend ord es
    → DoAscend ord (e ∷ es)
ascend_more ord e [] first up k f less = absurd (omega (arith, less))
ascend_more ord e (f ∷ fs) first up zero x less = first f fs refl
ascend_more ord e (f ∷ fs) first up (suc k) x less =
    let i : suc k + 1 ≡ suc (k + 1) = omega arith in
    subst (λ (n : ℕ). IsBefore ord (slice_index_or (f ∷ fs) k x) (slice_index_or (e ∷ (f ∷ fs)) n x)) (sym i)
    (up k x (omega (arith, less)))

entry_same : (e f : Entry) (es fs : List Entry) → e ∷ es ≡ f ∷ fs → e ≡ f
entry_same e f es fs same = grind (arith, same)

more_entries : (ord : Order) (d n : ℕ) (above key value others : List ℕ) → IsRewritten ord d key key
    → Precedes ord above key → IsRewritten ord d value value → HasEntries ord d n key others
    → HasEntries ord d (suc n) above (key ++ (value ++ others))
more_entries ord d n above key value others k before v h =
    let e : Entry = record { key = key; value = value } in
    let pair : IsPairOf ord d (key ++ value) e =
    record { key = key; value = value; key_is = k; value_is = v; whole = refl } in
    record {
      entries = e ∷ h.entries;
      are = subst (λ (z : List ℕ). ArePairsOf ord d z (e ∷ h.entries)) (append_assoc key value others)
          (more_pairs pair h.are);
      joined = ap (λ (z : List ℕ). key ++ (value ++ z)) h.joined;
      count = ap suc h.count;
      first = λ f fs same. subst (λ (z : Entry). Precedes ord above z.key) (entry_same e f h.entries fs same) before;
      ascend = ascend_more ord e h.entries h.first h.ascend;
    }

module _ {ord : Order} where
  -- A map whose pairs are such entries is rewritten to itself.
  same_map_made : (d n : ℕ) (t w : List ℕ) → IsPreferredTitle t (h.Map (Some n)) → HasEntries ord d n [] w
      → IsRewritten ord (suc d) (t ++ w) (t ++ w)
  same_map_made d n t w p e =
      let short = shortest_title (h.Map (Some n)) in
      let turns : TurnsPairs ord d (Some n) w [] e.entries = record {
        pairs = w;
        tail = [];
        are = e.are;
        ends = subst (λ (m : ℕ). EndsNest (Some n) m []) (sym e.count) counted;
        whole = sym (append-nil w);
      } in
      let made = map_turned d (Some n) w [] e.entries e.entries turns (IsPermutation-refl e.entries) n [] short
      (short ++ w) (sym e.count) e.ascend (title_in_range t (h.Map (Some n)) p.is_title) refl
      (ap (λ (z : List ℕ). short ++ z) (sym e.joined)) in
      let whole : w ≡ made.front = made.whole ∙ append-nil made.front in
      let written : t ++ w ≡ made.written = ap (λ (z : List ℕ). z ++ w) p.strict.shortest ∙ made.wrote in
      subst (λ (z : List ℕ). IsRewritten ord (suc d) (t ++ z) (t ++ w)) (sym whole)
      (subst (λ (z : List ℕ). IsRewritten ord (suc d) (t ++ made.front) z) (sym written) (made.is t p.is_title))

  mutual
    titled : (d : ℕ) (t r : List ℕ) (x : Header) → IsPreferredTitle t x → Completes ord d x r
        → IsRewritten ord d (t ++ r) (t ++ r)
    titled d t r x p (positive {number = n}) =
        same_made d x (Unsigned n) (Unsigned n) t r p any_positive follows_positive
        (fits_unsigned (title_in_range t x p.is_title)) positive follows_positive same_unsigned
    titled d t r x p (negative {number = n}) =
        same_made d x (Negative n) (Negative n) t r p any_negative follows_negative
        (fits_negative (title_in_range t x p.is_title)) negative follows_negative same_negative
    titled d t r x p (simple {number = n}) =
        let s = follows_simple p.strict.meant in
        same_made d x (Simple n) (Simple n) t r p any_simple s
        (fits_simple (simple_range n p.strict.meant (title_in_range t x p.is_title))) simple s same_simple
    titled d t r x p (float {value = f}) =
        let b = float_bits f (title_in_range t x p.is_title) in
        same_made d x (Float b.bits) (Float b.bits) t r p any_float (follows_float b.is)
        (fits_float (float_fits f b.bits b.is)) float (follows_float b.is) same_float
    titled d t r x p (byte_string {len = n} long) =
        same_made d x (Bytes r) (Bytes r) t r p (any_bytes long) (follows_bytes long)
        (fits_bytes (subst (λ (m : ℕ). m < 2 ^ 64) (sym long) (title_in_range t x p.is_title)))
        (byte_string long) (follows_bytes long) same_bytes
    titled d t r x p (text_string {len = n} long text) =
        same_made d x (Text r) (Text r) t r p (any_text long text) (follows_text long text)
        (fits_text (subst (λ (m : ℕ). m < 2 ^ 64) (sym long) (title_in_range t x p.is_title)) text)
        (text_string long text) (follows_text long text) same_text
    titled d t r x p (tag {depth = e} {number = n} i) =
        let k = kept e r i in
        same_made (suc e) x (Tagged n k.value) (Tagged n k.same) t r p (any_tag k.is_item) (follows_tag k.spelled)
        (fits_tagged (title_in_range t x p.is_title) k.fits) (tag i) (follows_tag k.encodes) (same_tagged k.to)
    titled d t r x p (array {depth = e} {count = n} is) =
        let a = all_of e n r r (all_kept e n r is) in
        same_made (suc e) x (Array a.values) (Array a.same) t r p (any_array a.items) (follows_array a.count a.spelled)
        (fits_array (subst (λ (m : ℕ). m < 2 ^ 64) (sym a.count) (title_in_range t x p.is_title)) a.fits) (array is)
        (follows_array a.same_count a.encodes) (same_array a.to)
    titled d t r x p (pairs {depth = e} {count = n} is) = same_map_made e n t r p (entries_of e n [] r is)

    -- An item in the deterministic encoding is rewritten to itself.
    pub kept : (d : ℕ) (w : List ℕ) → IsDeterministic ord d w → IsRewritten ord d w w
    kept d w (item {title = t} {rest = r} {header = x} p c) = titled d t r x p c

    all_kept : (d n : ℕ) (w : List ℕ) → AreDeterministic ord d n w → AreRewritten ord d n w w
    all_kept d n w no_items = none_rewritten
    all_kept d n w (more_items {count = m} {first = f} {others = o} i is) =
        more_rewritten (kept d f i) (all_kept d m o is)

    entries_of : (d n : ℕ) (above w : List ℕ) → AreSortedPairs ord d n above w → HasEntries ord d n above w
    entries_of d n above w none_sorted = no_entries ord d above
    entries_of d n above w (more_sorted {count = m} {key = k} {value = v} {others = o} i before j is) =
        more_entries ord d m above k v o (kept d k i) before (kept d v j) (entries_of d m k o is)

-- ---- the beginning of bytes

flat_deeper : (ord : Order) (d : ℕ) (x : Header) (r : List ℕ) → Completes ord zero x r → Completes ord d x r
flat_deeper ord d x r positive = positive
flat_deeper ord d x r negative = negative
flat_deeper ord d x r float = float
flat_deeper ord d x r simple = simple
flat_deeper ord d x r (byte_string long) = byte_string long
flat_deeper ord d x r (text_string long text) = text_string long text

-- An item without levels is an item to each depth.
deeper : (ord : Order) (d : ℕ) (w : List ℕ) → IsDeterministic ord zero w → IsDeterministic ord d w
deeper ord d w (item {title = t} {rest = r} {header = x} p c) = item p (flat_deeper ord d x r c)

item_some : (ord : Order) (d : ℕ) (w : List ℕ) → IsDeterministic ord d w → 0 < length w
item_some ord d w (item {title = t} {rest = r} {header = x} p c) =
    omega (arith, length-append t r, title_some t x p.is_title)

module _ (ord : Order) (d len : ℕ) (bytes : List ℕ) where
  pub begins : HasDeterministic ord d bytes len → BeginsWithItem Any d bytes
  begins has = record {
    item = take len bytes;
    rest = drop len bytes;
    is_item = (kept d (take len bytes) has.is_item).is_item;
    is = sym (take-append-drop len bytes);
  }

  -- The encoding of an item that is in the deterministic encoding already is a copy of it.
  pub copied : (written : List ℕ) → HasDeterministic ord d bytes len → written ≡ take len bytes
      → IsCanonical ord d bytes (drop len bytes) written
  copied written has same = record {
    item = take len bytes;
    whole = sym (take-append-drop len bytes);
    is = rw same (kept d (take len bytes) has.is_item);
  }

  pub flat_turned : (old new : List ℕ) → HasDeterministic ord 0 bytes len → new ≡ old ++ take len bytes
      → Turns (IsRewritten ord d) bytes (drop len bytes) old new
  flat_turned old new has wrote = record {
    front = take len bytes;
    written = take len bytes;
    is = kept d (take len bytes) (deeper ord d (take len bytes) has.is_item);
    whole = sym (take-append-drop len bytes);
    wrote = wrote;
  }

  pub flat_grows : (at end : ℕ) → HasDeterministic ord 0 bytes len → end ≡ at + length (take len bytes)
      → Grows 1 (length bytes) (length (drop len bytes)) at end
  flat_grows at end has reach =
      let some = item_some ord 0 (take len bytes) has.is_item in
      let long = length-take-le len bytes has.enough in
      let left = length-drop len bytes in
      record { read = omega (arith, some, long, left, has.enough); wrote = omega (arith, some, long, left, reach, has.enough) }
