-- Pairs that are put in the order of their keys.
use Rattle.std.proofs.Common.{◌≡◌, ℕ, ◌+◌, ◌≤◌, List, ◌++◌, length, take, drop, sym, ◌∙◌, ap}
use Rattle.std.proofs.Common.{subst, arith, append_assoc, length-append, take-append-drop, take_at}
use Rattle.std.proofs.Common.{suc, ◌*◌, ◌-◌, ◌<◌, ◌⊎◌, inl, inr, slice_index_or}
use Rattle.std.proofs.lemmas.List.{length-take-le}
use Rattle.std.specs.List.{AllByRecursion, sum_by}
use Rattle.std.specs.List.Sorted.{IsPermutation}
use Rattle.std.proofs.lemmas.List.Sorted.{IsPermutation-map, IsPermutation-refl, length_permutation}
use Rattle.cbor_canonical.specs.Places.{spans_of}
use Rattle.cbor_deterministic.specs.declared.Order.{Order}
use Rattle.cbor_canonical.specs.declared.pairs.Span.{Span}
use Rattle.cbor_canonical.specs.declared.Stop.{Stop}
use Rattle.cbor_canonical.specs.declared.Stop.TheVariants as st
use Rattle.cbor_canonical.specs.Places.{entry_at, entries_at, IsWithin, ArePlaced, IsOrdered}
use Rattle.cbor_canonical.specs.Places.{StopsOrder, HasDisorder, MovesPairs}
use Rattle.cbor_canonical.specs.Runs.{Entry, AreSorted, DoAscend, joined_pairs}
use Rattle.cbor_canonical.proofs.PlaceRuns.{entries_there, all_within, all_moved}
use Rattle.cbor_canonical.proofs.SortRuns.{disorder_repeats, entries_long, entry_of, neither_before}
use Rattle.cbor_canonical.proofs.IndexRuns.{places_long, two_of}
use Rattle.cbor_canonical.specs.Places.{HaveKeys, key_at, later_start, nowhere, starts_before}
use Rattle.cbor_deterministic.specs.Orders.{Precedes}
use Rattle.cbor_deterministic.specs.declared.TheConstants.{MAX_DEPTH}
use Rattle.ciborium_ll_grammar.specs.declared.spelling.Spelling.TheVariants.{Any}
use Rattle.ciborium_ll_grammar.specs.Items.{AreItems}

module _ (at end : ℕ) (out : List ℕ) (ss : List Span) (es : List Entry) (l : at ≤ end)
    (m : end ≤ length out) (p : ArePlaced at end ss out es) where
  -- Pairs that are placed are found at their places.
  pub placed_there : entries_at out ss ≡ es
  placed_there =
      let whole : out ≡ take at out ++ (joined_pairs es ++ drop end out) =
      sym (take-append-drop end out) ∙ ap (λ (z : List ℕ). z ++ drop end out) p.wrote
      ∙ append_assoc (take at out) (joined_pairs es) (drop end out) in
      ap (entries_at out) p.places
      ∙ entries_there (take at out) (drop end out) out at es whole (sym (length-take-le at out (omega (arith, l, m))))

  -- Places in another order have the pairs in another order.
  pub moved_there : (ts : List Span) → IsPermutation ss ts → IsPermutation es (entries_at out ts)
  moved_there ts perm =
      subst (λ (z : List Entry). IsPermutation z (entries_at out ts)) placed_there
      (IsPermutation-map (entry_at out) ss ts perm)

  -- Pairs whose keys ascend are in order.
  pub in_order : {ord : Order} → DoAscend ord (entries_at out ss) → IsOrdered ord at end es out out
  in_order {ord = o} up = record {
    sorted = es;
    same = IsPermutation-refl es;
    up = subst (λ (z : List Entry). DoAscend o z) placed_there up;
    wrote = record { is = p.wrote; from = l; within = m };
  }

  -- The pair that a place has was written with this index.
  entry_there : (s : Span) (i : ℕ) (d : Entry) → i < length es → slice_index_or (spans_of at es) i nowhere ≡ s
      → slice_index_or es i d ≡ entry_at out s
  entry_there s i d l e =
      let long : length ss ≡ length es = ap (length {A = Span}) p.places ∙ places_long at es in
      ap (λ (z : List Entry). slice_index_or z i d) (sym placed_there)
      ∙ entry_of out ss i d nowhere (omega (arith, l, long))
      ∙ ap (entry_at out) (ap (λ (z : List Span). slice_index_or z i nowhere) p.places ∙ e)

  -- Sorted pairs whose keys do not ascend have a key twice.
  pub repeated : {ord : Order} (d left : ℕ) (bytes : List ℕ) (ts : List Span) (k : ℕ) → HaveKeys es
      → IsPermutation ss ts → AreSorted ord (entries_at out ts) → HasDisorder ord k (entries_at out ts)
      → ((front rest : List ℕ) → d ≤ MAX_DEPTH
      → AreItems Any d (2 * sum_by (starts_before (later_start k ts)) ts) front → bytes ≡ front ++ rest
      → left ≡ length rest)
      → StopsOrder d bytes es (st.Duplicate left)
  repeated {ord = o} d left bytes ts k h perm sorted down told =
      let equal = disorder_repeats o (entries_at out ts) k down sorted in
      let e : suc (k - 1) ≡ k = omega (arith, down.from) in
      let long = entries_long out ts in
      let two = two_of at es ts (k - 1) h (subst (λ (z : List Span). IsPermutation z ts) p.places perm)
      (omega (arith, down.within, down.from, long)) in
      let count : sum_by (starts_before (later_start k ts)) ts ≡ two.late =
      ap (λ (j : ℕ). sum_by (starts_before (later_start j ts)) ts) (sym e) ∙ two.count in
      let same : (x : Entry) → key_at out (slice_index_or ts (k - 1) nowhere)
      ≡ key_at out (slice_index_or ts (suc (k - 1)) nowhere) =
      λ x. ap (λ (z : Entry). z.key) (sym (entry_of out ts (k - 1) x nowhere (omega (arith, down.within, long))))
      ∙ neighbours o ts k x down sorted
      ∙ ap (λ (z : Entry). z.key) (entry_of out ts k x nowhere (omega (arith, down.within, long)))
      ∙ ap (λ (j : ℕ). key_at out (slice_index_or ts j nowhere)) (sym e) in
      record {
        sorted = entries_at out ts;
        same = moved_there ts perm;
        equal = equal;
        early = two.early;
        late = two.late;
        apart = two.apart;
        within = two.within;
        keys = λ x. ap (λ (z : Entry). z.key) (entry_there two.one two.early x (omega (arith, two.apart, two.within))
            two.early_is) ∙ either_same two.one two.other (slice_index_or ts (k - 1) nowhere)
            (slice_index_or ts (suc (k - 1)) nowhere) two.either (same x)
            ∙ sym (ap (λ (z : Entry). z.key) (entry_there two.other two.late x two.within two.late_is));
        left_is = λ front rest shallow are whole. told front rest shallow
            (subst (λ (n : ℕ). AreItems Any d (2 * n) front) (sym count) are) whole;
      }
    where
      neighbours : (o : Order) (ts : List Span) (k : ℕ) (x : Entry) → HasDisorder o k (entries_at out ts)
          → AreSorted o (entries_at out ts) → (slice_index_or (entries_at out ts) (k - 1) x).key
          ≡ (slice_index_or (entries_at out ts) k x).key
      neighbours o ts k x down sorted =
          let i : k - 1 + 1 ≡ k = omega (arith, down.from) in
          neither_before o _ _ (down.down x) (subst (λ (j : ℕ). Precedes o (slice_index_or (entries_at out ts) j x).key
          (slice_index_or (entries_at out ts) (k - 1) x).key → ⊥) i
          (sorted (k - 1) x (omega (arith, down.within, down.from))))

      either_same : (s t a b : Span) → ((s ≡ a) × (t ≡ b)) ⊎ ((s ≡ b) × (t ≡ a)) → key_at out a ≡ key_at out b
          → key_at out s ≡ key_at out t
      either_same s t a b (inl e) f = ap (key_at out) e.0 ∙ f ∙ sym (ap (key_at out) e.1)
      either_same s t a b (inr e) f = ap (key_at out) e.0 ∙ sym f ∙ sym (ap (key_at out) e.1)

  -- Sorted pairs that are written anew are in order.
  pub moved_in_order : {ord : Order} (ts : List Span) (after : ℕ) (new : List ℕ) → IsPermutation ss ts
      → DoAscend ord (entries_at out ts) → MovesPairs at end after ts out new → IsOrdered ord at after es out new
  moved_in_order ts after new perm up moves =
      let n : at + length (joined_pairs es) ≤ end =
      omega (
        arith,
        ap (length {A = ℕ}) p.wrote,
        length-append (take at out) (joined_pairs es),
        length-take-le end out m,
        length-take-le at out (omega (arith, l, m)),
      ) in
      record {
        sorted = entries_at out ts;
        same = moved_there ts perm;
        up = up;
        wrote = moves (all_moved (IsWithin at end) ss ts perm
            (subst (AllByRecursion (IsWithin at end)) (sym p.places) (all_within at at end es (omega arith) n)));
      }

-- Memory that is too small stops the call.
pub room_stops : (d : ℕ) (bytes : List ℕ) (es : List Entry) (stop : Stop) → stop ≡ st.Room
    → StopsOrder d bytes es stop
room_stops d bytes es st.Room e = tt
room_stops d bytes es st.Malformed e = cc
room_stops d bytes es (st.NoSimple left) e = cc
room_stops d bytes es (st.Duplicate left) e = cc

-- Sorted places before the others are the first ones.
pub front_sorted : (n : ℕ) (ss ts : List Span) → n ≤ length ss → IsPermutation (take n ss) ts
    → take n (ts ++ drop n ss) ≡ ts
front_sorted n ss ts l p =
    take_at ts (drop n ss) n (omega (arith, length_permutation (take n ss) ts p, length-take-le n ss l))
