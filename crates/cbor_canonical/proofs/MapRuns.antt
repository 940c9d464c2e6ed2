-- Maps: pairs in the order of their keys.
use Rattle.std.proofs.Common.{◌≡◌, ℕ, zero, suc, ◌+◌, ◌*◌, ◌<◌, ◌≤◌, ◌^◌, inl, inr, List, [], ◌∷◌, ◌++◌, length}
use Rattle.std.proofs.Common.{Option, Some, refl, sym, ◌∙◌, ap, subst, arith, append_assoc, append-nil}
use Rattle.std.proofs.Common.{slice_index_or, length-append, ◌⊎◌}
use Rattle.std.proofs.Common.{take, take-take, take_at}
use Rattle.std.specs.declared.cmp.Ordering.{Ordering}
use Rattle.std.specs.declared.cmp.Ordering.TheVariants.{Less, Equal, Greater}
use Rattle.std.specs.Ordering.{nat_cmp, MatchOrdering}
use Rattle.std.specs.Cmp.Lexicographic.{slice_cmp}
use Rattle.std.specs.List.{AllByRecursion, Contains, sum_by}
use Rattle.std.specs.List.Sorted.{IsPermutation}
use Rattle.std.proofs.lemmas.List.Sorted.{All-permutation, Contains-permutation, sum_by-IsPermutation}
use Rattle.std.proofs.lemmas.List.Sorted.{IsPermutation-sym}
use Rattle.std.proofs.lemmas.List.Sorted.{length_permutation}
use Rattle.std.proofs.lemmas.List.Sums.{sum_by-cons}
use Rattle.std.proofs.lemmas.List.Elements.{recursion_from_All, All-from_recursion}
use Rattle.std.proofs.lemmas.List.{length-take-le, get_or-take}
use Rattle.ciborium_ll_grammar.specs.declared.spelling.Spelling.TheVariants.{Any}
use Rattle.ciborium_ll_grammar.specs.declared.hdr.Header.TheVariants as h
use Rattle.ciborium_ll_grammar.specs.Title.{shortest_title, IsInRange}
use Rattle.ciborium_ll_grammar.specs.Items.{Completes as CompletesAny, AreItems, no_items as none_any}
use Rattle.ciborium_ll_grammar.specs.Items.{pairs as any_pairs, open_pairs as any_open_pairs}
use Rattle.ciborium_ll_grammar.proofs.AloneLaws.{title_some}
use Rattle.cbor_deterministic.specs.declared.Order.{Order}
use Rattle.cbor_deterministic.specs.declared.Order.TheVariants.{Bytewise}
use Rattle.cbor_deterministic.specs.Orders.{Precedes, IsBytewiseBefore}
use Rattle.cbor_deterministic.specs.Values.{Value, Pairs, Map, None as NoPair, Pair, pair_count, Same, EachIn, IsIn}
use Rattle.cbor_deterministic.specs.Values.{here}
use Rattle.cbor_deterministic.specs.Values.{there, each_none, each_pair, same_map}
use Rattle.cbor_deterministic.specs.Fitting.{Fits, fits_map, PairsFit, fits_none, fits_pair, IsNewKey}
use Rattle.cbor_deterministic.specs.Deterministic.{IsDeterministic, item, AreSortedPairs, no_pairs as none_sorted}
use Rattle.cbor_deterministic.specs.Deterministic.{more_pairs as more_sorted}
use Rattle.cbor_deterministic.specs.Deterministic.Completes.{pairs as c_pairs}
use Rattle.cbor_deterministic.specs.Spellings.{Follows, Encodes, encodes, EncodePairs, encode_none, encode_pair}
use Rattle.cbor_deterministic.specs.Spellings.{follows_map, follows_open_map}
use Rattle.cbor_deterministic.proofs.OrderLaws.{ranks_own, precedes_trans, not_itself, first_key}
use Rattle.cbor_deterministic.proofs.OneValue.{one_value}
use Rattle.cbor_deterministic.proofs.Law.{one_deterministic}
use Rattle.cbor_canonical.specs.declared.pairs.Span.{Span}
use Rattle.cbor_canonical.specs.declared.Stop.{Stop}
use Rattle.cbor_canonical.specs.Places.{WritesPairs, WritesMap, ArePlaced, IsOrdered, StopsOrder, IsRepeated, HaveKeys}
use Rattle.cbor_canonical.specs.Meeting.{MeetsAt, IsSameKey}
use Rattle.cbor_canonical.proofs.MeetRuns.{meets_here}
use Rattle.cbor_deterministic.specs.declared.TheConstants.{MAX_DEPTH}
use Rattle.ciborium_ll_grammar.specs.Items.{IsItem}
use Rattle.ciborium_ll_grammar.proofs.ItemJoins.{item_before}
use Rattle.cbor_canonical.specs.Canonical.{IsRewritten}
use Rattle.cbor_canonical.specs.Writing.{Adds, Extends, Inserts}
use Rattle.cbor_canonical.specs.Runs.{Entry}
use Rattle.cbor_canonical.specs.declared.Stop.TheVariants as st
use Rattle.cbor_canonical.specs.Runs.{Turns, IsCompleted, EndsNest, counted, at_break, ArePairsOf, no_pairs}
use Rattle.cbor_canonical.specs.Runs.{more_pairs, TurnsPairs, joined_pairs, IsBefore, DoAscend, HasEqualKeys, FailsRest}
use Rattle.cbor_canonical.specs.Runs.{IsMissed}
use Rattle.ciborium_ll_grammar.specs.Title.{IsTitle}
use Rattle.cbor_deterministic.specs.Fronts.{NoneInFront}
use Rattle.cbor_canonical.proofs.ItemRuns.{made, join, two_pieces}
use Rattle.cbor_canonical.proofs.SameLaws.{same_trans, same_sym}

-- ---- the number of entries with a key

abbrev tied_at : Ordering → ℕ
tied_at Less = 0
tied_at Equal = 1
tied_at Greater = 0

-- 1 if the entry has this key, and 0 otherwise.
abbrev tied : List ℕ → Entry → ℕ
tied key e = tied_at (slice_cmp nat_cmp key e.key)

tied_same : (key : List ℕ) (e : Entry) → key ≡ e.key → tied key e ≡ 1
tied_same key e s = go (slice_cmp nat_cmp key e.key) (ranks_own key e.key)
  where
    go : (r : Ordering) → MatchOrdering r (IsBytewiseBefore key e.key) (key ≡ e.key)
        (IsBytewiseBefore e.key key) → tied_at r ≡ 1
    go Less m = absurd (itself e.key (subst (λ (z : List ℕ). IsBytewiseBefore z e.key) s m))
      where
        itself : (xs : List ℕ) → IsBytewiseBefore xs xs → ⊥
        itself xs p = not_itself Bytewise xs p
    go Equal m = refl
    go Greater m = absurd (itself e.key (subst (λ (z : List ℕ). IsBytewiseBefore e.key z) s m))
      where
        itself : (xs : List ℕ) → IsBytewiseBefore xs xs → ⊥
        itself xs p = not_itself Bytewise xs p

tied_cases : (key : List ℕ) (e : Entry) → (tied key e ≡ 0) ⊎ ((tied key e ≡ 1) × (key ≡ e.key))
tied_cases key e = go (slice_cmp nat_cmp key e.key) (ranks_own key e.key)
  where
    go : (r : Ordering) → MatchOrdering r (IsBytewiseBefore key e.key) (key ≡ e.key)
        (IsBytewiseBefore e.key key) → (tied_at r ≡ 0) ⊎ ((tied_at r ≡ 1) × (key ≡ e.key))
    go Less m = inl refl
    go Equal m = inr (refl, m)
    go Greater m = inl refl

tied_not : (key : List ℕ) (e : Entry) → (key ≡ e.key → ⊥) → tied key e ≡ 0
tied_not key e n = go (tied_cases key e)
  where
    go : (tied key e ≡ 0) ⊎ ((tied key e ≡ 1) × (key ≡ e.key)) → tied key e ≡ 0
    go (inl z) = z
    go (inr z) = absurd (n z.1)

abbrev keys_of : List ℕ → List Entry → ℕ
keys_of key [] = 0
keys_of key (e ∷ es) = tied key e + keys_of key es

keys_sum : (key : List ℕ) (es : List Entry) → sum_by (tied key) es ≡ keys_of key es
keys_sum key [] = refl
keys_sum key (e ∷ es) = sum_by-cons (tied key) e es ∙ ap (λ (n : ℕ). tied key e + n) (keys_sum key es)

keys_kept : (key : List ℕ) (es fs : List Entry) → IsPermutation es fs → keys_of key fs ≡ keys_of key es
keys_kept key es fs p = sym (keys_sum key fs) ∙ sum_by-IsPermutation (tied key) es fs p ∙ keys_sum key es

-- ---- entries that ascend

ascend_rest : (ord : Order) (e : Entry) (es : List Entry) → DoAscend ord (e ∷ es) → DoAscend ord es
ascend_rest ord e es up k d l =
    let u = up (suc k) d (omega arith) in
    let i : suc k + 1 ≡ suc (k + 1) = omega arith in
    subst (λ (n : ℕ). IsBefore ord (slice_index_or es k d) (slice_index_or (e ∷ es) n d)) i u

ascend_first : (ord : Order) (e f : Entry) (es : List Entry) → DoAscend ord (e ∷ (f ∷ es)) → IsBefore ord e f
ascend_first ord e f es up = up 0 e (omega arith)

-- The key of the first entry comes after this key.
abbrev IsFirstAfter : Order → List ℕ → List Entry → Type 0
IsFirstAfter ord key [] = Unit {0}
IsFirstAfter ord key (e ∷ es) = Precedes ord key e.key

next_after : (ord : Order) (e : Entry) (es : List Entry) → DoAscend ord (e ∷ es) → IsFirstAfter ord e.key es
next_after ord e [] up = tt
next_after ord e (f ∷ es) up = ascend_first ord e f es up

still_after : (ord : Order) (key : List ℕ) (e : Entry) (es : List Entry) → Precedes ord key e.key
    → DoAscend ord (e ∷ es) → IsFirstAfter ord key es
still_after ord key e [] p up = tt
still_after ord key e (f ∷ es) p up =
    precedes_trans ord key e.key f.key p (ascend_first ord e f es up)

none_after : (ord : Order) (key : List ℕ) (es : List Entry) → IsFirstAfter ord key es → DoAscend ord es
    → keys_of key es ≡ 0
none_after ord key [] p up = refl
none_after ord key (e ∷ es) p up =
    let z = tied_not key e (λ s. not_itself ord e.key
    (subst (λ (w : List ℕ). Precedes ord w e.key) s p)) in
    omega (arith, z, none_after ord key es (still_after ord key e es p up) (ascend_rest ord e es up))

once_at_most : (ord : Order) (key : List ℕ) (es : List Entry) → DoAscend ord es → keys_of key es ≤ 1
once_at_most ord key [] up = omega arith
once_at_most ord key (e ∷ es) up = go (tied_cases key e) (once_at_most ord key es (ascend_rest ord e es up))
  where
    go : (tied key e ≡ 0) ⊎ ((tied key e ≡ 1) × (key ≡ e.key)) → keys_of key es ≤ 1
        → tied key e + keys_of key es ≤ 1
    go (inl z) l = omega (arith, z, l)
    go (inr z) l =
        omega (
          arith,
          z.0,
          none_after ord key es (subst (λ (w : List ℕ). IsFirstAfter ord w es) (sym z.1)
              (next_after ord e es up)) (ascend_rest ord e es up),
        )

-- ---- the contents of entries

-- The key and the value of the entry are each the encoding of some value.
record IsWritten (ord : Order) (d : ℕ) (e : Entry) : Type 0 where
  pub key : Value
  pub value : Value
  pub key_is : IsDeterministic ord d e.key
  pub value_is : IsDeterministic ord d e.value
  pub key_encodes : Encodes key e.key
  pub value_encodes : Encodes value e.value

record IsEntryOf (ord : Order) (d : ℕ) (k v : Value) (e : Entry) : Type 0 where
  pub written : IsWritten ord d e
  pub to_key : Same k written.key
  pub to_value : Same v written.value
  pub key_fits : Fits k
  pub value_fits : Fits v

-- The entries are the encodings of the pairs, in order.
data AreEntriesOf (ord : Order) (d : ℕ) : Pairs → List Entry → Type 0 where
  no_entries : AreEntriesOf ord d NoPair []
  more_entries : {k v : Value} {ps : Pairs} {e : Entry} {es : List Entry} → IsEntryOf ord d k v e
      → AreEntriesOf ord d ps es → AreEntriesOf ord d (Pair k v ps) (e ∷ es)

record ReadPairs (ord : Order) (d : ℕ) (bytes : List ℕ) (es : List Entry) : Type 0 where
  pub items : AreItems Any d (2 * length es) bytes
  pub list : Pairs
  pub spelled : EncodePairs list bytes
  pub count : pair_count list ≡ length es
  pub entries : AreEntriesOf ord d list es

read_pairs : {ord : Order} (d : ℕ) (bytes : List ℕ) (es : List Entry) → ArePairsOf ord d bytes es
    → ReadPairs ord d bytes es
read_pairs d bytes es no_pairs =
    record { items = none_any; list = NoPair; spelled = encode_none; count = refl; entries = no_entries }
read_pairs d bytes es (more_pairs {bytes = f} {others = o} {entry = x} {entries = ys} r rs) =
    let q = read_pairs d o ys rs in
    let a = r.key_is in
    let b = r.value_is in
    let assoc : r.key ++ (r.value ++ o) ≡ f ++ o =
    sym (append_assoc r.key r.value o) ∙ ap (λ (z : List ℕ). z ++ o) (sym r.whole) in
    let two : suc (suc (2 * length ys)) ≡ 2 * length (x ∷ ys) = omega arith in
    record {
      items = subst (λ (z : List ℕ). AreItems Any d (2 * length (x ∷ ys)) z) assoc
          (subst (λ (n : ℕ). AreItems Any d n (r.key ++ (r.value ++ o))) two
          (join d _ r.key (r.value ++ o) a.is_item (join d _ r.value o b.is_item q.items)));
      list = Pair a.value b.value q.list;
      spelled = subst (λ (z : List ℕ). EncodePairs (Pair a.value b.value q.list) z) assoc
          (encode_pair a.spelled b.spelled q.spelled);
      count = ap suc q.count;
      entries = more_entries (record {
        written = record {
          key = a.same;
          value = b.same;
          key_is = a.is_deterministic;
          value_is = b.is_deterministic;
          key_encodes = a.encodes;
          value_encodes = b.encodes;
        };
        to_key = a.to;
        to_value = b.to;
        key_fits = a.fits;
        value_fits = b.fits;
      }) q.entries;
    }

module _ (ord : Order) (d : ℕ) where
  all_written : (ps : Pairs) (es : List Entry) → AreEntriesOf ord d ps es → AllByRecursion (IsWritten ord d) es
  all_written ps es no_entries = tt
  all_written ps es (more_entries i is) = (i.written, all_written _ _ is)

  -- The pairs of values that the entries encode.
  abbrev pairs_of : (es : List Entry) → AllByRecursion (IsWritten ord d) es → Pairs
  pairs_of [] a = NoPair
  pairs_of (e ∷ es) a = Pair a.0.key a.0.value (pairs_of es a.1)

  pairs_count : (es : List Entry) (a : AllByRecursion (IsWritten ord d) es) → pair_count (pairs_of es a) ≡ length es
  pairs_count [] a = refl
  pairs_count (e ∷ es) a = ap suc (pairs_count es a.1)

  pairs_encoded : (es : List Entry) (a : AllByRecursion (IsWritten ord d) es)
      → EncodePairs (pairs_of es a) (joined_pairs es)
  pairs_encoded [] a = encode_none
  pairs_encoded (e ∷ es) a = encode_pair a.0.key_encodes a.0.value_encodes (pairs_encoded es a.1)

  pairs_sorted : (key : List ℕ) (es : List Entry) (a : AllByRecursion (IsWritten ord d) es) → IsFirstAfter ord key es
      → DoAscend ord es → AreSortedPairs ord d (length es) key (joined_pairs es)
  pairs_sorted key [] a p up = none_sorted
  pairs_sorted key (e ∷ es) a p up =
      more_sorted a.0.key_is p a.0.value_is
      (pairs_sorted e.key es a.1 (next_after ord e es up) (ascend_rest ord e es up))

  -- ---- the same pairs

  data IsMember (e : Entry) : List Entry → Type 0 where
    first : {es : List Entry} → IsMember e (e ∷ es)
    later : {f : Entry} {es : List Entry} → IsMember e es → IsMember e (f ∷ es)

  member_at : (e : Entry) (es : List Entry) (k : ℕ) → k < length es → slice_index_or es k e ≡ e → IsMember e es
  member_at e [] k l z = absurd (omega arith)
  member_at e (f ∷ es) zero l z = subst (λ (y : Entry). IsMember e (y ∷ es)) (sym z) first
  member_at e (f ∷ es) (suc k) l z = later (member_at e es k (omega arith) z)

  at_member : (e : Entry) (es : List Entry) → IsMember e es → Contains es e
  at_member e es first = (0, omega arith, refl)
  at_member e es (later {es = fs} m) = let c = at_member e fs m in (suc c.0, omega (arith, c.1), c.2)

  moved : (e : Entry) (es fs : List Entry) → IsPermutation es fs → IsMember e es → IsMember e fs
  moved e es fs p m =
      let c = Contains-permutation es fs e p (at_member e es m) in member_at e fs c.0 c.1 c.2

  one_key : (k l : Value) (w : List ℕ) → Encodes k w → Encodes l w → k ≡ l
  one_key k l w e i = (one_value k w e l w [] [] i refl).0

  in_written : (k v : Value) (e : Entry) (es : List Entry) (a : AllByRecursion (IsWritten ord d) es)
      → IsEntryOf ord d k v e → IsMember e es → IsIn k v (pairs_of es a)
  in_written k v e es a i (first {es = fs}) =
      here (subst (λ (l : Value). Same k l) (one_key _ _ e.key i.written.key_encodes a.0.key_encodes) i.to_key)
      (subst (λ (l : Value). Same v l) (one_key _ _ e.value i.written.value_encodes a.0.value_encodes) i.to_value)
  in_written k v e es a i (later {es = fs} m) = there (in_written k v e fs a.1 i m)

  each_written : (ps : Pairs) (es fs : List Entry) (a : AllByRecursion (IsWritten ord d) fs) → AreEntriesOf ord d ps es
      → ((e : Entry) → IsMember e es → IsMember e fs) → EachIn ps (pairs_of fs a)
  each_written ps es fs a no_entries f = each_none
  each_written ps es fs a (more_entries {e = e} i is) f =
      each_pair (in_written _ _ e fs a i (f e first)) (each_written _ _ fs a is (λ x m. f x (later m)))

  in_read : (e : Entry) (w : IsWritten ord d e) (ps : Pairs) (es : List Entry) → AreEntriesOf ord d ps es
      → IsMember e es → IsIn w.key w.value ps
  in_read e w ps es no_entries m = elim m [ ]
  in_read e w ps es (more_entries i is) first =
      here (same_sym (subst (λ (l : Value). Same _ l) (one_key _ _ e.key i.written.key_encodes w.key_encodes)
      i.to_key))
      (same_sym (subst (λ (l : Value). Same _ l) (one_key _ _ e.value i.written.value_encodes w.value_encodes)
      i.to_value))
  in_read e w ps es (more_entries i is) (later m) = there (in_read e w _ _ is m)

  each_read : (ps : Pairs) (es fs : List Entry) (a : AllByRecursion (IsWritten ord d) fs) → AreEntriesOf ord d ps es
      → ((e : Entry) → IsMember e fs → IsMember e es) → EachIn (pairs_of fs a) ps
  each_read ps es [] a i f = each_none
  each_read ps es (e ∷ fs) a i f =
      each_pair (in_read e a.0 ps es i (f e first)) (each_read ps es fs a.1 i (λ x m. f x (later m)))

  -- ---- no key twice

  new_key : (k v : Value) (e : Entry) (ps : Pairs) (es : List Entry) → IsEntryOf ord d k v e → AreEntriesOf ord d ps es
      → keys_of e.key es ≡ 0 → IsNewKey k ps
  new_key k v e ps es i no_entries z = tt
  new_key k v e ps es i (more_entries {k = l} {e = f} {es = fs} j js) z = (
    λ w s t. absurd (two w s t),
    new_key k v e _ fs i js (omega (arith, z)),
  )
    where
      two : (w : Value) → Same k w → Same w l → ⊥
      two w s t =
          let same = same_trans (same_sym i.to_key) (same_trans s (same_trans t j.to_key)) in
          let o = one_deterministic ord d d i.written.key j.written.key e.key f.key i.written.key_is
          i.written.key_encodes j.written.key_is j.written.key_encodes same in
          let one = tied_same e.key f o in
          omega (arith, z, one)

  pairs_fit : (ps : Pairs) (es : List Entry) → AreEntriesOf ord d ps es
      → ((key : List ℕ) → keys_of key es ≤ 1) → PairsFit ps
  pairs_fit ps es no_entries f = fits_none
  pairs_fit ps es (more_entries {e = e} {es = fs} i is) f =
      let one = tied_same e.key e refl in
      fits_pair i.key_fits i.value_fits
      (new_key _ _ e _ fs i is (omega (arith, one, f e.key)))
      (pairs_fit _ fs is (λ key. omega (arith, f key)))

  old_key : (k v : Value) (e : Entry) (ps : Pairs) (es : List Entry) (key : List ℕ) → key ≡ e.key
      → IsEntryOf ord d k v e → AreEntriesOf ord d ps es → IsNewKey k ps → keys_of key es ≡ 0
  old_key k v e ps es key s i no_entries n = refl
  old_key k v e ps es key s i (more_entries {k = l} {e = f} {es = fs} j js) n =
      let z = tied_not key f (λ t.
      let o : e.key ≡ f.key = sym s ∙ t in
      n.0 i.written.key i.to_key (same_sym (subst (λ (w : Value). Same l w)
      (sym (one_key _ _ f.key (subst (λ (w : List ℕ). Encodes i.written.key w) o i.written.key_encodes)
      j.written.key_encodes)) j.to_key))) in
      omega (arith, z, old_key k v e _ fs key s i js n.1)

  fit_once : (ps : Pairs) (es : List Entry) (key : List ℕ) → AreEntriesOf ord d ps es → PairsFit ps
      → keys_of key es ≤ 1
  fit_once ps es key no_entries f = omega arith
  fit_once ps es key (more_entries {k = k} {v = v} {ps = qs} {e = e} {es = fs} i is) (fits_pair a b n g) =
      go (tied_cases key e) (fit_once qs fs key is g)
    where
      go : (tied key e ≡ 0) ⊎ ((tied key e ≡ 1) × (key ≡ e.key)) → keys_of key fs ≤ 1
          → tied key e + keys_of key fs ≤ 1
      go (inl z) l = omega (arith, z, l)
      go (inr z) l = omega (arith, z.0, old_key k v e qs fs key z.1 i is n)

-- Two neighbours with the same key are two entries with this key.
twice_at : (es : List Entry) (k : ℕ) → k + 1 < length es
    → ((d : Entry) → (slice_index_or es k d).key ≡ (slice_index_or es (k + 1) d).key)
    → (key : List ℕ) × (2 ≤ keys_of key es)
twice_at [] k l s = absurd (omega arith)
twice_at (e ∷ []) k l s = absurd (omega arith)
twice_at (e ∷ (f ∷ es)) zero l s =
    let same : e.key ≡ f.key = s e in
    let one = tied_same e.key e refl in
    let two = tied_same e.key f same in
    (e.key, omega (arith, one, two))
twice_at (e ∷ (f ∷ es)) (suc k) l s =
    let i : suc k + 1 ≡ suc (k + 1) = omega arith in
    let t = twice_at (f ∷ es) k (omega arith) (λ d. subst (λ (n : ℕ). (slice_index_or (f ∷ es) k d).key
    ≡ (slice_index_or (e ∷ (f ∷ es)) n d).key) i (s d)) in
    (t.0, omega (arith, t.1))

-- ---- the map

map_completes : (d n : ℕ) (o : Option ℕ) (items tail : List ℕ) → EndsNest o n tail → AreItems Any d (2 * n) items
    → CompletesAny Any (suc d) (h.Map o) (items ++ tail)
map_completes d n o items tail counted i =
    subst (λ (z : List ℕ). CompletesAny Any (suc d) (h.Map (Some n)) z) (sym (append-nil items)) (any_pairs i)
map_completes d n o items tail at_break i = any_open_pairs n i

map_follows : (n : ℕ) (o : Option ℕ) (ps : Pairs) (items tail : List ℕ) → EndsNest o n tail → pair_count ps ≡ n
    → EncodePairs ps items → Follows (h.Map o) (Map ps) (items ++ tail)
map_follows n o ps items tail counted c i =
    subst (λ (z : List ℕ). Follows (h.Map (Some n)) (Map ps) z) (sym (append-nil items)) (follows_map c i)
map_follows n o ps items tail at_break c i = follows_open_map i

written_some : (ord : Order) (d : ℕ) (w : List ℕ) → IsDeterministic ord d w → 0 < length w
written_some ord d w (item {title = t} {rest = r} {header = x} p c) =
    omega (arith, length-append t r, title_some t x p.is_title)

first_of : (ord : Order) (d : ℕ) (es : List Entry) → AllByRecursion (IsWritten ord d) es → IsFirstAfter ord [] es
first_of ord d [] a = tt
first_of ord d (e ∷ es) a = first_key ord e.key (written_some ord d e.key a.0.key_is)

module _ {ord : Order} (d : ℕ) (o : Option ℕ) (bytes rest : List ℕ) (es fs : List Entry)
    (g : TurnsPairs ord d o bytes rest es) (perm : IsPermutation es fs) where
  pub map_turned : (n : ℕ) (old mid new : List ℕ) → n ≡ length fs → DoAscend ord fs → IsInRange (h.Map (Some n))
      → mid ≡ old ++ shortest_title (h.Map (Some n)) → new ≡ mid ++ joined_pairs fs
      → Turns (IsCompleted ord (suc d) (h.Map o)) bytes rest old new
  map_turned n old mid new e up r b w =
      let q = read_pairs d g.pairs es g.are in
      let a = recursion_from_All (IsWritten ord d) fs (All-permutation (IsWritten ord d) es fs perm
      (All-from_recursion (IsWritten ord d) es (all_written ord d q.list es q.entries))) in
      let l : length es ≡ n = sym (length_permutation es fs perm) ∙ sym e in
      let once : (key : List ℕ) → keys_of key es ≤ 1 =
      λ key. omega (arith, keys_kept key es fs perm, once_at_most ord key fs up) in
      record {
        front = g.pairs ++ g.tail;
        written = shortest_title (h.Map (Some n)) ++ joined_pairs fs;
        is = λ t p.
            made (suc d) (h.Map o) (h.Map (Some n)) (Map q.list) (Map (pairs_of ord d fs a)) t (g.pairs ++ g.tail)
            (joined_pairs fs) p (map_completes d (length es) o g.pairs g.tail g.ends q.items)
            (map_follows (length es) o q.list g.pairs g.tail g.ends q.count q.spelled)
            (fits_map (subst (λ (m : ℕ). m < 2 ^ 64) (sym (q.count ∙ l)) r) (pairs_fit ord d q.list es q.entries once))
            r (λ u. u) (λ u. u) (λ u. u)
            (c_pairs (subst (λ (m : ℕ). AreSortedPairs ord d m [] (joined_pairs fs)) (sym e)
            (pairs_sorted ord d [] fs a (first_of ord d fs a) up)))
            (follows_map (pairs_count ord d fs a ∙ sym e) (pairs_encoded ord d fs a))
            (same_map (each_written ord d q.list es fs a q.entries (λ x m. moved ord d x es fs perm m))
            (each_read ord d q.list es fs a q.entries (λ x m. moved ord d x fs es (IsPermutation-sym es fs perm) m)));
        whole = g.whole ∙ sym (append_assoc g.pairs g.tail rest);
        wrote = two_pieces old mid new (shortest_title (h.Map (Some n))) (joined_pairs fs) b w;
      }

  pub map_repeats : (left : ℕ) → HasEqualKeys fs → (t : List ℕ) → IsTitle t (h.Map o)
      → NoneInFront (IsMissed (suc d) (st.Duplicate left)) (t ++ bytes)
  map_repeats left eq t p r f =
      let q = read_pairs d g.pairs es g.are in
      let own = encodes p (map_follows (length es) o q.list g.pairs g.tail g.ends q.count q.spelled) in
      let z : (t ++ (g.pairs ++ g.tail)) ++ rest ≡ f.front ++ r =
      append_assoc t (g.pairs ++ g.tail) rest ∙ ap (λ (v : List ℕ). t ++ v) (append_assoc g.pairs g.tail rest)
      ∙ ap (λ (v : List ℕ). t ++ v) (sym g.whole) ∙ f.whole in
      let same = (one_value (Map q.list) (t ++ (g.pairs ++ g.tail)) own f.is.value f.front rest r f.is.encodes z).0 in
      let two = twice_at fs eq.at eq.within eq.same in
      go q (subst Fits (sym same) f.is.fits) two.0 two.1
    where
      go : (q : ReadPairs ord d g.pairs es) → Fits (Map q.list) → (key : List ℕ) → 2 ≤ keys_of key fs → ⊥
      go q (fits_map l fit) key two =
          omega (arith, two, keys_kept key es fs perm, fit_once ord d q.list es key q.entries fit)

-- ---- maps, by their form

ends_told : (n m : ℕ) (tail : List ℕ) → EndsNest (Some n) m tail → m ≡ n
ends_told n m tail counted = refl

pub map_told : {ord : Order} (d n done : ℕ) (o : Option ℕ) (bytes rest : List ℕ) (at start end : ℕ)
    (old mid new : List ℕ) → o ≡ Some n → IsInRange (h.Map (Some n))
    → Adds (shortest_title (h.Map (Some n))) at start old mid
    → Extends (WritesMap ord d o done bytes rest) start end mid new
    → Extends (Turns (IsCompleted ord (suc d) (h.Map o)) bytes rest) at end old new
map_told d n done o bytes rest at start end old mid new e range b g =
    let m = g.is in
    let long : n ≡ length m.sorted =
    sym (ends_told n (length m.entries) m.turns.tail (rw e at m.turns.ends))
    ∙ sym (length_permutation m.entries m.sorted m.same) in
    record {
      is = map_turned d o bytes rest m.entries m.sorted m.turns m.same n (take at old) (take start mid) (take end new)
          long m.up range b.is m.wrote;
      from = omega (arith, b.from, g.from);
      within = g.within;
    }

pub map_open : {ord : Order} (d n : ℕ) (o : Option ℕ) (bytes rest : List ℕ) (at end after : ℕ)
    (old now new : List ℕ) → at ≤ length old → IsInRange (h.Map (Some n))
    → Extends (WritesMap ord d o n bytes rest) at end old now
    → Inserts (shortest_title (h.Map (Some n))) at end after now new
    → Extends (Turns (IsCompleted ord (suc d) (h.Map o)) bytes rest) at after old new
map_open d n o bytes rest at end after old now new l range g w =
    let m = g.is in
    let title : List ℕ = shortest_title (h.Map (Some n)) in
    record {
      is = map_turned d o bytes rest m.entries m.sorted m.turns m.same n (take at old) (take at old ++ title)
          (take after new) (sym m.number ∙ sym (length_permutation m.entries m.sorted m.same)) m.up range refl
          (w.moved (take at old) (joined_pairs m.sorted) m.wrote (length-take-le at old l)
          ∙ sym (append_assoc (take at old) title (joined_pairs m.sorted)));
      from = omega (arith, g.from, w.from);
      within = w.within;
    }

-- What was written before the pairs of a map stays.
front_kept : (bytes : List ℕ) (at end : ℕ) (old now : List ℕ) → at ≤ length old → Adds bytes at end old now
    → take at now ≡ take at old
front_kept bytes at end old now l w =
    sym (take-take at end now w.from) ∙ ap (take at) w.is
    ∙ take_at (take at old) bytes at (length-take-le at old l)

-- The pairs of a map stand at the places that were written down.
pub pairs_placed : {ord : Order} (d done : ℕ) (o : Option ℕ) (bytes rest : List ℕ) (at end : ℕ) (old now : List ℕ)
    (spans : List Span) → at ≤ length old → (g : WritesPairs ord d o done bytes rest at end old now spans)
    → ArePlaced at end (take done spans) now g.entries
pairs_placed d done o bytes rest at end old now spans l g = record {
  places = g.places;
  wrote = g.wrote.is ∙ ap (λ (z : List ℕ). z ++ joined_pairs g.entries)
      (sym (front_kept (joined_pairs g.entries) at end old now l g.wrote));
}

-- Pairs that were put in order are written as a map has them.
pub pairs_sorted_there : {ord : Order} (d done : ℕ) (o : Option ℕ) (bytes rest : List ℕ) (at end after : ℕ)
    (old now new : List ℕ) (spans : List Span) → at ≤ length old
    → (g : WritesPairs ord d o done bytes rest at end old now spans) → IsOrdered ord at after g.entries now new
    → Extends (WritesMap ord d o done bytes rest) at after old new
pairs_sorted_there d done o bytes rest at end after old now new spans l g q = record {
  is = record {
    entries = g.entries;
    sorted = q.sorted;
    turns = g.turns;
    same = q.same;
    up = q.up;
    number = g.number;
    wrote = q.wrote.is ∙ ap (λ (z : List ℕ). z ++ joined_pairs q.sorted)
        (front_kept (joined_pairs g.entries) at end old now l g.wrote);
  };
  from = q.wrote.from;
  within = q.wrote.within;
}

-- ---- a key that a map has twice

-- The pair of an index, with the pairs before and after it.
record PairOf (ord : Order) (d : ℕ) (bytes : List ℕ) (es : List Entry) (i : ℕ) : Type 0 where
  pub front : List ℕ
  pub key : List ℕ
  pub value : List ℕ
  pub others : List ℕ
  pub before : ArePairsOf ord d front (take i es)
  pub key_is : (x : Entry) → IsRewritten ord d key (slice_index_or es i x).key
  pub value_is : IsItem Any d value
  pub many : ℕ
  pub after : AreItems Any d (2 * many) others
  pub whole : bytes ≡ front ++ (key ++ (value ++ others))

pair_of : {ord : Order} (d : ℕ) (bytes : List ℕ) (es : List Entry) (i : ℕ) → ArePairsOf ord d bytes es
    → i < length es → PairOf ord d bytes es i
pair_of d bytes es i no_pairs l = absurd (omega arith)
pair_of d bytes es zero (more_pairs {bytes = f} {others = o} {entry = x} {entries = ys} r rs) l = record {
  front = [];
  key = r.key;
  value = r.value;
  others = o;
  before = no_pairs;
  key_is = λ x. r.key_is;
  value_is = r.value_is.is_item;
  many = length ys;
  after = (read_pairs d o ys rs).items;
  whole = ap (λ (z : List ℕ). z ++ o) r.whole ∙ append_assoc r.key r.value o;
}
pair_of d bytes es (suc i) (more_pairs {bytes = f} {others = o} {entry = x} {entries = ys} r rs) l =
    let p = pair_of d o ys i rs (omega arith) in
    record {
      front = f ++ p.front;
      key = p.key;
      value = p.value;
      others = p.others;
      before = more_pairs r p.before;
      key_is = p.key_is;
      value_is = p.value_is;
      many = p.many;
      after = p.after;
      whole = ap (λ (z : List ℕ). f ++ z) p.whole ∙ sym (append_assoc f p.front (p.key ++ (p.value ++ p.others)));
    }

-- No key of pairs that were read is empty.
pub keys_there : {ord : Order} (d : ℕ) (bytes : List ℕ) (es : List Entry) → ArePairsOf ord d bytes es → HaveKeys es
keys_there d bytes es no_pairs = tt
keys_there {ord = w} d bytes es (more_pairs {others = o} {entry = x} {entries = ys} r rs) =
    (written_some w d x.key r.key_is.is_deterministic, keys_there d o ys rs)

-- A map with a key twice has the later of the two at its place.
repeats_met : {ord : Order} (d left : ℕ) (o : Option ℕ) (bytes rest : List ℕ) (es : List Entry)
    → TurnsPairs ord d o bytes rest es → IsRepeated d bytes es left → (t : List ℕ) → IsTitle t (h.Map o)
    → suc d ≤ MAX_DEPTH → MeetsAt (IsSameKey left) (suc d) (t ++ bytes)
repeats_met d left o bytes rest es g q t p shallow =
    let nobody : Entry = record { key = []; value = [] } in
    let b = pair_of d g.pairs es q.late g.are q.within in
    let long : length (take q.late es) ≡ q.late = length-take-le q.late es (omega (arith, q.within)) in
    let a = pair_of d b.front (take q.late es) q.early b.before (omega (arith, q.apart, long)) in
    let one = a.key_is nobody in
    let two = b.key_is nobody in
    let keys : (slice_index_or (take q.late es) q.early nobody).key ≡ (slice_index_or es q.late nobody).key =
    ap (λ (z : Entry). z.key) (get_or-take q.late es q.early nobody q.apart) ∙ q.keys nobody in
    let values : one.same ≡ two.same =
    (one_value one.same _ one.encodes two.same _ [] [] two.encodes
    (ap (λ (z : List ℕ). z ++ []) keys)).0 in
    let tail : List ℕ = b.value ++ (b.others ++ (g.tail ++ rest)) in
    let all : bytes ≡ b.front ++ (b.key ++ tail) =
    g.whole ∙ ap (λ (z : List ℕ). z ++ (g.tail ++ rest)) b.whole
    ∙ append_assoc b.front (b.key ++ (b.value ++ b.others)) (g.tail ++ rest)
    ∙ ap (λ (z : List ℕ). b.front ++ z) (append_assoc b.key (b.value ++ b.others) (g.tail ++ rest)
    ∙ ap (λ (z : List ℕ). b.key ++ z) (append_assoc b.value b.others (g.tail ++ rest))) in
    let before = read_pairs d b.front (take q.late es) b.before in
    let early = read_pairs d a.front (take q.early (take q.late es)) a.before in
    let odd : suc (2 * a.many) ≡ 2 * a.many + 1 = omega arith in
    meets_here (IsSameKey left) (suc d) (t ++ bytes) (record {
      title = t;
      count = o;
      inner = d;
      deeper = refl;
      is_title = p;
      pairs = length (take q.early (take q.late es));
      front = a.front;
      before = early.items;
      key = a.key;
      is_key = one.is_item;
      more = a.many;
      between = a.value ++ a.others;
      after = subst (λ (n : ℕ). AreItems Any d n (a.value ++ a.others)) odd
          (item_before Any d (2 * a.many) a.value a.others a.value_is a.after);
      again = b.key;
      is_again = two.is_item;
      value = one.value;
      other = two.value;
      key_encodes = one.spelled;
      again_encodes = two.spelled;
      same = same_trans (subst (λ (z : Value). Same one.value z) values one.to) (same_sym two.to);
      rest = tail;
      is = ap (λ (z : List ℕ). t ++ z) (all ∙ ap (λ (z : List ℕ). z ++ (b.key ++ tail)) a.whole
          ∙ append_assoc a.front (a.key ++ (a.value ++ a.others)) (b.key ++ tail)
          ∙ ap (λ (z : List ℕ). a.front ++ z) (append_assoc a.key (a.value ++ a.others) (b.key ++ tail)));
      left_is = q.left_is b.front (b.key ++ tail) (omega (arith, shallow))
          (subst (λ (n : ℕ). AreItems Any d (2 * n) b.front) long before.items) all;
    })

-- A map whose pairs are not put in order has a key twice, or the memory is too small.
pub order_stops : {ord : Order} (d : ℕ) (o : Option ℕ) (bytes rest : List ℕ) (es : List Entry) (stop : Stop)
    → TurnsPairs ord d o bytes rest es → StopsOrder d bytes es stop → FailsRest (suc d) (h.Map o) bytes stop
order_stops d o bytes rest es (st.Duplicate left) g q =
    λ t p. (map_repeats d o bytes rest es q.sorted g q.same left q.equal t p, repeats_met d left o bytes rest es g q t p)
order_stops d o bytes rest es st.Room g q = λ t p. (λ r f. f.is, tt)
order_stops d o bytes rest es st.Malformed g q = absurd q
order_stops d o bytes rest es (st.NoSimple left) g q = absurd q
