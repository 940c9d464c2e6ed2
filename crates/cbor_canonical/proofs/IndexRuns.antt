-- The order in which pairs were written, by their places.
use Rattle.std.proofs.Common.{◌≡◌, ℕ, zero, suc, ◌+◌, ◌-◌, ◌≤◌, ◌<◌, List, [], ◌∷◌, ◌++◌, length, take, refl, sym, ◌∙◌}
use Rattle.std.proofs.Common.{ap, arith, length-append, slice_index_or, Bool, true, false, max, nat_lt, ◌⊎◌, inl, inr}
use Rattle.std.specs.List.{sum_by}
use Rattle.std.specs.List.Sorted.{IsPermutation}
use Rattle.std.proofs.lemmas.Bool.Decides.{nat_tests}
use Rattle.std.proofs.lemmas.List.Sorted.{Contains-permutation, sum_by-IsPermutation, IsPermutation-sym}
use Rattle.std.proofs.lemmas.List.Sums.{sum_by-cons}
use Rattle.std.proofs.lemmas.List.{get_or_default}
use Rattle.cbor_canonical.specs.declared.pairs.Span.{Span}
use Rattle.cbor_canonical.specs.Places.{HaveKeys, later_start, nowhere, span_of, spans_of, starts_before}
use Rattle.cbor_canonical.specs.Runs.{Entry, joined_pairs}

-- The offset of the pair with this index.
abbrev pub offset_of : ℕ → List Entry → ℕ → ℕ
offset_of at es i = at + length (joined_pairs (take i es))

next_at : (at : ℕ) (e : Entry) (es : List Entry) (i : ℕ)
    → offset_of at (e ∷ es) (suc i) ≡ offset_of (at + length e.key + length e.value) es i
next_at at e es i =
    omega (
      arith,
      length-append e.key (e.value ++ joined_pairs (take i es)),
      length-append e.value (joined_pairs (take i es)),
    )

-- The place of a pair begins at its offset.
pub place_at : (at : ℕ) (es : List Entry) (i : ℕ) (d : Entry) → i < length es
    → slice_index_or (spans_of at es) i nowhere ≡ span_of (offset_of at es i) (slice_index_or es i d)
place_at at [] i d l = absurd (omega arith)
place_at at (e ∷ es) zero d l = ap (λ (n : ℕ). span_of n e) (omega arith)
place_at at (e ∷ es) (suc i) d l =
    place_at (at + length e.key + length e.value) es i d (omega arith)
    ∙ ap (λ (n : ℕ). span_of n (slice_index_or es i d)) (sym (next_at at e es i))

pub places_long : (at : ℕ) (es : List Entry) → length (spans_of at es) ≡ length es
places_long at [] = refl
places_long at (e ∷ es) = ap suc (places_long (at + length e.key + length e.value) es)

-- ---- how many pairs begin before an offset

before_one : (x : ℕ) (s : Span) → s.start < x → starts_before x s ≡ 1
before_one x s l = grind (arith, nat_tests)

before_none : (x : ℕ) (s : Span) → x ≤ s.start → starts_before x s ≡ 0
before_none x s l = grind (arith, nat_tests)

before_more : (x y : ℕ) (s : Span) → x ≤ y → starts_before x s ≤ starts_before y s
before_more x y s l = grind (arith, nat_tests)

-- No more pairs begin before an offset than before a greater one.
pub more_before : (x y : ℕ) (ss : List Span) → x ≤ y → sum_by (starts_before x) ss ≤ sum_by (starts_before y) ss
more_before x y [] l = omega arith
more_before x y (s ∷ ss) l =
    omega (
      arith,
      sum_by-cons (starts_before x) s ss,
      sum_by-cons (starts_before y) s ss,
      before_more x y s l,
      more_before x y ss l,
    )

none_before : (x at : ℕ) (es : List Entry) → x ≤ at → sum_by (starts_before x) (spans_of at es) ≡ 0
none_before x at [] l = refl
none_before x at (e ∷ es) l =
    omega (
      arith,
      sum_by-cons (starts_before x) (span_of at e) (spans_of (at + length e.key + length e.value) es),
      before_none x (span_of at e) l,
      none_before x (at + length e.key + length e.value) es (omega (arith, l)),
    )

-- Between the offsets of two neighbours the pairs up to the first one begin before.
pub count_to : (x at : ℕ) (es : List Entry) (i : ℕ) → i < length es → offset_of at es i < x
    → x ≤ offset_of at es (suc i) → sum_by (starts_before x) (spans_of at es) ≡ suc i
count_to x at [] i l m n = absurd (omega arith)
count_to x at (e ∷ es) zero l m n =
    omega (
      arith,
      sum_by-cons (starts_before x) (span_of at e) (spans_of (at + length e.key + length e.value) es),
      before_one x (span_of at e) (omega (arith, m)),
      none_before x (at + length e.key + length e.value) es (omega (arith, n, next_at at e es zero)),
    )
count_to x at (e ∷ es) (suc i) l m n =
    let a : ℕ = at + length e.key + length e.value in
    omega (
      arith,
      sum_by-cons (starts_before x) (span_of at e) (spans_of a es),
      before_one x (span_of at e) (omega (arith, m, next_at at e es i)),
      count_to x a es i (omega arith) (omega (arith, m, next_at at e es i)) (omega (arith, n, next_at at e es (suc i))),
    )

-- A pair whose key is not empty ends after its offset.
offset_more : (at : ℕ) (es : List Entry) (i : ℕ) → HaveKeys es → i < length es
    → offset_of at es i < offset_of at es (suc i)
offset_more at [] i h l = absurd (omega arith)
offset_more at (e ∷ es) zero h l = omega (arith, h.0, next_at at e es zero)
offset_more at (e ∷ es) (suc i) h l =
    omega (
      arith,
      next_at at e es i,
      next_at at e es (suc i),
      offset_more (at + length e.key + length e.value) es i h.1 (omega arith),
    )

-- As many pairs begin before a pair as its index says.
pub count_at : (at : ℕ) (es : List Entry) (i : ℕ) → HaveKeys es → i < length es
    → sum_by (starts_before (offset_of at es i)) (spans_of at es) ≡ i
count_at at es zero h l = none_before (offset_of at es 0) at es (omega arith)
count_at at es (suc i) h l =
    count_to (offset_of at es (suc i)) at es i (omega (arith, l)) (offset_more at es i h (omega (arith, l))) (omega arith)

-- ---- neighbours in another order

-- Two neighbours that begin at an offset begin before the next one.
twice_there : (x : ℕ) (ts : List Span) (k : ℕ) → suc k < length ts → (slice_index_or ts k nowhere).start ≡ x
    → (slice_index_or ts (suc k) nowhere).start ≡ x
    → sum_by (starts_before x) ts + 2 ≤ sum_by (starts_before (suc x)) ts
twice_there x [] k l a b = absurd (omega arith)
twice_there x (s ∷ []) k l a b = absurd (omega arith)
twice_there x (s ∷ (t ∷ ts)) zero l a b =
    omega (
      arith,
      sum_by-cons (starts_before x) s (t ∷ ts),
      sum_by-cons (starts_before x) t ts,
      sum_by-cons (starts_before (suc x)) s (t ∷ ts),
      sum_by-cons (starts_before (suc x)) t ts,
      before_none x s (omega (arith, a)),
      before_none x t (omega (arith, b)),
      before_one (suc x) s (omega (arith, a)),
      before_one (suc x) t (omega (arith, b)),
      more_before x (suc x) ts (omega arith),
    )
twice_there x (s ∷ (t ∷ ts)) (suc k) l a b =
    omega (
      arith,
      sum_by-cons (starts_before x) s (t ∷ ts),
      sum_by-cons (starts_before (suc x)) s (t ∷ ts),
      before_more x (suc x) s (omega arith),
      twice_there x (t ∷ ts) k (omega arith) a b,
    )

-- The index at which a place of another order was written.
pub record WrittenAt (at : ℕ) (es : List Entry) (s : Span) : Type 0 where
  pub index : ℕ
  pub within : index < length es
  pub is : slice_index_or (spans_of at es) index nowhere ≡ s

pub written_at : (at : ℕ) (es : List Entry) (ts : List Span) (k : ℕ) → IsPermutation (spans_of at es) ts
    → k < length ts → WrittenAt at es (slice_index_or ts k nowhere)
written_at at es ts k p l =
    let t : Span = slice_index_or ts k nowhere in
    let c = Contains-permutation ts (spans_of at es) t (IsPermutation-sym (spans_of at es) ts p)
    (k, l, get_or_default ts k t nowhere l) in
    record {
      index = c.0;
      within = omega (arith, c.1, places_long at es);
      is = get_or_default (spans_of at es) c.0 nowhere t c.1 ∙ c.2;
    }

start_is : (at : ℕ) (es : List Entry) (s : Span) (w : WrittenAt at es s) → (d : Entry)
    → s.start ≡ offset_of at es w.index
start_is at es s w d = ap (λ (z : Span). z.start) (sym w.is ∙ place_at at es w.index d w.within)

-- Neighbours in another order were written at two indexes.
pub two_indexes : (at : ℕ) (es : List Entry) (ts : List Span) (k : ℕ) → HaveKeys es → IsPermutation (spans_of at es) ts
    → suc k < length ts → (v : WrittenAt at es (slice_index_or ts k nowhere))
    → (w : WrittenAt at es (slice_index_or ts (suc k) nowhere)) → v.index ≡ w.index → ⊥
two_indexes at es ts k h p l v w same =
    let d : Entry = record { key = []; value = [] } in
    let x : ℕ = offset_of at es v.index in
    let a : (slice_index_or ts k nowhere).start ≡ x = start_is at es _ v d in
    let b : (slice_index_or ts (suc k) nowhere).start ≡ x =
    start_is at es _ w d ∙ ap (λ (i : ℕ). offset_of at es i) (sym same) in
    omega (
      arith,
      twice_there x ts k l a b,
      sum_by-IsPermutation (starts_before x) (spans_of at es) ts p,
      sum_by-IsPermutation (starts_before (suc x)) (spans_of at es) ts p,
      count_at at es v.index h v.within,
      count_to (suc x) at es v.index v.within (omega arith) (offset_more at es v.index h v.within),
    )

-- A pair that was written before another one begins before it.
pub earlier : (at : ℕ) (es : List Entry) (i j : ℕ) → HaveKeys es → i < length es → j < length es → i < j
    → offset_of at es i ≤ offset_of at es j
earlier at es i j h l m n = go (nat_lt (offset_of at es j) (offset_of at es i)) refl
  where
    go : (less : Bool) → less ≡ nat_lt (offset_of at es j) (offset_of at es i) → offset_of at es i ≤ offset_of at es j
    go true e =
        let lt : offset_of at es j < offset_of at es i = grind (arith, nat_tests) in
        absurd (omega (
          arith,
          more_before (offset_of at es j) (offset_of at es i) (spans_of at es) (omega (arith, lt)),
          count_at at es i h l,
          count_at at es j h m,
          n,
        ))
    go false e = grind (arith, nat_tests)

-- Two indexes of neighbours in another order, the lesser one first. As many pairs begin before the later of the two as
-- its index says.
pub record TwoOf (at : ℕ) (es : List Entry) (ts : List Span) (k : ℕ) : Type 0 where
  pub early : ℕ
  pub late : ℕ
  pub apart : early < late
  pub within : late < length es
  pub one : Span
  pub other : Span
  pub early_is : slice_index_or (spans_of at es) early nowhere ≡ one
  pub late_is : slice_index_or (spans_of at es) late nowhere ≡ other
  pub either : ((one ≡ slice_index_or ts k nowhere) × (other ≡ slice_index_or ts (suc k) nowhere))
      ⊎ ((one ≡ slice_index_or ts (suc k) nowhere) × (other ≡ slice_index_or ts k nowhere))
  pub count : sum_by (starts_before (later_start (suc k) ts)) ts ≡ late

pub two_of : (at : ℕ) (es : List Entry) (ts : List Span) (k : ℕ) → HaveKeys es → IsPermutation (spans_of at es) ts
    → suc k < length ts → TwoOf at es ts k
two_of at es ts k h p l =
    let v = written_at at es ts k p (omega (arith, l)) in
    let w = written_at at es ts (suc k) p l in
    go v w (nat_lt v.index w.index) refl
  where
    d : Entry
    d = record { key = []; value = [] }

    counted : (x i : ℕ) → x ≡ offset_of at es i → i < length es → sum_by (starts_before x) ts ≡ i
    counted x i e m =
        sum_by-IsPermutation (starts_before x) (spans_of at es) ts p
        ∙ ap (λ (z : ℕ). sum_by (starts_before z) (spans_of at es)) e ∙ count_at at es i h m

    later_is : later_start (suc k) ts
        ≡ max (slice_index_or ts k nowhere).start (slice_index_or ts (suc k) nowhere).start
    later_is =
        let e : suc k - 1 ≡ k = omega arith in
        ap (λ (j : ℕ). max (slice_index_or ts j nowhere).start (slice_index_or ts (suc k) nowhere).start) e

    go : (v : WrittenAt at es (slice_index_or ts k nowhere)) (w : WrittenAt at es (slice_index_or ts (suc k) nowhere))
        (less : Bool) → less ≡ nat_lt v.index w.index → TwoOf at es ts k
    go v w true e =
        let lt : v.index < w.index = grind (arith, nat_tests) in
        let m = earlier at es v.index w.index h v.within w.within lt in
        record {
          early = v.index;
          late = w.index;
          apart = lt;
          within = w.within;
          one = slice_index_or ts k nowhere;
          other = slice_index_or ts (suc k) nowhere;
          early_is = v.is;
          late_is = w.is;
          either = inl (refl, refl);
          count = counted (later_start (suc k) ts) w.index
              (omega (arith, m, later_is, start_is at es _ v d, start_is at es _ w d)) w.within;
        }
    go v w false e =
        let apart = two_indexes at es ts k h p l v w in
        let lt : w.index < v.index = grind (arith, nat_tests, apart) in
        let m = earlier at es w.index v.index h w.within v.within lt in
        record {
          early = w.index;
          late = v.index;
          apart = lt;
          within = v.within;
          one = slice_index_or ts (suc k) nowhere;
          other = slice_index_or ts k nowhere;
          early_is = w.is;
          late_is = v.is;
          either = inr (refl, refl);
          count = counted (later_start (suc k) ts) v.index
              (omega (arith, m, later_is, start_is at es _ v d, start_is at es _ w d)) v.within;
        }
