-- How much memory the pairs of a map take.
use Rattle.std.proofs.Common.{◌≡◌, ℕ, ◌+◌, ◌-◌, ◌<◌, ◌≤◌, List, [], ◌∷◌, ◌++◌, length, take, drop, map, refl, sym}
use Rattle.std.proofs.Common.{◌∙◌, ap, subst, arith, append_assoc, length-append, slice_index_or, suc, take-suc, take-take}
use Rattle.std.proofs.Common.{take-append-drop, Result, Ok, Err, IfErr}
use Rattle.std.proofs.lemmas.List.{length-take-le, length-drop, get_or-take}
use Rattle.std.specs.List.{AllByRecursion, sum_by}
use Rattle.std.specs.List.Sorted.{IsPermutation}
use Rattle.std.proofs.lemmas.List.Sums.{sum_by-cons}
use Rattle.std.proofs.lemmas.List.Sorted.{length_permutation, sum_by-IsPermutation}
use Rattle.cbor_deterministic.specs.declared.Order.{Order}
use Rattle.cbor_canonical.specs.declared.Stop.{Stop}
use Rattle.cbor_canonical.specs.declared.Stop.TheVariants as st
use Rattle.cbor_canonical.specs.declared.pairs.Span.{Span}
use Rattle.cbor_canonical.specs.Places.{key_at, value_at, entry_at, entries_at, IsWithin, bounds, nowhere, ArePlaced}
use Rattle.cbor_canonical.specs.Places.{IsOrdered}
use Rattle.cbor_canonical.specs.Runs.{Entry, joined_pairs}
use Rattle.cbor_canonical.specs.Writing.{Adds}
use Rattle.cbor_canonical.proofs.PairRuns.{joined_last}
use Rattle.cbor_canonical.proofs.PlaceRuns.{all_at, all_within, all_moved, entries_last, parts_meet, same_bounds}
use Rattle.cbor_canonical.proofs.OrderRuns.{moved_there}
use Rattle.cbor_canonical.proofs.WriteRuns.{adds_reach}

-- ---- the length of pairs

-- How many bytes a pair has.
abbrev entry_len : Entry → ℕ
entry_len e = length e.key + length e.value

joined_length : (es : List Entry) → length (joined_pairs es) ≡ sum_by entry_len es
joined_length [] = refl
joined_length (e ∷ es) =
    omega (
      arith,
      length-append e.key (e.value ++ joined_pairs es),
      length-append e.value (joined_pairs es),
      joined_length es,
      sum_by-cons entry_len e es,
    )

-- Pairs in another order have as many bytes.
pub joined_moved : (es fs : List Entry) → IsPermutation es fs → length (joined_pairs fs) ≡ length (joined_pairs es)
joined_moved es fs p = joined_length fs ∙ sum_by-IsPermutation entry_len es fs p ∙ sym (joined_length es)

joined_both : (es fs : List Entry) → joined_pairs (es ++ fs) ≡ joined_pairs es ++ joined_pairs fs
joined_both [] fs = refl
joined_both (e ∷ es) fs =
    ap (λ (z : List ℕ). e.key ++ (e.value ++ z)) (joined_both es fs)
    ∙ ap (λ (z : List ℕ). e.key ++ z) (sym (append_assoc e.value (joined_pairs es) (joined_pairs fs)))
    ∙ sym (append_assoc e.key (e.value ++ joined_pairs es) (joined_pairs fs))

entries_both : (out : List ℕ) (ss ts : List Span) → entries_at out (ss ++ ts) ≡ entries_at out ss ++ entries_at out ts
entries_both out [] ts = refl
entries_both out (s ∷ ss) ts = ap (λ (z : List Entry). entry_at out s ∷ z) (entries_both out ss ts)

-- The first pairs have no more bytes than all.
pub joined_front : (out : List ℕ) (n : ℕ) (ss : List Span)
    → length (joined_pairs (entries_at out (take n ss))) ≤ length (joined_pairs (entries_at out ss))
joined_front out n ss =
    let all : joined_pairs (entries_at out ss)
    ≡ joined_pairs (entries_at out (take n ss)) ++ joined_pairs (entries_at out (drop n ss)) =
    ap (λ (z : List Span). joined_pairs (entries_at out z)) (sym (take-append-drop n ss))
    ∙ ap joined_pairs (entries_both out (take n ss) (drop n ss))
    ∙ joined_both (entries_at out (take n ss)) (entries_at out (drop n ss)) in
    omega (
      arith,
      ap (length {A = ℕ}) all,
      length-append (joined_pairs (entries_at out (take n ss))) (joined_pairs (entries_at out (drop n ss))),
    )

-- ---- pairs that are moved

-- A pair between the offsets has as many bytes as its place says.
pub entry_there : (out : List ℕ) (at end : ℕ) (s : Span) → IsWithin at end s → end ≤ length out
    → length (key_at out s ++ value_at out s) ≡ s.end - s.start
entry_there out at end s w l =
    ap (length {A = ℕ}) (parts_meet s.start s.key_end s.end out w.1 w.2)
    ∙ length-take-le (s.end - s.start) (drop s.start out) (omega (arith, l, w.1, w.2, w.3, length-drop s.start out))

-- One more pair that is moved ends before the end of all.
pub moved_fits : (old now : List ℕ) (at end place next done : ℕ) (ss sp : List Span) (s : Span)
    → map bounds sp ≡ map bounds ss → next < done → done ≤ length ss → at ≤ end → end ≤ length old
    → place ≤ length now → s ≡ slice_index_or sp next nowhere
    → (AllByRecursion (IsWithin at end) (take done ss)
    → take place now ≡ take at old ++ joined_pairs (entries_at old (take next ss)))
    → AllByRecursion (IsWithin at end) (take done ss)
    → at + length (joined_pairs (entries_at old (take done ss))) ≤ end
    → place + (s.end - at - (s.start - at)) ≤ end
moved_fits old now at end place next done ss sp s kept l m ends within there is before all short =
    let t : Span = slice_index_or ss next nowhere in
    let same : bounds s ≡ bounds t = ap bounds is ∙ same_bounds ss sp next (omega (arith, l, m)) kept in
    let start : s.start ≡ t.start = ap (λ (b : ℕ × ℕ). b.0) same in
    let stop : s.end ≡ t.end = ap (λ (b : ℕ × ℕ). b.1) same in
    let w : IsWithin at end t = subst (IsWithin at end) (get_or-take done ss next nowhere l)
    (all_at (IsWithin at end) (take done ss) next nowhere (omega (arith, l, m, length-take-le done ss m)) all) in
    let suc_is : next + 1 ≡ suc next = omega arith in
    let one : take (next + 1) ss ≡ take next ss ++ t ∷ [] =
    ap (λ (j : ℕ). take j ss) suc_is ∙ take-suc ss next nowhere (omega (arith, l, m)) in
    let more : joined_pairs (entries_at old (take (next + 1) ss))
    ≡ joined_pairs (entries_at old (take next ss)) ++ (key_at old t ++ value_at old t) =
    ap (λ (z : List Span). joined_pairs (entries_at old z)) one
    ∙ ap joined_pairs (entries_last old (take next ss) t)
    ∙ joined_last (entries_at old (take next ss)) (entry_at old t) in
    let few : length (joined_pairs (entries_at old (take (next + 1) ss)))
    ≤ length (joined_pairs (entries_at old (take done ss))) =
    subst (λ (z : List Span). length (joined_pairs (entries_at old z))
    ≤ length (joined_pairs (entries_at old (take done ss))))
    (take-take (next + 1) done ss (omega (arith, l))) (joined_front old (next + 1) (take done ss)) in
    omega (
      arith,
      short,
      few,
      ap (length {A = ℕ}) more,
      length-append (joined_pairs (entries_at old (take next ss))) (key_at old t ++ value_at old t),
      entry_there old at end t w within,
      ap (length {A = ℕ}) (before all),
      length-append (take at old) (joined_pairs (entries_at old (take next ss))),
      length-take-le place now there,
      length-take-le at old (omega (arith, ends, within)),
      start,
      stop,
      w.0,
      w.1,
      w.2,
    )

-- ---- pairs in the order of their keys

module _ (at end : ℕ) (out : List ℕ) (ss : List Span) (es : List Entry) (l : at ≤ end)
    (m : end ≤ length out) (p : ArePlaced at end ss out es) where
  placed_length : at + length (joined_pairs es) ≡ end
  placed_length =
      omega (
        arith,
        ap (length {A = ℕ}) p.wrote,
        length-append (take at out) (joined_pairs es),
        length-take-le end out m,
        length-take-le at out (omega (arith, l, m)),
      )

  -- Pairs in another order end where they ended.
  pub order_fits : (ts : List Span) → IsPermutation ss ts
      → AllByRecursion (IsWithin at end) ts × (at + length (joined_pairs (entries_at out ts)) ≤ end)
  order_fits ts perm = (
    all_moved (IsWithin at end) ss ts perm
        (subst (AllByRecursion (IsWithin at end)) (sym p.places)
        (all_within at at end es (omega arith) (omega (arith, placed_length)))),
    omega (
      arith,
      joined_moved es (entries_at out ts) (moved_there at end out ss es l m p ts perm),
      placed_length,
    ),
  )

-- Pairs that are put in order end where they ended.
pub order_reach : {ord : Order} (es : List Entry) (at end after : ℕ) (old now new : List ℕ) → at ≤ length old
    → Adds (joined_pairs es) at end old now → IsOrdered ord at after es now new → after ≡ end
order_reach es at end after old now new l w q =
    omega (
      arith,
      adds_reach (joined_pairs es) at end old now l w,
      adds_reach (joined_pairs q.sorted) at after now new (omega (arith, w.from, w.within)) q.wrote,
      joined_moved es q.sorted q.same,
    )

-- Sorted places before the others are as many as before.
pub front_many : (n : ℕ) (ss ts : List Span) → n ≤ length ss → IsPermutation (take n ss) ts
    → length (ts ++ drop n ss) ≡ length ss
front_many n ss ts l perm =
    omega (
      arith,
      length-append ts (drop n ss),
      length_permutation (take n ss) ts perm,
      length-take-le n ss l,
      length-drop n ss,
    )

-- Memory that is too small to move pairs is too small to put them in order.
pub room_kept : (at end room : ℕ) (out : List ℕ) (ss ts : List Span) → at ≤ end → end ≤ length out
    → IsPermutation ss ts → (result : Result ℕ Stop)
    → IfErr result (λ stop. AllByRecursion (IsWithin at end) ts
    → at + length (joined_pairs (entries_at out ts)) ≤ end → room < end - at)
    → IfErr result (λ stop. stop ≡ st.Room → (es : List Entry) → ArePlaced at end ss out es → room < end - at)
room_kept at end room out ss ts l m perm (Ok after) f = tt
room_kept at end room out ss ts l m perm (Err stop) f = λ e es p.
    let fits = order_fits at end out ss es l m p ts perm in
    f fits.0 fits.1
