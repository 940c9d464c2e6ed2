-- Pairs that are put in the order of their places by way of the output after them.
use Rattle.std.proofs.Common.{◌≡◌, ℕ, suc, ◌+◌, ◌-◌, ◌<◌, ◌≤◌, List, [], ◌∷◌, ◌++◌, length, take, drop, sym, ◌∙◌, ap}
use Rattle.std.proofs.Common.{ap₂, subst, arith, append_assoc, length-append, slice_index_or, take-add, take-append-drop}
use Rattle.std.proofs.Common.{take-suc, take-take, take_at, Result, Ok, Err, IfErr}
use Rattle.cbor_canonical.specs.declared.Stop.{Stop}
use Rattle.std.proofs.lemmas.List.{drop-append-le, drop-take, get_or-take, length-drop, length-take-le, take-append-le}
use Rattle.std.proofs.Math.Seq.{drop-append_seam}
use Rattle.std.specs.List.{AllByRecursion}
use Rattle.cbor_canonical.specs.declared.pairs.Span.{Span}
use Rattle.cbor_canonical.specs.Places.{IsWithin, entries_at, entry_at, key_at, nowhere, value_at}
use Rattle.cbor_canonical.specs.Runs.{joined_pairs}
use Rattle.cbor_canonical.specs.Writing.{Adds}
use Rattle.cbor_canonical.proofs.PairRuns.{joined_last}
use Rattle.cbor_canonical.proofs.PlaceRuns.{all_at, entries_last, parts_meet}
use Rattle.cbor_canonical.proofs.RoomPairs.{entry_there, joined_front}

-- What is added to the second part of an output is added to the output.
pub back_adds : (bytes front back new old : List ℕ) (at len : ℕ) → front ≡ take at old → length front ≡ at
    → Adds bytes 0 len back new → Adds bytes at (at + len) old (front ++ new)
back_adds bytes front back new old at len e long w = record {
  is = take-add at len (front ++ new)
      ∙ ap₂ (λ (x y : List ℕ). x ++ y) (take_at front new at long ∙ e)
      (ap (λ (n : ℕ). take len (drop n (front ++ new))) (sym long) ∙ ap (take len) (drop-append_seam front new) ∙ w.is);
  from = omega arith;
  within = omega (arith, length-append front new, long, w.within);
}

-- A part of the front is a part of the whole.
part_in_front : (xs ys : List ℕ) (a b : ℕ) → a ≤ b → b ≤ length xs
    → take (b - a) (drop a (xs ++ ys)) ≡ take (b - a) (drop a xs)
part_in_front xs ys a b l m =
    ap (take (b - a)) (drop-append-le a xs ys (omega (arith, l, m)))
    ∙ take-append-le (b - a) (drop a xs) ys (omega (arith, l, m, length-drop a xs))

-- The bytes of a pair that stands before an end, after more was written there.
piece_before : (old more : List ℕ) (at end : ℕ) (s : Span) → IsWithin at end s → end ≤ length old
    → take (s.end - s.start) (drop s.start (take end old ++ more)) ≡ key_at old s ++ value_at old s
piece_before old more at end s w within =
    let l : s.start ≤ s.end = omega (arith, w.1, w.2) in
    let m : s.end ≤ length (take end old) = omega (arith, w.3, length-take-le end old within) in
    part_in_front (take end old) more s.start s.end l m
    ∙ sym (part_in_front (take end old) (drop end old) s.start s.end l m)
    ∙ ap (λ (z : List ℕ). take (s.end - s.start) (drop s.start z)) (take-append-drop end old)
    ∙ sym (parts_meet s.start s.key_end s.end old w.1 w.2)

module _ (old : List ℕ) (at end done : ℕ) (ss : List Span) (held : done ≤ length ss) (l : at ≤ end)
    (within : end ≤ length old) (next : ℕ) (less : next < done) where
  -- The place of the next pair lies between the offsets.
  next_within : AllByRecursion (IsWithin at end) (take done ss) → IsWithin at end (slice_index_or ss next nowhere)
  next_within all =
      subst (IsWithin at end) (get_or-take done ss next nowhere less)
      (all_at (IsWithin at end) (take done ss) next nowhere (omega (arith, less, held, length-take-le done ss held)) all)

  one_more : joined_pairs (entries_at old (take (next + 1) ss)) ≡ joined_pairs (entries_at old (take next ss))
      ++ (key_at old (slice_index_or ss next nowhere) ++ value_at old (slice_index_or ss next nowhere))
  one_more =
      let t : Span = slice_index_or ss next nowhere in
      let suc_is : next + 1 ≡ suc next = omega arith in
      let one : take (next + 1) ss ≡ take next ss ++ t ∷ [] =
      ap (λ (j : ℕ). take j ss) suc_is ∙ take-suc ss next nowhere (omega (arith, less, held)) in
      ap (λ (z : List Span). joined_pairs (entries_at old z)) one
      ∙ ap joined_pairs (entries_last old (take next ss) t)
      ∙ joined_last (entries_at old (take next ss)) (entry_at old t)

  -- One more pair is copied after the end.
  pub aside_more : (now new : List ℕ) (place after : ℕ) (s : Span) → s ≡ slice_index_or ss next nowhere
      → Adds (take (s.end - s.start) (drop s.start (take place now))) place after now new
      → (AllByRecursion (IsWithin at end) (take done ss)
      → take place now ≡ take end old ++ joined_pairs (entries_at old (take next ss)))
      → AllByRecursion (IsWithin at end) (take done ss)
      → take after new ≡ take end old ++ joined_pairs (entries_at old (take (next + 1) ss))
  aside_more now new place after s is put before all =
      let t : Span = slice_index_or ss next nowhere in
      let so_far = joined_pairs (entries_at old (take next ss)) in
      let piece : take (s.end - s.start) (drop s.start (take place now)) ≡ key_at old t ++ value_at old t =
      ap (λ (x : Span). take (x.end - x.start) (drop x.start (take place now))) is
      ∙ ap (λ (z : List ℕ). take (t.end - t.start) (drop t.start z)) (before all)
      ∙ piece_before old so_far at end t (next_within all) within in
      put.is ∙ ap₂ (λ (x y : List ℕ). x ++ y) (before all) piece
      ∙ append_assoc (take end old) so_far (key_at old t ++ value_at old t)
      ∙ ap (λ (z : List ℕ). take end old ++ z) (sym one_more)

  -- It fits if the output has as many bytes after the end as the pairs have.
  pub aside_fits : (now : List ℕ) (place : ℕ) (s : Span) → place ≤ length now → s ≡ slice_index_or ss next nowhere
      → (AllByRecursion (IsWithin at end) (take done ss)
      → take place now ≡ take end old ++ joined_pairs (entries_at old (take next ss)))
      → AllByRecursion (IsWithin at end) (take done ss)
      → at + length (joined_pairs (entries_at old (take done ss))) ≤ end
      → place + (s.end - s.start) ≤ end + (end - at)
  aside_fits now place s there is before all short =
      let t : Span = slice_index_or ss next nowhere in
      let few : length (joined_pairs (entries_at old (take (next + 1) ss)))
      ≤ length (joined_pairs (entries_at old (take done ss))) =
      subst (λ (z : List Span). length (joined_pairs (entries_at old z))
      ≤ length (joined_pairs (entries_at old (take done ss))))
      (take-take (next + 1) done ss (omega (arith, less))) (joined_front old (next + 1) (take done ss)) in
      omega (
        arith,
        short,
        few,
        ap (length {A = ℕ}) one_more,
        length-append (joined_pairs (entries_at old (take next ss))) (key_at old t ++ value_at old t),
        entry_there old at end t (next_within all) within,
        ap (length {A = ℕ}) (before all),
        length-append (take end old) (joined_pairs (entries_at old (take next ss))),
        length-take-le place now there,
        length-take-le end old within,
        ap (λ (x : Span). x.end) is,
        ap (λ (x : Span). x.start) is,
      )

module _ (old now : List ℕ) (at end place done : ℕ) (ss : List Span) (l : at ≤ end) (within : end ≤ length old)
    (far : end ≤ place) (there : place ≤ length now) (all : AllByRecursion (IsWithin at end) (take done ss))
    (before : take place now ≡ take end old ++ joined_pairs (entries_at old (take done ss))) where
  -- The copies after the end.
  copies_are : take (place - end) (drop end now) ≡ joined_pairs (entries_at old (take done ss))
  copies_are =
      let n : place ≡ end + (place - end) = omega (arith, far) in
      sym (drop-take end (place - end) now) ∙ ap (λ (j : ℕ). drop end (take j now)) (sym n)
      ∙ ap (drop end) before
      ∙ ap (λ (j : ℕ). drop j (take end old ++ joined_pairs (entries_at old (take done ss))))
      (sym (length-take-le end old within))
      ∙ drop-append_seam (take end old) (joined_pairs (entries_at old (take done ss)))

  -- The copies are written back.
  pub aside_done : (after : ℕ) (new : List ℕ) → Adds (take (place - end) (drop end now)) at after now new
      → Adds (joined_pairs (entries_at old (take done ss))) at after old new
  aside_done after new w = record {
    is = w.is ∙ ap₂ (λ (x y : List ℕ). x ++ y)
        (sym (take-take at place now (omega (arith, l, far))) ∙ ap (take at) before
        ∙ take-append-le at (take end old) (joined_pairs (entries_at old (take done ss)))
        (omega (arith, l, length-take-le end old within))
        ∙ take-take at end old l) copies_are;
    from = w.from;
    within = w.within;
  }

  -- They fit, since they are no longer than what they replace.
  pub back_fits : at + length (joined_pairs (entries_at old (take done ss))) ≤ end → at + (place - end) ≤ end
  back_fits short =
      omega (
        arith,
        short,
        far,
        ap (length {A = ℕ}) before,
        length-append (take end old) (joined_pairs (entries_at old (take done ss))),
        length-take-le place now there,
        length-take-le end old within,
      )

-- A call that finds no room to write the copies back does not meet places between the offsets.
pub back_room : (old now : List ℕ) (at end place done : ℕ) (ss : List Span) → at ≤ end → end ≤ length old
    → end ≤ place → place ≤ length now
    → (AllByRecursion (IsWithin at end) (take done ss)
    → take place now ≡ take end old ++ joined_pairs (entries_at old (take done ss)))
    → (result : Result ℕ Stop) → IfErr result (λ stop. end < at + (place - end))
    → IfErr result (λ stop. AllByRecursion (IsWithin at end) (take done ss)
    → at + length (joined_pairs (entries_at old (take done ss))) ≤ end → length old < end + (end - at))
back_room old now at end place done ss l within far there before (Ok after) none = tt
back_room old now at end place done ss l within far there before (Err stop) none = λ all short.
    absurd (omega (arith, none, back_fits old now at end place done ss l within far there all (before all) short))
