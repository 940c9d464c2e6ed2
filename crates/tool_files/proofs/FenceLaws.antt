-- A reader that ends after a number of items, from one piece of the bytes to the next.
use Rattle.std.proofs.Common.{◌≡◌, ℕ, ◌+◌, ◌<◌, inl, inr, List, [], ◌++◌, length, take}
use Rattle.std.proofs.Common.{refl, sym, ap, subst, ◌∙◌, arith, append_assoc, append-nil, length-append}
use Rattle.ciborium_ll_grammar.specs.declared.spelling.Spelling.{Spelling}
use Rattle.ciborium_ll_grammar.specs.declared.spelling.Spelling.TheVariants.{Any}
use Rattle.ciborium_ll_grammar.specs.Items.{AreItems, IsItem, no_items}
use Rattle.cbor_skip.proofs.ItemSteps.{items_item}
use Rattle.cbor_checker.specs.declared.checker.Checker.{Checker}
use Rattle.cbor_checker.specs.declared.phase.Fault.{Fault}
use Rattle.cbor_checker.specs.declared.progress.Feed.{Feed}
use Rattle.cbor_checker.specs.declared.progress.Progress.{Progress}
use Rattle.cbor_checker.specs.declared.progress.Progress.TheVariants as c
use Rattle.cbor_checker.specs.Checking.{HasRead}
use Rattle.cbor_checker.specs.Reading.{BeginsItem, GoesOn, IsFault, Reads, Tells}
use Rattle.cbor_checker.proofs.ReadLaws.{none_exact}
use Rattle.tool_files.specs.Fences.{IsFenced, fenced, lost, within}
use Rattle.tool_files.specs.declared.fence.Fence.{Fence}

-- If no item begins with the bytes so far, the answer is a fault.
fault_stays : (s : Spelling) (d : ℕ) (bytes : List ℕ) (progress : Progress) → Tells s d bytes progress
    → (BeginsItem s d bytes → ⊥) → IsFault progress
fault_stays s d bytes progress tells none = (none_exact s d bytes progress tells).1 none

-- If no item begins with the bytes so far, a checker takes no more.
pub none_taken : (s : Spelling) (d : ℕ) (read piece : List ℕ) (feed : Feed) → Reads s d read piece feed
    → (BeginsItem s d read → ⊥) → take feed.taken piece ≡ []
none_taken s d read piece feed so none =
    let stays : 0 < feed.taken → ⊥ = λ some.
    let on : GoesOn s d read = rw append-nil at (so.goes 0 some) in none on.begins in
    let zero : feed.taken ≡ 0 = omega (arith, stays) in
    ap (λ (n : ℕ). take n piece) zero

module _ {R : Type 0} (items : ℕ) where
  -- No byte was handed out.
  pub fence_first : (f : Fence R) → HasRead Any f.depth [] f.checker → f.left ≡ items → IsFenced items [] f
  fence_first f anew all = within 0 [] [] [] no_items anew refl (inl refl) (omega (arith, all))

  -- The reader within has no part in it.
  pub fence_same : (given : List ℕ) (old new : Fence R) → new.depth ≡ old.depth → new.checker ≡ old.checker
      → new.left ≡ old.left → IsFenced items given old → IsFenced items given new
  fence_same given old new deep same left (within count before part rest are has_read is stuck counted) =
      within count before part rest (rw deep are) (rw (deep, same) has_read) is (rw deep stuck)
      (omega (arith, counted, left))
  fence_same given old new deep same left (fenced before rest are is zero) =
      fenced before rest (rw deep are) is (left ∙ zero)
  fence_same given old new deep same left (lost many zero) = lost many (left ∙ zero)

  -- After the last item any bytes follow.
  pub fence_behind : (given more : List ℕ) (f : Fence R) → IsFenced items given f → f.left ≡ 0
      → IsFenced items (given ++ more) f
  fence_behind given more f (within count before part rest are has_read is stuck counted) none =
      fenced before ((part ++ rest) ++ more)
      (subst (λ (n : ℕ). AreItems Any f.depth n before) (omega (arith, counted, none)) are)
      (ap (λ (z : List ℕ). z ++ more) is ∙ append_assoc before (part ++ rest) more) none
  fence_behind given more f (fenced before rest are is zero) none =
      fenced before (rest ++ more) are (ap (λ (z : List ℕ). z ++ more) is ∙ append_assoc before rest more) none
  fence_behind given more f (lost many zero) none = lost (omega (arith, many, length-append given more)) none

  module _ (given taken : List ℕ) (old new : Fence R) (progress : Progress) (checker : Checker)
      (deep : new.depth ≡ old.depth)
      (feeds : (part : List ℕ) → HasRead Any old.depth part old.checker
      → HasRead Any old.depth (part ++ taken) checker)
      (tells : (part : List ℕ) → HasRead Any old.depth part old.checker
      → Tells Any old.depth (part ++ taken) progress)
      (stays : (part : List ℕ) → HasRead Any old.depth part old.checker → (BeginsItem Any old.depth part → ⊥)
      → taken ≡ []) where
    -- If no item begins with the part, the answer is a fault.
    still : (part : List ℕ) → HasRead Any old.depth part old.checker → (BeginsItem Any old.depth part → ⊥)
        → IsFault progress
    still part has_read none =
        let same : part ++ taken ≡ part = rw (stays part has_read none) (append-nil part) in
        fault_stays Any old.depth part progress (rw same at (tells part has_read)) none

    -- An item has ended.
    pub fence_ended : (len : ℕ) → progress ≡ c.Ended len
        → HasRead Any old.depth [] new.checker → old.left ≡ new.left + 1 → IsFenced items given old
        → IsFenced items (given ++ taken) new
    fence_ended len is anew less (within count before part rest are has_read at (inl none) counted) =
        let item : IsItem Any old.depth (part ++ taken) =
        (subst (λ (z : Progress). Tells Any old.depth (part ++ taken) z) is (tells part has_read)).0 in
        within (count + 1) (before ++ (part ++ taken)) [] []
        (subst (λ (n : ℕ). AreItems Any n (count + 1) (before ++ (part ++ taken))) (sym deep)
        (subst (λ (n : ℕ). AreItems Any old.depth n (before ++ (part ++ taken))) (omega arith)
        (items_item Any old.depth count before (part ++ taken) are item)))
        (subst (λ (n : ℕ). HasRead Any n [] new.checker) (sym deep) anew)
        (ap (λ (z : List ℕ). z ++ taken) (at ∙ ap (λ (z : List ℕ). before ++ (part ++ z)) none)
        ∙ ap (λ (z : List ℕ). (before ++ z) ++ taken) (append-nil part) ∙ append_assoc before part taken
        ∙ sym (append-nil (before ++ (part ++ taken))))
        (inl refl) (omega (arith, counted, less))
    fence_ended len is anew less (within count before part rest are has_read at (inr stuck) counted) =
        absurd (subst IsFault is (still part has_read stuck))
    fence_ended len is anew less (fenced before rest are at zero) = absurd (omega (arith, less, zero))
    fence_ended len is anew less (lost many zero) = absurd (omega (arith, less, zero))

    -- More bytes of the item are due, and all were taken.
    pub fence_more : (due : ℕ) → progress ≡ c.More due → checker ≡ new.checker
        → new.left ≡ old.left → IsFenced items given old → IsFenced items (given ++ taken) new
    fence_more due is here same (within count before part rest are has_read at (inl none) counted) =
        within count before (part ++ taken) []
        (subst (λ (n : ℕ). AreItems Any n count before) (sym deep) are)
        (subst (λ (n : ℕ). HasRead Any n (part ++ taken) new.checker) (sym deep)
        (subst (HasRead Any old.depth (part ++ taken)) here (feeds part has_read)))
        (ap (λ (z : List ℕ). z ++ taken) (at ∙ ap (λ (z : List ℕ). before ++ (part ++ z)) none)
        ∙ ap (λ (z : List ℕ). (before ++ z) ++ taken) (append-nil part) ∙ append_assoc before part taken
        ∙ ap (λ (z : List ℕ). before ++ z) (sym (append-nil (part ++ taken))))
        (inl refl) (omega (arith, counted, same))
    fence_more due is here same (within count before part rest are has_read at (inr stuck) counted) =
        absurd (subst IsFault is (still part has_read stuck))
    fence_more due is here same (fenced before rest are at zero) =
        fenced before (rest ++ taken) (subst (λ (n : ℕ). AreItems Any n items before) (sym deep) are)
        (ap (λ (z : List ℕ). z ++ taken) at ∙ append_assoc before rest taken) (same ∙ zero)
    fence_more due is here same (lost many zero) =
        lost (omega (arith, many, length-append given taken)) (same ∙ zero)

    -- No item goes on, and bytes follow the byte at fault.
    pub fence_fault : (fault : Fault) (behind : List ℕ) → progress ≡ c.Fault fault
        → checker ≡ new.checker → new.left ≡ old.left → IsFenced items given old
        → IsFenced items (given ++ (taken ++ behind)) new
    fence_fault fault behind is here same (within count before part rest are has_read at (inl none) counted) =
        within count before (part ++ taken) behind
        (subst (λ (n : ℕ). AreItems Any n count before) (sym deep) are)
        (subst (λ (n : ℕ). HasRead Any n (part ++ taken) new.checker) (sym deep)
        (subst (HasRead Any old.depth (part ++ taken)) here (feeds part has_read)))
        (ap (λ (z : List ℕ). z ++ (taken ++ behind)) (at ∙ ap (λ (z : List ℕ). before ++ (part ++ z)) none)
        ∙ ap (λ (z : List ℕ). (before ++ z) ++ (taken ++ behind)) (append-nil part)
        ∙ append_assoc before part (taken ++ behind)
        ∙ ap (λ (z : List ℕ). before ++ z) (sym (append_assoc part taken behind)))
        (inr (rw deep (subst (Tells Any old.depth (part ++ taken)) is (tells part has_read))))
        (omega (arith, counted, same))
    fence_fault fault behind is here same (within count before part rest are has_read at (inr stuck) counted) =
        let held = stays part has_read stuck in
        let whole : part ++ taken ≡ part = rw held (append-nil part) in
        within count before part (rest ++ behind)
        (subst (λ (n : ℕ). AreItems Any n count before) (sym deep) are)
        (subst (λ (n : ℕ). HasRead Any n part new.checker) (sym deep)
        (subst (HasRead Any old.depth part) here (rw whole at (feeds part has_read))))
        (ap (λ (z : List ℕ). given ++ (z ++ behind)) held ∙ ap (λ (z : List ℕ). z ++ behind) at
        ∙ append_assoc before (part ++ rest) behind
        ∙ ap (λ (z : List ℕ). before ++ z) (append_assoc part rest behind))
        (inr (rw deep stuck)) (omega (arith, counted, same))
    fence_fault fault behind is here same (fenced before rest are at zero) =
        fenced before (rest ++ (taken ++ behind)) (subst (λ (n : ℕ). AreItems Any n items before) (sym deep) are)
        (ap (λ (z : List ℕ). z ++ (taken ++ behind)) at ∙ append_assoc before rest (taken ++ behind)) (same ∙ zero)
    fence_fault fault behind is here same (lost many zero) =
        lost (omega (arith, many, length-append given (taken ++ behind))) (same ∙ zero)

    -- No more bytes can be counted.
    pub fence_lost : progress ≡ c.TooLong → new.left ≡ 0 → IsFenced items given old → IsFenced items (given ++ taken) new
    fence_lost is none (within count before part rest are has_read at stuck counted) =
        let long = subst (λ (z : Progress). Tells Any old.depth (part ++ taken) z) is (tells part has_read) in
        lost (omega (
          arith,
          long.1,
          ap (length {A = ℕ}) at,
          length-append before (part ++ rest),
          length-append part rest,
          length-append part taken,
          length-append given taken,
        )) none
    fence_lost is none (fenced before rest are at zero) =
        fenced before (rest ++ taken) (subst (λ (n : ℕ). AreItems Any n items before) (sym deep) are)
        (ap (λ (z : List ℕ). z ++ taken) at ∙ append_assoc before rest taken) none
    fence_lost is none (lost many zero) = lost (omega (arith, many, length-append given taken)) none
