-- The meaning of a copier's answer for the bytes so far.
use Rattle.std.proofs.Common.{◌≡◌, ℕ, ◌+◌, ◌<◌, ◌≤◌, ◌^◌, Bool, true, false, List, [], ◌∷◌, ◌++◌, length, refl, sym, ap}
use Rattle.std.proofs.Common.{◌∙◌, arith, inl, inr, append-nil, length-append, slice_index, ◌%◌, ◌==◌, cond}
use Rattle.std.proofs.lemmas.Bool.{eqb-true, eqb-false}
use Rattle.ciborium_ll_text.proofs.Lists.{length_zero}
use Rattle.ciborium_ll_grammar.specs.declared.spelling.Spelling.{Spelling}
use Rattle.ciborium_ll_grammar.specs.declared.spelling.Spelling.TheVariants.{Any}
use Rattle.ciborium_ll_grammar.specs.Title.{affix_len}
use Rattle.cbor_copier.specs.Spots.{Spot as Elements}
use Rattle.cbor_copier.specs.Steps.{IsFed as AreElementsFed, fresh as start, more as go}
use Rattle.cbor_copier.proofs.TellLaws.{any_run}
use Rattle.cbor_checker.specs.declared.phase.Phase.{Phase}
use Rattle.cbor_checker.specs.declared.phase.Phase.TheVariants as p
use Rattle.cbor_checker.specs.declared.progress.End.{End as CheckedEnd}
use Rattle.cbor_checker.specs.declared.progress.End.TheVariants as g
use Rattle.cbor_checker.specs.declared.progress.Progress.{Progress as Checked}
use Rattle.cbor_checker.specs.Spots.{Spot}
use Rattle.cbor_checker.specs.Checking.{Answers, AnswersEnd}
use Rattle.cbor_checker.specs.Reading as reads
use Rattle.cbor_checker.specs.Telling as checker
use Rattle.cbor_checker.specs.Telling.{has_left, is_due, progress_in}
use Rattle.cbor_checker.proofs.TellLaws as told
use Rattle.cbor_item_copier.specs.declared.progress.Progress.{Progress}
use Rattle.cbor_item_copier.specs.declared.progress.Progress.TheVariants as r
use Rattle.cbor_item_copier.specs.declared.copier.ItemCopier.{ItemCopier}
use Rattle.cbor_item_copier.specs.Copying.{most, AreTaken, AreFed, IsItemCopied, elements_spot, item_spot, pending}
use Rattle.cbor_item_copier.specs.Reading.{TellsWhole, Tells, TellsEnd}
use Rattle.cbor_item_copier.specs.Telling.{of_checker, of_end, progress_of, end_of}
use Rattle.cbor_item_copier.specs.declared.progress.End.{End}
use Rattle.cbor_item_copier.proofs.RunLaws.{item_run}
use Rattle.cbor_item_copier.proofs.StateLaws.{all_taken, due_sound, cut, spelled}

-- ---- the answer

more_in : (phase : Phase) (spot : Spot) (due : ℕ) → is_due phase ≡ false
    → of_checker (progress_in phase spot) ≡ r.More due → ⊥
more_in p.Ended spot due off e = cc
more_in phase spot due off e = cc

-- No spot answers `TooLong`.
long_in : (phase : Phase) (spot : Spot) → of_checker (progress_in phase spot) ≡ r.TooLong → ⊥
long_in p.Title spot e = cc
long_in (p.Bytes left) spot e = cc
long_in (p.Text left state) spot e = cc
long_in p.Ended spot e = cc
long_in (p.Faulted fault) spot e = cc

pub never_long : (bytes : List ℕ) (spot : Spot) → progress_of bytes spot ≡ r.TooLong → ⊥
never_long [] spot e = long_in spot.phase spot e
never_long (b ∷ bytes) spot e = cc

-- After an end or a fault, no more bytes are due.
pub not_more : (bytes : List ℕ) (spot : Spot) (due : ℕ) → is_due spot.phase ≡ false
    → progress_of bytes spot ≡ r.More due → ⊥
not_more [] spot due off e = more_in spot.phase spot due off e
not_more (b ∷ bytes) spot due off e = cc

due_in : (phase : Phase) (spot : Spot) (due : ℕ) → r.More due ≡ of_checker (progress_in phase spot)
    → is_due phase ≡ true
due_in p.Ended spot due e = absurd cc
due_in (p.Faulted fault) spot due e = absurd cc
due_in phase spot due e = refl

-- If more bytes are due, nothing is pending.
pub more_due : (bytes : List ℕ) (spot : Spot) (due : ℕ) → r.More due ≡ progress_of bytes spot
    → (bytes ≡ []) × (is_due spot.phase ≡ true)
more_due [] spot due e = (refl, due_in spot.phase spot due e)
more_due (b ∷ bytes) spot due e = absurd cc

-- ---- the meaning of the answer

module _ (s : Spelling) (d : ℕ) (fed output : List ℕ) (item : Spot) (elements : Elements)
    (are : AreFed s d fed item elements output) where
  whole_told : (phase : Phase) → AreTaken phase fed are.bytes → reads.Tells s d fed (progress_in phase item)
      → TellsWhole s d fed output (of_checker (progress_in phase item))
  whole_told p.Ended taken says =
      let o = item_run s d are.bytes (rw taken at says.0) in
      let out = spelled s d fed output item elements are o.count o.marks o.run in
      (says, rw taken (o.count, record { marks = o.marks; run = any_run o.run; spelled = out }))
  whole_told (p.Faulted fault) taken says =
      (says, record { before = are.bytes; last = taken.0; is = taken.1; cut = cut s d fed output item elements are })
  whole_told phase taken says = (says, rw taken (cut s d fed output item elements are))

  tells_whole : has_left item.phase ≡ true → length item.front ≤ affix_len (slice_index item.front 0 % 32)
      → TellsWhole s d fed output (of_checker (checker.progress_of item))
  tells_whole left short = whole_told item.phase are.taken (told.tells s d fed item are.checked left short)

no_room : (phase : Phase) (s : Spelling) (d : ℕ) (fed output : List ℕ) (item : Spot)
    → TellsWhole s d fed output (of_checker (progress_in phase item))
    → Tells s d fed output (of_checker (progress_in phase item))
no_room p.Ended s d fed output item says = says
no_room phase s d fed output item says = says

-- The answer is true of the bytes and the output, with any pending bytes.
tells : (rest : List ℕ) (s : Spelling) (d : ℕ) (fed given : List ℕ) (item : Spot) (elements : Elements)
    → AreFed s d fed item elements (given ++ rest) → has_left item.phase ≡ true
    → length item.front ≤ affix_len (slice_index item.front 0 % 32)
    → Tells s d fed given (progress_of rest item)
tells [] s d fed given item elements are left short =
    no_room item.phase s d fed given item
    (tells_whole s d fed given item elements (rw (append-nil given) at are) left short)
tells (b ∷ rest) s d fed given item elements are left short = record {
  pending = b ∷ rest;
  some = omega arith;
  progress = of_checker (checker.progress_of item);
  told = tells_whole s d fed (given ++ b ∷ rest) item elements are left short;
}

-- If no more bytes can be counted, `TooLong` is true of the bytes and the output.
pub tells_long : (rest : List ℕ) (s : Spelling) (d : ℕ) (fed given : List ℕ) (item : Spot) (elements : Elements)
    (due : ℕ)
    → r.More due ≡ progress_of rest item → AreFed s d fed item elements (given ++ rest) → length fed + 1 ≡ 2 ^ 64
    → Tells s d fed given r.TooLong
tells_long rest s d fed given item elements due e are far =
    let on = more_due rest item due e in
    let all = all_taken item.phase fed are.bytes (due_sound item.phase on.1) are.taken in
    ((told.goes_on s d fed item are.checked on.1, far), rw (on.0, append-nil, ← all) at (cut s d fed (given ++ rest) item elements are))

-- ---- no more bytes come

none_taken : (phase : Phase) (bytes : List ℕ) → AreTaken phase [] bytes → bytes ≡ []
none_taken (p.Faulted fault) bytes taken =
    absurd (omega (arith, ap length taken.1, length-append bytes (taken.0 ∷ [])))
none_taken phase bytes taken = sym taken

none_out : (fed output : List ℕ) (elements : Elements) → AreElementsFed Any most fed elements output → fed ≡ []
    → output ≡ []
none_out fed output elements start e = refl
none_out fed output elements (go {bytes = a} b new byte is step) e =
    absurd (omega (arith, ap length e, length-append a (b ∷ [])))

end_in : (phase : Phase) (s : Spelling) (d : ℕ) (fed given : List ℕ) (item : Spot) → 0 < length fed
    → Tells s d fed given (of_checker (progress_in phase item))
    → TellsEnd s d fed given (of_end (checker.end_in (progress_in phase item)))
end_in p.Ended s d fed given item some says = inr ((says.0.0, refl), says.1)
end_in (p.Faulted fault) s d fed given item some says = says
end_in phase s d fed given item some says = (some, says)

end_by : (b : Bool) (s : Spelling) (d : ℕ) (fed given : List ℕ) (item : Spot) (elements : Elements)
    → (item.offset == 0) ≡ b → AreFed s d fed item elements (given ++ [])
    → Tells s d fed given (of_checker (checker.progress_of item))
    → TellsEnd s d fed given (of_end (cond b g.Between (checker.end_in (checker.progress_of item))))
end_by true s d fed given item elements e are says =
    let counts = told.fed_counts s d fed item are.checked in
    let none : fed ≡ [] = length_zero fed (omega (arith, counts, eqb-true item.offset 0 e)) in
    let bytes = none_taken item.phase are.bytes (rw none at are.taken) in
    inl (none, sym (append-nil given) ∙ none_out are.bytes (given ++ []) elements are.copied bytes)
end_by false s d fed given item elements e are says =
    let counts = told.fed_counts s d fed item are.checked in
    end_in item.phase s d fed given item (omega (arith, counts, eqb-false item.offset 0 e)) says

tells_end : (rest : List ℕ) (s : Spelling) (d : ℕ) (fed given : List ℕ) (item : Spot) (elements : Elements)
    → AreFed s d fed item elements (given ++ rest) → Tells s d fed given (progress_of rest item)
    → TellsEnd s d fed given (end_of rest item)
tells_end [] s d fed given item elements are says =
    end_by (item.offset == 0) s d fed given item elements refl are says
tells_end (b ∷ rest) s d fed given item elements are says = says

-- ---- the answers of a copier

-- If nothing is pending, the checker's answer is the copier's.
pub checker_answers : (copier : ItemCopier) (progress : Checked) → pending copier ≡ []
    → Answers copier.checker progress → of_checker progress ≡ progress_of (pending copier) (item_spot copier)
unfolding Answers
checker_answers copier progress none answers = rw none (ap of_checker answers)

pub checker_ends : (copier : ItemCopier) (end : CheckedEnd) → pending copier ≡ [] → AnswersEnd copier.checker end
    → of_end end ≡ end_of (pending copier) (item_spot copier)
unfolding AnswersEnd
checker_ends copier end none answers = rw none (ap of_end answers)

tells_now : (copier : ItemCopier) (s : Spelling) (d : ℕ) (fed given : List ℕ) → IsItemCopied s d fed given copier
    → Tells s d fed given (progress_of (pending copier) (item_spot copier))
tells_now copier s d fed given is =
    tells (pending copier) s d fed given (item_spot copier) (elements_spot copier) is copier.checker.position.left
    copier.checker.position.begun

pub copier_tells : (copier : ItemCopier) (progress : Progress)
    → progress ≡ progress_of (pending copier) (item_spot copier) → (s : Spelling) (d : ℕ) (fed given : List ℕ)
    → IsItemCopied s d fed given copier → Tells s d fed given progress
copier_tells copier progress e s d fed given is = rw e (tells_now copier s d fed given is)

pub copier_ends : (copier : ItemCopier) (end : End) → end ≡ end_of (pending copier) (item_spot copier)
    → (s : Spelling) (d : ℕ) (fed given : List ℕ) → IsItemCopied s d fed given copier → TellsEnd s d fed given end
copier_ends copier end e s d fed given is =
    rw e (tells_end (pending copier) s d fed given (item_spot copier) (elements_spot copier) is
    (tells_now copier s d fed given is))
