-- Each answer of a copier comes exactly if it may.
use Rattle.std.proofs.Common.{◌≡◌, ◌∙◌, ℕ, ◌<◌, ◌↔◌, List, [], ◌++◌, length, arith, ap, refl, sym, length-append}
use Rattle.ciborium_ll_grammar.specs.declared.spelling.Spelling.{Spelling}
use Rattle.ciborium_ll_grammar.specs.declared.spelling.Spelling.TheVariants.{Shortest}
use Rattle.ciborium_ll_grammar.specs.Elements.{spelling}
use Rattle.ciborium_ll_grammar.proofs.ElementLaws.{one_run}
use Rattle.ciborium_ll_grammar.proofs.SpelledLaws.{spelled_alone}
use Rattle.ciborium_ll_grammar.proofs.StrictFaultLaws.{no_fault}
use Rattle.cbor_copier.specs.declared.progress.Progress.{Progress}
use Rattle.cbor_copier.specs.declared.progress.Progress.TheVariants as r
use Rattle.cbor_copier.specs.Reading.{AreSpelled, IsEnd, IsFault, IsRoom, NoneGoOn, Tells, TellsWhole}
use Rattle.cbor_copier.proofs.TellLaws.{in_front, whole_in_front}

module _ (allowed : Spelling) (count : ℕ) (bytes : List ℕ) where
  -- If the spelling of the elements is written, no byte of it is pending.
  none_after : (progress : Progress) (output more : List ℕ) → 0 < length more
      → TellsWhole allowed count bytes (output ++ more) progress → AreSpelled allowed count bytes output → ⊥
  none_after r.More output more some says all = no_fault allowed count bytes (in_front all.run) says.0.fault
  none_after r.Room output more some says all = says
  none_after r.Ended output more some says all =
      let one = one_run count bytes says.marks says.run.run bytes [] [] all.marks all.run.run refl in
      let same : output ++ more ≡ output = says.spelled ∙ (ap spelling one.1 ∙ sym all.spelled) in
      omega (arith, some, ap (length {A = ℕ}) same, length-append output more)
  none_after (r.Syntax place) output more some says all =
      says.0 [] tt (whole_in_front allowed count bytes [] all.marks all.run)
  none_after r.TooLong output more some says all = no_fault allowed count bytes (in_front all.run) says.0.fault

  pub end_exact : (output : List ℕ) (progress : Progress) → Tells allowed count bytes output progress
      → IsEnd progress ↔ AreSpelled allowed count bytes output
  end_exact output r.More says =
      (λ is. absurd is, λ all. no_fault allowed count bytes (in_front all.run) says.0.fault)
  end_exact output r.Room says =
      (λ is. absurd is, λ all. none_after says.progress output says.pending says.some says.told all)
  end_exact output r.Ended says = (λ is. says, λ all. tt)
  end_exact output (r.Syntax place) says =
      (λ is. absurd is, λ all. says.0 [] tt (whole_in_front allowed count bytes [] all.marks all.run))
  end_exact output r.TooLong says =
      (λ is. absurd is, λ all. no_fault allowed count bytes (in_front all.run) says.0.fault)

  pub fault_exact : (output : List ℕ) (progress : Progress) → Tells allowed count bytes output progress
      → (IsRoom progress → ⊥) → IsFault progress ↔ NoneGoOn allowed count bytes
  fault_exact output r.More says some =
      (λ is. absurd is, λ never. never says.1.more says.1.more_bytes (in_front says.1.run))
  fault_exact output r.Room says some = absurd (some tt)
  fault_exact output r.Ended says some =
      (λ is. absurd is, λ never. never [] tt (whole_in_front allowed count bytes [] says.marks says.run))
  fault_exact output (r.Syntax place) says some = (λ is. says.0, λ never. tt)
  fault_exact output r.TooLong says some =
      (λ is. absurd is, λ never. never says.1.more says.1.more_bytes (in_front says.1.run))

-- A strict copier writes what it has read.
pub strict_copy : (count : ℕ) (bytes output : List ℕ) → AreSpelled Shortest count bytes output → output ≡ bytes
strict_copy count bytes output all = all.spelled ∙ sym (spelled_alone bytes all.marks (all.run.strictly refl))
