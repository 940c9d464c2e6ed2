-- Each answer of a copier of an item comes exactly if it may.
use Rattle.std.proofs.Common.{◌≡◌, ◌∙◌, ℕ, ◌<◌, ◌↔◌, List, [], ◌++◌, length, arith, ap, refl, sym, append-nil}
use Rattle.std.proofs.Common.{length-append}
use Rattle.ciborium_ll_grammar.specs.declared.spelling.Spelling.{Spelling}
use Rattle.ciborium_ll_grammar.specs.Elements.{spelling}
use Rattle.ciborium_ll_grammar.specs.Items.{IsItem}
use Rattle.cbor_checker.specs.Reading.{BeginsItem}
use Rattle.cbor_item_copier.specs.declared.progress.Progress.{Progress}
use Rattle.cbor_item_copier.specs.declared.progress.Progress.TheVariants as r
use Rattle.cbor_item_copier.specs.Reading.{IsEnd, IsFault, IsRoom, IsSpelled, Tells, TellsWhole}
use Rattle.cbor_item_copier.proofs.RunLaws.{same_runs}

module _ (s : Spelling) (d : ℕ) (bytes : List ℕ) where
  -- If the spelling is written, no byte of it is pending.
  same_spelled : (output more : List ℕ) → 0 < length more → IsSpelled bytes (output ++ more) → IsSpelled bytes output
      → ⊥
  same_spelled output more some whole all =
      let one = whole.1 in
      let other = all.1 in
      let same = same_runs whole.0 bytes one.marks one.run.run all.0 bytes other.marks other.run.run refl in
      let out : output ++ more ≡ output = one.spelled ∙ (ap spelling same.1 ∙ sym other.spelled) in
      omega (arith, some, ap (length {A = ℕ}) out, length-append output more)

  none_after : (progress : Progress) (output more : List ℕ) → 0 < length more
      → TellsWhole s d bytes (output ++ more) progress → IsItem s d bytes → IsSpelled bytes output → ⊥
  none_after (r.More due) output more some says item all = says.0.0.unended item
  none_after r.Room output more some says item all = says
  none_after (r.Ended len) output more some says item all = same_spelled output more some says.1 all
  none_after (r.Fault fault) output more some says item all = says.0 ([], rw append-nil item)
  none_after r.TooLong output more some says item all = says.0.0.unended item

  pub end_exact : (output : List ℕ) (progress : Progress) → Tells s d bytes output progress
      → IsEnd progress ↔ (IsItem s d bytes × IsSpelled bytes output)
  end_exact output (r.More due) says = (λ is. absurd is, λ all. says.0.0.unended all.0)
  end_exact output r.Room says =
      (λ is. absurd is, λ all. none_after says.progress output says.pending says.some says.told all.0 all.1)
  end_exact output (r.Ended len) says = (λ is. (says.0.0, says.1), λ all. tt)
  end_exact output (r.Fault fault) says = (λ is. absurd is, λ all. says.0 ([], rw append-nil all.0))
  end_exact output r.TooLong says = (λ is. absurd is, λ all. says.0.0.unended all.0)

  pub fault_exact : (output : List ℕ) (progress : Progress) → Tells s d bytes output progress
      → (IsRoom progress → ⊥) → IsFault progress ↔ (BeginsItem s d bytes → ⊥)
  fault_exact output (r.More due) says some = (λ is. absurd is, λ none. none says.0.0.begins)
  fault_exact output r.Room says some = absurd (some tt)
  fault_exact output (r.Ended len) says some = (λ is. absurd is, λ none. none ([], rw append-nil says.0.0))
  fault_exact output (r.Fault fault) says some = (λ is. says.0, λ none. tt)
  fault_exact output r.TooLong says some = (λ is. absurd is, λ none. none says.0.0.begins)
