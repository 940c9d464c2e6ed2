-- The result of a skip over memory, as a fact of the bytes.
use Rattle.std.proofs.Common.{◌≡◌, ℕ, ◌∙◌, List, length, Err}
use Rattle.std.proofs.Common.{ap, sym, subst, arith}
use Rattle.ciborium_ll_io.specs.declared.io.Read.{Ghosts}
use Rattle.ciborium_ll_grammar.specs.declared.spelling.Spelling.{Spelling}
use Rattle.ciborium_ll_grammar.specs.declared.spelling.Spelling.TheVariants.{Any}
use Rattle.ciborium_ll_grammar.specs.Faults.{Syntax as IsSyntax}
use Rattle.ciborium_ll_decoder.specs.declared.dec.Decoder.{Decoder}
use Rattle.ciborium_ll_decoder.specs.declared.dec.Error.TheVariants as e
use Rattle.cbor_skip.specs.declared.SkipError.{SkipError}
use Rattle.cbor_skip.specs.declared.SkipError.TheVariants as s
use Rattle.cbor_skip.specs.SkippingTold.{SkipsTold}
use Rattle.cbor_view.specs.declared.parse.Fault.{Fault}
use Rattle.cbor_view.specs.declared.parse.Fault.TheVariants.{Short, Syntax, Break, Deep}
use Rattle.cbor_view.specs.Faults.{HasFault, IsOfBytes, NamesFault}

module _ {R E : Type 0} (source : Ghosts R E) where
  of_bytes : (depth : ℕ) (due : List ℕ) (old new : Decoder R) (error : SkipError E)
      → SkipsTold source Any depth due old (Err error) new → IsOfBytes error
  of_bytes depth due old new (s.Read (e.Io fault)) told = tt
  of_bytes depth due old new (s.Read (e.Syntax place)) told = tt
  of_bytes depth due old new (s.Read e.TooLong) told = absurd told
  of_bytes depth due old new (s.Read e.Waiting) told = absurd told
  of_bytes depth due old new (s.Break place) told = tt
  of_bytes depth due old new (s.Deep place) told = tt

  named_short : (depth : ℕ) (due : List ℕ) (old new : Decoder R) (cause : E) (fault : Fault)
      → SkipsTold source Any depth due old (Err (s.Read (e.Io cause))) new → fault ≡ Short → HasFault depth due fault
  named_short depth due old new cause fault told n =
      subst (λ (f : Fault). HasFault depth due f) (sym n) (told.fault, told.answered)

  named_syntax : (depth : ℕ) (due : List ℕ) (old new : Decoder R) (place : ℕ) (fault : Fault)
      → SkipsTold source Any depth due old (Err (s.Read (e.Syntax place))) new → old.offset ≡ 0
      → fault ≡ Syntax place → HasFault depth due fault
  named_syntax depth due old new place fault told start n =
      let at : told.0 ≡ place = omega (arith, told.1, start) in
      subst (λ (f : Fault). HasFault depth due f) (sym n) (told.2.fault, told.2.answered ∙ ap IsSyntax at)

  named_break : (depth : ℕ) (due : List ℕ) (old new : Decoder R) (place : ℕ) (fault : Fault)
      → SkipsTold source Any depth due old (Err (s.Break place)) new → old.offset ≡ 0
      → fault ≡ Break place → HasFault depth due fault
  named_break depth due old new place fault told start n =
      let at : place ≡ length told.fault.before = omega (arith, told.place, start) in
      subst (λ (f : Fault). HasFault depth due f) (sym n) (told.fault, at)

  named_deep : (depth : ℕ) (due : List ℕ) (old new : Decoder R) (place : ℕ) (fault : Fault)
      → SkipsTold source Any depth due old (Err (s.Deep place)) new → old.offset ≡ 0
      → fault ≡ Deep place → HasFault depth due fault
  named_deep depth due old new place fault told start n =
      let at : place ≡ length told.fault.before = omega (arith, told.place, start) in
      subst (λ (f : Fault). HasFault depth due f) (sym n) (told.fault, at)

  fault_named : (depth : ℕ) (due : List ℕ) (old new : Decoder R) (error : SkipError E) (fault : Fault)
      → SkipsTold source Any depth due old (Err error) new → old.offset ≡ 0 → NamesFault error fault
      → HasFault depth due fault
  fault_named depth due old new (s.Read (e.Io cause)) fault told start n =
      named_short depth due old new cause fault told n
  fault_named depth due old new (s.Read (e.Syntax place)) fault told start n =
      named_syntax depth due old new place fault told start n
  fault_named depth due old new (s.Read e.TooLong) fault told start n = absurd n
  fault_named depth due old new (s.Read e.Waiting) fault told start n = absurd n
  fault_named depth due old new (s.Break place) fault told start n =
      named_break depth due old new place fault told start n
  fault_named depth due old new (s.Deep place) fault told start n =
      named_deep depth due old new place fault told start n

  -- An error of a decoder that is not strict is a fact of its bytes.
  pub told_of_bytes : (allowed : Spelling) (depth : ℕ) (due : List ℕ) (old new : Decoder R) (error : SkipError E)
      → allowed ≡ Any → SkipsTold source allowed depth due old (Err error) new → IsOfBytes error
  told_of_bytes allowed depth due old new error z told =
      of_bytes depth due old new error
      (subst (λ (b : Spelling). SkipsTold source b depth due old (Err error) new) z told)

  pub told_fault : (allowed : Spelling) (depth : ℕ) (due : List ℕ) (old new : Decoder R) (error : SkipError E)
      (fault : Fault) → allowed ≡ Any → SkipsTold source allowed depth due old (Err error) new → old.offset ≡ 0
      → NamesFault error fault → HasFault depth due fault
  told_fault allowed depth due old new error fault z told start n =
      fault_named depth due old new error fault
      (subst (λ (b : Spelling). SkipsTold source b depth due old (Err error) new) z told) start n
