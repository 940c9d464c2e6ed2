-- Pieces of an item that are joined.
use Rattle.std.proofs.Common.{◌≡◌, ℕ, ◌+◌, ◌-◌, ◌≤◌, List, ◌++◌, length, take, sym, ap, subst, ◌∙◌, arith}
use Rattle.std.proofs.Common.{append_assoc, length-append, inl, inr}
use Rattle.std.proofs.lemmas.Bool.{cases_lt}
use Rattle.std.proofs.lemmas.List.{take-append-le}
use Rattle.std.proofs.Math.Seq.{take-append-add}
use Rattle.ciborium_ll_grammar.specs.declared.spelling.Spelling.{Spelling}
use Rattle.cbor_item_copier.specs.declared.progress.Copied.{Copied}
use Rattle.cbor_item_copier.specs.Reading.{Copies, IsMore}

module _ (s : Spelling) (d : ℕ) (read written one two put more : List ℕ) where
  -- The first piece is taken whole.
  pub joined : (first second all : Copied) → Copies s d read written one put first → first.taken ≡ length one
      → Copies s d (read ++ one) (written ++ put) two more second → all.taken ≡ length one + second.taken
      → all.progress ≡ second.progress → Copies s d read written (one ++ two) (put ++ more) all
  joined first second all a whole b is same =
      let long = length-append one two in
      let split : (k : ℕ) → read ++ take (length one + k) (one ++ two) ≡ (read ++ one) ++ take k two =
      λ k. ap (λ (z : List ℕ). read ++ z) (take-append-add one two k) ∙ sym (append_assoc read one (take k two)) in
      record {
        taken = omega (arith, is, long, b.taken);
        goes = λ len less. elim (cases_lt len (length one)) [
          | inl early ↦ rw (take-append-le len one two (omega (arith, early)))
              (a.goes len (omega (arith, early, whole)))
          | inr late ↦
              let k : ℕ = len - length one in
              let at : len ≡ length one + k = omega (arith, late) in
              rw (at, split k) (b.goes k (omega (arith, less, is, late)))
        ];
        all = λ due. omega (arith, is, long, b.all (subst IsMore same due));
        long = λ far. omega (arith, is, long, b.long (sym same ∙ far));
        tells = rw (is, same, split second.taken, ← append_assoc written put more) b.tells;
      }

-- The first piece has all that is taken.
pub kept_in : (s : Spelling) (d : ℕ) (read written one two put : List ℕ) (copied : Copied)
    → Copies s d read written one put copied → (IsMore copied.progress → ⊥)
    → Copies s d read written (one ++ two) put copied
kept_in s d read written one two put copied a none =
    let long = length-append one two in
    let same : (k : ℕ) → k ≤ copied.taken → take k (one ++ two) ≡ take k one =
    λ k less. take-append-le k one two (omega (arith, less, a.taken)) in
    record {
      taken = omega (arith, a.taken, long);
      goes = λ len less. rw (same len (omega (arith, less))) (a.goes len less);
      all = λ due. absurd (none due);
      long = λ far. omega (arith, long, a.long far);
      tells = rw (same copied.taken (omega arith)) a.tells;
    }
