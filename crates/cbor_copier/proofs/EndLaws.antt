-- The answer of a copier if no more bytes come.
use Rattle.std.proofs.Common.{◌≡◌, ◌≢◌, ◌∙◌, ◌↔◌, ℕ, List, [], ◌∷◌, refl, sym, ap}
use Rattle.ciborium_ll_grammar.specs.declared.spelling.Spelling.{Spelling}
use Rattle.cbor_copier.specs.declared.copier.Copier.{Copier}
use Rattle.cbor_copier.specs.declared.phase.Phase.{Phase}
use Rattle.cbor_copier.specs.declared.phase.Phase.TheVariants as p
use Rattle.cbor_copier.specs.declared.progress.End.{End}
use Rattle.cbor_copier.specs.declared.progress.End.TheVariants as e
use Rattle.cbor_copier.specs.Copying.{Answers, AnswersEnd, HasCopied, pending}
use Rattle.cbor_copier.specs.Reading.{AreSpelled, TellsEnd, progress_at}
use Rattle.cbor_copier.specs.Telling.{end_of, progress_of}
use Rattle.cbor_copier.proofs.ReadLaws.{one_place}
use Rattle.cbor_copier.proofs.TellLaws.{copier_ends, copier_exact}

-- ---- what it says

pub end_exact : (copier : Copier) (end : End) → AnswersEnd copier end
    → (allowed : Spelling) (count : ℕ) (read written : List ℕ)
    → HasCopied allowed count read written copier → (end ≡ e.Ended) ↔ AreSpelled allowed count read written
unfolding AnswersEnd HasCopied
end_exact copier end is allowed count read written so = copier_exact copier end is allowed count read written so

pub end_told : (copier : Copier) (end : End) → AnswersEnd copier end
    → (allowed : Spelling) (count : ℕ) (read written : List ℕ)
    → HasCopied allowed count read written copier → TellsEnd allowed count read written end
unfolding AnswersEnd HasCopied
end_told copier end is allowed count read written so = copier_ends copier end is allowed count read written so

some_by : (bytes : List ℕ) (phase : Phase) → e.Room ≡ end_of bytes phase → bytes ≢ []
some_by [] p.Ended is none = cc
some_by [] phase is none = cc
some_by (b ∷ bytes) phase is none = cc

none_by : (bytes : List ℕ) (phase : Phase) → (end_of bytes phase ≡ e.Room → ⊥) → bytes ≡ []
none_by [] phase some = refl
none_by (b ∷ bytes) phase some = absurd (some refl)

pub end_some : (copier : Copier) (end : End) → AnswersEnd copier end → end ≡ e.Room → pending copier ≢ []
unfolding AnswersEnd pending
end_some copier end is room = some_by copier.pending copier.phase (sym room ∙ is)

pub end_none : (copier : Copier) (end : End) → AnswersEnd copier end → (end ≡ e.Room → ⊥) → pending copier ≡ []
unfolding AnswersEnd pending
end_none copier end is some = none_by copier.pending copier.phase (λ room. some (is ∙ room))

-- ---- the answer to a piece

same_by : (bytes : List ℕ) (phase : Phase) → progress_at (end_of bytes phase) ≡ progress_of bytes phase
same_by [] p.Ended = refl
same_by [] (p.Faulted place) = refl
same_by [] phase = refl
same_by (b ∷ bytes) phase = refl

pub end_answers : (copier : Copier) (end : End) → AnswersEnd copier end → Answers copier (progress_at end)
unfolding Answers AnswersEnd
end_answers copier end is = ap progress_at is ∙ same_by copier.pending copier.phase

-- ---- the same bytes, the same answer

pub one_end : (allowed : Spelling) (count : ℕ) (read written : List ℕ) (one other : Copier) (first second : End)
    → HasCopied allowed count read written one → HasCopied allowed count read written other → AnswersEnd one first
    → AnswersEnd other second → first ≡ second
unfolding AnswersEnd
one_end allowed count read written one other first second a b says tells =
    let same = one_place allowed count read written one other a b in
    says ∙ (rw (same.0, same.1) refl ∙ sym tells)

pub same_end : (allowed : Spelling) (count : ℕ) (read written : List ℕ) (one other : Copier) (end : End)
    → HasCopied allowed count read written one
    → HasCopied allowed count read written other → AnswersEnd one end → AnswersEnd other end
unfolding AnswersEnd
same_end allowed count read written one other end a b says =
    let same = one_place allowed count read written one other a b in says ∙ rw (same.0, same.1) refl
