-- Bytes that begin with no title, and bytes that begin with one.
use Rattle.std.proofs.Common.{◌≡◌, ℕ, inl, inr, List, ◌++◌, refl, sym, ◌∙◌, subst}
use Rattle.std.specs.List.{IsSplitAt}
use Rattle.std.proofs.lemmas.List.{take-append-drop}
use Rattle.ciborium_ll_grammar.specs.declared.hdr.Header.{Header}
use Rattle.ciborium_ll_grammar.specs.Title.{IsTitle, IsCutTitle, BeginsRefused, HasNoTitle, HasFirstTitle}
use Rattle.ciborium_ll_grammar.proofs.TitleLaws.{title_refused}
use Rattle.ciborium_ll_grammar.proofs.AffixLaws.{title_not_cut}

-- Bytes that begin with no title are no title, followed by further bytes.
pub no_title_there : (bytes title rest : List ℕ) (header : Header) → HasNoTitle bytes → IsTitle title header
    → bytes ≡ title ++ rest → ⊥
no_title_there bytes title rest header (inl cut) is_title whole =
    title_not_cut title rest header is_title (subst IsCutTitle whole cut)
no_title_there bytes title rest header (inr refused) is_title whole =
    title_refused title rest header is_title (subst BeginsRefused whole refused)

-- Bytes that begin with a title are not bytes that begin with none.
pub first_or_none : (bytes rest : List ℕ) (header : Header) → HasNoTitle bytes → HasFirstTitle bytes header rest → ⊥
first_or_none bytes rest header none first = no_title_there bytes first.title rest header none first.is_title first.whole

-- Bytes are the two parts of a split, joined.
pub split_whole : (bytes front back : List ℕ) (mid : ℕ) → IsSplitAt bytes mid front back → bytes ≡ front ++ back
split_whole bytes front back mid split = sym (take-append-drop mid bytes) ∙ sym (rw (split.1, split.2) refl)
