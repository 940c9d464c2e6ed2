-- The state that plain numbers hold.
use Rattle.std.proofs.Common.{◌≡◌, ◌∙◌, ℕ, List, Option, Some, None, refl, sym, ap, subst}
use Rattle.std.specs.Prelude.{IfSome, IsSome, IsSomeAnd}
use Rattle.ciborium_ll_grammar.specs.declared.spelling.Spelling.{Spelling}
use Rattle.cbor_copier.specs.declared.copier.Copier.{Copier}
use Rattle.cbor_copier.specs.declared.phase.Phase.{Phase}
use Rattle.cbor_parser.specs.declared.strings.Within.{Within}
use Rattle.cbor_copier.specs.declared.progress.End.{End}
use Rattle.cbor_copier.specs.declared.progress.Progress.{Progress}
use Rattle.cbor_copier.specs.declared.snapshot.Snapshot.{Snapshot}
use Rattle.cbor_copier.specs.Copying.{Answers, AnswersEnd, HasCopied, HoldsSome, IsAt, IsCopiedTo}
use Rattle.cbor_copier.specs.Copying.{Keeps, Saves, spot_of}
use Rattle.cbor_copier.specs.Snapshots.{Holds}
use Rattle.cbor_copier.specs.Spots.{Spot}
use Rattle.cbor_copier.specs.Telling.{end_of, progress_of}

abbrev at_parts : Spelling → Phase → List ℕ → Within → ℕ → ℕ → ℕ → List ℕ → Spot
at_parts allowed phase front within left place offset put = record {
  allowed = allowed;
  phase = phase;
  front = front;
  within = within;
  left = left;
  place = place;
  offset = offset;
  put = put;
}

-- The same numbers hold one spot.
pub same_held : (snapshot : Snapshot) (one other : Spot) → Holds snapshot one → Holds snapshot other → one ≡ other
same_held snapshot one other a b =
    let allowed : one.allowed ≡ other.allowed = let same = sym a.allowed ∙ b.allowed in cc in
    let phase : one.phase ≡ other.phase = let same = sym a.phase ∙ b.phase in cc in
    let front : one.front ≡ other.front = sym a.front ∙ b.front in
    let within : one.within ≡ other.within = let same = sym a.within ∙ b.within in cc in
    let left : one.left ≡ other.left = sym a.left ∙ b.left in
    let place : one.place ≡ other.place = sym a.place ∙ b.place in
    let offset : one.offset ≡ other.offset = sym a.offset ∙ b.offset in
    let put : one.put ≡ other.put = sym a.put ∙ b.put in
    let same : at_parts one.allowed one.phase one.front one.within one.left one.place one.offset one.put
    ≡ at_parts other.allowed other.phase other.front other.within other.left other.place other.offset other.put =
    cc in
    same

saved_spot : (snapshot : Snapshot) (one other : Copier) → Saves one snapshot → Saves other snapshot
    → spot_of one ≡ spot_of other
unfolding Saves
saved_spot snapshot one other a b = same_held snapshot (spot_of one) (spot_of other) a b

pub saved_answer : (snapshot : Snapshot) (one other : Copier) (first second : Progress) → Saves one snapshot
    → Saves other snapshot → Answers one first → Answers other second → first ≡ second
unfolding Answers
saved_answer snapshot one other first second a b says tells =
    let same = saved_spot snapshot one other a b in
    says ∙ (ap (λ (spot : Spot). progress_of spot.put spot.phase) same ∙ sym tells)

pub saved_end : (snapshot : Snapshot) (one other : Copier) (first second : End) → Saves one snapshot
    → Saves other snapshot → AnswersEnd one first → AnswersEnd other second → first ≡ second
unfolding AnswersEnd
saved_end snapshot one other first second a b says tells =
    let same = saved_spot snapshot one other a b in
    says ∙ (ap (λ (spot : Spot). end_of spot.put spot.phase) same ∙ sym tells)

-- A copier with numbers that keep these bytes has read and written them.
pub saved_read : (allowed : Spelling) (count : ℕ) (read written : List ℕ) (copier : Copier) (snapshot : Snapshot)
    → Keeps allowed count read written snapshot → Saves copier snapshot → HasCopied allowed count read written copier
unfolding Keeps Saves HasCopied
saved_read allowed count read written copier snapshot keeps saves =
    let (spot, copied, holds) = keeps in
    subst (IsCopiedTo allowed count read written) (same_held snapshot spot (spot_of copier) holds saves) copied

pub saved_some : (copier : Copier) (snapshot : Snapshot) → Saves copier snapshot → HoldsSome snapshot
unfolding Saves HoldsSome
saved_some copier snapshot saves = (spot_of copier, saves)

-- ---- the copier that plain numbers hold

module _ (snapshot : Snapshot) where
  pub kept_copier : (found : Option Copier) → ((spot : Spot) → Holds snapshot spot → IsAt found spot)
      → (allowed : Spelling) (count : ℕ) (read written : List ℕ) → Keeps allowed count read written snapshot
      → IsSomeAnd found (λ copier. HasCopied allowed count read written copier)
  unfolding Keeps HasCopied
  kept_copier None same allowed count read written keeps = same keeps.0 keeps.2
  kept_copier (Some copier) same allowed count read written keeps =
      subst (IsCopiedTo allowed count read written) (sym (same keeps.0 keeps.2)) keeps.1

  pub saved_copier : (found : Option Copier) → IfSome found (λ copier. Holds snapshot (spot_of copier))
      → IfSome found (λ copier. Saves copier snapshot)
  unfolding Saves
  saved_copier None holds = tt
  saved_copier (Some copier) holds = holds

  pub found_copier : (found : Option Copier) → ((spot : Spot) → Holds snapshot spot → IsAt found spot)
      → HoldsSome snapshot → IsSome found
  unfolding HoldsSome
  found_copier None same some = absurd (same some.0 some.1)
  found_copier (Some copier) same some = refl
