-- The state that plain numbers hold.
use Rattle.ciborium_ll_grammar.specs.declared.spelling.Spelling.{Spelling}
use Rattle.std.proofs.Common.{◌≡◌, ◌∙◌, ℕ, List, sym, ap}
use Rattle.cbor_checker.specs.declared.checker.Checker.{Checker}
use Rattle.ciborium_ll_grammar.specs.declared.remaining.Remaining.{Remaining}
use Rattle.cbor_checker.specs.declared.phase.Phase.{Phase}
use Rattle.cbor_parser.specs.declared.strings.Within.{Within}
use Rattle.cbor_checker.specs.declared.progress.End.{End}
use Rattle.cbor_checker.specs.declared.progress.Progress.{Progress}
use Rattle.cbor_checker.specs.declared.snapshot.Snapshot.{Snapshot}
use Rattle.cbor_checker.specs.Checking.{Answers, AnswersEnd, Saves, spot_of}
use Rattle.cbor_checker.specs.Snapshots.{Holds}
use Rattle.cbor_checker.specs.Spots.{Spot}
use Rattle.cbor_checker.specs.Telling.{end_of, progress_of}

abbrev at_parts : Spelling → Phase → List ℕ → Within → ℕ → List Remaining → ℕ → ℕ → Spot
at_parts allowed phase front within depth levels place offset = record {
  allowed = allowed;
  phase = phase;
  front = front;
  within = within;
  depth = depth;
  levels = levels;
  place = place;
  offset = offset;
}

-- The same numbers hold one spot.
pub one_held : (snapshot : Snapshot) (one other : Spot) → Holds snapshot one → Holds snapshot other → one ≡ other
one_held snapshot one other a b =
    let allowed : one.allowed ≡ other.allowed = let same = sym a.allowed ∙ b.allowed in cc in
    let phase : one.phase ≡ other.phase = let same = sym a.phase ∙ b.phase in cc in
    let front : one.front ≡ other.front = sym a.title ∙ b.title in
    let within : one.within ≡ other.within = let same = sym a.within ∙ b.within in cc in
    let depth : one.depth ≡ other.depth = sym a.depth ∙ b.depth in
    let levels : one.levels ≡ other.levels = let same = sym a.levels ∙ b.levels in cc in
    let place : one.place ≡ other.place = sym a.place ∙ b.place in
    let offset : one.offset ≡ other.offset = sym a.offset ∙ b.offset in
    let same : at_parts one.allowed one.phase one.front one.within one.depth one.levels one.place one.offset
    ≡ at_parts other.allowed other.phase other.front other.within other.depth other.levels other.place other.offset =
    cc in
    same

pub saved_answer : (snapshot : Snapshot) (one other : Checker) (first second : Progress) → Saves one snapshot
    → Saves other snapshot → Answers one first → Answers other second → first ≡ second
unfolding Answers Saves
saved_answer snapshot one other first second a b says tells =
    says ∙ (ap progress_of (one_held snapshot (spot_of one) (spot_of other) a b) ∙ sym tells)

pub saved_end : (snapshot : Snapshot) (one other : Checker) (first second : End) → Saves one snapshot
    → Saves other snapshot → AnswersEnd one first → AnswersEnd other second → first ≡ second
unfolding AnswersEnd Saves
saved_end snapshot one other first second a b says tells =
    says ∙ (ap end_of (one_held snapshot (spot_of one) (spot_of other) a b) ∙ sym tells)
