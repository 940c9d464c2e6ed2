-- The states that plain numbers hold.
use Rattle.std.proofs.Common.{◌≡◌, ◌∙◌, ℕ, List, refl, sym, ap}
use Rattle.ciborium_ll_grammar.specs.declared.spelling.Spelling.{Spelling}
use Rattle.cbor_checker.specs.Checking as check
use Rattle.cbor_checker.proofs.SavedLaws.{one_held}
use Rattle.cbor_copier.specs.Copying as copy
use Rattle.cbor_copier.specs.Spots.{Spot as Elements}
use Rattle.cbor_copier.proofs.SavedLaws.{same_held}
use Rattle.cbor_item_copier.specs.declared.copier.ItemCopier.{ItemCopier}
use Rattle.cbor_item_copier.specs.declared.progress.End.{End}
use Rattle.cbor_item_copier.specs.declared.progress.Progress.{Progress}
use Rattle.cbor_item_copier.specs.declared.snapshot.Snapshot.{Snapshot}
use Rattle.cbor_item_copier.specs.Copying.{Answers, AnswersEnd, HasCopied, item_spot, pending}
use Rattle.cbor_item_copier.specs.Snapshots.{HoldsSome, Keeps, Saves, kept_spot}

saved_item : (snapshot : Snapshot) (one other : ItemCopier) → Saves one snapshot → Saves other snapshot
    → item_spot one ≡ item_spot other
unfolding check.Saves
saved_item snapshot one other a b = one_held snapshot.checker (item_spot one) (item_spot other) a.0 b.0

saved_elements : (snapshot : Snapshot) (one other : ItemCopier) → Saves one snapshot → Saves other snapshot
    → kept_spot one ≡ kept_spot other
unfolding copy.Saves
saved_elements snapshot one other a b = same_held snapshot.copier (kept_spot one) (kept_spot other) a.1 b.1

saved_pending : (snapshot : Snapshot) (one other : ItemCopier) → Saves one snapshot → Saves other snapshot
    → pending one ≡ pending other
unfolding copy.pending
saved_pending snapshot one other a b = ap (λ (z : Elements). z.put) (saved_elements snapshot one other a b)

pub saved_answer : (snapshot : Snapshot) (one other : ItemCopier) (first second : Progress) → Saves one snapshot
    → Saves other snapshot → Answers one first → Answers other second → first ≡ second
unfolding Answers
saved_answer snapshot one other first second a b says tells =
    says ∙ (rw (saved_pending snapshot one other a b, saved_item snapshot one other a b) refl ∙ sym tells)

pub saved_end : (snapshot : Snapshot) (one other : ItemCopier) (first second : End) → Saves one snapshot
    → Saves other snapshot → AnswersEnd one first → AnswersEnd other second → first ≡ second
unfolding AnswersEnd
saved_end snapshot one other first second a b says tells =
    says ∙ (rw (saved_pending snapshot one other a b, saved_item snapshot one other a b) refl ∙ sym tells)

-- A copier with numbers that keep these bytes has read and written them.
pub saved_read : (allowed : Spelling) (depth : ℕ) (read written : List ℕ) (copier : ItemCopier) (snapshot : Snapshot)
    → Keeps allowed depth read written snapshot → Saves copier snapshot → HasCopied allowed depth read written copier
unfolding Keeps check.Saves copy.Saves copy.pending HasCopied
saved_read allowed depth read written copier snapshot keeps saves =
    let (item, elements, fed, holds) = keeps in
    let item_is = one_held snapshot.checker item (item_spot copier) holds.item_is saves.0 in
    let elements_are = same_held snapshot.copier elements (kept_spot copier) holds.elements_are saves.1 in
    rw (item_is, elements_are) at fed

-- Numbers that keep some bytes are those of a state.
pub keeps_some : (allowed : Spelling) (depth : ℕ) (read written : List ℕ) (snapshot : Snapshot)
    → Keeps allowed depth read written snapshot → HoldsSome snapshot
unfolding Keeps check.HoldsSome copy.HoldsSome
keeps_some allowed depth read written snapshot keeps =
    let (item, elements, fed, holds) = keeps in ((item, holds.item_is), (elements, holds.elements_are))

pub saves_keep : (allowed : Spelling) (depth : ℕ) (read written : List ℕ) (copier : ItemCopier) (snapshot : Snapshot)
    → Saves copier snapshot → HasCopied allowed depth read written copier → Keeps allowed depth read written snapshot
unfolding Keeps check.Saves copy.Saves copy.pending HasCopied
saves_keep allowed depth read written copier snapshot saves was = (
  item_spot copier,
  kept_spot copier,
  was,
  record { item_is = saves.0; elements_are = saves.1 },
)

pub saves_some : (copier : ItemCopier) (snapshot : Snapshot) → Saves copier snapshot → HoldsSome snapshot
unfolding check.Saves copy.Saves check.HoldsSome copy.HoldsSome
saves_some copier snapshot saves = ((item_spot copier, saves.0), (kept_spot copier, saves.1))
