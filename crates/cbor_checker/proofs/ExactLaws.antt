-- The bytes alone decide whether an item has ended or has a fault.
use Rattle.std.proofs.Common.{ℕ, suc, ◌↔◌, List, [], ◌++◌, length, sym, ap, subst, ◌∙◌, arith, append-nil}
use Rattle.std.proofs.Common.{length-append, inl, inr}
use Rattle.ciborium_ll_grammar.specs.declared.spelling.Spelling.{Spelling}
use Rattle.ciborium_ll_grammar.specs.Items.{IsItem}
use Rattle.ciborium_ll_grammar.specs.Title.{IsCutTitle}
use Rattle.ciborium_ll_grammar.proofs.AffixLaws.{announced, title_not_cut}
use Rattle.cbor_checker.specs.Spots.{Spot}
use Rattle.cbor_checker.specs.Steps.{IsFed}
use Rattle.cbor_checker.specs.Telling.{HasEnded, IsAtFault}
use Rattle.cbor_checker.proofs.Waiting.{BodyThen}
use Rattle.cbor_checker.proofs.StepLaws.{Titled, due_titled, fed_same}
use Rattle.cbor_checker.proofs.LiveLaws.{FrontSound, fed_sound, fed_goes}

-- ---- a fault

-- There is a fault exactly if no item begins with the bytes so far.
pub fault_exact : (s : Spelling) (d : ℕ) (fed : List ℕ) (spot : Spot) → IsFed s d fed spot
    → IsAtFault spot ↔ ((more : List ℕ) → IsItem s d (fed ++ more) → ⊥)
fault_exact s d fed spot is = (
  λ has y i. let waits = (fed_same s d fed spot is y).0 i in grind arith,
  λ never. let goes = fed_goes s d fed spot is in grind arith,
)

-- ---- an end

-- A title that is due does not come if no byte follows.
no_title : (spot : Spot) → FrontSound spot → Titled spot.allowed (spot.front ++ []) → ⊥
no_title spot (inl clear) o =
    let begun = announced o.title o.header o.is_title in grind (arith, length-append)
no_title spot (inr c) o =
    title_not_cut o.title o.rest o.header o.is_title
    (subst IsCutTitle (sym (append-nil spot.front) ∙ o.is) c.1)

body_none : (n : ℕ) (P Then : List ℕ → Type 0) → BodyThen (suc n) P Then [] → ⊥
body_none n P Then o = let whole = ap length o.is in omega (arith, whole, o.long, length-append o.body o.rest)

-- The item has ended exactly if the bytes so far are an item.
pub ended_exact : (s : Spelling) (d : ℕ) (fed : List ℕ) (spot : Spot) → IsFed s d fed spot → HasEnded spot
    ↔ IsItem s d fed
ended_exact s d fed spot is =
    let same = fed_same s d fed spot is [] in
    let sound = fed_sound s d fed spot is in (
      λ has. rw append-nil at (same.1 (grind arith)),
      λ item. let waits = same.0 (rw append-nil item) in grind (arith, no_title, body_none, due_titled),
    )
