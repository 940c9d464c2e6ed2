-- The spot after a whole item, as the code makes it.
use Rattle.std.proofs.Common.{◌≡◌, ℕ, suc, ◌+◌, ◌-◌, true, List, [], ◌∷◌, Some, None, refl, ◌∙◌, arith}
use Rattle.std.proofs.lemmas.Bool.Decides.{nat_tests}
use Rattle.ciborium_ll_grammar.specs.declared.remaining.Remaining.{Remaining}
use Rattle.cbor_checker.specs.declared.phase.Phase.{Phase}
use Rattle.cbor_parser.specs.declared.strings.Within.{Within}
use Rattle.ciborium_ll_grammar.specs.Remaining.{next}
use Rattle.cbor_checker.specs.Levels.{ends_before}
use Rattle.cbor_checker.specs.Stack.{innermost, others}
use Rattle.cbor_checker.specs.Spots.{Spot, settled, item_done, item_due, nested, broken}

-- `settled` does not depend on the levels, the depth, the phase or the open strings of the spot.
settled_same : (fs : List Remaining) (d : ℕ) (s : Spot) (a : ℕ) (b : List Remaining) (phase : Phase) (i : Within)
    → settled d fs (record s { depth = a; levels = b; phase = phase; within = i }) ≡ settled d fs s
settled_same [] d s a b phase i = refl
settled_same (f ∷ fs) d s a b phase i = let same = settled_same fs (suc d) s a b phase i in grind (arith, nat_tests)

pub settled_alike : (fs : List Remaining) (d : ℕ) (s : Spot) (a : ℕ) (b : List Remaining)
    → settled d fs (record s { depth = a; levels = b }) ≡ settled d fs s
settled_alike fs d s a b = settled_same fs d s a b s.phase s.within

pub settled_anyhow : (fs : List Remaining) (d : ℕ) (s : Spot) (a : Phase) (b : Within)
    → settled d fs (record s { phase = a; within = b }) ≡ settled d fs s
settled_anyhow fs d s a b = settled_same fs d s s.depth s.levels a b

-- ---- a nest

nest_goes : (depth : ℕ) (s : Spot) (inner left : Remaining) → (depth ≡ 0 → ⊥) → next inner ≡ Some left
    → item_due (depth - 1) (left ∷ s.levels) s ≡ nested depth inner s
nest_goes depth s inner left some e = grind (arith, nat_tests)

pub nested_goes : (s new : Spot) (inner left : Remaining) → (s.depth ≡ 0 → ⊥) → next inner ≡ Some left
    → new ≡ item_due (s.depth - 1) (left ∷ s.levels) s → new ≡ nested s.depth inner s
nested_goes s new inner left some e is = is ∙ nest_goes s.depth s inner left some e

-- An empty nest takes a level and gives it back.
nest_ends : (depth : ℕ) (s : Spot) (inner : Remaining) → (depth ≡ 0 → ⊥) → next inner ≡ None
    → settled depth s.levels s ≡ nested depth inner s
nest_ends depth s inner some e = grind (arith, nat_tests)

pub nested_ends : (s new : Spot) (inner : Remaining) → (s.depth ≡ 0 → ⊥) → next inner ≡ None → new ≡ item_done s
    → new ≡ nested s.depth inner s
nested_ends s new inner some e is = is ∙ nest_ends s.depth s inner some e

-- ---- a break

broken_by : (levels : List Remaining) (s new : Spot) (level : Remaining) → Some level ≡ innermost levels → ends_before level ≡ true
    → new ≡ item_done (record s { depth = s.depth + 1; levels = others levels }) → new ≡ broken levels s
broken_by levels s new level e may done = grind (arith, nat_tests, settled_alike)

pub broken_done : (s new : Spot) (level : Remaining) → Some level ≡ innermost s.levels → ends_before level ≡ true
    → new ≡ item_done (record s { depth = s.depth + 1; levels = others s.levels }) → new ≡ broken s.levels s
broken_done s new level e may done = broken_by s.levels s new level e may done
