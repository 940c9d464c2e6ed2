-- The bytes that are due after the end of a level or of a string.
use Rattle.std.proofs.Common.{◌≡◌, ℕ, suc, ◌-◌, ◌⊎◌, true, List, [], ◌∷◌, ◌++◌, Option, Some, None, refl, subst}
use Rattle.std.proofs.Common.{inl, inr, arith, append_assoc, append-nil}
use Rattle.ciborium_ll_grammar.specs.declared.spelling.Spelling.{Spelling}
use Rattle.ciborium_ll_grammar.specs.declared.hdr.Header.{Header}
use Rattle.ciborium_ll_grammar.specs.Title.{IsTitle}
use Rattle.ciborium_ll_grammar.specs.Items.{Completes, AreItems, IsTakenTitle, no_items, more_items, IsItem}
use Rattle.ciborium_ll_grammar.specs.declared.remaining.Remaining.{Remaining}
use Rattle.ciborium_ll_grammar.specs.declared.remaining.Remaining.TheVariants as l
use Rattle.cbor_parser.specs.declared.strings.Within.{Within}
use Rattle.cbor_parser.specs.declared.strings.Within.TheVariants as w
use Rattle.ciborium_ll_grammar.specs.Remaining.{next}
use Rattle.cbor_checker.specs.Levels.{ends_before}
use Rattle.cbor_checker.specs.Spots.{Spot, settled, string_done}
use Rattle.cbor_checker.proofs.Waiting.{Takes, EndsLevel, Ends, ItemThen, BreakThen, StringDone, Waits}

-- ---- one level

-- If a level takes `n + 1` items, the level after one item takes `n` items.
next_takes : (f g : Remaining) (n : ℕ) (e : List ℕ) → next f ≡ Some g → Takes f (suc n) e → Takes g n e
next_takes l.OpenPairs g n e d ((k, q), u) =
    let same : l.OpenValue ≡ g = cc in rw (← same) ((k - 1, omega (arith, q)), u)
next_takes f g n e d t = grind arith

next_back : (f g : Remaining) (n : ℕ) (e : List ℕ) → next f ≡ Some g → Takes g n e → Takes f (suc n) e
next_back l.OpenPairs g n e d t =
    let same : g ≡ l.OpenValue = cc in let ((k, q), u) = rw same at t in ((suc k, omega (arith, q)), u)
next_back f g n e d t = grind arith

-- ---- a level with one more item due

-- A title and the bytes that complete its header are an item.
pub item_of : (s : Spelling) (d : ℕ) (t r : List ℕ) (x : Header) → IsTitle t x → IsTakenTitle s t x → Completes s d x r
    → IsItem s d (t ++ r)
item_of s d t r x p g c = subst (λ (z : List ℕ). IsItem s d (t ++ z)) (append-nil r) (more_items p g c no_items)

module _ (s : Spelling) (f g : Remaining) (d : ℕ) (Then : List ℕ → Type 0) (goes : next f ≡ Some g) where
  level_opens : (n : ℕ) (items e rest y : List ℕ) → AreItems s d n items → Takes f n e → Then rest
      → y ≡ items ++ (e ++ rest) → ItemThen s d (EndsLevel s g d Then) y ⊎ BreakThen g Then y
  level_opens n items e rest y no_items t k is =
      let end : (ends_before g ≡ true) × (e ≡ 0xff ∷ []) = grind arith in let there = rw end.1 at is in inr (search)
  level_opens n items e rest y (more_items {count = m} {title = t} {rest = r} {others = a} {header = x} q v c i) u k
      is =
      let is_item = item_of s d t r x q v c in
      let takes = next_takes f g m e goes u in
      let behind : EndsLevel s g d Then (a ++ (e ++ rest)) = search in
      let there : y ≡ (t ++ r) ++ (a ++ (e ++ rest)) = simp (is, append_assoc) in inl (search)

  -- One item and then the other items of a level end the level.
  item_then_items : (n : ℕ) (item a e rest y : List ℕ) → IsItem s d item → AreItems s d n a → Takes g n e → Then rest
      → y ≡ item ++ (a ++ (e ++ rest)) → EndsLevel s f d Then y
  item_then_items n item a e rest y (more_items {title = t} {rest = r} {header = x} q v c no_items) i u k is =
      let takes = next_back f g n e goes u in
      let are : AreItems s d (suc n) (t ++ (r ++ a)) = more_items q v c i in
      let there : y ≡ (t ++ (r ++ a)) ++ (e ++ rest) = simp (is, append_assoc, append-nil) in search

  level_closes : (y : List ℕ) → ItemThen s d (EndsLevel s g d Then) y ⊎ BreakThen g Then y → EndsLevel s f d Then y
  level_closes y (inl o) =
      let b = o.behind in
      item_then_items b.count o.item b.items b.end b.rest y o.is_item b.are_items b.takes b.behind (simp (o.is, b.is))
  level_closes y (inr o) =
      let takes : Takes f 0 (0xff ∷ []) = grind arith in let none : AreItems s d 0 [] = no_items in search

-- ---- all levels

-- Each of both implies the other.
abbrev pub Same : Type 0 → Type 0 → Type 0
Same A B = (A → B) × (B → A)

-- A level without an item due ends with no byte.
done_level : (s : Spelling) (f : Remaining) (d : ℕ) (Then : List ℕ → Type 0) → next f ≡ None
    → (n : ℕ) (items e rest y : List ℕ)
    → AreItems s d n items → Takes f n e → Then rest → y ≡ items ++ (e ++ rest) → Then y
done_level s f d Then done n items e rest y no_items t k is =
    let end : e ≡ [] = grind arith in rw (is, end) k
done_level s f d Then done n items e rest y (more_items q v c i) t k is =
    absurd (grind arith)

settled_next : (o : Option Remaining) (f : Remaining) (fs : List Remaining) (d : ℕ) (spot : Spot) (y : List ℕ) → next f ≡ o
    → spot.front ≡ [] → Same (Ends spot.allowed (suc d) fs y) (Waits (settled (suc d) fs spot) y)
    → Same (Ends spot.allowed d (f ∷ fs) y) (Waits (settled d (f ∷ fs) spot) y)
settled_next None f fs d spot y e clear same =
    rw (e, settled) (
      λ o. same.0 (done_level spot.allowed f d (Ends spot.allowed (suc d) fs) e o.count o.items o.end o.rest y
          o.are_items o.takes o.behind o.is),
      λ waits. let behind = same.1 waits in let takes : Takes f 0 [] = grind arith in
          let none : AreItems spot.allowed d 0 [] = no_items in search,
    )
settled_next (Some g) f fs d spot y e clear same =
    rw (e, settled, clear) (
      λ o. level_opens spot.allowed f g d _ e o.count o.items o.end o.rest y o.are_items o.takes o.behind o.is,
      λ waits. level_closes spot.allowed f g d _ e y waits,
    )

-- After a whole item, the spot waits for the bytes that end all levels.
pub settles : (fs : List Remaining) (d : ℕ) (spot : Spot) (y : List ℕ) → spot.front ≡ []
    → Same (Ends spot.allowed d fs y) (Waits (settled d fs spot) y)
settles [] d spot y clear = (λ e. e, λ e. e)
settles (f ∷ fs) d spot y clear = settled_next (next f) f fs d spot y refl clear (settles fs (suc d) spot y clear)

-- After a string of a definite length, the spot waits for the bytes that are due then.
pub string_ends : (i : Within) (spot : Spot) (y : List ℕ) → spot.front ≡ [] → i ≡ spot.within
    → Same (StringDone spot.allowed i spot.depth spot.levels y) (Waits (string_done i spot) y)
string_ends w.Nothing spot y clear same = settles spot.levels spot.depth spot y clear
string_ends (w.Open k n) spot y clear same = rw (← same, clear) (λ e. e, λ e. e)
