-- Rows of items in lists of bytes: how many they are, and what may follow some of them.
use Rattle.std.proofs.lemmas.Bool.Decides.{nat_tests}
use Rattle.std.proofs.Common.{◌≡◌, ℕ, suc, ◌<◌, ◌≤◌, ◌⊎◌, List, [], ◌∷◌, ◌++◌, length, Some, refl}
use Rattle.std.proofs.Common.{sym, ap, ◌∙◌, inl, inr, arith, append_assoc, length-append}
use Rattle.ciborium_ll_grammar.specs.declared.spelling.Spelling.{Spelling}
use Rattle.ciborium_ll.specs.Strings.{Kind, kind_header}
use Rattle.ciborium_ll.specs.Items.{AreItems, no_items, more_items}
use Rattle.ciborium_ll.specs.Faults.{Point, Due, IsInside, opened, deeper, Answer, Short}
use Rattle.ciborium_ll.specs.Faults.{FirstFault}
use Rattle.ciborium_ll.proofs.ItemLaws.{one_item}
use Rattle.ciborium_ll.proofs.NestLaws.{title_some}
use Rattle.cbor_skip.specs.Due.{ReachesItem, at_item, at_string, at_body, at_piece}
use Rattle.cbor_skip.specs.ItemFaults.{BeginsWithItem}
use Rattle.cbor_skip.proofs.ItemSteps.{item_of}

-- ---- lengths

-- A list of length zero is empty.
pub nothing : (u : List ℕ) → length u ≡ 0 → u ≡ []
nothing [] e = refl
nothing (byte ∷ u) e = absurd (omega (arith, e))

-- Items take at least one byte each.
pub items_counted : (s : Spelling) (d n : ℕ) (u : List ℕ) → AreItems s d n u → n ≤ length u
items_counted s d n u no_items = omega arith
items_counted s d n u (more_items {count = m} {title = t} {rest = r} {others = a} {header = x} p g c i) =
    omega (arith, items_counted s d m a i, title_some t x p, length-append t (r ++ a), length-append r a)

-- ---- two rows

-- The bytes of a row split after its first item.
pub item_apart : (t r a s : List ℕ) → (t ++ (r ++ a)) ++ s ≡ (t ++ r) ++ (a ++ s)
item_apart t r a s =
    append_assoc t (r ++ a) s ∙ (ap (λ (z : List ℕ). t ++ z) (append_assoc r a s) ∙ sym (append_assoc t r (a ++ s)))

-- A row of items begins with another row. Then either one more item follows the other row, or the rows have equally
-- many items and no byte follows.
pub rows_meet : (b : Spelling) (d m : ℕ) (u : List ℕ) → AreItems b d m u → (n : ℕ) (w : List ℕ) → AreItems b d n w
    → (s : List ℕ)
    → w ≡ u ++ s → BeginsWithItem b d s ⊎ ((n ≡ m) × (s ≡ []))
rows_meet b d m u no_items n w no_items s e = inr (refl, sym e)
rows_meet b d m u no_items n w (more_items {title = t} {rest = r} {others = a} {header = x} p g c i) s e =
    inl (record { item = t ++ r; rest = a; is_item = item_of b d t r x p g c; is = sym e ∙ sym (append_assoc t r a) })
rows_meet b d m u (more_items {title = t} {rest = r} {others = a} {header = x} p g c i) n w no_items s e =
    let counted = ap length e in
    absurd (omega (arith, counted, title_some t x p, length-append t (r ++ a), length-append (t ++ (r ++ a)) s))
rows_meet b d m u (more_items {count = j} {title = t} {rest = r} {others = a} {header = x} p g c i) n w
    (more_items {count = k} {title = t'} {rest = r'} {others = a'} {header = x'} p' g' c' i') s e =
    let both : (t' ++ r') ++ a' ≡ (t ++ r) ++ (a ++ s) = append_assoc t' r' a' ∙ (e ∙ item_apart t r a s) in
    let o = one_item b b d d (t' ++ r') (t ++ r) a' (a ++ s) (item_of b d t' r' x' p' g' c')
    (item_of b d t r x p g c) both in
    elim (rows_meet b d j a i k a' i' s o.1) [
      | inl comes ↦ inl comes
      | inr ends ↦ inr (ap suc ends.0, ends.1)
    ]

-- ---- no byte of an item

-- An open takes at least one byte.
inside_some : (k : Kind) (u : List ℕ) (bs : List (List ℕ)) → IsInside k u bs → 0 < length u
inside_some k u bs (opened {title = t} {strings = x} p s) =
    omega (arith, title_some t (kind_header k _) p, length-append t x)
inside_some k u bs (deeper {outer = x} {inner = y} {bodies = cs} p q) =
    omega (arith, inside_some k x cs p, length-append x y)

-- If no byte was read, an item is due.
pub due_first : (s : Spelling) (d : ℕ) (u : List ℕ) (at : Point) → ReachesItem s d u at → u ≡ [] → at ≡ Due
due_first s d u at (at_item p) e = refl
due_first s d u at (at_string {bytes = a} {opens = y} {bodies = bs} {kind = k} p q g ok) e =
    let counted = ap length e in absurd (omega (arith, counted, inside_some k y bs q, length-append a y))
due_first s d u at (at_body {bytes = a} {title = t} {len = l} k r p g) e =
    let counted = ap length e in
    absurd (omega (arith, counted, title_some t (kind_header k (Some l)) p, length-append a t))
due_first s d u at (at_piece {bytes = a} {title = t} {len = l} {kind = k} r p g) e =
    let counted = ap length e in
    absurd (omega (arith, counted, title_some t (kind_header k (Some l)) p, length-append a t))

-- If a due item is short and no byte of it is consumed, no byte is left.
pub fault_first : (s : Spelling) (before : List ℕ) (at : Point) (ahead : List ℕ) (answer : Answer) (written : List ℕ)
    (consumed : ℕ) → FirstFault s before [] at ahead answer written consumed → at ≡ Due → answer ≡ Short → consumed ≡ 0
    → ahead ≡ []
fault_first s before at ahead answer written consumed p q r t = grind (arith, nat_tests, nothing)

-- If an item is due and no byte is left, the item is short and no byte is consumed.
pub first_fault : (s : Spelling) (before : List ℕ) (at : Point) (ahead : List ℕ) (answer : Answer) (written : List ℕ)
    (consumed : ℕ) → FirstFault s before [] at ahead answer written consumed → at ≡ Due → ahead ≡ []
    → (answer ≡ Short) × (consumed ≡ 0)
first_fault s before at ahead answer written consumed p q r = grind (arith, nat_tests, title_some, length-append)
