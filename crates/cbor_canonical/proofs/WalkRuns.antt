-- A walk over pairs of items.
use Rattle.std.proofs.Common.{◌≡◌, ℕ, suc, ◌-◌, ◌*◌, ◌<◌, ◌≤◌, List, ◌++◌, refl, sym, ◌∙◌, ap, subst, arith, append_assoc}
use Rattle.std.proofs.Common.{min}
use Rattle.std.proofs.lemmas.Bool.Decides.{nat_tests}
use Rattle.ciborium_ll_grammar.specs.declared.spelling.Spelling.TheVariants.{Any}
use Rattle.ciborium_ll_grammar.specs.Items.{AreItems, IsItem}
use Rattle.ciborium_ll_grammar.proofs.ItemJoins.{first_of, none_joined}
use Rattle.ciborium_ll_grammar.proofs.ItemLaws.{one_item}
use Rattle.cbor_deterministic.specs.Fronts.{InFront}
use Rattle.cbor_skip.specs.ItemFaults.{BeginsWithItem}

-- Bytes that begin with items begin with an item.
pub begins_there : (d n : ℕ) (bytes rest : List ℕ) → InFront (AreItems Any d (suc n)) bytes rest
    → BeginsWithItem Any d bytes
begins_there d n bytes rest f =
    let g = first_of Any d n f.front f.is in
    record {
      item = g.first;
      rest = g.others ++ rest;
      is_item = g.is_item;
      is = f.whole ∙ ap (λ (z : List ℕ). z ++ rest) g.whole ∙ append_assoc g.first g.others rest;
    }

-- After the first of some items the others begin the bytes.
pub others_there : (d n : ℕ) (bytes rest after : List ℕ) → InFront (AreItems Any d (suc n)) bytes rest
    → InFront (IsItem Any d) bytes after → InFront (AreItems Any d n) after rest
others_there d n bytes rest after f i =
    let g = first_of Any d n f.front f.is in
    let o = one_item Any Any d d i.front g.first after (g.others ++ rest) i.is g.is_item
    (sym i.whole ∙ f.whole ∙ ap (λ (z : List ℕ). z ++ rest) g.whole ∙ append_assoc g.first g.others rest) in
    record { front = g.others; is = g.are; whole = o.1 }

-- The items of pairs, at least one, are two more than those of one pair less.
pub even_more : (d n : ℕ) (bytes rest : List ℕ) → 0 < n → InFront (AreItems Any d (2 * n)) bytes rest
    → InFront (AreItems Any d (suc (suc (2 * (n - 1))))) bytes rest
even_more d n bytes rest l f =
    let e : 2 * n ≡ suc (suc (2 * (n - 1))) = omega (arith, l) in
    subst (λ (k : ℕ). InFront (AreItems Any d k) bytes rest) e f

-- Levels that are no more than the greatest number are the levels that are asked for.
pub one_short : (d levels most n : ℕ) (bytes rest : List ℕ) → levels ≡ min d most → d ≤ most → 0 < n
    → InFront (AreItems Any d (2 * n)) bytes rest → (BeginsWithItem Any levels bytes → ⊥) → ⊥
one_short d levels most n bytes rest e l p f none =
    let same : d ≡ levels = grind (arith, nat_tests) in
    none (subst (λ (k : ℕ). BeginsWithItem Any k bytes) same
    (begins_there d (suc (2 * (n - 1))) bytes rest (even_more d n bytes rest p f)))

pub two_short : (d levels most n : ℕ) (bytes value rest : List ℕ) → levels ≡ min d most → d ≤ most → 0 < n
    → InFront (AreItems Any d (2 * n)) bytes rest → InFront (IsItem Any levels) bytes value
    → (BeginsWithItem Any levels value → ⊥) → ⊥
two_short d levels most n bytes value rest e l p f i none =
    let same : d ≡ levels = grind (arith, nat_tests) in
    none (subst (λ (k : ℕ). BeginsWithItem Any k value) same
    (begins_there d (2 * (n - 1)) value rest (others_there d (suc (2 * (n - 1))) bytes rest value
    (even_more d n bytes rest p f) (subst (λ (k : ℕ). InFront (IsItem Any k) bytes value) (sym same) i))))

-- After a pair one pair less is left.
pub pair_less : (d levels most n : ℕ) (bytes value next rest : List ℕ) → levels ≡ min d most → d ≤ most → 0 < n
    → InFront (AreItems Any d (2 * n)) bytes rest → InFront (IsItem Any levels) bytes value
    → InFront (IsItem Any levels) value next → InFront (AreItems Any d (2 * (n - 1))) next rest
pair_less d levels most n bytes value next rest e l p f i j =
    let same : d ≡ levels = grind (arith, nat_tests) in
    others_there d (2 * (n - 1)) value rest next
    (others_there d (suc (2 * (n - 1))) bytes rest value (even_more d n bytes rest p f)
    (subst (λ (k : ℕ). InFront (IsItem Any k) bytes value) (sym same) i))
    (subst (λ (k : ℕ). InFront (IsItem Any k) value next) (sym same) j)

-- No pair is left to walk over.
pub none_left : (d : ℕ) (bytes rest : List ℕ) → InFront (AreItems Any d 0) bytes rest → bytes ≡ rest
none_left d bytes rest f =
    f.whole ∙ ap (λ (z : List ℕ). z ++ rest) (none_joined Any d 0 f.front f.is refl)
