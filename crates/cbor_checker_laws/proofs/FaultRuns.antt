-- The fault to which a run leads, if a fault that stops a skip is due.
use Rattle.std.proofs.Common.{◌≡◌, ℕ, suc, ◌⊎◌, inl, inr, false, List, [], ◌∷◌, refl, arith, ◌+◌, ◌<◌, ◌%◌}
use Rattle.std.proofs.Common.{◌++◌, length, get_or, sym, ap, ◌∙◌, append-nil}
use Rattle.std.proofs.lemmas.Bool.Decides.{nat_tests}
use Rattle.ciborium_ll_grammar.specs.declared.spelling.Spelling.{Spelling}
use Rattle.ciborium_ll_grammar.specs.declared.spelling.Spelling.TheVariants.{Any, Shortest}
use Rattle.ciborium_ll_grammar.specs.declared.hdr.Header.{Header}
use Rattle.ciborium_ll_grammar.specs.declared.hdr.Header.TheVariants as h
use Rattle.ciborium_ll_grammar.specs.Title.{IsTitle, BeginsRefused, IsSmallSimple, affix_len}
use Rattle.ciborium_ll_grammar.specs.Strings.{Kind}
use Rattle.ciborium_ll_grammar.specs.Items.{IsTakenTitle}
use Rattle.ciborium_ll_grammar.specs.Faults.{IsRefusedIn}
use Rattle.ciborium_ll_grammar.proofs.AffixLaws.{refused_begins_none, announced}
use Rattle.cbor_skip.specs.Due.{IsNest}
use Rattle.cbor_checker.specs.declared.phase.Phase.TheVariants as p
use Rattle.cbor_checker.specs.declared.phase.Fault.{Fault}
use Rattle.cbor_checker.specs.declared.phase.Fault.TheVariants as f
use Rattle.cbor_parser.specs.declared.strings.Within.{Within}
use Rattle.cbor_parser.specs.declared.strings.Within.TheVariants as w
use Rattle.ciborium_ll_grammar.specs.Remaining.{next}
use Rattle.cbor_checker.specs.Spots.{Spot, settled, broken, item_entered, entered}
use Rattle.cbor_parser.specs.Titles.{SomeTaken}
use Rattle.cbor_checker.specs.Steps.{TitleStep, cut, early, whole, none, with_byte}
use Rattle.cbor_checker.proofs.EnterLaws.{break_bytes}
use Rattle.ciborium_ll_grammar.specs.declared.remaining.Remaining.{Remaining}
use Rattle.cbor_checker_laws.proofs.Runs.{Runs, fault_of, next_of, at, inside}
use Rattle.cbor_checker_laws.proofs.TitleRuns.{Faults, Titled, taken, known, untaken}
use Rattle.cbor_checker_laws.proofs.StringRuns.{break_taken}
use Rattle.cbor_checker_laws.proofs.ReachRuns.{can_close, FromStart, item_reached}
use Rattle.ciborium_ll_grammar.proofs.TitleLaws.{one_title, shortest_or_longer, shortest_some}
use Rattle.cbor_parser.specs.Longer.{BeginsLonger}
use Rattle.cbor_parser.proofs.LongerBegun.{strict_some}
use Rattle.cbor_checker_laws.specs.SameFaults.{HasLongNest}

-- ---- no title

module _ (fault : Fault) (s : Spelling) (i : Within) (d : ℕ) (gs : List Remaining) (a n : ℕ) where
  refused_step : (b : ℕ) (next : Spot) (due : List ℕ) → BeginsRefused (b ∷ [])
      → TitleStep (with_byte b (at s i d gs a n)) next → Runs fault next due → fault ≡ f.Syntax n
  refused_step b next due bad (cut is_cut o may) runs = absurd (refused_begins_none b o.0 o.1 bad o.2)
  refused_step b next due bad (early other is_cut o all) runs = absurd (refused_begins_none b o.0 o.1 bad o.2)
  refused_step b next due bad (whole x q g) runs = absurd (refused_begins_none b [] x bad q)
  refused_step b next due bad (none never) runs = fault_of fault (f.Syntax n) next due refl runs

  pub no_title : (due : List ℕ) → Runs fault (at s i d gs a n) due → BeginsRefused due → fault ≡ f.Syntax n
  no_title [] runs bad = absurd bad
  no_title (b ∷ due) runs bad =
      let o = next_of p.Title refl refl runs in refused_step b o.next due bad o.step o.runs

-- ---- a title within a string

-- No fault stands after a whole item.
settled_sound : (gs : List Remaining) (d : ℕ) (u : Spot)
    → ((settled d gs u).phase ≡ p.Title) ⊎ ((settled d gs u).phase ≡ p.Ended)
settled_sound [] d u = inr refl
settled_sound (g ∷ gs) d u = let one = settled_sound gs (suc d) u in grind (arith, nat_tests)

module _ (fault : Fault) (s : Spelling) (d : ℕ) (gs : List Remaining) (a n : ℕ) (k : Kind) (j : ℕ) (x : Header) where
  -- If the header `x` leads to a fault within a string, this is `Syntax` at the header's place.
  string_known : Faults fault (entered (inside k j) x (at s (inside k j) d gs a n)) → fault ≡ f.Syntax a
  string_known is = grind (arith, nat_tests, settled_sound)

  refused_in : IsRefusedIn s k x → Faults (f.Syntax a) (entered (inside k j) x (at s (inside k j) d gs a n))
  refused_in bad = grind (arith, nat_tests)

  -- A title that may not stand in the string, or is not taken, leads to `Syntax` at its place.
  pub string_title : (t rest : List ℕ) → IsRefusedIn s k x ⊎ (IsTakenTitle s t x → ⊥)
      → Titled fault s (inside k j) d gs a n x t rest → fault ≡ f.Syntax a
  string_title t rest (inl bad) (taken g runs) = fault_of fault (f.Syntax a) _ rest (refused_in bad) runs
  string_title t rest (inr never) (taken g runs) = absurd (never g)
  string_title t rest bad (known is) = string_known is
  string_title t rest bad (untaken never e) = e

-- ---- a title in place of an item

-- A nest stands at a place for which no level is left.
pub record DeepAt (x : Header) (d : ℕ) (fault : Fault) (a : ℕ) : Type 0 where
  pub is_nest : IsNest x
  pub none_left : d ≡ 0
  pub deep : fault ≡ f.Deep a

module _ (fault : Fault) (s : Spelling) (gs : List Remaining) (a n : ℕ) where
  item_known : (d : ℕ) (x : Header) → Faults fault (item_entered x (at s w.Nothing d gs a n))
      → (x ≡ h.Break) ⊎ DeepAt x d fault a
  item_known d x is = grind (arith, nat_tests, settled_sound)

  -- If the title of an item is not taken, the fault is `Syntax`, or a nest that is too deep.
  pub long_due : (d : ℕ) (x : Header) (t rest : List ℕ) → IsTitle t x → (IsTakenTitle s t x → ⊥)
      → Titled fault s w.Nothing d gs a n x t rest → (fault ≡ f.Syntax a) ⊎ DeepAt x d fault a
  long_due d x t rest q never (taken g runs) = absurd (never g)
  long_due d x t rest q never (known is) = elim (item_known d x is) [
    | inl e ↦ absurd (never (rw (e, break_bytes t x q e) (break_taken s)))
    | inr deep ↦ inr deep
  ]
  long_due d x t rest q never (untaken never' e) = inl e

  -- A nest for which no level is left leads to `Deep`.
  pub nest_deep : (x : Header) → IsNest x → Faults (f.Deep a) (item_entered x (at s w.Nothing 0 gs a n))
  nest_deep x nest = grind (arith, nat_tests)

  -- A break that may not stand there leads to `Break`.
  pub break_early : (d : ℕ) (fs : List Remaining) → can_close fs ≡ false
      → Faults (f.Break a) (broken fs (at s w.Nothing d gs a n))
  break_early d fs bad = grind (arith, nat_tests)

-- ---- a nest without a level left, whose title isn't the shortest: the first byte tells the fault

not_simple : (x : Header) → IsNest x → IsSmallSimple x → ⊥
not_simple x nest small = grind (arith, nat_tests)

-- A title of one byte is the shortest.
one_byte : (s : Spelling) (b : ℕ) (x : Header) → IsTitle (b ∷ []) x → IsNest x → IsTakenTitle s (b ∷ []) x
one_byte Any b x q nest = tt
one_byte Shortest b x q nest = elim (shortest_or_longer x (b ∷ []) q) [
  | inl same ↦ record { shortest = same; meant = not_simple x nest }
  | inr longer ↦ absurd (let some = shortest_some x in omega (arith, longer, some))
]

-- One byte alone does not show that its title is longer.
begins_none : (b : ℕ) → BeginsLonger (b ∷ []) → ⊥
begins_none b o = grind (arith, nat_tests)

byte_below : (b : ℕ) → b < 256 → (i : ℕ) → get_or (b ∷ []) i 0 < 256
byte_below b byte i = grind (arith, nat_tests)

-- A first byte of a longer title also begins a title that is taken.
some_begins : (s : Spelling) (b : ℕ) (m : List ℕ) (x : Header) → b < 256 → IsTitle (b ∷ m) x
    → (IsTakenTitle s (b ∷ m) x → ⊥) → 0 < length m → SomeTaken s (b ∷ [])
some_begins Any b m x byte q never some = absurd (never tt)
some_begins Shortest b m x byte q never some =
    let o = announced (b ∷ m) x q in
    let first : o.byte ≡ b = let e = o.is in cc in
    let affix : o.affix ≡ m = let e = o.is in cc in
    let long : length m ≡ affix_len (b % 32) = rw (first, affix) at o.long in
    strict_some (b ∷ []) (byte_below b byte) (omega arith) (omega (arith, long, some)) (begins_none b)

module _ (fault : Fault) (s : Spelling) (gs : List Remaining) (a n : ℕ) where
  deep_step : (b : ℕ) (m : List ℕ) (x : Header) (next : Spot) (due : List ℕ) → IsTitle (b ∷ m) x → IsNest x
      → 0 < length m → SomeTaken s (b ∷ []) → TitleStep (with_byte b (at s w.Nothing 0 gs a n)) next
      → Runs fault next due → fault ≡ f.Deep n
  deep_step b m x next due q nest more some (cut is_cut begins may) runs =
      absurd (may m x (f.Deep n) q (nest_deep fault s gs n (n + 1) x nest))
  deep_step b m x next due q nest more some (early other is_cut begins all) runs =
      let both = sym (all m x q) ∙ nest_deep fault s gs n (n + 1) x nest in
      let deep : other ≡ f.Deep n = cc in
      fault_of fault other next due refl runs ∙ deep
  deep_step b m x next due q nest more some (whole y q' g) runs =
      let o = one_title (b ∷ []) (b ∷ m) m [] y x q' q (sym (append-nil (b ∷ m))) in
      let nothing = ap length o.2 in
      absurd (omega (arith, nothing, more))
  deep_step b m x next due q nest more some (none never) runs =
      absurd (never some.0 ((b ∷ []) ++ some.0) [] some.1 some.2 some.3 (sym (append-nil ((b ∷ []) ++ some.0))))

  long_deep : (t rest : List ℕ) (x : Header) → IsTitle t x → IsNest x → (IsTakenTitle s t x → ⊥)
      → Runs fault (at s w.Nothing 0 gs a n) (t ++ rest) → fault ≡ f.Deep n
  long_deep [] rest x q nest never runs =
      absurd (let o = announced [] x q in let l = ap length o.is in omega (arith, l))
  long_deep (b ∷ []) rest x q nest never runs = absurd (never (one_byte s b x q nest))
  long_deep (b ∷ c ∷ m) rest x q nest never runs =
      let o = next_of p.Title refl refl runs in
      let some = some_begins s b (c ∷ m) x o.is_byte q never (omega arith) in
      deep_step b (c ∷ m) x o.next (c ∷ m ++ rest) q nest (omega arith) some o.step o.runs

pub long_named : (fault : Fault) (s : Spelling) (depth : ℕ) (due : List ℕ) → FromStart fault s depth due
    → (met : HasLongNest s depth due) → fault ≡ f.Deep (length met.before)
long_named fault s depth due runs met =
    let o = item_reached _ _ _ _ (met.title ++ met.rest) due 0 met.closable met.item_due runs met.is in
    long_deep _ _ _ _ _ met.title met.rest met.header met.is_title met.is_nest met.untaken o.runs
