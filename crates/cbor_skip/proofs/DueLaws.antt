-- If an item is due within a whole item, it comes. So nothing stops the read of bytes that begin with a whole item.
use Rattle.std.proofs.Common.{◌≡◌, ℕ, suc, ◌<◌, ◌⊎◌, Bool, true, List, [], ◌∷◌, ◌++◌, length}
use Rattle.std.proofs.Common.{None, refl, sym, ◌∙◌, inl, inr, arith, append_assoc}
use Rattle.ciborium_ll_grammar.specs.declared.spelling.Spelling.{Spelling}
use Rattle.ciborium_ll_grammar.specs.declared.spelling.Spelling.TheVariants.{Any, Shortest}
use Rattle.ciborium_ll_grammar.specs.declared.hdr.Header.{Header}
use Rattle.ciborium_ll_grammar.specs.declared.hdr.Header.TheVariants as h
use Rattle.ciborium_ll_grammar.specs.Title.{IsTitle, IsStrictTitle, shortest_title}
use Rattle.ciborium_ll_grammar.specs.Strings.{Kind, Bytes, Text, kind_header}
use Rattle.ciborium_ll_grammar.specs.Strings.IsString.{definite, indefinite}
use Rattle.ciborium_ll_grammar.specs.Elements.{Mark, IsElement, plain, string}
use Rattle.ciborium_ll_grammar.specs.StrictElements.{AreFlat, none, more}
use Rattle.ciborium_ll_grammar.specs.Faults.{Point, Due, In, BodyDue, IsAtTitle}
use Rattle.ciborium_ll_grammar.specs.Items.{Completes, positive, byte_string, text_string, open_bytes, open_text, tag}
use Rattle.ciborium_ll_grammar.specs.Items.{array, pairs, open_array, open_pairs, AreItems, no_items, more_items}
use Rattle.ciborium_ll_grammar.specs.Items.{IsTakenTitle}
use Rattle.ciborium_ll_grammar.proofs.TitleLaws.{one_title, IsTitle-shortest}
use Rattle.ciborium_ll_grammar.proofs.StringLaws.{break_title, not_break, one_string, string_not_break, mixed}
use Rattle.ciborium_ll_grammar.proofs.StringLaws.{same_string}
use Rattle.ciborium_ll_decoder.proofs.NestLaws.{open_in_range}
use Rattle.ciborium_ll_grammar.proofs.ElementLaws.{bytes_writable}
use Rattle.ciborium_ll_grammar.proofs.ItemLaws.{one_item}
use Rattle.ciborium_ll_grammar.proofs.HaltLaws.{opens_of, stop_bad, halt_bad, element_stops, element_inside}
use Rattle.ciborium_ll_grammar.proofs.FaultLaws.{Stuck, stop, halt, bad_body, Refuses, long, nested, none_refused}
use Rattle.ciborium_ll_grammar.proofs.FaultLaws.{stuck_or_refused}
use Rattle.cbor_skip.specs.Due.{IsNest, TakesMore, may_close, ItemDue, here, within, ReachesItem, at_item, at_string}
use Rattle.cbor_skip.specs.Due.{at_body, at_piece}
use Rattle.cbor_skip.specs.ItemFaults.{BeginsWithItem, HasItemFault, HasEarlyBreak, HasDeepNest}
use Rattle.cbor_skip.proofs.RemainingLaws.{even_pairs}
use Rattle.cbor_skip.proofs.ItemSteps.{item_of}

-- The comparison also holds for one more on both sides.
one_further : {A B C : Type 0} {j k : ℕ} → A ⊎ (((j ≡ k) × B) ⊎ ((k < j) × C))
    → A ⊎ (((suc j ≡ suc k) × B) ⊎ ((suc k < suc j) × C))
one_further h = grind arith

fewer : {A B C : Type 0} {j k : ℕ} → j < k → A ⊎ (((j ≡ k) × B) ⊎ ((k < j) × C)) → A
fewer less h = grind arith

module _ (allowed : Spelling) where
  -- ---- an item that comes

  -- The bytes begin with an item, which is given by its title.
  record Ahead (d : ℕ) (s : List ℕ) : Type 0 where
    title : List ℕ
    header : Header
    rest : List ℕ
    behind : List ℕ
    is_title : IsTitle title header
    taken : IsTakenTitle allowed title header
    completes : Completes allowed d header rest
    is : s ≡ title ++ (rest ++ behind)

  ahead : {d n : ℕ} {w s : List ℕ} (v : List ℕ) → AreItems allowed d (suc n) w → s ≡ w ++ v → Ahead d s
  ahead {s = s} v (more_items {title = t} {rest = r} {others = a} {header = x} p g c i) e =
      let is : s ≡ t ++ (r ++ (a ++ v)) = simp append_assoc at e in
      search

  -- No bytes complete a break as an item.
  no_completion : {d : ℕ} {r : List ℕ} → Completes allowed d h.Break r → ⊥
  no_completion c = elim c [ ]

  -- No item begins with a break.
  no_break : {d : ℕ} (v : List ℕ) → Ahead d (0xff ∷ v) → ⊥
  no_break v a =
      let o = one_title (0xff ∷ []) a.title v (a.rest ++ a.behind) h.Break a.header break_title a.is_title a.is in
      no_completion (rw (← o.1) at a.completes)

  -- Two rows of items over the same bytes have the same number, or an item follows the row of fewer items.
  rows : {d m n : ℕ} {u w : List ℕ} → AreItems allowed d m u → AreItems allowed d n w → (s v : List ℕ)
      → u ++ s ≡ w ++ v → Ahead d s ⊎ (((m ≡ n) × (s ≡ v)) ⊎ ((n < m) × Ahead d v))
  rows no_items no_items s v e = inr (inl (refl, e))
  rows no_items (more_items p g c i) s v e = inl (ahead v (more_items p g c i) e)
  rows (more_items p g c i) no_items s v e = inr (inr (omega arith, ahead s (more_items p g c i) (sym e)))
  rows {d = d} (more_items {title = t} {rest = r} {others = a} {header = x} p g c i)
      (more_items {title = t'} {rest = r'} {others = a'} {header = x'} p' g' c' i') s v e =
      let both : (t ++ r) ++ (a ++ s) ≡ (t' ++ r') ++ (a' ++ v) = simp append_assoc (simp append_assoc at e) in
      one_further (rows i i' s v (one_item allowed allowed d d (t ++ r) (t' ++ r') (a ++ s) (a' ++ v)
      (item_of allowed d t r x p g c) (item_of allowed d t' r' x' p' g' c') both).1)

  -- An item comes, or a break, if a break may stand in its place.
  abbrev GoesOn : ℕ → Bool → List ℕ → Type 0
  GoesOn d closable s = Ahead d s ⊎ ((closable ≡ true) × (v : List ℕ) × (s ≡ 0xff ∷ v))

  -- Before a break that ends a row, an item comes, or this break.
  before_break : {d m n : ℕ} {closable : Bool} {s : List ℕ} (v : List ℕ) → (m ≡ n → closable ≡ true)
      → Ahead d s ⊎ (((m ≡ n) × (s ≡ 0xff ∷ v)) ⊎ ((n < m) × Ahead d (0xff ∷ v))) → GoesOn d closable s
  before_break v may (inl comes) = inl comes
  before_break v may (inr (inl ends)) = inr (may ends.0, v, ends.1)
  before_break v may (inr (inr longer)) = absurd (no_break v longer.1)

  -- After a nest's title and some of its items, an item or an allowed break comes.
  nest_goes : {d m : ℕ} {u r : List ℕ} {x : Header} → AreItems allowed d m u → TakesMore x m
      → Completes allowed (suc d) x r → (s v : List ℕ) → u ++ s ≡ r ++ v → GoesOn d (may_close x m) s
  nest_goes i takes (tag j) s v e = inl (fewer takes (rows i j s v e))
  nest_goes i takes (array j) s v e = inl (fewer takes (rows i j s v e))
  nest_goes i takes (pairs j) s v e = inl (fewer takes (rows i j s v e))
  nest_goes i takes (open_array {items = w} j) s v e =
      before_break v (λ same. refl) (rows i j s (0xff ∷ v) (e ∙ append_assoc w (0xff ∷ []) v))
  nest_goes i takes (open_pairs {items = w} n j) s v e =
      before_break v (λ same. rw same (even_pairs n)) (rows i j s (0xff ∷ v) (e ∙ append_assoc w (0xff ∷ []) v))
  nest_goes i takes c s v e = absurd takes

  -- If a break comes at once, nothing was read before, and the break may stand.
  break_due : {outer closable : Bool} {d levels : ℕ} {u : List ℕ} → ItemDue allowed outer d u levels closable
      → outer ≡ true → (s v : List ℕ) → u ++ s ≡ 0xff ∷ v → GoesOn levels closable s
  break_due here may s v e = inr (may, v, e)
  break_due (within {title = t} {items = a} {more = b} {header = x} p g takes i due) may s v e =
      let o = one_title t (0xff ∷ []) ((a ++ b) ++ s) v x h.Break p break_title (rw append_assoc at e) in
      absurd (rw o.1 at takes)

  -- If an item is due within a whole item, an item comes, or a break that may stand in its place.
  item_goes_on : {outer closable : Bool} {d levels : ℕ} {u : List ℕ} → ItemDue allowed outer d u levels closable
      → (s : List ℕ) → Ahead d (u ++ s) → GoesOn levels closable s
  item_goes_on here s front = inl front
  item_goes_on (within {title = t} {items = a} {more = b} {header = x} p g takes i due) s front =
      let o = one_title t front.title ((a ++ b) ++ s) (front.rest ++ front.behind) x front.header p front.is_title
      (rw append_assoc at front.is) in
      elim (nest_goes i takes (rw (sym o.1) at front.completes) (b ++ s) front.behind (rw append_assoc at o.2)) [
        | inl comes ↦ item_goes_on due s comes
        | inr ends ↦ break_due due ends.0 s ends.1 ends.2
      ]

  -- ---- no fault

  -- The bytes begin with no element.
  abbrev NoElement : List ℕ → Type 0
  NoElement s = (w : List ℕ) (ms : List Mark) → IsElement w ms → (v : List ℕ) → s ≡ w ++ v → ⊥

  -- Each item begins with an element: a string, or its title.
  no_item : {d : ℕ} {t r s : List ℕ} {x : Header} (v : List ℕ) → NoElement s → IsTitle t x → Completes allowed d x r
      → s ≡ t ++ (r ++ v) → ⊥
  no_item {t = t} {r = r} v never p (byte_string l) e =
      never (t ++ r) _ (string Bytes (definite (rw (sym l) at p)) (tt, tt)) v (e ∙ sym (append_assoc t r v))
  no_item {t = t} {r = r} v never p (text_string l k) e =
      never (t ++ r) _ (string Text (definite (rw (sym l) at p)) (k, tt)) v (e ∙ sym (append_assoc t r v))
  no_item {t = t} {r = r} v never p (open_bytes {bodies = bs} q g) e =
      never (t ++ r) _ (string Bytes (indefinite p q) (bytes_writable bs)) v (e ∙ sym (append_assoc t r v))
  no_item {t = t} {r = r} v never p (open_text q g k) e =
      never (t ++ r) _ (string Text (indefinite p q) k) v (e ∙ sym (append_assoc t r v))
  no_item {t = t} {r = r} {x = x} v never p c e = never t _ (plain x p tt) (r ++ v) e

  nothing_goes : {d : ℕ} {closable : Bool} {s : List ℕ} → NoElement s → GoesOn d closable s → ⊥
  nothing_goes never (inl comes) = no_item comes.behind never comes.is_title comes.completes comes.is
  nothing_goes never (inr ends) = never (0xff ∷ []) _ (plain h.Break break_title tt) ends.1 ends.2

  -- If the part that is due can't come, the bytes begin with no item.
  item_stuck : {d : ℕ} {u : List ℕ} {at : Point} → ReachesItem allowed d u at → (s : List ℕ) → Stuck at s
      → Ahead d (u ++ s) → ⊥
  item_stuck (at_item due) s (stop f) front =
      nothing_goes (λ w ms ok v e. element_stops w ms ok v s f e) (item_goes_on due s front)
  item_stuck (at_string {opens = y} {bodies = bs} {kind = k} due q g ok) s (halt j f) front =
      nothing_goes (λ w ms ok v e. element_inside w ms ok k y s v (opens_of k y bs q) f e)
      (item_goes_on due (y ++ s) (rw append_assoc at front))
  item_stuck (at_body {title = t} {len = l} k reach p g) s (bad_body f) front =
      item_stuck reach (t ++ s) (stop (stop_bad s k l p f refl)) (rw append_assoc at front)
  item_stuck (at_piece {title = t} {len = l} {kind = k} reach p g) s (bad_body f) front =
      item_stuck reach (t ++ s) (halt k (halt_bad s l p f refl)) (rw append_assoc at front)

-- ---- only the shortest spelling is taken

-- If the same bytes also begin with a strict title, a title is strict.
strict_first : {t w : List ℕ} {x y : Header} (r q : List ℕ) → IsTitle t x → IsTitle w y → IsStrictTitle w y
    → t ++ r ≡ w ++ q → IsStrictTitle t x
strict_first {t} {w} {x} {y} r q p p' g e =
    let o = one_title t w r q x y p p' e in
    rw (o.0, o.1) g

-- The one title of a break is strict.
break_strict : IsStrictTitle (0xff ∷ []) h.Break
break_strict = record { shortest = refl; meant = λ small. small }

-- A title after some of the flat strings before a break is strict and opens no string.
flat_goes : {k : Kind} {u w : List ℕ} {bs cs : List (List ℕ)} → AreFlat k u bs → AreFlat k w cs → (t r v : List ℕ)
    (x : Header) → IsTitle t x → u ++ (t ++ r) ≡ w ++ 0xff ∷ v → IsStrictTitle t x × (x ≡ kind_header k None → ⊥)
flat_goes {k = k} none none t r v x p e = (
  strict_first _ _ p break_title break_strict e,
  λ same. not_break k None (sym same ∙ (one_title t (0xff ∷ []) r v x h.Break p break_title e).1),
)
flat_goes {k = k} none (more {title = y} {body = b} {rest = z} q g f) t r v x p e =
    let both : t ++ r ≡ y ++ (b ++ (z ++ 0xff ∷ v)) = simp append_assoc at e in (
      strict_first _ _ p q g both,
      λ same. mixed (length b)
          (same_string k k _ None (sym (one_title t y r _ x _ p q both).1 ∙ same)).1,
    )
flat_goes {k = k} (more {title = y} {body = b} {rest = z} q g f) none t r v x p e =
    absurd (string_not_break k (y ++ b) (z ++ (t ++ r)) v (b ∷ []) (definite q)
    (rw (append_assoc (y ++ b) z (t ++ r)) at e))
flat_goes {k = k} (more {title = y} {body = b} {rest = z} q g f)
    (more {title = y'} {body = b'} {rest = z'} q' g' f') t r v x p e =
    flat_goes f f' t r v x p (one_string k (y ++ b) (y' ++ b') (z ++ (t ++ r)) (z' ++ 0xff ∷ v) (b ∷ []) (b' ∷ [])
    (definite q) (definite q') (simp append_assoc (simp append_assoc at e))).2

-- Flat strings and a break complete an open.
open_of : (k : Kind) {d : ℕ} {r : List ℕ} → Completes Shortest d (kind_header k None) r
    → (w : List ℕ) × (bs : List (List ℕ)) × (r ≡ w ++ 0xff ∷ []) × AreFlat k w bs
open_of Bytes (open_bytes {strings = w} {bodies = bs} q g) = (w, bs, refl, g)
open_of Text (open_text {strings = w} {bodies = bs} q g k) = (w, bs, refl, g)

-- If the point is within a string, the header is no open.
abbrev IsNoOpen : Point → Header → Type 0
IsNoOpen Due x = Unit {0}
IsNoOpen (In k) x = x ≡ kind_header k None → ⊥
IsNoOpen (BodyDue k len start) x = Unit {0}

-- If a title is due within a whole item, the title is strict.
title_strictly : {d : ℕ} {u : List ℕ} {at : Point} → ReachesItem Shortest d u at → IsAtTitle at → (t r : List ℕ)
    (x : Header) → IsTitle t x → Ahead Shortest d (u ++ (t ++ r)) → IsStrictTitle t x × IsNoOpen at x
title_strictly (at_item due) title t r x p front =
    elim (item_goes_on Shortest due (t ++ r) front) [
      | inl comes ↦ (strict_first _ _ p comes.is_title comes.taken comes.is, tt)
      | inr ends ↦ (strict_first _ _ p break_title break_strict ends.2, tt)
    ]
title_strictly (at_string {kind = k} due q inside ok) title t r x p front =
    let open_header = kind_header k None in
    let begin = shortest_title open_header in
    let begins = IsTitle-shortest open_header (open_in_range k) in
    elim (item_goes_on Shortest due (begin ++ (inside.0 ++ (t ++ r))) (simp (inside.1, append_assoc) at front)) [
      | inl comes ↦ (
          let o = one_title begin comes.title (inside.0 ++ (t ++ r)) (comes.rest ++ comes.behind) open_header
          comes.header begins comes.is_title comes.is in
          let all = open_of k (rw (sym o.1) at comes.completes) in
          flat_goes inside.2 all.3 t r comes.behind x p (rw (all.2, append_assoc all.0 (0xff ∷ []) comes.behind) at o.2)
          )
      | inr ends ↦ absurd (not_break k None
          (one_title begin (0xff ∷ []) _ ends.1 open_header h.Break begins break_title ends.2).1)
    ]
title_strictly (at_body k reach q g) title t r x p front = absurd title
title_strictly (at_piece reach q g) title t r x p front = absurd title

-- If the title that is due is refused, the bytes begin with no item.
refused_stuck : (allowed : Spelling) {d : ℕ} {u : List ℕ} {at : Point} → ReachesItem allowed d u at → (s : List ℕ)
    → Refuses allowed at s → Ahead allowed d (u ++ s) → ⊥
refused_stuck Any reach s refuses front = none_refused _ s refuses
refused_stuck Shortest reach s (long {t = t} x r title p untaken is) front =
    untaken (title_strictly reach title t r x p (rw is at front)).0
refused_stuck Shortest reach s (nested {k = k} {t = t} r on p is) front =
    (title_strictly reach tt t r (kind_header k None) p (rw is at front)).1 refl

-- ---- nothing stops the read

module _ (allowed : Spelling) (d : ℕ) (x : List ℕ) (front : BeginsWithItem allowed d x) where
  in_front : Ahead allowed d x
  in_front = ahead allowed front.rest front.is_item front.is

  -- Bytes that begin with a whole item have no fault.
  pub no_item_fault : HasItemFault allowed d x → ⊥
  no_item_fault f =
      elim (stuck_or_refused allowed f.before [] f.point f.ahead f.answer f.written f.consumed f.fault) [
        | inl stopped ↦ item_stuck allowed f.reach f.ahead stopped (rw f.is at in_front)
        | inr refused ↦ refused_stuck allowed f.reach f.ahead refused (rw f.is at in_front)
      ]

  -- Bytes that begin with a whole item have no break at a place that allows none.
  pub no_early_break : HasEarlyBreak allowed d x → ⊥
  no_early_break f =
      elim (item_goes_on allowed f.item_due (0xff ∷ f.rest) (rw f.is at in_front)) [
        | inl comes ↦ no_break allowed f.rest comes
        | inr ends ↦ let no = ends.0 in cc
      ]

  -- A nest takes a level.
  not_flat : {y : Header} {r : List ℕ} → Completes allowed 0 y r → IsNest y → ⊥
  not_flat positive nest = nest
  not_flat c nest = nest

  -- Bytes that begin with a whole item have no nest for which no level is left.
  pub no_deep_nest : HasDeepNest allowed d x → ⊥
  no_deep_nest f =
      elim (item_goes_on allowed f.item_due (f.title ++ f.rest) (rw f.is at in_front)) [
        | inl comes ↦ not_flat comes.completes (rw (one_title f.title comes.title f.rest (comes.rest ++ comes.behind)
            f.header comes.header f.is_title comes.is_title comes.is).1 at f.is_nest)
        | inr ends ↦ rw (one_title f.title (0xff ∷ []) f.rest ends.1 f.header h.Break f.is_title break_title ends.2).1
            at f.is_nest
      ]
