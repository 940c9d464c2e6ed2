-- A run over a beginning of an item, up to the part that is due after it.
use Rattle.std.proofs.Common.{◌≡◌, ℕ, suc, Bool, false, List, [], ◌∷◌, ◌++◌, length, None, refl, ap, ◌∙◌, arith}
use Rattle.std.proofs.Common.{append_assoc, length-append}
use Rattle.std.proofs.lemmas.Bool.Decides.{nat_tests}
use Rattle.ciborium_ll_grammar.specs.declared.spelling.Spelling.{Spelling}
use Rattle.ciborium_ll_grammar.specs.declared.spelling.Spelling.TheVariants.{Any, Shortest}
use Rattle.ciborium_ll_grammar.specs.declared.hdr.Header.TheVariants as h
use Rattle.ciborium_ll_grammar.specs.Title.{IsTitle, shortest_title}
use Rattle.ciborium_ll_grammar.specs.Strings.{Kind, Bytes, Text, kind_header}
use Rattle.ciborium_ll_grammar.specs.Elements.{AreWritable}
use Rattle.ciborium_ll_grammar.specs.Items.{IsTakenTitle}
use Rattle.ciborium_ll_grammar.specs.Faults.{IsAtTitle, IsInside, opened, deeper, Point, Due, In, BodyDue}
use Rattle.ciborium_ll_grammar.proofs.ElementLaws.{AreWritable-left, AreWritable-right}
use Rattle.ciborium_ll_grammar.proofs.TitleLaws.{IsTitle-shortest}
use Rattle.ciborium_ll_grammar.proofs.AloneLaws.{open_in_range}
use Rattle.cbor_skip.specs.Due.{ItemDue, here, within, IsTakenInside, ReachesItem, at_item, at_string}
use Rattle.cbor_checker.specs.declared.phase.Fault.{Fault}
use Rattle.cbor_parser.specs.declared.strings.Within.{Within}
use Rattle.cbor_parser.specs.declared.strings.Within.TheVariants as w
use Rattle.cbor_checker.specs.Levels.{ends_before}
use Rattle.cbor_checker.specs.Spots.{Spot}
use Rattle.ciborium_ll_grammar.specs.declared.remaining.Remaining.{Remaining}
use Rattle.cbor_checker_laws.proofs.Levels.{reached, reached_closes, takes_before, takes_nest}
use Rattle.cbor_checker_laws.proofs.Runs.{Runs, On, at, inside}
use Rattle.cbor_checker_laws.proofs.TitleRuns.{taken_on}
use Rattle.cbor_checker_laws.proofs.StringRuns.{Inside, flat_on, open_on, strings_taken_on}
use Rattle.cbor_checker_laws.proofs.ItemRuns.{nest_begun, nest_due, items_on}

-- Whether a break may stand in place of an item that is due in these nests.
abbrev pub can_close : List Remaining → Bool
can_close [] = false
can_close (g ∷ gs) = ends_before g

module _ (fault : Fault) (all : ℕ) (s : Spelling) where
  -- An item to `depth` levels is due, and `closable` says whether a break may stand in its place.
  pub record ItemOn (depth : ℕ) (closable : Bool) (due : List ℕ) : Type 0 where
    pub levels : List Remaining
    pub same : can_close levels ≡ closable
    pub on : On fault all (at s w.Nothing depth levels) due

  due_on : {outer closable : Bool} {depth left : ℕ} {bytes : List ℕ} → ItemDue s outer depth bytes left closable
      → (gs : List Remaining) (rest : List ℕ) → can_close gs ≡ outer
      → On fault all (at s w.Nothing depth gs) (bytes ++ rest) → ItemOn left closable rest
  due_on here gs rest same o = record { levels = gs; same = same; on = o }
  due_on (within {depth = d} {count = count} {title = t} {items = u} {more = more} {header = x} q g takes are inner) gs
      rest same o =
      let far = more ++ rest in
      let begun = nest_begun fault all s x d gs (u ++ far) (takes_nest x count takes)
      (taken_on x t (u ++ far) q g (simp append_assoc at o)) in
      let some = items_on fault all s are x 0 count gs far (omega arith)
      (λ i less. takes_before x i count takes (omega (arith, less))) begun in
      due_on inner (reached x (suc count) ∷ gs) rest (reached_closes x count takes)
      (nest_due fault all s x count d gs far takes some)

  -- ---- within strings

  -- The run leads over an open, if an item is due.
  first_open : (k : Kind) (d : ℕ) (gs : List Remaining) (t rest : List ℕ) → IsTitle t (kind_header k None)
      → IsTakenTitle s t (kind_header k None) → On fault all (at s w.Nothing d gs) (t ++ rest)
      → Inside fault all s d gs k 0 rest
  first_open Bytes d gs t rest q g o = taken_on (h.Bytes None) t rest q g o
  first_open Text d gs t rest q g o = taken_on (h.Text None) t rest q g o

open_taken : (k : Kind) → IsTakenTitle Shortest (shortest_title (kind_header k None)) (kind_header k None)
open_taken k = grind (arith, nat_tests)

module _ (fault : Fault) (all : ℕ) (k : Kind) (d : ℕ) (gs : List Remaining) where
  -- The run leads over opens and strings within an open, from a spot at which an open may stand.
  any_inside : {u : List ℕ} {bs : List (List ℕ)} → IsInside k u bs → (From : List ℕ → Type 0) (rest : List ℕ)
      → ((t more : List ℕ) → IsTitle t (kind_header k None) → From (t ++ more)
      → (j : ℕ) × Inside fault all Any d gs k j more)
      → AreWritable k bs → From (u ++ rest) → (j : ℕ) × Inside fault all Any d gs k j rest
  any_inside {bs = bs} (opened {title = t} {strings = z} q are) From rest opens sound o =
      let begun = opens t (z ++ rest) q (rw append_assoc at o) in
      (begun.0, strings_taken_on fault all Any d gs k z bs begun.0 rest are tt sound begun.1)
  any_inside (deeper {inner = i} {bodies = cs} {others = ds} f g) From rest opens sound o =
      let first = any_inside f From (i ++ rest) opens (AreWritable-left k cs ds sound) (rw append_assoc at o) in
      any_inside g (Inside fault all Any d gs k first.0) rest
      (λ t more q o'. (suc first.0, open_on fault all Any d gs k first.0 t more refl q o'))
      (AreWritable-right k cs ds sound) first.1

  -- If only the shortest spelling is taken, the run leads over one open and strings of a definite length.
  strict_inside : (u rest : List ℕ) (bs : List (List ℕ)) → IsTakenInside Shortest k u bs → AreWritable k bs
      → On fault all (at Shortest w.Nothing d gs) (u ++ rest) → Inside fault all Shortest d gs k 0 rest
  strict_inside u rest bs taken sound o =
      let t = shortest_title (kind_header k None) in
      flat_on fault all d gs k taken.2 0 rest sound
      (first_open fault all Shortest k d gs t (taken.0 ++ rest)
      (IsTitle-shortest (kind_header k None) (open_in_range k))
      (open_taken k) (rw (taken.1, append_assoc) at o))

inside_on : (s : Spelling) (fault : Fault) (all : ℕ) (k : Kind) (d : ℕ) (gs : List Remaining) (u rest : List ℕ)
    (bs : List (List ℕ)) → IsInside k u bs → IsTakenInside s k u bs → AreWritable k bs
    → On fault all (at s w.Nothing d gs) (u ++ rest) → (j : ℕ) × Inside fault all s d gs k j rest
inside_on Shortest fault all k d gs u rest bs is taken sound o =
    (0, strict_inside fault all k d gs u rest bs taken sound o)
inside_on Any fault all k d gs u rest bs is taken sound o =
    any_inside fault all k d gs is (On fault all (at Any w.Nothing d gs)) rest
    (λ t more q o'. (0, first_open fault all Any k d gs t more q tt o')) sound o

-- ---- after a beginning of all bytes

module _ (fault : Fault) (s : Spelling) (depth : ℕ) where
  -- The run begins before all bytes.
  abbrev pub FromStart : List ℕ → Type 0
  FromStart due = Runs fault (at s w.Nothing depth [] 0 0) due

  -- The offset that the run counted is the length of the bytes before.
  reach : {to : ℕ → ℕ → Spot} (before rest due : List ℕ) → due ≡ before ++ rest → On fault (length due) to rest
      → (place : ℕ) × Runs fault (to place (length before)) rest
  reach {to} before rest due e o =
      let whole = ap length e in
      let counts : o.offset ≡ length before = omega (arith, o.counts, whole, length-append before rest) in
      (o.place, rw counts at o.runs)

  pub start_on : (due ahead : List ℕ) → due ≡ ahead → FromStart due
      → On fault (length due) (at s w.Nothing depth []) ahead
  start_on due ahead e runs =
      record { place = 0; offset = 0; counts = let l = ap length e in omega (arith, l); runs = rw e at runs }

  item_on : (before rest due : List ℕ) {left : ℕ} {closable : Bool} → ItemDue s false depth before left closable
      → FromStart due → due ≡ before ++ rest → ItemOn fault (length due) s left closable rest
  item_on before rest due is runs e = due_on fault (length due) s is [] rest refl (start_on due (before ++ rest) e runs)

  -- An item to `left` levels is due after `n` bytes.
  pub record AtItem (left : ℕ) (closable : Bool) (n : ℕ) (due : List ℕ) : Type 0 where
    pub levels : List Remaining
    pub same : can_close levels ≡ closable
    pub place : ℕ
    pub runs : Runs fault (at s w.Nothing left levels place n) due

  pub item_reached : (before rest due : List ℕ) (left : ℕ) (closable : Bool)
      → ItemDue s false depth before left closable
      → FromStart due → due ≡ before ++ rest → AtItem left closable (length before) rest
  item_reached before rest due left closable is runs e =
      let o = item_on before rest due is runs e in
      let r = reach before rest due e o.on in
      record { levels = o.levels; same = o.same; place = r.0; runs = r.1 }

  -- A title is due after `n` bytes, within the open strings `i`.
  pub record AtTitle (i : Within) (n : ℕ) (due : List ℕ) : Type 0 where
    pub left : ℕ
    pub levels : List Remaining
    pub place : ℕ
    pub runs : Runs fault (at s i left levels place n) due

  pub due_reached : {before : List ℕ} (rest due : List ℕ) → ReachesItem s depth before Due → FromStart due
      → due ≡ before ++ rest → AtTitle w.Nothing (length before) rest
  due_reached {before} rest due (at_item {levels = left} {closable = c} is) runs e =
      let o = item_reached before rest due left c is runs e in
      record { left = left; levels = o.levels; place = o.place; runs = o.runs }

  pub string_reached : {before : List ℕ} {k : Kind} (rest due : List ℕ) → ReachesItem s depth before (In k)
      → FromStart due → due ≡ before ++ rest → (j : ℕ) × AtTitle (inside k j) (length before) rest
  string_reached {k = k} rest due
      (at_string {bytes = b} {opens = u} {levels = left} {bodies = bs} is inner taken sound) runs e =
      let o = item_on b (u ++ rest) due is runs (e ∙ append_assoc b u rest) in
      let all = inside_on s fault (length due) k left o.levels u rest bs inner taken sound o.on in
      let r = reach (b ++ u) rest due e all.1 in
      (all.0, record { left = left; levels = o.levels; place = r.0; runs = r.1 })

  pub title_reached : {before : List ℕ} {point : Point} (rest due : List ℕ) → ReachesItem s depth before point
      → IsAtTitle point → FromStart due → due ≡ before ++ rest → (i : Within) × AtTitle i (length before) rest
  title_reached {point = Due} rest due reach at_title runs e = (w.Nothing, due_reached rest due reach runs e)
  title_reached {point = In k} rest due reach at_title runs e =
      let o = string_reached rest due reach runs e in (inside k o.0, o.1)
  title_reached {point = BodyDue k len start} rest due reach at_title runs e = absurd at_title
