-- The bytes that are due after one more byte.
use Rattle.std.proofs.Common.{◌≡◌, ℕ, zero, suc, Bool, true, false, List, [], ◌∷◌, ◌++◌, length, None, refl, sym, ap}
use Rattle.std.proofs.Common.{subst, ◌∙◌, inl, inr, arith, append_assoc, append-nil}
use Rattle.std.proofs.lemmas.Bool.Decides.{nat_tests}
use Rattle.ciborium_ll_grammar.specs.declared.spelling.Spelling.{Spelling}
use Rattle.ciborium_ll_grammar.specs.declared.hdr.Header.{Header}
use Rattle.ciborium_ll_grammar.specs.declared.hdr.Header.TheVariants as h
use Rattle.ciborium_ll_grammar.specs.Title.{IsTitle, IsCutTitle}
use Rattle.ciborium_ll_grammar.specs.Items.{IsItem, IsTakenTitle, more_items, no_items}
use Rattle.ciborium_ll_grammar.specs.Strings.{Kind, kind_header}
use Rattle.ciborium_ll_grammar.proofs.AffixLaws.{title_not_cut}
use Rattle.ciborium_ll_grammar.proofs.StringLaws.{break_title}
use Rattle.ciborium_ll_text.specs.declared.state.State.{State}
use Rattle.ciborium_ll_text.specs.States.{after_byte, may_end}
use Rattle.ciborium_ll_text.proofs.EndLaws.{none_left, text_may_end}
use Rattle.ciborium_ll_text.proofs.Lists.{front_of_front}
use Rattle.std.proofs.lemmas.Bool.{cases_lt}
use Rattle.ciborium_ll_grammar.specs.declared.remaining.Remaining.{Remaining}
use Rattle.cbor_checker.specs.declared.phase.Phase.{Phase}
use Rattle.cbor_checker.specs.declared.phase.Phase.TheVariants as p
use Rattle.cbor_parser.specs.declared.strings.Within.{Within}
use Rattle.cbor_parser.specs.declared.strings.Within.TheVariants as w
use Rattle.cbor_checker.specs.declared.phase.Fault.{Fault}
use Rattle.cbor_parser.specs.Strings.{kind_of}
use Rattle.cbor_checker.specs.Spots.{Spot}
use Rattle.cbor_checker.specs.Steps.{start, titled, with_byte, TitleStep, cut, early, whole, none, text_left, counted}
use Rattle.cbor_checker.specs.Steps.{StepIn, IsFed, fresh, more}
use Rattle.cbor_checker.proofs.Waiting.{Breaks, BodyThen, AnyBody, TextBody, TitleDue, StringDone, WaitsIn, Waits}
use Rattle.cbor_checker.proofs.LevelLaws.{Same}
use Rattle.cbor_checker.proofs.StringLaws.{bytes_body, no_body, First, breaks, whole as whole_string, opens, first_of}
use Rattle.cbor_checker.proofs.TitleDueLaws.{title_enters}

-- ---- if a title is due, a title comes

-- The bytes begin with a title that is taken.
pub record Titled (s : Spelling) (y : List ℕ) : Type 0 where
  pub title : List ℕ
  pub header : Header
  pub rest : List ℕ
  pub is_title : IsTitle title header
  pub taken : IsTakenTitle s title header
  pub is : y ≡ title ++ rest

item_titled : (s : Spelling) (d : ℕ) (item rest y : List ℕ) → IsItem s d item → y ≡ item ++ rest → Titled s y
item_titled s d item rest y (more_items {title = t} {rest = r} q g c no_items) e =
    let is = e ∙ append_assoc t (r ++ []) rest in search

-- Any checker takes the title `ff` of a break.
break_taken : (s : Spelling) → IsTakenTitle s (0xff ∷ []) h.Break
break_taken s = grind (arith, nat_tests)

break_titled : (s : Spelling) (rest y : List ℕ) → y ≡ 0xff ∷ rest → Titled s y
break_titled s rest y e =
    record { title = 0xff ∷ []; header = h.Break; rest = rest; is_title = break_title; taken = break_taken s; is = e }

first_titled : (s : Spelling) (k : Kind) (Then : List ℕ → Type 0) (y : List ℕ) → First s k Then y → Titled s y
first_titled s k Then y (breaks rest behind e) = break_titled s rest y e
first_titled s k Then y (whole_string t b far q g sound behind e) = search
first_titled s k Then y (opens t far any q behind e) =
    record { title = t; header = kind_header k None; rest = far; is_title = q; taken = rw any tt; is = e }

breaks_titled : (s : Spelling) (d : ℕ) (levels : List Remaining) (y : List ℕ) → Breaks s d levels y → Titled s y
breaks_titled s d (level ∷ levels) y o = break_titled s o.rest y o.is
breaks_titled s d [] y o = absurd o

pub due_titled : (s : Spelling) (i : Within) (d : ℕ) (levels : List Remaining) (y : List ℕ) → TitleDue s i d levels y
    → Titled s y
due_titled s w.Nothing d levels y (inl o) = item_titled s d o.item o.rest y o.is_item o.is
due_titled s w.Nothing d levels y (inr o) = breaks_titled s d levels y o
due_titled s (w.Open k n) d levels y o = first_titled s (kind_of k) _ y (first_of s (kind_of k) _ y o)

-- ---- a byte of a title

itself : (A : Type 0) → Same A A
itself A = (λ a. a, λ a. a)

-- If no title with this beginning may stand there, no bytes complete the item.
module _ (spot : Spot) (fault : Fault) (is_cut : IsCutTitle spot.front)
    (all : (behind : List ℕ) (x : Header) → IsTitle (spot.front ++ behind) x
    → (titled x spot).phase ≡ p.Faulted fault) where
  early_none : (y : List ℕ) → TitleDue spot.allowed spot.within spot.depth spot.levels (spot.front ++ y) → ⊥
  early_none y due =
      let o = due_titled _ spot.within _ spot.levels _ due in
      elim (cases_lt (length o.title) (length spot.front)) [
        | inl less ↦ (
            let f = front_of_front o.title spot.front o.rest y (sym o.is) (omega (arith, less)) in
            title_not_cut o.title f.0 o.header o.is_title (subst IsCutTitle f.1 is_cut)
            )
        | inr as_long ↦ (
            let f = front_of_front spot.front o.title y o.rest o.is as_long in
            let u : Spot = record spot { front = [] } in
            let waits = (title_enters spot.within u _ o.rest _ refl refl o.is_title o.taken).0 (rw o.is at due) in
            rw (all f.0 o.header (rw f.1 at o.is_title)) at waits
            )
      ]

title_same : (spot new : Spot) → TitleStep spot new → spot.phase ≡ p.Title → (y : List ℕ)
    → Same (TitleDue spot.allowed spot.within spot.depth spot.levels (spot.front ++ y)) (Waits new y)
title_same spot new (cut c some may) at y = rw at (itself _)
title_same spot new (early fault c some all) at y = (λ due. early_none spot fault c all y due, λ no. absurd no)
title_same spot new (whole x q g) at y =
    title_enters spot.within (record spot { front = [] }) spot.front y x refl refl q g
title_same spot new (none never) at y = (
  λ due. let o = due_titled _ spot.within _ spot.levels _ due in
      never y o.title o.rest o.header o.is_title o.taken o.is,
  λ no. absurd no,
)

-- ---- a byte of a body

body_next : (left : ℕ) (Sound Then : List ℕ → Type 0) (b : ℕ) (y body rest : List ℕ) → length body ≡ suc left
    → Sound body → Then rest → b ∷ y ≡ body ++ rest → BodyThen left (λ z. Sound (b ∷ z)) Then y
body_next left Sound Then b y [] rest l sound behind e = absurd (omega arith)
body_next left Sound Then b y (c ∷ body) rest l sound behind e =
    let heads : b ≡ c = cc in
    record { body = body; rest = rest; long = omega arith; sound = rw heads sound; behind = behind; is = cc }

body_same : (left : ℕ) (Sound Then : List ℕ → Type 0) (b : ℕ) (y : List ℕ)
    → Same (BodyThen (suc left) Sound Then (b ∷ y)) (BodyThen left (λ z. Sound (b ∷ z)) Then y)
body_same left Sound Then b y = (
  λ o. body_next left Sound Then b y o.body o.rest o.long o.sound o.behind o.is,
  λ o. let long = ap suc o.long in let is = ap (λ (z : List ℕ). b ∷ z) o.is in
      record { body = b ∷ o.body; rest = o.rest; long = long; sound = o.sound; behind = o.behind; is = is },
)

-- ---- a byte of a text

text_left_same : (m : Bool) (left : ℕ) (state : State) (spot : Spot) (y : List ℕ) → spot.front ≡ []
    → may_end state left ≡ m
    → Same (BodyThen left (TextBody state) (StringDone spot.allowed spot.within spot.depth spot.levels) y)
    (Waits (text_left m left state spot) y)
text_left_same false left state spot y clear e = (
  λ o. let may = text_may_end state o.body o.sound in let no = sym e ∙ (rw o.long at may) in absurd cc,
  λ no. absurd no,
)
text_left_same true zero state spot y clear e = no_body (TextBody state) spot y clear (none_left state e)
text_left_same true (suc left) state spot y clear e = itself _

-- ---- any byte

both : {A B C : Type 0} → Same A B → Same B C → Same A C
both f g = (λ a. g.0 (f.0 a), λ c. f.1 (g.1 c))

step_same : (phase : Phase) (spot new : Spot) (b : ℕ) → phase ≡ spot.phase → StepIn phase spot b new → (y : List ℕ)
    → Same (WaitsIn phase spot (b ∷ y)) (Waits new y)
step_same p.Title spot new b at step y =
    rw (append_assoc spot.front (b ∷ []) y) at (title_same (with_byte b spot) new step (sym at) y)
step_same (p.Bytes (suc left)) spot new b at step y =
    rw step (both (body_same left AnyBody _ b y) (bytes_body left (counted spot) y refl))
step_same (p.Text (suc left) state) spot new b at step y =
    let next = after_byte state b in
    rw step (both (body_same left (TextBody state) _ b y)
    (text_left_same (may_end next left) left next (counted spot) y refl refl))
step_same phase spot new b at step y = absurd step

-- ---- all bytes so far

fresh_same : (s : Spelling) (d : ℕ) (y : List ℕ) → Same (IsItem s d y) (Waits (start s d) y)
fresh_same s d y = (
  λ i. inl (record { item = y; rest = []; is_item = i; behind = refl; is = sym (append-nil y) }),
  λ due. elim due [
    | inl o ↦ (let is : y ≡ o.item =
        o.is ∙ (ap (λ (z : List ℕ). o.item ++ z) o.behind ∙ append-nil o.item) in rw is o.is_item)
    | inr o ↦ absurd o
  ],
)

-- The bytes that complete the item of all bytes so far are those that the spot waits for.
pub fed_same : (s : Spelling) (d : ℕ) (fed : List ℕ) (spot : Spot) → IsFed s d fed spot → (y : List ℕ)
    → Same (IsItem s d (fed ++ y)) (Waits spot y)
fed_same s d fed spot fresh y = fresh_same s d y
fed_same s d fed spot (more {bytes = a} {spot = before} b byte is step) y =
    rw (append_assoc a (b ∷ []) y)
    (both (fed_same s d a before is (b ∷ y)) (step_same before.phase before spot b refl step y))
