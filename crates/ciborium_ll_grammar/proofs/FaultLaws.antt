-- At a fault, the part that is due cannot come, or a strict decoder refuses it.
use Rattle.std.proofs.Common.{◌≡◌, ℕ, ◌<◌, ◌⊎◌, List, ◌++◌, length, None, refl, [], ◌∷◌}
use Rattle.std.proofs.Common.{append_assoc, length-append, arith, inl, inr}
use Rattle.ciborium_ll_grammar.specs.declared.spelling.Spelling.{Spelling}
use Rattle.ciborium_ll_grammar.specs.declared.spelling.Spelling.TheVariants.{Any, Shortest}
use Rattle.ciborium_ll_grammar.specs.declared.hdr.Header.{Header}
use Rattle.ciborium_ll_grammar.specs.Title.{IsTitle}
use Rattle.ciborium_ll_grammar.specs.Strings.{Kind, Bytes, Text, kind_header, IsMisplaced}
use Rattle.std.specs.List.{AllByRecursion}
use Rattle.ciborium_ll_grammar.specs.Elements.{Mark, spelling, IsElement, IsRun, done, next, IsNoSmallSimple}
use Rattle.ciborium_ll_grammar.specs.Faults.{Point, Due, In, BodyDue, Reaches, due, inside, body, body_inside, Answer}
use Rattle.ciborium_ll_grammar.specs.Faults.{IsAtTitle, IsRefusedIn, FirstFault}
use Rattle.ciborium_ll_grammar.specs.Items.{IsTakenTitle}
use Rattle.ciborium_ll_grammar.proofs.ElementLaws.{one_element, least_element, least_run, spelling-append}
use Rattle.ciborium_ll_grammar.proofs.HaltLaws.{IsBad, Halt, halt_cut, halt_refused, halt_misplaced, halt_bad, opens_of}
use Rattle.ciborium_ll_grammar.proofs.HaltLaws.{Stop, stop_cut, stop_refused, stop_bad, element_stops, element_inside}

pub meant_left : (ms ns : List Mark) → AllByRecursion IsNoSmallSimple (ms ++ ns) → AllByRecursion IsNoSmallSimple ms
meant_left [] ns p = tt
meant_left (m ∷ ms) ns p = (p.0, meant_left ms ns p.1)

pub meant_right : (ms ns : List Mark) → AllByRecursion IsNoSmallSimple (ms ++ ns) → AllByRecursion IsNoSmallSimple ns
meant_right [] ns p = p
meant_right (m ∷ ms) ns p = meant_right ms ns p.1

-- If an element and a run together are their spelling, each is its own spelling.
next_same : (x y : List ℕ) (ns os : List Mark) (m : ℕ) → IsElement x ns → IsRun m y os → x ++ y ≡ spelling (ns ++ os)
    → (x ≡ spelling ns) × (y ≡ spelling os)
next_same x y ns os m a r e = grind (arith, least_element, least_run, spelling-append ns os, length-append {A = ℕ})

-- After a shorter run, a longer run continues with an element. The element is its own spelling if the longer run is.
pub record Follows (run : List ℕ) (all : List Mark) (x : List ℕ) : Type 0 where
  pub word : List ℕ
  pub marks : List Mark
  pub ok : IsElement word marks
  pub rest : List ℕ
  pub is : x ≡ word ++ rest
  pub spelled : run ≡ spelling all → AllByRecursion IsNoSmallSimple all → (word ≡ spelling marks) × AllByRecursion IsNoSmallSimple marks

follow : {run : List ℕ} {all : List Mark} {x : List ℕ} (word : List ℕ) (marks : List Mark) → IsElement word marks
    → (rest : List ℕ) → x ≡ word ++ rest → (run ≡ spelling all → AllByRecursion IsNoSmallSimple all
    → (word ≡ spelling marks) × AllByRecursion IsNoSmallSimple marks) → Follows run all x
follow word marks ok rest is spelled =
    record { word = word; marks = marks; ok = ok; rest = rest; is = is; spelled = spelled }

-- If two runs begin the same bytes, the longer run continues with an element.
pub follows : (i : ℕ) (u : List ℕ) (ms : List Mark) → IsRun i u ms → (n : ℕ) (w : List ℕ) (ns : List Mark)
    → IsRun n w ns → i < n → (x v : List ℕ) → u ++ x ≡ w ++ v → Follows w ns x
follows i u ms done n w ns done l x v e = absurd (omega arith)
follows i u ms (next p r) n w ns done l x v e = absurd (omega arith)
follows i u ms done n w ns (next {first = a} {rest = b} {marks = os} {others = ps} p r) l x v e =
    follow a os p (b ++ v) (simp append_assoc at e)
    (λ same meant. ((next_same a b os ps _ p r same).0, meant_left os ps meant))
follows i u ms (next {rest = b} p r) n w ns (next {first = a'} {rest = b'} {marks = os'} {others = ps'} p' r') l x v e =
    let o = one_element _ a' (b ++ x) (b' ++ v) _ os' p p' (simp append_assoc at e) in
    let z = follows _ b _ r _ b' ps' r' (omega arith) x v o.2 in
    follow z.word z.marks z.ok z.rest z.is
    (λ same meant. z.spelled (next_same a' b' os' ps' _ p' r' same).1 (meant_right os' ps' meant))

-- The part that is due cannot come.
pub data Stuck : Point → List ℕ → Type 0 where
  stop : {s : List ℕ} → Stop s → Stuck Due s
  halt : {s : List ℕ} (k : Kind) → Halt k s → Stuck (In k) s
  bad_body : {s : List ℕ} {k : Kind} {l p : ℕ} → IsBad k l s → Stuck (BodyDue k l p) s

-- If the part that is due cannot come, no run of `n` elements begins the bytes.
pub reach_stuck : (n : ℕ) (u : List ℕ) (ms : List Mark) (at : Point) → Reaches n u ms at → (s : List ℕ) → Stuck at s
    → (w v : List ℕ) (ns : List Mark) → IsRun n w ns → u ++ s ≡ w ++ v → ⊥
reach_stuck n u ms at (due l r) s (stop f) w v ns r' e =
    let z = follows _ u ms r n w ns r' l s v e in
    element_stops z.word z.marks z.ok z.rest s f z.is
reach_stuck n u ms at (inside {bytes = a} {opens = b} l r q ok) s (halt k f) w v ns r' e =
    let z = follows _ a _ r n w ns r' l (b ++ s) v (simp append_assoc at e) in
    element_inside z.word z.marks z.ok k b s z.rest (opens_of k b _ q) f z.is
reach_stuck n u ms at (body {bytes = a} {title = t} k r p) s (bad_body f) w v ns r' e =
    reach_stuck n a ms Due r (t ++ s) (stop (stop_bad s k _ p f refl)) w v ns r' (simp append_assoc at e)
reach_stuck n u ms at (body_inside {bytes = a} {title = t} {kind = k} r p) s (bad_body f) w v ns r' e =
    reach_stuck n a ms (In k) r (t ++ s) (halt k (halt_bad s _ p f refl)) w v ns r' (simp append_assoc at e)

-- A body that is too short is bad.
pub too_short : (k : Kind) (l : ℕ) (s : List ℕ) → length s < l → IsBad k l s
too_short Bytes l s f = f
too_short Text l s f = inl f

-- A strict decoder alone refuses the title.
pub data Refuses (allowed : Spelling) : Point → List ℕ → Type 0 where
  long : {at : Point} {s t : List ℕ} (x : Header) (r : List ℕ) → IsAtTitle at → IsTitle t x
      → (IsTakenTitle allowed t x → ⊥) → s ≡ t ++ r → Refuses allowed at s
  nested : {k : Kind} {s t : List ℕ} (r : List ℕ) → allowed ≡ Shortest → IsTitle t (kind_header k None) → s ≡ t ++ r
      → Refuses allowed (In k) s

-- A decoder that takes any spelling refuses no such title.
pub none_refused : (at : Point) (s : List ℕ) → Refuses Any at s → ⊥
none_refused at s (long x r d p untaken e) = untaken tt
none_refused at s (nested r on p e) = absurd (let o = on in cc)

pub lenient_misplaced : (k : Kind) (x : Header) → IsRefusedIn Any k x → IsMisplaced k x
lenient_misplaced k x (inl f) = f
lenient_misplaced k x (inr further) = absurd (let on = further.0 in cc)

-- The reasons for which the part that is due cannot come, or is refused.
ruleset reasons = (stop, halt, bad_body, long, nested, stop_cut, stop_refused, halt_cut, halt_refused, halt_misplaced)

-- At a fault, the part that is due cannot come, or a strict decoder refuses it.
pub stuck_or_refused : (allowed : Spelling) (u : List ℕ) (ms : List Mark) (at : Point) (s : List ℕ) (a : Answer)
    (out : List ℕ) (c : ℕ) → FirstFault allowed u ms at s a out c → Stuck at s ⊎ Refuses allowed at s
stuck_or_refused allowed u ms at s a out c f = grind (arith, reasons, too_short)

pub stuck : (u : List ℕ) (ms : List Mark) (at : Point) (s : List ℕ) (a : Answer) (out : List ℕ) (c : ℕ)
    → FirstFault Any u ms at s a out c → Stuck at s
stuck u ms at s a out c f = grind (arith, stuck_or_refused Any u ms at s a out c f, none_refused)
