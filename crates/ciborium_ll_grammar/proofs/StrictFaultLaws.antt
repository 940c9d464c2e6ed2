-- A fault and a run of enough elements exclude each other.
use Rattle.std.proofs.Common.{◌≡◌, ℕ, ◌+◌, ◌≤◌, List, [], ◌∷◌, ◌++◌, length, Option, Some, None}
use Rattle.std.proofs.Common.{refl, sym, ap, ◌∙◌, arith, append_assoc, append-nil, length-append}
use Rattle.std.specs.List.{AllByRecursion}
use Rattle.ciborium_ll_grammar.specs.declared.spelling.Spelling.{Spelling}
use Rattle.ciborium_ll_grammar.specs.declared.spelling.Spelling.TheVariants.{Any, Shortest}
use Rattle.ciborium_ll_grammar.specs.declared.hdr.Header.{Header}
use Rattle.ciborium_ll_grammar.specs.declared.hdr.Header.TheVariants as h
use Rattle.ciborium_ll_grammar.specs.Title.{IsTitle, IsSmallSimple, IsStrictTitle, shortest_title, title_len}
use Rattle.ciborium_ll_grammar.specs.Strings.{Kind, kind_header, IsString, AreStrings, none, more}
use Rattle.ciborium_ll_grammar.specs.Strings.IsString.{definite, indefinite}
use Rattle.ciborium_ll_grammar.specs.Elements.{Mark, Whole, Open, pieces, spelling, IsElement, plain, string, IsRun}
use Rattle.ciborium_ll_grammar.specs.Elements.{IsNoSmallSimple, IsStrictSpelling, IsStrictRun}
use Rattle.ciborium_ll_grammar.specs.Faults.{Point, Due, In, BodyDue, IsAtTitle, IsInside, opened, deeper, Reaches, due}
use Rattle.ciborium_ll_grammar.specs.Faults.{inside, body, body_inside, due_title, BeginsWithElements, HasFault}
use Rattle.ciborium_ll_text.proofs.Lists.{same_front}
use Rattle.ciborium_ll_grammar.proofs.TitleLaws.{one_title, shortest_no_longer, IsTitle-shortest}
use Rattle.ciborium_ll_grammar.proofs.StringLaws.{same_string, not_break, break_title}
use Rattle.ciborium_ll_grammar.proofs.ElementLaws.{not_plain, string_fronts, AreStrings-append, spelling-append}
use Rattle.ciborium_ll_grammar.proofs.ElementLaws.{pieces_spelled, respell_one, respell_all, open_spelled, least_run}
use Rattle.ciborium_ll_grammar.proofs.AloneLaws.{alone_bytes, open_alone, open_in_range}
use Rattle.ciborium_ll_grammar.proofs.SpelledLaws.{spelled_alone}
use Rattle.ciborium_ll_grammar.proofs.TightLaws.{tight_title}
use Rattle.ciborium_ll_grammar.proofs.HaltLaws.{goes_on}
use Rattle.ciborium_ll_grammar.proofs.FaultLaws.{follows, reach_stuck, stuck_or_refused, Refuses, long, nested}
use Rattle.ciborium_ll_grammar.proofs.FaultLaws.{none_refused}

-- ---- titles

-- A title that begins the same bytes as a strict title is a strict title.
same_strictly : (t w r q : List ℕ) (x y : Header) → IsTitle t x → IsTitle w y → w ≡ shortest_title y
    → (IsSmallSimple y → ⊥) → t ++ r ≡ w ++ q → IsStrictTitle t x
same_strictly t w r q x y p p' s m e = grind (arith, one_title t w r q x y p p' e)

kind_meant : (k : Kind) (o : Option ℕ) → IsSmallSimple (kind_header k o) → ⊥
kind_meant k o f = grind arith

-- If a string is its own spelling, its title is the shortest.
string_first : (k : Kind) (y b : List ℕ) → IsTitle y (kind_header k (Some (length b)))
    → y ++ b ≡ spelling (Whole k b ∷ []) → y ≡ shortest_title (kind_header k (Some (length b)))
string_first k y b p s = tight_title y _ p (omega (arith, ap length s, length-append {A = ℕ}))

-- ---- places at which an element is due

-- A title that begins the same bytes as a strict element is a strict title.
element_begins : (w : List ℕ) (ms : List Mark) → IsElement w ms → w ≡ spelling ms → AllByRecursion IsNoSmallSimple ms
    → (t r q : List ℕ) (x : Header) → IsTitle t x → t ++ r ≡ w ++ q → IsStrictTitle t x
element_begins w ms (plain y p f) s m t r q x c e = same_strictly t w r q x y c p (simp append-nil at s) m.0 e
element_begins w ms (string k (definite {title = y} {body = b} p) f) s m t r q x c e =
    same_strictly t y r (b ++ q) x _ c p (string_first k y b p s) (kind_meant k _) (simp append_assoc at e)
element_begins w ms (string k (indefinite {title = y} p g) f) s m t r q x c e =
    same_strictly t y r _ x _ c p (alone_bytes y _ p (open_alone k)) (kind_meant k None) (simp append_assoc at e)

-- ---- within a string

-- The strings are their own spelling.
abbrev IsTight : Kind → List ℕ → List (List ℕ) → Type 0
IsTight k w bs = w ≡ spelling (pieces k bs)

-- If joined strings are their own spelling, so are the first string and the others.
tight_parts : (k : Kind) (x y : List ℕ) (cs ds : List (List ℕ)) → IsString k x cs → AreStrings k y ds
    → IsTight k (x ++ y) (cs ++ ds) → IsTight k x cs × IsTight k y ds
tight_parts k x y cs ds s ss l =
    grind (arith, respell_one k x cs s, respell_all k y ds ss, pieces_spelled k cs ds, length-append {A = ℕ})

-- The title is strict, and its header is no open.
abbrev IsInner : Kind → List ℕ → Header → Type 0
IsInner k t x = IsStrictTitle t x × (x ≡ kind_header k None → ⊥)

-- If a string is its own spelling, a title that begins the same bytes is strict and no open.
inner_string : (k : Kind) (a : List ℕ) (cs : List (List ℕ)) → IsString k a cs → IsTight k a cs → (t r q : List ℕ)
    (x : Header) → IsTitle t x → t ++ r ≡ a ++ q → IsInner k t x
inner_string k a cs (definite {title = y} {body = b} p) l t r q x c e =
    let o = one_title t y r (b ++ q) x _ c p (simp append_assoc at e) in (
      record { shortest = o.0 ∙ string_first k y b p l ∙ ap shortest_title (sym o.1); meant = rw o.1 (kind_meant k _) },
      λ same. grind (arith, same_string),
    )
inner_string k a cs (indefinite {strings = z} p s) l t r q x c e =
    let n = (respell_all k z cs s).shorter in
    absurd (omega (arith, ap length l, length-append {A = ℕ}))

inner_title : (k : Kind) (w : List ℕ) (bs : List (List ℕ)) → AreStrings k w bs → IsTight k w bs
    → (t r v : List ℕ) (x : Header) → IsTitle t x → t ++ r ≡ w ++ 0xff ∷ v → IsInner k t x
inner_title k w bs none l t r v x c e =
    let o = one_title t (0xff ∷ []) r v x h.Break c break_title e in
    (same_strictly t (0xff ∷ []) r v x h.Break c break_title refl (λ f. f) e, λ same. not_break k None (sym same ∙ o.1))
inner_title k w bs (more {first = a} {rest = y} s ss) l t r v x c e =
    inner_string k a _ s (tight_parts k a y _ _ s ss l).0 t r (y ++ 0xff ∷ v) x c (simp append_assoc at e)

-- The spelling of the pieces inside a string is strings with the same bodies.
inside_strings : (k : Kind) (u : List ℕ) (bs : List (List ℕ)) → IsInside k u bs
    → AreStrings k (spelling (pieces k bs)) bs
inside_strings k u bs (opened {strings = y} p s) = (respell_all k y bs s).strings
inside_strings k u bs (deeper {outer = x} {inner = y} i j) =
    rw pieces_spelled (AreStrings-append k _ _ (inside_strings k x _ i) _ _ (inside_strings k y _ j))

-- An open and the spelling of the pieces inside a string are no longer than the bytes.
pub inside_shorter : (k : Kind) (u : List ℕ) (bs : List (List ℕ)) → IsInside k u bs
    → title_len (kind_header k None) + length (spelling (pieces k bs)) ≤ length u
inside_shorter k u bs (opened {title = t} {strings = y} p s) =
    omega (arith, shortest_no_longer t _ p, (respell_all k y bs s).shorter, length-append t y)
inside_shorter k u bs (deeper {outer = x} {inner = y} {bodies = cs} {others = ds} i j) = omega
    (arith, inside_shorter k x cs i, inside_shorter k y ds j, ap length (pieces_spelled k cs ds), length-append {A = ℕ})

-- If an open, strings and a title begin the same bytes as an element in its own spelling, the title is strict and no
-- open.
element_goes : (w : List ℕ) (ms : List Mark) → IsElement w ms → w ≡ spelling ms → (k : Kind) (o y : List ℕ)
    (bs : List (List ℕ)) → IsTitle o (kind_header k None) → AreStrings k y bs → (t r q : List ℕ) (x : Header)
    → IsTitle t x → (o ++ y) ++ (t ++ r) ≡ w ++ q → IsInner k t x
element_goes w ms (plain z p f) s k o y bs d ys t r q x c e = absurd (grind (arith, one_title, not_plain, append_assoc))
element_goes w ms (string j (definite p) f) s k o y bs d ys t r q x c e =
    absurd (grind (arith, string_fronts, append_assoc))
element_goes w ms (string j (indefinite {title = z} {strings = a} {bodies = cs} p g) f) s k o y bs d ys t r q x c e =
    let b = string_fronts k j o z (y ++ (t ++ r)) (a ++ 0xff ∷ q) None None d p (simp append_assoc at e) in
    let tight : IsTight j a cs = grind
    (arith, respell_all j a cs g, alone_bytes z _ p (open_alone j), open_spelled j cs, length-append {A = ℕ}) in
    let z = goes_on k (IsTight k) (λ a y cs ds q qs l. (tight_parts k a y cs ds q qs l).1) y bs ys a (t ++ r) q cs
    (rw (← b.0) at g) (rw (← b.0) at tight) b.3 in
    inner_title k z.strings z.bodies z.ok z.holds t r q x c z.is

-- If a run and the bytes inside a string are their spelling, the bytes inside are their own spelling.
inside_same : (i : ℕ) (k : Kind) (a b : List ℕ) (os : List Mark) (bs : List (List ℕ)) → IsRun i a os → IsInside k b bs
    → a ++ b ≡ spelling (os ++ Open k ∷ pieces k bs) → b ≡ shortest_title (kind_header k None) ++ spelling (pieces k bs)
inside_same i k a b os bs r n e =
    let s = e ∙ spelling-append os (Open k ∷ pieces k bs) in
    (same_front a (spelling os) b _ (grind (
      arith,
      least_run i a os r,
      inside_shorter k b bs n,
      ap length s,
      length-append {A = ℕ},
    )) s).1

-- ---- a front of a strict run, and a title after it

-- Within a string, the header is no open.
abbrev IsNoOpen : Point → Header → Type 0
IsNoOpen Due x = Unit {0}
IsNoOpen (In k) x = x ≡ kind_header k None → ⊥
IsNoOpen (BodyDue k len start) x = Unit {0}

title_strictly : (n : ℕ) (u : List ℕ) (ms : List Mark) (at : Point) → Reaches n u ms at → IsAtTitle at → u
    ≡ spelling ms → (t r : List ℕ) (x : Header) → IsTitle t x
    → (w v : List ℕ) (ns : List Mark) → IsStrictRun n w ns → u ++ (t ++ r) ≡ w ++ v → IsStrictTitle t x × IsNoOpen at x
title_strictly n u ms at (due l q) d s t r x c w v ns run e =
    let z = follows _ u ms q n w ns run.run l (t ++ r) v e in
    let spelled = z.spelled run.same run.meant in
    (element_begins z.word z.marks z.ok spelled.0 spelled.1 t r z.rest x c z.is, tt)
title_strictly n u ms at (inside {bytes = a} {opens = b} {bodies = bs} {kind = k} l q f ok) d s t r x c w v ns run e =
    let z = follows _ a _ q n w ns run.run l (b ++ (t ++ r)) v (sym (append_assoc a b (t ++ r)) ∙ e) in
    let same = inside_same _ k a b _ bs q f s in
    element_goes z.word z.marks z.ok (z.spelled run.same run.meant).0 k _ (spelling (pieces k bs)) bs
    (IsTitle-shortest (kind_header k None) (open_in_range k)) (inside_strings k b bs f) t r z.rest x c
    (ap (λ (y : List ℕ). y ++ (t ++ r)) (sym same) ∙ z.is)
title_strictly n u ms at (body k q p) d s t r x c w v ns run e = absurd d
title_strictly n u ms at (body_inside q p) d s t r x c w v ns run e = absurd d

at_title_spelled : (point : Point) (bytes : List ℕ) (marks : List Mark) → IsAtTitle point
    → IsStrictSpelling bytes marks (due_title point) → bytes ≡ spelling marks
at_title_spelled point bytes marks d spelled = grind (arith, append-nil)

-- If a strict decoder refuses a title, no strict run of `n` elements begins the bytes.
strictly_stuck : (n : ℕ) (u : List ℕ) (ms : List Mark) (at : Point) → Reaches n u ms at
    → IsStrictSpelling u ms (due_title at) → (s : List ℕ) → Refuses Shortest at s
    → (w v : List ℕ) (ns : List Mark) → IsStrictRun n w ns → u ++ s ≡ w ++ v → ⊥
strictly_stuck n u ms at reach spelled s (long {t} x r d p untaken g) w v ns run e =
    untaken (title_strictly n u ms at reach d (at_title_spelled at u ms d spelled) t r x p w v ns run
    (rw g at e)).0
strictly_stuck n u ms at reach spelled s (nested {k} {t} r on p g) w v ns run e =
    (title_strictly n u ms (In k) reach tt (spelled_alone u ms spelled) t r _ p w v ns run (rw g at e)).1 refl

refused_none : (allowed : Spelling) (n : ℕ) (x : List ℕ) (r : BeginsWithElements allowed n x) (f : HasFault allowed n x)
    → Refuses allowed f.point f.ahead → ⊥
refused_none Any n x r f refuses = none_refused f.point f.ahead refuses
refused_none Shortest n x r f refuses =
    let run = r.spelled refl in
    strictly_stuck n f.before f.marks f.point f.reach (f.spelled refl) f.ahead refuses r.elements r.rest r.marks
    (record { run = r.run; same = spelled_alone r.elements r.marks run; meant = run.meant }) (sym f.is ∙ r.is)

-- Bytes that begin with `n` elements have no fault.
pub no_fault : (allowed : Spelling) (n : ℕ) (x : List ℕ) → BeginsWithElements allowed n x → HasFault allowed n x → ⊥
no_fault allowed n x r f =
    let from : f.before ++ f.ahead ≡ r.elements ++ r.rest = sym f.is ∙ r.is in
    grind (arith, stuck_or_refused, reach_stuck, refused_none allowed n x r f)
