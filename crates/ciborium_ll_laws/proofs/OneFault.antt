-- The faults of the same bytes are all at one place, if any spelling is taken.
use Rattle.std.proofs.Common.{arith, [], ◌≡◌, ℕ, ◌-◌, ◌<◌, ◌⊎◌, List, ◌∷◌, ◌++◌, length, Some, None, refl, sym}
use Rattle.std.proofs.Common.{ap, ◌∙◌, append_assoc, inl, inr}
use Rattle.std.proofs.lemmas.Bool.{cases_order}
use Rattle.ciborium_ll_grammar.specs.declared.spelling.Spelling.TheVariants.{Any}
use Rattle.ciborium_ll_grammar.specs.declared.hdr.Header.{Header}
use Rattle.ciborium_ll_grammar.specs.Title.{IsTitle, IsCutTitle, BeginsRefused, title_len}
use Rattle.ciborium_ll_grammar.specs.Strings.{Kind, kind_header, IsString, AreStrings, none, more, IsMisplaced}
use Rattle.ciborium_ll_grammar.specs.Elements.{AreWritable, Mark, Open, pieces, IsElement, IsRun}
use Rattle.ciborium_ll_grammar.specs.Faults.{IsInside, Point, Due, In, BodyDue, Reaches, due, inside, body, body_inside}
use Rattle.ciborium_ll_grammar.specs.Faults.{Answer, FirstFault, HasFault, CutTitle, NoTitle, LongTitle, OtherTitle}
use Rattle.ciborium_ll_grammar.specs.Faults.{DamagedText, CutBody, CutDamagedText, IsAtTitle, Short, Syntax}
use Rattle.ciborium_ll_text.specs.Text.{BeginsNoText}
use Rattle.ciborium_ll_grammar.proofs.TitleLaws.{one_title, title_refused}
use Rattle.ciborium_ll_grammar.proofs.AffixLaws.{title_not_cut, refused_affix}
use Rattle.ciborium_ll_grammar.proofs.StringLaws.{some_is, fronts, one_string, SameString}
use Rattle.ciborium_ll_grammar.proofs.ElementLaws.{one_run, string_fronts, AreWritable-left, AreWritable-right}
use Rattle.ciborium_ll_grammar.proofs.HaltLaws.{IsBad, Halt, halt_cut, halt_refused, halt_misplaced, halt_bad, Opens}
use Rattle.ciborium_ll_grammar.proofs.HaltLaws.{last, link, opens_of, opens_title, opens_string, opens_halt}
use Rattle.ciborium_ll_grammar.proofs.HaltLaws.{string_halts, open_halts, Stop, stop_cut, stop_refused, stop_bad}
use Rattle.ciborium_ll_grammar.proofs.HaltLaws.{halt_of, same_kind, element_stops, element_inside, kind_not_misplaced}
use Rattle.ciborium_ll_grammar.proofs.FaultLaws.{follows, too_short, lenient_misplaced}

-- The bytes begin with a string that a copy may write.
record Ahead (k : Kind) (x : List ℕ) : Type 0 where
  word : List ℕ
  bodies : List (List ℕ)
  ok : IsString k word bodies
  sound : AreWritable k bodies
  rest : List ℕ
  is : x ≡ word ++ rest

ahead : {k : Kind} {a y : List ℕ} {cs : List (List ℕ)} (b x : List ℕ) (ds : List (List ℕ)) → IsString k a cs
    → AreWritable k (cs ++ ds) → y ≡ (a ++ b) ++ x → Ahead k y
ahead {k = k} {a = a} {cs = cs} b x ds p ok e =
    let sound = AreWritable-left k cs ds ok in
    let is = e ∙ append_assoc a b x in
    search

-- Strings that begin the same bytes are the same, if no further string follows either list.
compare : {k : Kind} {w w' : List ℕ} {bs bs' : List (List ℕ)} → AreStrings k w bs → AreStrings k w' bs'
    → AreWritable k bs → AreWritable k bs' → (x x' : List ℕ) → (Ahead k x → ⊥) → (Ahead k x' → ⊥)
    → w ++ x ≡ w' ++ x' → SameString w w' bs bs' x x'
compare none none ok ok' x x' f f' e = (refl, refl, e)
compare none (more {rest = b} {others = ds} p q) ok ok' x x' f f' e = absurd (f (ahead b x' ds p ok' e))
compare (more {rest = b} {others = ds} p q) none ok ok' x x' f f' e = absurd (f' (ahead b x ds p ok (sym e)))
compare {k = k} (more {first = a} {rest = b} {bodies = cs} {others = ds} p q)
    (more {first = a'} {rest = b'} {bodies = cs'} {others = ds'} p' q') ok ok' x x' f f' e =
    let o = one_string k a a' (b ++ x) (b' ++ x') cs cs' p p' (simp append_assoc at e) in
    let r = compare q q' (AreWritable-right k cs ds ok) (AreWritable-right k cs' ds' ok') x x' f f' o.2 in
    (cc, cc, r.2)

-- No string begins at a halt.
ahead_halts : {k : Kind} {y : List ℕ} → Halt k y → Ahead k y → ⊥
ahead_halts {k = k} {y = y} f a = string_halts k a.word a.bodies a.ok a.sound a.rest y f a.is

-- No string begins with opens and a halt.
ahead_opens : {k : Kind} {u y : List ℕ} {os : List (List ℕ)} → Opens k u os → Halt k y → Ahead k (u ++ y) → ⊥
ahead_opens {k = k} {u = u} {y = y} c f a =
    opens_string k u c y (λ t w v bs q r ok e. opens_halt k u c y f t w v bs q r ok e) a.word a.bodies a.ok a.sound
    a.rest a.is

-- No opens begin at a halt.
open_ahead : {k : Kind} {u y : List ℕ} {os : List (List ℕ)} (z : List ℕ) → Opens k u os → Halt k y → y ≡ u ++ z → ⊥
open_ahead {k = k} {u = u} {y = y} z c f e =
    let t = opens_title k u c in
    open_halts k t.0 (t.1 ++ z) y f t.2 (rw (t.3, append_assoc) at e)

-- One open at a halt and two or more opens at a halt are not the same bytes.
open_further : {k : Kind} {t t' w w' x : List ℕ} {bs bs' ds : List (List ℕ)} (y y' : List ℕ)
    → IsTitle t (kind_header k None) → AreStrings k w bs → IsTitle t' (kind_header k None) → AreStrings k w' bs'
    → Opens k x ds → AreWritable k bs → AreWritable k (bs' ++ ds) → Halt k y → Halt k y'
    → (t ++ w) ++ y ≡ ((t' ++ w') ++ x) ++ y' → ⊥
open_further {k = k} {t} {t'} {w} {w'} {x} {bs' = bs'} {ds = ds} y y' p s p' s' d ok ok' f f' e =
    let o = fronts k t t' (w ++ y) (w' ++ (x ++ y')) None None p p' (simp append_assoc at e) in
    open_ahead y' d f (compare s s' ok (AreWritable-left k bs' ds ok') y (x ++ y') (λ a. ahead_halts f a)
    (λ a. ahead_opens d f' a) o.2).2

-- If two lists of opens begin the same bytes and a halt follows each, they are the same.
opens_same : {k : Kind} {u u' : List ℕ} {bs bs' : List (List ℕ)} → Opens k u bs → Opens k u' bs' → AreWritable k bs
    → AreWritable k bs' → (y y' : List ℕ) → Halt k y → Halt k y' → u ++ y ≡ u' ++ y' → SameString u u' bs bs' y y'
opens_same {k = k} (last {t} {w} p s) (last {t = t'} {w = w'} p' s') ok ok' y y' f f' e =
    let o = fronts k t t' (w ++ y) (w' ++ y') None None p p' (simp append_assoc at e) in
    let r = compare s s' ok ok' y y' (λ a. ahead_halts f a) (λ a. ahead_halts f' a) o.2 in
    (cc, r.1, r.2)
opens_same (last p s) (link p' s' d') ok ok' y y' f f' e = absurd (open_further y y' p s p' s' d' ok ok' f f' e)
opens_same (link p s d) (last p' s') ok ok' y y' f f' e =
    absurd (open_further y' y p' s' p s d ok' ok f' f (sym e))
opens_same {k = k} (link {t} {w} {u = x} {bs = cs} {cs = ds} p s d)
    (link {t = t'} {w = w'} {u = x'} {bs = cs'} {cs = ds'} p' s' d') ok ok' y y' f f' e =
    let o = fronts k t t' (w ++ (x ++ y)) (w' ++ (x' ++ y')) None None p p' (simp append_assoc at e) in
    let r = compare s s' (AreWritable-left k cs ds ok) (AreWritable-left k cs' ds' ok') (x ++ y) (x' ++ y')
    (λ a. ahead_opens d f a) (λ a. ahead_opens d' f' a) o.2 in
    let g = opens_same d d' (AreWritable-right k cs ds ok) (AreWritable-right k cs' ds' ok') y y' f f' r.2 in
    (cc, cc, g.2)

-- No element begins the bytes.
abbrev NoElement : List ℕ → Type 0
NoElement y = (w : List ℕ) (ms : List Mark) → IsElement w ms → (v : List ℕ) → y ≡ w ++ v → ⊥

-- If two runs begin the same bytes and no element follows either, they are the same.
same_run : {i i' : ℕ} {u u' : List ℕ} {ms ms' : List Mark} → IsRun i u ms → IsRun i' u' ms' → (y y' : List ℕ)
    → NoElement y → NoElement y' → u ++ y ≡ u' ++ y' → (u ≡ u') × (ms ≡ ms') × (y ≡ y')
same_run {i} {i'} {u} {u'} {ms} {ms'} r r' y y' f f' e =
    elim (cases_order i i') [
      | inl q ↦ one_run i' u ms (rw q at r) u' y y' ms' r' e
      | inr h ↦ elim h [
        | inl l ↦ (let z = follows i u ms r i' u' ms' r' l y y' e in absurd (f z.word z.marks z.ok z.rest z.is))
        | inr l ↦ (let z = follows i' u' ms' r' i u ms r l y' y (sym e) in absurd (f' z.word z.marks z.ok z.rest z.is))
      ]
    ]

-- A place at which a title is due and cannot come.
data Base (n : ℕ) : List ℕ → List Mark → Point → List ℕ → Type 0 where
  at_due : {i : ℕ} {u y : List ℕ} {ms : List Mark} → i < n → IsRun i u ms → Stop y → Base n u ms Due y
  at_in : {i : ℕ} {u v y : List ℕ} {ms : List Mark} {bs : List (List ℕ)} {k : Kind} → i < n → IsRun i u ms
      → IsInside k v bs → AreWritable k bs
      → Halt k y → Base n (u ++ v) (ms ++ Open k ∷ pieces k bs) (In k) y

-- The bytes before, the marks, the places and the bytes ahead are the same.
abbrev pub SameBase : List ℕ → List ℕ → List Mark → List Mark → Point → Point → List ℕ → List ℕ → Type 0
SameBase u u' ms ms' at at' y y' = (u ≡ u') × (ms ≡ ms') × (at ≡ at') × (y ≡ y')

-- No element begins at a stop.
no_at_stop : {y : List ℕ} → Stop y → NoElement y
no_at_stop {y = y} f w ms p v e = element_stops w ms p v y f e

-- No element begins with opens and a halt.
no_at_halt : {k : Kind} {u y : List ℕ} {os : List (List ℕ)} → Opens k u os → Halt k y → NoElement (u ++ y)
no_at_halt {k = k} {u = u} {y = y} c f w ms p v e = element_inside w ms p k u y v c f e

-- Bytes with a stop after a run have no opens and no halt after another run.
due_not_in : {k : Kind} {i i' : ℕ} {u u' v : List ℕ} {ms ms' : List Mark} {bs : List (List ℕ)} (y y' : List ℕ)
    → IsRun i u ms → Stop y → IsRun i' u' ms' → IsInside k v bs → Halt k y' → u ++ y ≡ (u' ++ v) ++ y' → ⊥
due_not_in {k = k} {v = v} {bs = bs} y y' r f r' q f' e =
    let c = opens_of k v bs q in
    let t = opens_title k v c in
    let o = same_run r r' y (v ++ y') (no_at_stop f) (no_at_halt c f') (simp append_assoc at e) in
    let g = rw (t.3, append_assoc) at o.2 in
    open_halts k t.0 (t.1 ++ y') y (halt_of y f k (same_kind k t.0 (t.1 ++ y') y None t.2 g)) t.2 g

-- The same bytes have only one place at which a title is due and cannot come.
one_base : {n : ℕ} {u u' y y' : List ℕ} {ms ms' : List Mark} {at at' : Point} → Base n u ms at y
    → Base n u' ms' at' y' → u ++ y ≡ u' ++ y' → SameBase u u' ms ms' at at' y y'
one_base {y = y} {y' = y'} (at_due l r f) (at_due l' r' f') e =
    let o = same_run r r' y y' (no_at_stop f) (no_at_stop f') e in
    (o.0, o.1, refl, o.2)
one_base {y = y} {y' = y'} (at_due l r f) (at_in l' r' q' ok' f') e = absurd (due_not_in y y' r f r' q' f' e)
one_base {y = y} {y' = y'} (at_in l r q ok f) (at_due l' r' f') e = absurd (due_not_in y' y r' f' r q f (sym e))
one_base {y = y} {y' = y'} (at_in {v = b} {bs} {k} l r q ok f) (at_in {v = b'} {bs = bs'} {k = k'} l' r' q' ok' f') e =
    let c = opens_of k b bs q in
    let c' = opens_of k' b' bs' q' in
    let o = same_run r r' (b ++ y) (b' ++ y') (no_at_halt c f) (no_at_halt c' f') (simp append_assoc at e) in
    let z = opens_title k b c in
    let z' = opens_title k' b' c' in
    let kk : k ≡ k' = (string_fronts k k' z.0 z'.0 (z.1 ++ y) (z'.1 ++ y') None None z.2 z'.2
    (simp append_assoc at (rw (z.3, z'.3) at o.2))).0 in
    let g = opens_same c (rw (sym kk) at c') ok (rw (sym kk) at ok') y y' f (rw (sym kk) at f') o.2 in
    (cc, cc, ap In kk, g.2)

-- The body of a string of the kind may be due after the place.
abbrev IsOf : Point → Kind → Type 0
IsOf Due k = Unit {0}
IsOf (In j) k = j ≡ k
IsOf (BodyDue j l p) k = ⊥

-- No title of a body that may be due begins the bytes.
abbrev NoBody : Point → List ℕ → Type 0
NoBody at y = (t s : List ℕ) (k : Kind) (l : ℕ) → IsOf at k → IsTitle t (kind_header k (Some l)) → y ≡ t ++ s → ⊥

cut_bodiless : {y : List ℕ} (at : Point) → IsCutTitle y → NoBody at y
cut_bodiless at c t s k l o p e = title_not_cut t s (kind_header k (Some l)) p (rw e at c)

refused_bodiless : {y : List ℕ} (at : Point) → BeginsRefused y → NoBody at y
refused_bodiless at c t s k l o p e = title_refused t s (kind_header k (Some l)) p (rw e at c)

misplaced_bodiless : {j : Kind} {y t' : List ℕ} (r : List ℕ) (x : Header) → IsTitle t' x → IsMisplaced j x
    → y ≡ t' ++ r → NoBody (In j) y
misplaced_bodiless {t' = t'} r x q f z t s k l o p e =
    let g = one_title t' t r s x (kind_header k (Some l)) q p (sym z ∙ e) in
    kind_not_misplaced k (Some l) (rw (o, g.1) at f)

-- The place of a body after its title, which was due.
abbrev place_of : Point → Kind → ℕ → List ℕ → List ℕ → Point
place_of Due k l u t = BodyDue k l (length (u ++ t) - title_len (kind_header k (Some l)))
place_of (In j) k l u t = BodyDue k l (length u)
place_of (BodyDue j m p) k l u t = Due

-- The body at a fault is bad.
bad_of : {k : Kind} {l p : ℕ} {s u : List ℕ} {ms : List Mark} {a : Answer} {out : List ℕ} {c : ℕ}
    → FirstFault Any u ms (BodyDue k l p) s a out c → IsBad k l s
bad_of (CutTitle d f) = absurd d
bad_of (NoTitle d f) = absurd d
bad_of (LongTitle x r d q untaken e) = absurd d
bad_of (DamagedText b r g f e z w m) = inr f
bad_of {k = k} {l = l} {s = s} (CutBody b r f e g m m2 m3) = too_short k l s f
bad_of (CutDamagedText b r f g e z w m) = inl f

-- The place of a fault, by the place where a title was due.
data Seen (n : ℕ) : List ℕ → List Mark → Point → List ℕ → Type 0 where
  seen_flat : {u s : List ℕ} {ms : List Mark} {at : Point} → Base n u ms at s → NoBody at s → Seen n u ms at s
  seen_deep : {u t s : List ℕ} {ms : List Mark} {at : Point} (k : Kind) (l : ℕ) → Base n u ms at (t ++ s) → IsOf at k
      → IsTitle t (kind_header k (Some l)) → Seen n (u ++ t) ms (place_of at k l u t) s

-- Each fault is at such a place.
seen : {n : ℕ} {u s : List ℕ} {ms : List Mark} {at : Point} {a : Answer} {out : List ℕ} {c : ℕ}
    → Reaches n u ms at → FirstFault Any u ms at s a out c → Seen n u ms at s
seen (due l r) (CutTitle d f) = seen_flat (at_due l r (stop_cut f)) (cut_bodiless Due f)
seen (due l r) (NoTitle d f) = seen_flat (at_due l r (stop_refused f)) (refused_bodiless Due f)
seen (inside {kind = k} l r q ok) (CutTitle d f) = seen_flat (at_in l r q ok (halt_cut f)) (cut_bodiless (In k) f)
seen (inside {kind = k} l r q ok) (NoTitle d f) =
    seen_flat (at_in l r q ok (halt_refused f)) (refused_bodiless (In k) f)
seen (due l r) (LongTitle x z d p untaken e) = absurd (untaken tt)
seen (inside l r q ok) (LongTitle x z d p untaken e) = absurd (untaken tt)
seen (inside {kind = k} l r q ok) (OtherTitle x z p f e) =
    let other = lenient_misplaced k x f in
    seen_flat (at_in l r q ok (halt_misplaced z x p other e)) (misplaced_bodiless z x p other e)
seen {s = s} (body {len = m} k (due l r) p) f =
    seen_deep k m (at_due l r (stop_bad s k m p (bad_of f) refl)) tt p
seen {s = s} (body_inside {len = m} (inside {kind = k} l r q ok) p) f =
    seen_deep k m (at_in l r q ok (halt_bad s m p (bad_of f) refl)) refl p

-- Two such places in the same bytes are the same.
one_seen : {n : ℕ} {u u' s s' : List ℕ} {ms ms' : List Mark} {at at' : Point} → Seen n u ms at s
    → Seen n u' ms' at' s' → u ++ s ≡ u' ++ s' → SameBase u u' ms ms' at at' s s'
one_seen (seen_flat b f) (seen_flat b' f') e = one_base b b' e
one_seen {s' = s'} (seen_flat b f) (seen_deep {t = t'} k' l' b' o' q') e =
    let z = one_base b b' (simp append_assoc at e) in
    absurd (f t' s' k' l' (rw (sym z.2) at o') q' z.3)
one_seen {s = s} (seen_deep {t} k l b o q) (seen_flat b' f') e =
    let z = one_base b b' (simp append_assoc at e) in
    absurd (f' t s k l (rw z.2 at o) q (sym z.3))
one_seen {s = s} {s' = s'} (seen_deep {t} k l b o q) (seen_deep {t = t'} k' l' b' o' q') e =
    let z = one_base b b' (simp append_assoc at e) in
    let g = string_fronts k k' t t' s s' (Some l) (Some l') q q' z.3 in
    let ll = some_is l l' g.2 in
    (cc, z.1, cc, g.3)

-- All faults of the same bytes are at one place.
pub one_fault : (n : ℕ) (x : List ℕ) (f g : HasFault Any n x) → SameBase f.before g.before f.marks g.marks f.point
    g.point f.ahead g.ahead
one_fault n x f g = one_seen (seen f.reach f.fault) (seen g.reach g.fault) (sym f.is ∙ g.is)

-- ---- the answer

-- A list that begins with a refused byte is no cut title.
cut_not_refused : (s : List ℕ) → IsCutTitle s → BeginsRefused s → ⊥
cut_not_refused [] c r = r
cut_not_refused (b ∷ s) c r = omega (arith, refused_affix b r, c)

-- The bytes end before the part that is due, or within it.
abbrev Ends : Point → List ℕ → Type 0
Ends (BodyDue k l p) s = length s < l
Ends at s = IsCutTitle s

-- The offset of the part that is due.
abbrev offset_due : Point → List ℕ → ℕ
offset_due (BodyDue k l p) u = p
offset_due at u = length u

ends_title : (at : Point) (s u : List ℕ) → IsAtTitle at
    → (IsCutTitle s → Ends at s) × (Ends at s → IsCutTitle s) × (length u ≡ offset_due at u)
ends_title at s u d = grind arith

-- A fault has the answer `Short` only if the bytes end there. It has `Syntax` only if they do not, or if no text begins
-- with them.
answer_is : {u s : List ℕ} {ms : List Mark} {at : Point} {a : Answer} {out : List ℕ} {c : ℕ}
    → FirstFault Any u ms at s a out c
    → ((a ≡ Short) × Ends at s) ⊎ ((a ≡ Syntax (offset_due at u)) × ((Ends at s → ⊥) ⊎ BeginsNoText s))
answer_is {u = u} {s = s} {at = at} (CutTitle d f) = inl (refl, (ends_title at s u d).0 f)
answer_is {u = u} {s = s} {at = at} (NoTitle d f) =
    let is = ends_title at s u d in
    inr (ap Syntax is.2, inl (λ ends. cut_not_refused s (is.1 ends) f))
answer_is (LongTitle x r d p untaken e) = absurd (untaken tt)
answer_is (OtherTitle {title = t} x r p m e) = inr (refl, inl (λ ends. title_not_cut t r x p (rw e at ends)))
answer_is (DamagedText b r l f e z w m) = inr (refl, inl (λ ends. omega arith))
answer_is (CutBody b r l e z m m2 m3) = inl (refl, l)
answer_is (CutDamagedText b r l f e z w m) = inr (refl, inr f)

-- Two such answers are the same, unless no text begins with the bytes.
same_answer : {A B : Type 0} {a a' b c : Answer} → ((a ≡ b) × A) ⊎ ((a ≡ c) × ((A → ⊥) ⊎ B))
    → ((a' ≡ b) × A) ⊎ ((a' ≡ c) × ((A → ⊥) ⊎ B)) → (a ≡ a') ⊎ B
same_answer f g = grind arith

-- The faults of the same bytes have one answer, unless no text begins with the bytes ahead.
pub one_answer : (n : ℕ) (x : List ℕ) (f g : HasFault Any n x) → (f.answer ≡ g.answer) ⊎ BeginsNoText f.ahead
one_answer n x f g =
    let e = one_fault n x f g in
    let there : FirstFault Any f.before f.marks f.point f.ahead g.answer g.written g.consumed =
    rw (e.0, e.1, e.2, e.3) g.fault in
    same_answer (answer_is f.fault) (answer_is there)
