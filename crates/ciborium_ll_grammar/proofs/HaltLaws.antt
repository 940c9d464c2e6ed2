-- Places at which no string and no element continues.
use Rattle.std.proofs.Common.{◌≡◌, ℕ, ◌<◌, ◌⊎◌, List, [], ◌∷◌, ◌++◌, length, take, Option, Some, None, refl, sym, ◌∙◌}
use Rattle.std.proofs.Common.{append_assoc, arith}
use Rattle.std.proofs.lemmas.List.{length-append, take_at}
use Rattle.ciborium_ll_grammar.specs.declared.hdr.Header.{Header}
use Rattle.ciborium_ll_grammar.specs.declared.hdr.Header.TheVariants as h
use Rattle.ciborium_ll_grammar.specs.Title.{IsTitle, IsCutTitle, BeginsRefused}
use Rattle.ciborium_ll_grammar.specs.Strings.{Kind, Bytes, Text, kind_header, IsString, AreStrings, none, more}
use Rattle.ciborium_ll_grammar.specs.Strings.{IsMisplaced, IsWritable}
use Rattle.ciborium_ll_grammar.specs.Strings.IsString.{definite, indefinite}
use Rattle.ciborium_ll_text.specs.Text.{IsCharacters}
use Rattle.ciborium_ll_grammar.specs.Elements.{AreWritable, Mark, IsElement, plain, string}
use Rattle.ciborium_ll_grammar.specs.Faults.{IsInside, opened, deeper}
use Rattle.ciborium_ll_grammar.proofs.TitleLaws.{one_title, title_refused}
use Rattle.ciborium_ll_grammar.proofs.AffixLaws.{title_not_cut}
use Rattle.ciborium_ll_grammar.proofs.StringLaws.{same_string, fronts, not_break, break_title, title_not_break}
use Rattle.ciborium_ll_grammar.proofs.StringLaws.{string_not_break, one_string}
use Rattle.ciborium_ll_grammar.proofs.ElementLaws.{not_plain, string_fronts, AreWritable-left, AreWritable-right}

-- ---- places at which strings of the kind cannot continue

-- The body is too short, or it is no text.
abbrev pub IsBad : Kind → ℕ → List ℕ → Type 0
IsBad Bytes l s = length s < l
IsBad Text l s = (length s < l) ⊎ (IsCharacters (take l s) → ⊥)

-- No string of the kind, no further open and no break begins the bytes.
pub data Halt (k : Kind) : List ℕ → Type 0 where
  halt_cut : {y : List ℕ} → IsCutTitle y → Halt k y
  halt_refused : {y : List ℕ} → BeginsRefused y → Halt k y
  halt_misplaced : {y t : List ℕ} (s : List ℕ) (x : Header) → IsTitle t x → IsMisplaced k x → y ≡ t ++ s → Halt k y
  halt_bad : {y t : List ℕ} (s : List ℕ) (l : ℕ) → IsTitle t (kind_header k (Some l)) → IsBad k l s → y ≡ t ++ s
      → Halt k y

-- A header of the kind may stand within a string of the kind.
pub kind_not_misplaced : (k : Kind) (o : Option ℕ) → IsMisplaced k (kind_header k o) → ⊥
kind_not_misplaced k o f = grind arith

-- A break may stand within a string.
break_not_misplaced : (k : Kind) → IsMisplaced k h.Break → ⊥
break_not_misplaced k f = grind arith

-- A body that a copy may write is not bad.
good_body : (k : Kind) (b v : List ℕ) (l : ℕ) → l ≡ length b → IsWritable k b → IsBad k l (b ++ v) → ⊥
good_body k b v l e s un = grind (arith, length-append b v, take_at b v l (sym e))

-- No string of a definite length begins at a halt.
definite_halts : (k : Kind) (t b v y : List ℕ) → Halt k y → IsTitle t (kind_header k (Some (length b)))
    → IsWritable k b → y ≡ t ++ (b ++ v) → ⊥
definite_halts k t b v y f p s e =
    grind (arith, title_not_cut, title_refused, one_title, kind_not_misplaced, good_body, same_string)

-- No open begins at a halt.
pub open_halts : (k : Kind) (t v y : List ℕ) → Halt k y → IsTitle t (kind_header k None) → y ≡ t ++ v → ⊥
open_halts k t v y f p e = grind (arith, title_not_cut, title_refused, one_title, kind_not_misplaced, same_string)

-- No break begins at a halt.
break_halts : (k : Kind) (v y : List ℕ) → Halt k y → y ≡ 0xff ∷ v → ⊥
break_halts k v y f e = grind (
  arith,
  title_not_cut (0xff ∷ []) v h.Break break_title,
  title_refused (0xff ∷ []) v h.Break break_title,
  one_title,
  break_not_misplaced,
  not_break,
)

-- ---- opens that are not closed

-- Opens that are not closed, each with strings after it, and all bodies.
pub data Opens (k : Kind) : List ℕ → List (List ℕ) → Type 0 where
  last : {t w : List ℕ} {bs : List (List ℕ)} → IsTitle t (kind_header k None) → AreStrings k w bs → Opens k (t ++ w) bs
  link : {t w u : List ℕ} {bs cs : List (List ℕ)} → IsTitle t (kind_header k None) → AreStrings k w bs → Opens k u cs
      → Opens k ((t ++ w) ++ u) (bs ++ cs)

-- Two lists of opens joined are a list of opens.
opens-append : (k : Kind) (u : List ℕ) (bs : List (List ℕ)) → Opens k u bs → (v : List ℕ) (cs : List (List ℕ))
    → Opens k v cs → Opens k (u ++ v) (bs ++ cs)
opens-append k u bs (last p s) v cs c = link p s c
opens-append k u bs (link {u = x} p s d) v cs c =
    simp append_assoc (simp append_assoc at (link p s (opens-append k x _ d v cs c)))

-- Bytes inside a string are opens that are not closed.
pub opens_of : (k : Kind) (u : List ℕ) (bs : List (List ℕ)) → IsInside k u bs → Opens k u bs
opens_of k u bs (opened p s) = last p s
opens_of k u bs (deeper {outer = x} {inner = y} p q) = opens-append k x _ (opens_of k x _ p) y _ (opens_of k y _ q)

-- The bytes are strings and a break, and then `v`. The property `P` holds of these strings.
pub record Goes (k : Kind) (P : List ℕ → List (List ℕ) → Type 0) (x v : List ℕ) : Type 0 where
  pub strings : List ℕ
  pub bodies : List (List ℕ)
  pub ok : AreStrings k strings bodies
  pub holds : P strings bodies
  pub is : x ≡ strings ++ 0xff ∷ v

-- If strings and a break begin with given strings, the remaining bytes are strings and a break.
pub goes_on : (k : Kind) (P : List ℕ → List (List ℕ) → Type 0)
    → ((a y : List ℕ) (cs ds : List (List ℕ)) → IsString k a cs → AreStrings k y ds → P (a ++ y) (cs ++ ds) → P y ds)
    → (w : List ℕ) (bs : List (List ℕ)) → AreStrings k w bs → (w' x v : List ℕ) (bs' : List (List ℕ))
    → AreStrings k w' bs' → P w' bs' → w ++ x ≡ w' ++ 0xff ∷ v → Goes k P x v
goes_on k P behind w bs none w' x v bs' s' h e = record { strings = w'; bodies = bs'; ok = s'; holds = h; is = e }
goes_on k P behind w bs (more s ss) w' x v bs' none h e = absurd (grind (arith, string_not_break, append_assoc))
goes_on k P behind w bs (more {rest = y} s ss) w' x v bs' (more {first = a} {rest = y'} s' ss') h e =
    let o = one_string k _ a (y ++ x) (y' ++ 0xff ∷ v) _ _ s s' (simp append_assoc at e) in
    goes_on k P behind y _ ss y' x v _ ss' (behind a y' _ _ s' ss' h) o.2

-- No string that a copy may write begins at a halt.
pub string_halts : (k : Kind) (w : List ℕ) (bs : List (List ℕ)) → IsString k w bs → AreWritable k bs → (v y : List ℕ)
    → Halt k y → y ≡ w ++ v → ⊥
string_halts k w bs p s v y f e = grind (arith, definite_halts, open_halts, append_assoc)

-- No writable strings with a break after them begin at a halt.
goes_halts : (k : Kind) (w : List ℕ) (bs : List (List ℕ)) → AreStrings k w bs → AreWritable k bs → (v y : List ℕ)
    → Halt k y → y ≡ w ++ 0xff ∷ v → ⊥
goes_halts k w bs none s v y f e = break_halts k v y f e
goes_halts k w bs (more {rest = b} {bodies = cs} p q) s v y f e =
    string_halts k _ cs p (AreWritable-left k cs _ s) (b ++ 0xff ∷ v) y f (simp append_assoc at e)

-- Opens begin with the title of an open.
pub opens_title : (k : Kind) (u : List ℕ) {os : List (List ℕ)} → Opens k u os
    → (t : List ℕ) × (r : List ℕ) × IsTitle t (kind_header k None) × (u ≡ t ++ r)
opens_title k u (last {t} {w} p s) = (t, w, p, refl)
opens_title k u (link {t} {w} {u = x} p s c) = (t, w ++ x, p, append_assoc t w x)

-- If a string begins with an open and strings, the remaining bytes are strings and a break.
behind : (k : Kind) (t w x : List ℕ) (bs : List (List ℕ)) → IsTitle t (kind_header k None) → AreStrings k w bs
    → (t' w' v : List ℕ) (bs' : List (List ℕ)) → IsTitle t' (kind_header k None) → AreStrings k w' bs'
    → AreWritable k bs' → (t ++ w) ++ x ≡ t' ++ (w' ++ 0xff ∷ v) → Goes k (λ z bs. AreWritable k bs) x v
behind k t w x bs p s t' w' v bs' p' s' ok e =
    let o = fronts k t t' (w ++ x) (w' ++ 0xff ∷ v) None None p p' (simp append_assoc at e) in
    goes_on k (λ z bs. AreWritable k bs) (λ a y cs ds q qs ok. AreWritable-right k cs ds ok) w bs s w' x v bs' s' ok o.2

module _ (k : Kind) (u : List ℕ) {os : List (List ℕ)} (c : Opens k u os) (y : List ℕ)
    (rec : (t w v : List ℕ) (bs : List (List ℕ)) → IsTitle t (kind_header k None) → AreStrings k w bs
    → AreWritable k bs → u ++ y ≡ t ++ (w ++ 0xff ∷ v) → ⊥) where
  -- No string that a copy may write begins with opens and a halt.
  pub opens_string : (a : List ℕ) (bs : List (List ℕ)) → IsString k a bs → AreWritable k bs → (v : List ℕ)
      → u ++ y ≡ a ++ v → ⊥
  opens_string a bs (definite p) ok v e = grind (arith, opens_title k u c, fronts, append_assoc)
  opens_string a bs (indefinite {title = t} {strings = x} p q) ok v e = rec t x v bs p q ok (simp append_assoc at e)

  -- No writable strings with a break after them begin with opens and a halt.
  opens_strings : (w : List ℕ) (bs : List (List ℕ)) → AreStrings k w bs → AreWritable k bs → (v : List ℕ)
      → u ++ y ≡ w ++ 0xff ∷ v → ⊥
  opens_strings w bs none ok v e = grind (arith, opens_title k u c, title_not_break, append_assoc)
  opens_strings w bs (more {rest = b} {bodies = cs} p q) ok v e =
      opens_string _ cs p (AreWritable-left k cs _ ok) (b ++ 0xff ∷ v) (simp append_assoc at e)

-- No string of indefinite length that a copy may write begins with opens and a halt.
pub opens_halt : (k : Kind) (u : List ℕ) {os : List (List ℕ)} → Opens k u os → (y : List ℕ) → Halt k y
    → (t w v : List ℕ) (bs : List (List ℕ)) → IsTitle t (kind_header k None) → AreStrings k w bs → AreWritable k bs
    → u ++ y ≡ t ++ (w ++ 0xff ∷ v) → ⊥
opens_halt k u (last {t = t0} {w = w0} p s) y f t w v bs q r ok e =
    let g = behind k t0 w0 y _ p s t w v bs q r ok e in
    goes_halts k g.strings g.bodies g.ok g.holds v y f g.is
opens_halt k u (link {t = t0} {w = w0} {u = x} p s c) y f t w v bs q r ok e =
    let g = behind k t0 w0 (x ++ y) _ p s t w v bs q r ok (sym (append_assoc (t0 ++ w0) x y) ∙ e) in
    opens_strings k x c y (opens_halt k x c y f) g.strings g.bodies g.ok g.holds v g.is

-- ---- elements

-- No element begins the bytes: their title is cut or refused, or its body is bad.
pub data Stop : List ℕ → Type 0 where
  stop_cut : {y : List ℕ} → IsCutTitle y → Stop y
  stop_refused : {y : List ℕ} → BeginsRefused y → Stop y
  stop_bad : {y t : List ℕ} (s : List ℕ) (k : Kind) (l : ℕ) → IsTitle t (kind_header k (Some l)) → IsBad k l s
      → y ≡ t ++ s → Stop y

-- A stop is a halt for a kind if each title of a string there is of the kind.
pub halt_of : (y : List ℕ) → Stop y → (k : Kind)
    → ((t s : List ℕ) (j : Kind) (l : ℕ) → IsTitle t (kind_header j (Some l)) → y ≡ t ++ s → j ≡ k) → Halt k y
halt_of y (stop_cut c) k same = halt_cut c
halt_of y (stop_refused r) k same = halt_refused r
halt_of y (stop_bad {t} s j l p b e) k same =
    let jk = same t s j l p e in
    halt_bad s l (rw jk at p) (rw jk at b) e

-- Two titles of strings that begin the same bytes are of one kind.
pub same_kind : (k : Kind) (t u y : List ℕ) (o : Option ℕ) → IsTitle t (kind_header k o) → y ≡ t ++ u
    → (t' s : List ℕ) (j : Kind) (l : ℕ) → IsTitle t' (kind_header j (Some l)) → y ≡ t' ++ s → j ≡ k
same_kind k t u y o p e t' s j l q e' = (string_fronts j k t' t s u (Some l) o q p (sym e' ∙ e)).0

-- If a string begins some bytes, each title of a string that begins them is of its kind.
string_kind : (k : Kind) (w v y : List ℕ) (bs : List (List ℕ)) → IsString k w bs → y ≡ w ++ v → (t s : List ℕ)
    (j : Kind) (l : ℕ) → IsTitle t (kind_header j (Some l)) → y ≡ t ++ s → j ≡ k
string_kind k w v y bs p e t s j l q e' = grind (arith, string_fronts, append_assoc)

-- No element begins at a stop.
pub element_stops : (w : List ℕ) (ms : List Mark) → IsElement w ms → (v y : List ℕ) → Stop y → y ≡ w ++ v → ⊥
element_stops w ms (string k p s) v y f e = string_halts k w _ p s v y (halt_of y f k (string_kind k w v y _ p e)) e
element_stops w ms (plain x p q) v y (stop_cut c) e = title_not_cut w v x p (rw e at c)
element_stops w ms (plain x p q) v y (stop_refused r) e = title_refused w v x p (rw e at r)
element_stops w ms (plain x p q) v y (stop_bad s k l r b z) e = grind (arith, one_title, not_plain)

-- No element begins with opens and a halt.
pub element_inside : (w : List ℕ) (ms : List Mark) → IsElement w ms
    → (k : Kind) (u y v : List ℕ) {os : List (List ℕ)} → Opens k u os → Halt k y → u ++ y ≡ w ++ v → ⊥
element_inside w ms (plain x p q) k u y v c f e = grind (arith, opens_title k u c, one_title, not_plain, append_assoc)
element_inside w ms (string j (definite p) s) k u y v c f e =
    grind (arith, opens_title k u c, string_fronts, append_assoc)
element_inside w ms (string j (indefinite {title = t} {strings = x} p q) s) k u y v c f e =
    grind (arith, opens_title k u c, string_fronts, opens_halt k u c y f, append_assoc)
