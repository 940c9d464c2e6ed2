-- Tokens are elements, and the first fault after them is the fault of elements.
use Rattle.std.proofs.Common.{◌≡◌, ℕ, zero, suc, ◌+◌, ◌≤◌, List, [], ◌∷◌, ◌++◌, length}
use Rattle.std.proofs.Common.{Option, Some, None, drop, take, inl, inr, refl, sym, ap, subst, ◌∙◌, arith}
use Rattle.std.proofs.Common.{append-nil, append_assoc, length-append}
use Rattle.ciborium_ll_grammar.specs.declared.spelling.Spelling.{Spelling}
use Rattle.ciborium_ll_grammar.specs.declared.spelling.Spelling.TheVariants.{Any, Shortest}
use Rattle.ciborium_ll_grammar.specs.declared.hdr.Header.{Header}
use Rattle.ciborium_ll_grammar.specs.declared.hdr.Header.TheVariants as h
use Rattle.std.specs.List.{AllByRecursion}
use Rattle.ciborium_ll_grammar.specs.Items.{IsTakenTitle}
use Rattle.ciborium_ll_grammar.specs.Title.{BeginsRefused, IsSmallSimple, IsTitle, shortest_title}
use Rattle.ciborium_ll_grammar.specs.Strings.{Kind, Bytes, Text, kind_header, definite}
use Rattle.ciborium_ll_grammar.specs.Elements.{AreWritable, Close, IsNoSmallSimple, IsPlain, IsRun, IsStrictSpelling}
use Rattle.ciborium_ll_grammar.specs.Elements.{Mark}
use Rattle.ciborium_ll_grammar.specs.Elements.{Open, Piece, Plain, Whole, done, pieces, plain, spelling, string}
use Rattle.ciborium_ll_grammar.specs.Faults.{BodyDue, DamagedText, Due, FirstFault, In, IsAtTitle, IsRefusedIn}
use Rattle.ciborium_ll_grammar.specs.Faults.{LongTitle}
use Rattle.ciborium_ll_grammar.specs.Faults.{NoTitle, due_title}
use Rattle.ciborium_ll_grammar.specs.Faults.{OtherTitle, Point, Reaches, Syntax, body, body_inside, due, inside}
use Rattle.ciborium_ll_grammar.specs.Faults.{with_front}
use Rattle.ciborium_ll_grammar.proofs.ElementLaws.{AreWritable-append, pieces-append, spelling-append}
use Rattle.ciborium_ll_grammar.proofs.OpenStrings.{IsInsideAt, one_open}
use Rattle.ciborium_ll_grammar.proofs.StepLaws.{add_element, add_open, add_string, close_inner, close_last, counted}
use Rattle.ciborium_ll_grammar.specs.Strings.{none}
use Rattle.ciborium_ll_text.specs.Text.{IsCharacters}
use Rattle.ciborium_ll_text.proofs.Lists.{front_of, length_zero}
use Rattle.ciborium_ll_text.proofs.TextLaws.{IsCharacters-rest}
use Rattle.std.proofs.lemmas.List.{length-take-le, take-append-drop}
use Rattle.cbor_parser.specs.declared.strings.StringKind.{StringKind}
use Rattle.cbor_parser.specs.declared.strings.StringKind.TheVariants as sk
use Rattle.cbor_parser.specs.declared.strings.Within.{Within}
use Rattle.cbor_parser.specs.declared.strings.Within.TheVariants as w
use Rattle.cbor_parser.specs.Phases.{text_place}
use Rattle.cbor_parser.specs.Strings.{kind_of, opened, piece_within, within_after, within_open}
use Rattle.cbor_parser.specs.Parsing.{AreTokens, AtFault, CanEnd, IsBody, IsNoTitleIn, IsParsed, IsTitleIn, Token}
use Rattle.cbor_parser.specs.Parsing.{body_len}
use Rattle.cbor_parser.specs.Parsing as parsing
use Rattle.cbor_parser.specs.Naming.{AreElements, FaultsAt, IsNamed}

-- If only the shortest spelling is taken, the bytes are the shortest spelling of the marks.
Spelled : Spelling → List ℕ → List Mark → Type 0
Spelled allowed bytes ms = allowed ≡ Shortest → (bytes ≡ spelling ms) × AllByRecursion IsNoSmallSimple ms

-- Where tokens have come to: they are elements, or elements and strings that are open.
data Stands (allowed : Spelling) (bytes : List ℕ) (v : Within) : Type 0 where
  between : {n : ℕ} {ms : List Mark} → IsRun n bytes ms → Spelled allowed bytes ms → v ≡ w.Nothing
      → Stands allowed bytes v
  within : {n : ℕ} {u opens : List ℕ} {ms : List Mark} {bs : List (List ℕ)} (k : StringKind) (more : ℕ) → IsRun n u ms
      → IsInsideAt (kind_of k) (suc more) opens bs → AreWritable (kind_of k) bs → bytes ≡ u ++ opens
      → Spelled allowed bytes (ms ++ Open (kind_of k) ∷ pieces (kind_of k) bs) → (allowed ≡ Shortest → more ≡ 0)
      → v ≡ w.Open k more → Stands allowed bytes v

-- ---- the shortest spelling

all_joined : (ms ns : List Mark) → AllByRecursion IsNoSmallSimple ms → AllByRecursion IsNoSmallSimple ns
    → AllByRecursion IsNoSmallSimple (ms ++ ns)
all_joined [] ns a b = b
all_joined (m ∷ ms) ns a b = (a.0, all_joined ms ns a.1 b)

spelled_add : (allowed : Spelling) (b piece : List ℕ) (ms ns : List Mark) → Spelled allowed b ms
    → Spelled allowed piece ns
    → Spelled allowed (b ++ piece) (ms ++ ns)
unfolding Spelled
spelled_add allowed b piece ms ns one other = λ e.
    let o = one e in
    let p = other e in
    (rw (o.0, p.0) (sym (spelling-append ms ns)), all_joined ms ns o.1 p.1)

spelled_same : (allowed : Spelling) (b d : List ℕ) (ms ns : List Mark) → b ≡ d → ms ≡ ns → Spelled allowed b ms
    → Spelled allowed d ns
spelled_same allowed b d ms ns a e spelled =
    subst (λ (z : List ℕ). Spelled allowed z ns) a (subst (λ (l : List Mark). Spelled allowed b l) e spelled)

taken_same : (allowed : Spelling) (t : List ℕ) (x : Header) → IsTakenTitle allowed t x → allowed ≡ Shortest
    → (t ≡ shortest_title x) × (IsSmallSimple x → ⊥)
taken_same Shortest t x taken e = (taken.shortest, taken.meant)
taken_same Any t x taken e = absurd (cc e)

spelled_nothing : (allowed : Spelling) → Spelled allowed [] []
unfolding Spelled
spelled_nothing allowed e = (refl, tt)

spelled_body : (allowed : Spelling) (k : Kind) (t y : List ℕ) (n : ℕ) → IsTakenTitle allowed t (kind_header k (Some n))
    → length y ≡ n → Spelled allowed (t ++ y) (Whole k y ∷ []) × Spelled allowed (t ++ y) (Piece k y ∷ [])
unfolding Spelled
spelled_body allowed k t y n taken long =
    let same : allowed ≡ Shortest → t ++ y ≡ (shortest_title (kind_header k (Some (length y))) ++ y) ++ [] = λ e.
    let o = (taken_same allowed t (kind_header k (Some n)) taken e).0 in
    ap (λ (z : List ℕ). z ++ y) (o ∙ ap (λ (m : ℕ). shortest_title (kind_header k (Some m))) (sym long))
    ∙ sym (append-nil (shortest_title (kind_header k (Some (length y))) ++ y)) in
    (λ e. (same e, (tt, tt)), λ e. (same e, (tt, tt)))

spelled_open : (allowed : Spelling) (k : Kind) (t : List ℕ) → IsTakenTitle allowed t (kind_header k None)
    → Spelled allowed t (Open k ∷ [])
unfolding Spelled
spelled_open allowed k t taken = λ e.
    let o = (taken_same allowed t (kind_header k None) taken e).0 in
    (o ∙ sym (append-nil (shortest_title (kind_header k None))), (tt, tt))

spelled_plain : (allowed : Spelling) (t : List ℕ) (x : Header) → IsTakenTitle allowed t x
    → Spelled allowed t (Plain x ∷ [])
unfolding Spelled
spelled_plain allowed t x taken = λ e.
    let o = taken_same allowed t x taken e in (o.0 ∙ sym (append-nil (shortest_title x)), (o.1, tt))

spelled_close : (allowed : Spelling) → Spelled allowed (0xff ∷ []) (Close ∷ [])
unfolding Spelled
spelled_close allowed e = (refl, (tt, tt))

-- ---- one token more

-- A break has one title.
break_is : (t : List ℕ) (x : Header) → IsTitle t x → x ≡ h.Break → t ≡ 0xff ∷ []
break_is t x is e = grind arith

-- A body without bytes adds nothing.
no_body : (c t y : List ℕ) → length y ≡ 0 → c ++ t ≡ c ++ (t ++ y)
no_body c t y long = rw (length_zero y long, append-nil t) refl

writable_one : (k : Kind) (y : List ℕ) → IsBody (kind_header k None) y → AreWritable k (y ∷ [])
writable_one Bytes y is = (tt, tt)
writable_one Text y is = (is, tt)

module _ (allowed : Spelling) where
  -- A string of a definite length after elements.
  after_elements : (k : Kind) (c t y : List ℕ) (n : ℕ) (v : Within) → Stands allowed c w.Nothing
      → IsTitle t (kind_header k (Some n)) → IsTakenTitle allowed t (kind_header k (Some n)) → length y ≡ n
      → IsBody (kind_header k None) y → v ≡ w.Nothing → Stands allowed (c ++ (t ++ y)) v
  after_elements k c t y n v (between {n = i} {ms = ms} run spelled e) is taken long text to =
      let title : IsTitle t (kind_header k (Some (length y))) =
      subst (λ (m : ℕ). IsTitle t (kind_header k (Some m))) (sym long) is in
      between (add_element i c ms run (t ++ y) _ (string k (definite title) (writable_one k y text)))
      (spelled_add allowed c (t ++ y) ms _ spelled (spelled_body allowed k t y n taken long).0) to
  after_elements k c t y n v (within j more run i ok e s o e') is taken long text to = absurd (cc e')

  -- An open after elements.
  open_elements : (k : StringKind) (c t y : List ℕ) (v : Within) → Stands allowed c w.Nothing
      → IsTitle t (kind_header (kind_of k) None) → IsTakenTitle allowed t (kind_header (kind_of k) None) → length y ≡ 0
      → v ≡ w.Open k 0 → Stands allowed (c ++ (t ++ y)) v
  open_elements k c t y v (between {n = i} {ms = ms} run spelled e) is taken long to =
      within k 0 run (one_open {strings = []} is none) tt (sym (no_body c (t ++ []) y long ∙ rw append-nil refl))
      (spelled_same allowed (c ++ t) _ _ _ (no_body c t y long) refl
      (spelled_add allowed c t ms (Open (kind_of k) ∷ []) spelled (spelled_open allowed (kind_of k) t taken)))
      (λ e. refl) to
  open_elements k c t y v (within j more run i ok e s o e') is taken long to = absurd (cc e')

  -- A title that begins no string, after elements.
  plain_elements : (c t y : List ℕ) (x : Header) (v : Within) → Stands allowed c w.Nothing → IsTitle t x
      → IsTakenTitle allowed t x → IsPlain x → length y ≡ 0 → v ≡ w.Nothing → Stands allowed (c ++ (t ++ y)) v
  plain_elements c t y x v (between {n = i} {ms = ms} run spelled e) is taken no_string long to =
      subst (λ (z : List ℕ). Stands allowed z v) (no_body c t y long)
      (between (add_element i c ms run t _ (plain x is no_string))
      (spelled_add allowed c t ms _ spelled (spelled_plain allowed t x taken)) to)
  plain_elements c t y x v (within j more run i ok e s o e') is taken no_string long to = absurd (cc e')

-- The strings that are open within a string of a kind.
record Inside (allowed : Spelling) (k : Kind) (more : ℕ) (bytes : List ℕ) : Type 0 where
  n : ℕ
  u : List ℕ
  opens : List ℕ
  ms : List Mark
  bs : List (List ℕ)
  run : IsRun n u ms
  at : IsInsideAt k (suc more) opens bs
  ok : AreWritable k bs
  is : bytes ≡ u ++ opens
  spelled : Spelled allowed bytes (ms ++ Open k ∷ pieces k bs)
  alone : allowed ≡ Shortest → more ≡ 0

inside_of : (allowed : Spelling) (k : StringKind) (more : ℕ) (c : List ℕ) → Stands allowed c (w.Open k more)
    → Inside allowed (kind_of k) more c
inside_of allowed k more c (between run spelled e) = absurd (cc e)
inside_of allowed k more c
    (within {n = n} {u = u} {opens = o} {ms = ms} {bs = bs} j m run i ok e spelled alone e') =
    let same_kind : j ≡ k = cc e' in
    let same : m ≡ more = cc e' in
    rw (← same_kind, ← same)
    (record {
      n = n;
      u = u;
      opens = o;
      ms = ms;
      bs = bs;
      run = run;
      at = i;
      ok = ok;
      is = e;
      spelled = spelled;
      alone = alone;
    })

-- Marks of one more piece.
one_piece : (k : Kind) (ms : List Mark) (bs : List (List ℕ)) (y : List ℕ)
    → (ms ++ Open k ∷ pieces k bs) ++ (Piece k y ∷ []) ≡ ms ++ Open k ∷ pieces k (bs ++ y ∷ [])
one_piece k ms bs y =
    append_assoc ms (Open k ∷ pieces k bs) (Piece k y ∷ [])
    ∙ ap (λ (l : List Mark). ms ++ Open k ∷ l) (sym (pieces-append k bs (y ∷ [])))

not_spelled : (allowed : Spelling) (b : List ℕ) (ms : List Mark) → (allowed ≡ Shortest → ⊥) → Spelled allowed b ms
unfolding Spelled
not_spelled allowed b ms any = λ e. absurd (any e)

not_shortest : Any ≡ Shortest → ⊥
not_shortest e = cc e

module _ (allowed : Spelling) where
  -- A string of a definite length within strings.
  string_within : (s : StringKind) (more : ℕ) (c t y : List ℕ) (n : ℕ) (v : Within) → Stands allowed c (w.Open s more)
      → IsTitle t (kind_header (kind_of s) (Some n)) → IsTakenTitle allowed t (kind_header (kind_of s) (Some n))
      → length y ≡ n → IsBody (kind_header (kind_of s) None) y → v ≡ w.Open s more → Stands allowed (c ++ (t ++ y)) v
  string_within s more c t y n v stands is taken long text to =
      let o = inside_of allowed s more c stands in
      let k = kind_of s in
      let title : IsTitle t (kind_header k (Some (length y))) =
      subst (λ (m : ℕ). IsTitle t (kind_header k (Some m))) (sym long) is in
      within s more o.run (add_string k (suc more) o.opens (t ++ y) o.bs _ o.at (definite title))
      (AreWritable-append k o.bs (y ∷ []) o.ok (writable_one k y text))
      (ap (λ (z : List ℕ). z ++ (t ++ y)) o.is ∙ append_assoc o.u o.opens (t ++ y))
      (spelled_same allowed _ _ _ _ refl (one_piece k o.ms o.bs y)
      (spelled_add allowed c (t ++ y) _ _ o.spelled (spelled_body allowed k t y n taken long).1))
      o.alone to

  -- An open within strings, unless only the shortest spelling is taken.
  open_within : (k : StringKind) (more : ℕ) (c t y : List ℕ) (v : Within) → (allowed ≡ Shortest → ⊥)
      → Stands allowed c (w.Open k more) → IsTitle t (kind_header (kind_of k) None) → length y ≡ 0
      → v ≡ w.Open k (suc more) → Stands allowed (c ++ (t ++ y)) v
  open_within k more c t y v any stands is long to =
      let o = inside_of allowed k more c stands in
      within k (suc more) o.run (add_open (kind_of k) (suc more) o.opens t o.bs o.at is) o.ok
      (sym (no_body c t y long) ∙ (ap (λ (z : List ℕ). z ++ t) o.is ∙ append_assoc o.u o.opens t))
      (not_spelled allowed _ _ any) (λ e. absurd (any e)) to

  -- A break within more than one open string.
  break_within : (k : StringKind) (more : ℕ) (c t y : List ℕ) (v : Within) → Stands allowed c (w.Open k (suc more))
      → IsTitle t h.Break → length y ≡ 0 → v ≡ w.Open k more → Stands allowed (c ++ (t ++ y)) v
  break_within k more c t y v stands is long to =
      let o = inside_of allowed k (suc more) c stands in
      let ff = break_is t h.Break is refl in
      let any : allowed ≡ Shortest → ⊥ = λ e. (let none = o.alone e in omega (arith, none)) in
      within k more o.run (close_inner (kind_of k) more o.opens o.bs o.at) o.ok
      (sym (no_body c t y long) ∙ (ap (λ (z : List ℕ). z ++ t) o.is ∙ (append_assoc o.u o.opens t
      ∙ ap (λ (z : List ℕ). o.u ++ (o.opens ++ z)) ff)))
      (not_spelled allowed _ _ any) (λ e. absurd (any e)) to

  -- The break of the only open string.
  break_last : (s : StringKind) (c t y : List ℕ) (v : Within) → Stands allowed c (w.Open s 0) → IsTitle t h.Break
      → length y ≡ 0 → v ≡ w.Nothing → Stands allowed (c ++ (t ++ y)) v
  break_last s c t y v stands is long to =
      let o = inside_of allowed s 0 c stands in
      let k = kind_of s in
      let ff = break_is t h.Break is refl in
      let whole : o.u ++ (o.opens ++ 0xff ∷ []) ≡ c ++ (t ++ y) =
      ap (λ (z : List ℕ). o.u ++ (o.opens ++ z)) (sym ff) ∙ (sym (append_assoc o.u o.opens t)
      ∙ (ap (λ (z : List ℕ). z ++ t) (sym o.is) ∙ no_body c t y long)) in
      let closed : c ++ 0xff ∷ [] ≡ o.u ++ (o.opens ++ 0xff ∷ []) =
      ap (λ (z : List ℕ). z ++ 0xff ∷ []) o.is ∙ append_assoc o.u o.opens (0xff ∷ []) in
      subst (λ (z : List ℕ). Stands allowed z v) whole
      (between (add_element o.n o.u o.ms o.run (o.opens ++ 0xff ∷ []) _ (close_last k o.opens o.bs o.at o.ok))
      (spelled_same allowed _ _ _ _ closed (append_assoc o.ms (Open k ∷ pieces k o.bs) (Close ∷ []))
      (spelled_add allowed c (0xff ∷ []) _ _ o.spelled (spelled_close allowed))) to)

-- Options.
some_one : (u v : Within) → Some u ≡ Some v → v ≡ u
some_one u v e = cc e

none_some : {A : Type 0} → (v : Within) → None ≡ Some v → A
none_some v e = absurd (cc e)

from_nothing : (allowed : Spelling) (c t y : List ℕ) (x : Header) (v : Within) → Stands allowed c w.Nothing
    → IsTitle t x
    → IsTakenTitle allowed t x → Some (opened x) ≡ Some v → length y ≡ body_len x → IsBody x y
    → Stands allowed (c ++ (t ++ y)) v
from_nothing allowed c t y (h.Bytes (Some n)) v stands is taken to long text =
    after_elements allowed Bytes c t y n v stands is taken long tt (some_one _ v to)
from_nothing allowed c t y (h.Bytes None) v stands is taken to long text =
    open_elements allowed sk.Bytes c t y v stands is taken long (some_one _ v to)
from_nothing allowed c t y (h.Text (Some n)) v stands is taken to long text =
    after_elements allowed Text c t y n v stands is taken long text (some_one _ v to)
from_nothing allowed c t y (h.Text None) v stands is taken to long text =
    open_elements allowed sk.Text c t y v stands is taken long (some_one _ v to)
from_nothing allowed c t y x v stands is taken to long text =
    plain_elements allowed c t y x v stands is taken tt long (some_one _ v to)

-- How many bytes a body has, if its title announces them.
abbrev or_zero : Option ℕ → ℕ
or_zero (Some n) = n
or_zero None = 0

-- The title of a string within strings of its kind.
from_piece : (allowed : Spelling) (k : StringKind) (more : ℕ) (c t y : List ℕ) (len : Option ℕ) (v : Within)
    → Stands allowed c (w.Open k more) → IsTitle t (kind_header (kind_of k) len)
    → IsTakenTitle allowed t (kind_header (kind_of k) len) → piece_within allowed k more len ≡ Some v
    → length y ≡ or_zero len → IsBody (kind_header (kind_of k) None) y → Stands allowed (c ++ (t ++ y)) v
from_piece allowed k more c t y (Some n) v stands is taken to long text =
    string_within allowed k more c t y n v stands is taken long text (some_one _ v to)
from_piece Shortest k more c t y None v stands is taken to long text = none_some v to
from_piece Any k more c t y None v stands is taken to long text =
    open_within Any k more c t y v not_shortest stands is long (some_one _ v to)

from_open : (allowed : Spelling) (k : StringKind) (more : ℕ) (c t y : List ℕ) (x : Header) (v : Within)
    → Stands allowed c (w.Open k more) → IsTitle t x → IsTakenTitle allowed t x
    → within_open allowed k more x ≡ Some v → length y ≡ body_len x → IsBody x y
    → Stands allowed (c ++ (t ++ y)) v
from_open allowed sk.Bytes more c t y (h.Bytes None) v stands is taken to long text =
    from_piece allowed sk.Bytes more c t y None v stands is taken to long tt
from_open allowed sk.Bytes more c t y (h.Bytes (Some n)) v stands is taken to long text =
    from_piece allowed sk.Bytes more c t y (Some n) v stands is taken to long tt
from_open allowed sk.Text more c t y (h.Text None) v stands is taken to long text =
    from_piece allowed sk.Text more c t y None v stands is taken to long text
from_open allowed sk.Text more c t y (h.Text (Some n)) v stands is taken to long text =
    from_piece allowed sk.Text more c t y (Some n) v stands is taken to long text
from_open allowed k zero c t y h.Break v stands is taken to long text =
    break_last allowed k c t y v stands is long (some_one _ v to)
from_open allowed k (suc more) c t y h.Break v stands is taken to long text =
    break_within allowed k more c t y v stands is long (some_one _ v to)
from_open allowed k more c t y x v stands is taken to long text = none_some v to

one_more : (allowed : Spelling) (c t y : List ℕ) (x : Header) (u v : Within) → Stands allowed c u
    → IsTitleIn allowed u t x v
    → length y ≡ body_len x → IsBody x y → Stands allowed (c ++ (t ++ y)) v
one_more allowed c t y x w.Nothing v stands is long text =
    from_nothing allowed c t y x v stands is.is_title is.taken is.stands long text
one_more allowed c t y x (w.Open k more) v stands is long text =
    from_open allowed k more c t y x v stands is.is_title is.taken is.stands long text

-- Tokens are elements, or elements and strings that are open.
tokens_stand : (allowed : Spelling) (d : List ℕ) (ts : List Token) (v : Within) → AreTokens allowed d ts v
    → Stands allowed d v
tokens_stand allowed d ts v parsing.none = between done (spelled_nothing allowed) refl
tokens_stand allowed d ts v
    (parsing.more {before = c} {title = t} {body = y} {header = x} {tokens = us} {within = u} are is long text) =
    one_more allowed c t y x u v (tokens_stand allowed c us u are) is long text

-- If no string is open, tokens are elements.
pub tokens_elements : (allowed : Spelling) (d : List ℕ) (ts : List Token) → AreTokens allowed d ts w.Nothing
    → AreElements d
tokens_elements allowed d ts are = by_stand (tokens_stand allowed d ts w.Nothing are)
  where
    by_stand : Stands allowed d w.Nothing → AreElements d
    by_stand (between {n = n} {ms = ms} run spelled e) = (n, ms, run)
    by_stand (within k more run i ok e s o e') = absurd (cc e')

-- ---- the first fault

-- The place of the next element, or of the next string within a string.
point_of : Within → Point
point_of w.Nothing = Due
point_of (w.Open kind more) = In (kind_of kind)

-- How far a copy comes.
record Reached (allowed : Spelling) (bytes : List ℕ) (point : Point) : Type 0 where
  count : ℕ
  marks : List Mark
  reach : Reaches count bytes marks point
  spelled : allowed ≡ Shortest → IsStrictSpelling bytes marks (due_title point)

spelled_out : (allowed : Spelling) (d : List ℕ) (ms : List Mark) → Spelled allowed d ms → allowed ≡ Shortest
    → IsStrictSpelling d ms []
unfolding Spelled
spelled_out allowed d ms spelled = λ e.
    let o = spelled e in record { same = o.0 ∙ sym (append-nil (spelling ms)); meant = o.1 }

reached : (allowed : Spelling) (d : List ℕ) (v : Within) → Stands allowed d v → Reached allowed d (point_of v)
unfolding point_of
reached allowed d w.Nothing (between {n = n} {ms = ms} run spelled e) =
    record { count = suc n; marks = ms; reach = due (omega arith) run; spelled = spelled_out allowed d ms spelled }
reached allowed d (w.Open j more) (between run spelled e) = absurd (cc e)
reached allowed d w.Nothing (within k m run i ok e spelled alone e') = absurd (cc e')
reached allowed d (w.Open j more)
    (within {n = n} {u = u} {opens = o} {ms = ms} {bs = bs} k m run i ok e spelled alone e') =
    let same : k ≡ j = cc e' in
    let point = kind_of k in
    rw (← same)
    (record {
      count = suc n;
      marks = _;
      reach = subst (λ (z : List ℕ). Reaches (suc n) z (ms ++ Open point ∷ pieces point bs) (In point)) (sym e)
          (inside (omega arith) run (counted point (suc m) o bs i) ok);
      spelled = spelled_out allowed d (ms ++ Open point ∷ pieces point bs) spelled;
    })

refused_more : (t more : List ℕ) → BeginsRefused t → BeginsRefused (t ++ more)
refused_more [] more refused = absurd refused
refused_more (byte ∷ t) more refused = refused

at_title : (v : Within) → IsAtTitle (point_of v)
unfolding point_of
at_title w.Nothing = tt
at_title (w.Open kind more) = tt

-- A fault of elements, at a point that a copy reaches.
faults_at : (allowed : Spelling) (d ahead : List ℕ) (point : Point) (place : ℕ) (written : List ℕ) (consumed : ℕ)
    (r : Reached allowed d point) → FirstFault allowed d r.marks point ahead (Syntax place) written consumed
    → FaultsAt allowed (d ++ ahead) place
faults_at allowed d ahead point place written consumed r fault = (
  r.count,
  record {
    before = d;
    marks = r.marks;
    point = point;
    ahead = ahead;
    answer = Syntax place;
    written = written;
    consumed = consumed;
    reach = r.reach;
    is = refl;
    spelled = r.spelled;
    fault = fault;
  },
  refl,
)

misplaced : (allowed : Spelling) (k : StringKind) (more : ℕ) (x : Header) → within_open allowed k more x ≡ None
    → IsRefusedIn allowed (kind_of k) x
misplaced allowed sk.Bytes more (h.Bytes (Some n)) e = absurd (cc e)
misplaced Shortest sk.Bytes more (h.Bytes None) e = inr (refl, refl)
misplaced Any sk.Bytes more (h.Bytes None) e = absurd (cc e)
misplaced allowed sk.Text more (h.Text (Some n)) e = absurd (cc e)
misplaced Shortest sk.Text more (h.Text None) e = inr (refl, refl)
misplaced Any sk.Text more (h.Text None) e = absurd (cc e)
misplaced allowed k more h.Break e = absurd (cc e)
misplaced allowed k more x e = inl tt

-- A title that may not stand there.
other_title : (allowed : Spelling) (d t more : List ℕ) (v : Within) (x : Header) → Reached allowed d (point_of v)
    → IsTitle t x → within_after allowed v x ≡ None → FaultsAt allowed (d ++ (t ++ more)) (length d)
unfolding point_of
other_title allowed d t more w.Nothing x r is e = absurd (cc e)
other_title allowed d t more (w.Open k m) x r is e =
    faults_at allowed d (t ++ more) (In (kind_of k)) (length d) _ _ r
    (OtherTitle x more is (misplaced allowed k m x e) refl)

-- Three parts of bytes, and more.
four : (d t y more : List ℕ) → (d ++ (t ++ y)) ++ more ≡ (d ++ t) ++ (y ++ more)
four d t y more = simp append_assoc

due_at : {allowed : Spelling} {d : List ℕ} (r : Reached allowed d (point_of w.Nothing)) → Reaches r.count d r.marks Due
unfolding point_of
due_at r = r.reach

in_at : {allowed : Spelling} {d : List ℕ} (m : ℕ) (r : Reached allowed d (point_of (w.Open sk.Text m)))
    → Reaches r.count d r.marks (In Text)
unfolding point_of
in_at m r = r.reach

-- The marks before a body have the spelling of what was read, and its title is the shortest.
before_body : (allowed : Spelling) (d t : List ℕ) (ms : List Mark) (x : Header)
    → (allowed ≡ Shortest → IsStrictSpelling d ms [])
    → IsTakenTitle allowed t x → allowed ≡ Shortest → IsStrictSpelling (d ++ t) ms (shortest_title x)
before_body allowed d t ms x spelled taken = λ e.
    let o = spelled e in
    let title = (taken_same allowed t x taken e).0 in
    record {
      same = ap (λ (z : List ℕ). z ++ t) (o.same ∙ append-nil (spelling ms))
          ∙ ap (λ (z : List ℕ). spelling ms ++ z) title;
      meant = o.meant;
    }

at_due : (allowed : Spelling) (d : List ℕ) (r : Reached allowed d (point_of w.Nothing)) → allowed ≡ Shortest
    → IsStrictSpelling d r.marks []
unfolding point_of
at_due allowed d r = r.spelled

at_in : (allowed : Spelling) (d : List ℕ) (m : ℕ) (r : Reached allowed d (point_of (w.Open sk.Text m)))
    → allowed ≡ Shortest → IsStrictSpelling d r.marks []
unfolding point_of
at_in allowed d m r = r.spelled

title_named : (allowed : Spelling) (d t : List ℕ) (v : Within) → Stands allowed d v → IsNoTitleIn allowed v t
    → IsNamed allowed (d ++ t) (length d)
title_named allowed d t v stands (inl (inl refused)) =
    let r = reached allowed d v stands in (
      0,
      λ more least. rw (append_assoc d t more)
          (faults_at allowed d (t ++ more) (point_of v) (length d) _ _ r
          (NoTitle (at_title v) (refused_more t more refused))),
    )
title_named allowed d t v stands (inl (inr (x, is, longer))) =
    let r = reached allowed d v stands in (
      0,
      λ more least. rw (append_assoc d t more)
          (faults_at allowed d (t ++ more) (point_of v) (length d) _ _ r
          (LongTitle x more (at_title v) is longer refl)),
    )
title_named allowed d t v stands (inr (x, is, misplaced)) = (
  0,
  λ more least. rw (append_assoc d t more)
      (other_title allowed d t more v x (reached allowed d v stands) is misplaced),
)

-- The first bytes of a body, if enough follow.
body_front : (y carried more : List ℕ) (left : ℕ) → left ≤ length more
    → take (length y + (length carried + left)) ((y ++ carried) ++ more) ≡ y ++ (carried ++ take left more)
body_front y carried more left enough =
    let all : (y ++ carried) ++ more ≡ (y ++ (carried ++ take left more)) ++ drop left more =
    append_assoc y carried more
    ∙ (ap (λ (z : List ℕ). y ++ (carried ++ z)) (sym (take-append-drop left more))
    ∙ (ap (λ (z : List ℕ). y ++ z) (sym (append_assoc carried (take left more) (drop left more)))
    ∙ sym (append_assoc y (carried ++ take left more) (drop left more)))) in
    front_of (length y + (length carried + left)) ((y ++ carried) ++ more) (y ++ (carried ++ take left more))
    (drop left more) all
    (length-append y (carried ++ take left more) ∙ ap (λ (n : ℕ). length y + n)
    (length-append carried (take left more) ∙ ap (λ (n : ℕ). length carried + n) (length-take-le left more enough)))

-- A body that is no text.
body_fault : (allowed : Spelling) (before y carried more : List ℕ) (ms : List Mark) (len left start : ℕ)
    → IsCharacters y
    → (CanEnd carried left → ⊥) → length y + (length carried + left) ≡ len → left ≤ length more
    → FirstFault allowed before ms (BodyDue Text len start) ((y ++ carried) ++ more) (Syntax start)
    (with_front ms Text len y) (length y)
body_fault allowed before y carried more ms len left start text stops long enough =
    let front : take len ((y ++ carried) ++ more) ≡ y ++ (carried ++ take left more) =
    subst (λ (n : ℕ). take n ((y ++ carried) ++ more) ≡ y ++ (carried ++ take left more)) long
    (body_front y carried more left enough) in
    DamagedText y (carried ++ take left more)
    (omega (arith, long, enough, length-append (y ++ carried) more, length-append y carried))
    (λ chars. stops (
      take left more,
      length-take-le left more enough,
      IsCharacters-rest y (carried ++ take left more) text (subst IsCharacters front chars),
    ))
    front text (omega arith) (omega (arith, long))

text_named : (allowed : Spelling) (d t y carried : List ℕ) (v u : Within) (len left : ℕ) → Stands allowed d v
    → IsTitleIn allowed v t (h.Text (Some len)) u → IsCharacters y → (CanEnd carried left → ⊥)
    → length y + (length carried + left) ≡ len
    → IsNamed allowed (d ++ (t ++ (y ++ carried))) (text_place v (length d) (length (d ++ t)) (h.Text (Some len)))
text_named allowed d t y carried w.Nothing u len left stands is text stops long =
    let r = reached allowed d w.Nothing stands in (
      left,
      λ more least.
          rw (four d t (y ++ carried) more)
          (faults_at allowed (d ++ t) ((y ++ carried) ++ more) (BodyDue Text len _) _ _ _
          (record {
            count = r.count;
            marks = r.marks;
            reach = body Text (due_at r) is.is_title;
            spelled = before_body allowed d t r.marks (h.Text (Some len)) (at_due allowed d r) is.taken;
          })
          (body_fault allowed (d ++ t) y carried more r.marks len left _ text stops long least)),
    )
text_named allowed d t y carried (w.Open sk.Bytes m) u len left stands is text stops long = absurd (cc is.stands)
text_named allowed d t y carried (w.Open sk.Text m) u len left stands is text stops long =
    let r = reached allowed d (w.Open sk.Text m) stands in (
      left,
      λ more least.
          rw (four d t (y ++ carried) more)
          (faults_at allowed (d ++ t) ((y ++ carried) ++ more) (BodyDue Text len (length d)) _ _ _
          (record {
            count = r.count;
            marks = r.marks;
            reach = body_inside (in_at m r) is.is_title;
            spelled = before_body allowed d t r.marks (h.Text (Some len)) (at_in allowed d m r) is.taken;
          })
          (body_fault allowed (d ++ t) y carried more r.marks len left _ text stops long least)),
    )

-- The fault of a parser is the fault of elements.
pub named : (allowed : Spelling) (b : List ℕ) (ts : List Token) (place : ℕ) → IsParsed allowed b ts (AtFault place)
    → IsNamed allowed b place
named allowed b ts place (parsing.no_title {done = d} {title = t} {tokens = us} {within = v} are refused is) =
    rw is (title_named allowed d t v (tokens_stand allowed d us v are) refused)
named allowed b ts place (parsing.in_body {done = d} {title = t} {tokens = us} {before = v} {within = u} are title
    (parsing.no_text {len = len} {left = k} {body = y} {carried = r} chars held stops long) is) =
    rw is (text_named allowed d t y r v u len k (tokens_stand allowed d us v are) title chars stops long)
