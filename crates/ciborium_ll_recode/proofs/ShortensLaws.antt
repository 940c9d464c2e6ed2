-- From `Shortens` to elements and their marks: the bytes that are written are the marks' spelling.
use Rattle.std.proofs.Common.{◌≡◌, ℕ, zero, suc, ◌+◌, ◌<◌, ◌≤◌, ◌⊎◌, ◌↔◌, inl, inr, List, [], ◌∷◌}
use Rattle.std.proofs.Common.{◌++◌, length, Some, None, refl, sym, ap, ◌∙◌, arith, append-nil, append_assoc}
use Rattle.std.proofs.Common.{length-append}
use Rattle.ciborium_ll_grammar.specs.declared.spelling.Spelling.{Spelling}
use Rattle.ciborium_ll_grammar.specs.declared.spelling.Spelling.TheVariants.{Any, Shortest}
use Rattle.ciborium_ll_grammar.specs.declared.hdr.Header.{Header}
use Rattle.ciborium_ll_grammar.specs.declared.hdr.Header.TheVariants as h
use Rattle.ciborium_ll_grammar.specs.declared.hdr.Float.TheVariants as f
use Rattle.ciborium_ll_grammar.specs.Title.{Major, Unsigned, Negative, ByteString, TextString, Array, Map, Tag, Other}
use Rattle.ciborium_ll_grammar.specs.Title.{major_code, Size, Small, One, Two, Four, Eight, size_limit, numbered_title}
use Rattle.ciborium_ll_grammar.specs.Title.{numbered_header, IsTitle, numbered, alone as alone_title, shortest_title}
use Rattle.ciborium_ll_grammar.specs.Title.{shortest_numbered, IsSmallSimple}
use Rattle.ciborium_ll_grammar.specs.Strings.{Kind, Bytes, Text, kind_header, AreStrings, none, more, IsWritable}
use Rattle.ciborium_ll_grammar.specs.Strings.IsString.{definite, indefinite}
use Rattle.ciborium_ll_grammar.specs.Elements.{AreWritable, IsPlain, Mark, Plain, Whole, pieces, open_marks, spelling}
use Rattle.ciborium_ll_grammar.specs.Elements.{IsStrictSpelling, IsElement, plain, string, done, next}
use Rattle.ciborium_ll_grammar.specs.Faults.{BeginsWithElements}
use Rattle.ciborium_ll_grammar.specs.Shortening.{IsNumberTitle, IsBody, ShortensString, titled, ShortensStrings}
use Rattle.ciborium_ll_grammar.specs.Shortening.{no_more, definite_more, open_more, ShortensElement, number, simple}
use Rattle.ciborium_ll_grammar.specs.Shortening.{float, alone, whole, parts, Shortens, done as shortens_done}
use Rattle.ciborium_ll_grammar.specs.Shortening.{next as shortens_next}
use Rattle.ciborium_ll_grammar.proofs.ElementLaws.{AreWritable-append, spelling-append, pieces-append, run_again}
use Rattle.ciborium_ll_grammar.proofs.ElementLaws.{one_run}
use Rattle.ciborium_ll_grammar.proofs.SpelledLaws.{open_meant, spelled_none, spelled_then, spelled_alone}
use Rattle.ciborium_ll_recode.proofs.NumberTitles.{has_number, fewest_is}
use Rattle.ciborium_ll_recode.proofs.ShortenedLaws.{string_code, open_byte, parts_spelled, front_shortened}

-- ---- strings

-- The spelling of joined marks is the two spellings, joined.
joined : {x y : List ℕ} (ms ns : List Mark) → x ≡ spelling ms → y ≡ spelling ns → x ++ y ≡ spelling (ms ++ ns)
joined ms ns p q = rw (p, q, spelling-append) refl

-- A title of the major type of a kind is a title of the header of that kind.
kind_title : (b : Spelling) (k : Kind) (n : ℕ) (t : List ℕ) → IsNumberTitle b (string_code k) n t
    → IsTitle t (kind_header k (Some n))
kind_title b Bytes n t p = let z = has_number b ByteString n t p in rw z.2 (numbered ByteString z.0 n z.1)
kind_title b Text n t p = let z = has_number b TextString n t p in rw z.2 (numbered TextString z.0 n z.1)

-- A title with the fewest bytes is the shortest title of the header.
kind_fewest : (k : Kind) (n : ℕ) (t : List ℕ) → IsNumberTitle Shortest (string_code k) n t
    → t ≡ shortest_title (kind_header k (Some n))
kind_fewest Bytes n t p = fewest_is ByteString n t p
kind_fewest Text n t p = fewest_is TextString n t p

body_writable : (k : Kind) (body : List ℕ) → IsBody (string_code k) body → IsWritable k body
body_writable k body is = grind arith

-- The strings after an open, their bodies, and the bytes that are written for them.
record StringsWithin (b : Spelling) (k : Kind) (w written : List ℕ) : Type 0 where
  bodies : List (List ℕ)
  are : AreStrings k w bodies
  sound : AreWritable k bodies
  spelled : written ≡ spelling (pieces k bodies)
  same : b ≡ Shortest → w ≡ spelling (pieces k bodies)

open_is_title : (k : Kind) → IsTitle (open_byte k ∷ []) (kind_header k None)
open_is_title Bytes = alone_title ByteString (h.Bytes None) refl
open_is_title Text = alone_title TextString (h.Text None) refl

within : (b : Spelling) (k : Kind) (w written : List ℕ) → ShortensStrings b (string_code k) w written
    → StringsWithin b k w written
within b k w written no_more =
    record { bodies = []; are = none; sound = tt; spelled = refl; same = λ on. refl }
within b k w written
    (definite_more {rest = y} {more = v} (titled {title = t} {shortest = s} {body = x} p q sound) others) =
    let all = within b k y v others in
    record {
      bodies = x ∷ all.bodies;
      are = more (definite (kind_title b k (length x) t p)) all.are;
      sound = (body_writable k x sound, all.sound);
      spelled = cc (kind_fewest k (length x) s q, all.spelled);
      same = λ on. cc (kind_fewest k (length x) t (rw on at p), all.same on);
    }
within b k w written (open_more {within = x} {rest = y} {written = u} {more = v} off inner others) =
    let one = within b k x u inner in
    let all = within b k y v others in
    record {
      bodies = one.bodies ++ all.bodies;
      are = more (indefinite (open_is_title k) one.are) all.are;
      sound = AreWritable-append k one.bodies all.bodies one.sound all.sound;
      spelled = rw pieces-append (joined (pieces k one.bodies) (pieces k all.bodies) one.spelled all.spelled);
      same = λ on. absurd cc;
    }

-- The major type of a body is that of a kind.
which_kind : (major : ℕ) (body : List ℕ) → IsBody major body → (k : Kind) × (major ≡ string_code k)
which_kind major body is = grind arith

string_kind : {b : Spelling} {major : ℕ} {w written : List ℕ} → ShortensString b major w written
    → (k : Kind) × (major ≡ string_code k)
string_kind (titled {body = x} p q y) = which_kind _ x y

-- ---- elements

-- An element, its marks, and the bytes that are written for it.
record MarkedElement (b : Spelling) (w written : List ℕ) : Type 0 where
  marks : List Mark
  element : IsElement w marks
  spelled : written ≡ spelling marks
  strict : b ≡ Shortest → IsStrictSpelling w marks []

plain_marked : (b : Spelling) (header : Header) (w written : List ℕ) → IsTitle w header → IsPlain header
    → written ≡ shortest_title header → (b ≡ Shortest → w ≡ shortest_title header)
    → (b ≡ Shortest → IsSmallSimple header → ⊥) → MarkedElement b w written
plain_marked b header w written p q is same meant =
    record {
      marks = Plain header ∷ [];
      element = plain header p q;
      spelled = rw append-nil is;
      strict = λ on. record { same = simp append-nil (same on); meant = (meant on, tt) };
    }

-- The major type of an integer, an array, a map or a tag gives the header of its title. That header begins no string.
counts : (m : Major) → (major_code m < 2) ⊎ ((3 < major_code m) × (major_code m < 7)) → (n : ℕ) (s : Size)
    → (numbered_header m s n ≡ numbered_header m Small n) × IsPlain (numbered_header m Small n)
    × (shortest_numbered m n ≡ shortest_title (numbered_header m Small n))
    × (IsSmallSimple (numbered_header m Small n) → ⊥)
counts m which n s = grind arith

number_marked : (b : Spelling) (m : Major) {n : ℕ} {w written : List ℕ}
    → (major_code m < 2) ⊎ ((3 < major_code m) × (major_code m < 7)) → IsNumberTitle b (major_code m) n w
    → IsNumberTitle Shortest (major_code m) n written → MarkedElement b w written
number_marked b m {n} {w} {written} which p least =
    let z = has_number b m n w p in
    let c = counts m which n z.0 in
    plain_marked b (numbered_header m Small n) w written (rw (z.2, ← c.0) (numbered m z.0 n z.1)) c.1
    (fewest_is m n written least ∙ c.2) (λ on. fewest_is m n w (rw on at p) ∙ c.2) (λ on. c.3)

by_major : (b : Spelling) (major n : ℕ) (w written : List ℕ) → (major < 2) ⊎ ((3 < major) × (major < 7))
    → IsNumberTitle b major n w → IsNumberTitle Shortest major n written → MarkedElement b w written
by_major b zero n w written c p q = number_marked b Unsigned c p q
by_major b (suc zero) n w written c p q = number_marked b Negative c p q
by_major b (suc (suc zero)) n w written c p q = absurd (omega arith)
by_major b (suc (suc (suc zero))) n w written c p q = absurd (omega arith)
by_major b (suc (suc (suc (suc zero)))) n w written c p q = number_marked b Array c p q
by_major b (suc (suc (suc (suc (suc zero))))) n w written c p q = number_marked b Map c p q
by_major b (suc (suc (suc (suc (suc (suc zero)))))) n w written c p q = number_marked b Tag c p q
by_major b (suc (suc (suc (suc (suc (suc (suc k))))))) n w written c p q = absurd (omega arith)

simple_title : (s : Size) (n : ℕ) (w : List ℕ) → n < size_limit s → w ≡ numbered_title Other s n → length w ≤ 2
    → IsTitle w (h.Simple n)
simple_title Small n w l e short = rw e (numbered Other Small n l)
simple_title One n w l e short = rw e (numbered Other One n l)
simple_title Two n w l e short = absurd (omega (arith, ap length e, short))
simple_title Four n w l e short = absurd (omega (arith, ap length e, short))
simple_title Eight n w l e short = absurd (omega (arith, ap length e, short))

-- A title that is the shortest one of its header is written as it was.
own_marked : (b : Spelling) (header : Header) (w : List ℕ) → w ≡ shortest_title header
    → IsTitle (shortest_title header) header → IsPlain header → (IsSmallSimple header → ⊥) → MarkedElement b w w
own_marked b header w is p q meant = plain_marked b header w w (rw is p) q is (λ on. is) (λ on. meant)

float_marked : (b : Spelling) (s : Size) (n : ℕ) (w : List ℕ) → n < size_limit s → w ≡ numbered_title Other s n
    → 2 < length w → MarkedElement b w w
float_marked b Small n w l e long = absurd (omega (arith, ap length e, long))
float_marked b One n w l e long = absurd (omega (arith, ap length e, long))
float_marked b Two n w l e long = own_marked b (h.Float (f.Half n)) w e (numbered Other Two n l) tt (λ x. x)
float_marked b Four n w l e long = own_marked b (h.Float (f.Single n)) w e (numbered Other Four n l) tt (λ x. x)
float_marked b Eight n w l e long = own_marked b (h.Float (f.Double n)) w e (numbered Other Eight n l) tt (λ x. x)

alone_marked : (b : Spelling) (byte : ℕ) → (byte ≡ 0x9f) ⊎ (byte ≡ 0xbf) ⊎ (byte ≡ 0xff)
    → MarkedElement b (byte ∷ []) (byte ∷ [])
alone_marked b byte (inl e) =
    rw e (own_marked b (h.Array None) (0x9f ∷ []) refl (alone_title Array (h.Array None) refl) tt (λ x. x))
alone_marked b byte (inr (inl e)) =
    rw e (own_marked b (h.Map None) (0xbf ∷ []) refl (alone_title Map (h.Map None) refl) tt (λ x. x))
alone_marked b byte (inr (inr e)) =
    rw e (own_marked b h.Break (0xff ∷ []) refl (alone_title Other h.Break refl) tt (λ x. x))

whole_marked : (b : Spelling) (k : Kind) (w written : List ℕ) → ShortensString b (string_code k) w written
    → MarkedElement b w written
whole_marked b k w written (titled {title = t} {shortest = s} {body = x} p q sound) = record {
  marks = Whole k x ∷ [];
  element = string k (definite (kind_title b k (length x) t p)) (body_writable k x sound, tt);
  spelled = rw append-nil (cc (kind_fewest k (length x) s q));
  strict = λ on. record {
    same = simp append-nil (cc (kind_fewest k (length x) t (rw on at p)));
    meant = (tt, tt);
  };
}

parts_marked : (b : Spelling) (k : Kind) (strings written : List ℕ) → ShortensStrings b (string_code k) strings written
    → MarkedElement b (open_byte k ∷ (strings ++ 0xff ∷ [])) (open_byte k ∷ (written ++ 0xff ∷ []))
parts_marked b k strings written s =
    let all = within b k strings written s in
    record {
      marks = open_marks k all.bodies;
      element = string k (indefinite (open_is_title k) all.are) all.sound;
      spelled = rw parts_spelled (ap (λ (z : List ℕ). open_byte k ∷ (z ++ 0xff ∷ [])) all.spelled);
      strict = λ on. record {
        same = simp (append-nil, parts_spelled) (ap (λ (z : List ℕ). open_byte k ∷ (z ++ 0xff ∷ [])) (all.same on));
        meant = open_meant k all.bodies;
      };
    }

element_marked : (b : Spelling) (w written : List ℕ) → ShortensElement b w written → MarkedElement b w written
element_marked b w written (number {major = major} {n = n} c p q) = by_major b major n w written c p q
element_marked b w written (simple {n = n} short meant p q) =
    let z = has_number b Other n w p in
    plain_marked b (h.Simple n) w written (simple_title z.0 n w z.1 z.2 short) tt (fewest_is Other n written q)
    (λ on. fewest_is Other n w (rw on at p))
    (λ on small. elim (meant on) [ inl a ↦ omega (arith, a, small.0) | inr a ↦ omega (arith, a, small.1) ])
element_marked b w written (float {bits = n} long p) =
    let z = has_number Any Other n w p in float_marked b z.0 n w z.1 z.2 long
element_marked b w written (alone {byte = byte} which) = alone_marked b byte which
element_marked b w written (whole {major = major} s) =
    let k = string_kind s in whole_marked b k.0 w written (rw k.1 at s)
element_marked b w written (parts {major = major} {strings = x} {written = y} kind s) =
    let k = which_kind major [] kind in rw k.1 (parts_marked b k.0 x y (rw k.1 at s))

-- ---- elements at the beginning of bytes

-- The bytes begin with `count` elements, `written` is their spelling, and `rest` are the bytes after them.
abbrev pub SpellsFront : Spelling → ℕ → List ℕ → List ℕ → List ℕ → Type 0
SpellsFront allowed count due written rest =
    (front : BeginsWithElements allowed count due) × (written ≡ spelling front.marks) × (rest ≡ front.rest)

-- If `Shortens` holds, the bytes begin with `count` elements, and `written` is their spelling.
pub shortened_front : (allowed : Spelling) (count : ℕ) (due written rest : List ℕ)
    → Shortens allowed count due written rest
    → SpellsFront allowed count due written rest
shortened_front allowed count due written rest shortens_done = (
  record { elements = []; marks = []; rest = rest; run = done; is = refl; spelled = λ on. spelled_none },
  refl,
  refl,
)
shortened_front allowed count due written rest
    (shortens_next {count = m} {element = x} {bytes = y} {written = u} {more = v} e others) =
    let one = element_marked allowed x u e in
    let all = shortened_front allowed m y v rest others in
    let front = all.0 in (
      record {
        elements = x ++ front.elements;
        marks = one.marks ++ front.marks;
        rest = front.rest;
        run = next one.element front.run;
        is = cc (front.is, append_assoc x front.elements front.rest);
        spelled = λ on.
            let spelled = front.spelled on in
            spelled_then x one.marks front.elements front.marks (one.strict on)
            (spelled_alone front.elements front.marks spelled) spelled.meant;
      },
      joined one.marks front.marks one.spelled all.1,
      all.2,
    )

-- A copy of the copy is the same bytes.
pub shortened_again : (allowed : Spelling) (count : ℕ) (due written rest : List ℕ)
    → Shortens allowed count due written rest
    → Shortens allowed count written written []
shortened_again allowed count due written rest s =
    let all = shortened_front allowed count due written rest s in
    let front = all.0 in
    rw all.1 (front_shortened allowed count (spelling front.marks) record {
      elements = spelling front.marks;
      marks = front.marks;
      rest = [];
      run = (run_again count front.elements front.marks front.run).run;
      is = sym (append-nil (spelling front.marks));
      spelled = λ on. record { same = sym (append-nil (spelling front.marks)); meant = (front.spelled on).meant };
    })

-- ---- further facts

pub shortened_is : (allowed : Spelling) (count : ℕ) (due written rest : List ℕ)
    → Shortens allowed count due written rest ↔ SpellsFront allowed count due written rest
shortened_is allowed count due written rest = (
  shortened_front allowed count due written rest,
  λ found. rw (found.1, found.2) (front_shortened allowed count due found.0),
)

-- There is at most one copy and one rest, for a strict decoder and for another.
pub shortened_one : (allowed other : Spelling) (count : ℕ) (due written rest copy left : List ℕ)
    → Shortens allowed count due written rest → Shortens other count due copy left → (written ≡ copy) × (rest ≡ left)
shortened_one allowed other count due written rest copy left s t =
    let a = shortened_front allowed count due written rest s in
    let b = shortened_front other count due copy left t in
    let one = one_run count a.0.elements a.0.marks a.0.run b.0.elements a.0.rest b.0.rest b.0.marks b.0.run
    (sym a.0.is ∙ b.0.is) in
    (a.1 ∙ (ap spelling one.1 ∙ sym b.1), a.2 ∙ one.2 ∙ sym b.2)

-- The copy is no longer than the bytes that were copied.
pub shortened_no_longer : (allowed : Spelling) (count : ℕ) (due written rest : List ℕ)
    → Shortens allowed count due written rest → length written + length rest ≤ length due
shortened_no_longer allowed count due written rest s =
    let all = shortened_front allowed count due written rest s in
    let shorter = (run_again count all.0.elements all.0.marks all.0.run).shorter in
    omega (arith, shorter, ap length all.0.is, ap length all.1, ap length all.2, length-append {A = ℕ})

-- Elements that a strict decoder takes are written as they were.
pub shortened_same : (count : ℕ) (due written rest : List ℕ) → Shortens Shortest count due written rest
    → due ≡ written ++ rest
shortened_same count due written rest s =
    let all = shortened_front Shortest count due written rest s in
    let same = spelled_alone all.0.elements all.0.marks (all.0.spelled refl) in
    cc (all.0.is, same, all.1, all.2)
