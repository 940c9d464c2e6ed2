-- From elements and their marks to `Shortens`: the marks' spelling is written.
use Rattle.std.proofs.Common.{◌≡◌, ℕ, suc, ◌+◌, ◌*◌, ◌<◌, ◌≤◌, ◌⊎◌, inl, inr, List, [], ◌∷◌, ◌++◌}
use Rattle.std.proofs.Common.{length, Some, None, refl, ap, ◌∙◌, arith, append-nil, append_assoc}
use Rattle.ciborium_ll_grammar.specs.declared.spelling.Spelling.{Spelling}
use Rattle.ciborium_ll_grammar.specs.declared.spelling.Spelling.TheVariants.{Any, Shortest}
use Rattle.ciborium_ll_grammar.specs.declared.hdr.Header.{Header}
use Rattle.ciborium_ll_grammar.specs.declared.hdr.Header.TheVariants as h
use Rattle.ciborium_ll_grammar.specs.declared.hdr.Float.TheVariants as f
use Rattle.ciborium_ll_grammar.specs.Title.{Major, Unsigned, Negative, ByteString, TextString, Array, Map, Tag, Other}
use Rattle.ciborium_ll_grammar.specs.Title.{major_code, Size, Two, Four, Eight, IsTitle, shortest_title, size_limit}
use Rattle.ciborium_ll_grammar.specs.Title.{numbered_title, shortest_numbered, IsStrictTitle, IsSmallSimple}
use Rattle.ciborium_ll_grammar.specs.Strings.{Kind, Bytes, Text, kind_header, IsString, AreStrings, none, more}
use Rattle.ciborium_ll_grammar.specs.Strings.{IsWritable}
use Rattle.ciborium_ll_grammar.specs.Strings.IsString.{definite, indefinite}
use Rattle.ciborium_ll_grammar.specs.Elements.{AreWritable, IsPlain, Mark, pieces, open_marks, spelling, body_spelling}
use Rattle.ciborium_ll_grammar.specs.Elements.{IsElement, plain, string, IsRun, done, next, IsStrictRun}
use Rattle.ciborium_ll_grammar.specs.StrictElements.{AreFlat, none as no_flat, more as more_flat, IsStrictElement}
use Rattle.ciborium_ll_grammar.specs.StrictElements.{plain as strict_plain, whole as strict_whole}
use Rattle.ciborium_ll_grammar.specs.StrictElements.{parts as strict_parts, AreStrictElements, done as strict_done}
use Rattle.ciborium_ll_grammar.specs.StrictElements.{next as strict_next}
use Rattle.ciborium_ll_grammar.specs.Faults.{BeginsWithElements}
use Rattle.ciborium_ll_grammar.specs.Shortening.{IsBody, bytes, text, ShortensString, titled, ShortensStrings, no_more}
use Rattle.ciborium_ll_grammar.specs.Shortening.{definite_more, open_more, ShortensElement, number, simple, float}
use Rattle.ciborium_ll_grammar.specs.Shortening.{alone, whole, parts, Shortens, done as shortens_done}
use Rattle.ciborium_ll_grammar.specs.Shortening.{next as shortens_next}
use Rattle.ciborium_ll_grammar.proofs.TitleLaws.{title_in_range}
use Rattle.ciborium_ll_grammar.proofs.ElementLaws.{AreWritable-left, AreWritable-right, spelling-append, pieces-append}
use Rattle.ciborium_ll_grammar.proofs.ElementLaws.{open_spelled}
use Rattle.ciborium_ll_grammar.proofs.SpelledLaws.{spelled_alone}
use Rattle.ciborium_ll_recode.proofs.NumberTitles.{HasNumber, IsTitleOf, title_of, size_below, taken_title, least_title}
use Rattle.ciborium_ll_recode.proofs.StrictRunLaws.{titles}

-- ---- titles that begin no string

-- The copy of a title of a number is the number's shortest title.
numbered_shortens : (b : Spelling) (m : Major) (n : ℕ) (title : List ℕ) → HasNumber m n title
    → (major_code m < 2) ⊎ ((3 < major_code m) × (major_code m < 7)) → (b ≡ Shortest → title ≡ shortest_numbered m n)
    → ShortensElement b title (shortest_numbered m n)
numbered_shortens b m n title z major least =
    number major (taken_title b m n title z least) (least_title Shortest m n (size_below z.0 n z.1))

-- A simple value that a strict decoder takes is below 24, or at least 32.
meant_simple : (n : ℕ) → (IsSmallSimple (h.Simple n) → ⊥) → (n < 24) ⊎ (32 ≤ n)
meant_simple n small = grind arith

-- The copy of the title of a float is the same title.
float_shortens : (b : Spelling) (s : Size) (n : ℕ) {title : List ℕ} → n < size_limit s
    → 2 < length (numbered_title Other s n) → title ≡ numbered_title Other s n
    → ShortensElement b title (numbered_title Other s n)
float_shortens b s n below long is =
    rw is (float long (taken_title Any Other n (numbered_title Other s n) (s, below, refl) (λ on. absurd cc)))

plain_shortens : (b : Spelling) (header : Header) (title : List ℕ) → IsTitle title header → IsTitleOf header title
    → IsPlain header → (b ≡ Shortest → title ≡ shortest_title header) → (b ≡ Shortest → IsSmallSimple header → ⊥)
    → ShortensElement b title (shortest_title header)
plain_shortens b (h.Positive n) t p z q s m = numbered_shortens b Unsigned n t z (inl (omega arith)) s
plain_shortens b (h.Negative n) t p z q s m = numbered_shortens b Negative n t z (inl (omega arith)) s
plain_shortens b (h.Tag n) t p z q s m = numbered_shortens b Tag n t z (inr (omega arith, omega arith)) s
plain_shortens b (h.Array (Some n)) t p z q s m = numbered_shortens b Array n t z (inr (omega arith, omega arith)) s
plain_shortens b (h.Map (Some n)) t p z q s m = numbered_shortens b Map n t z (inr (omega arith, omega arith)) s
plain_shortens b (h.Array None) t p z q s m = rw z (alone (inl refl))
plain_shortens b (h.Map None) t p z q s m = rw z (alone (inr (inl refl)))
plain_shortens b h.Break t p z q s m = rw z (alone (inr (inr refl)))
plain_shortens b (h.Simple n) t p z q s m =
    simple z.1 (λ on. meant_simple n (m on)) (taken_title b Other n t z.0 s)
    (least_title Shortest Other n (size_below z.0.0 n z.0.1))
plain_shortens b (h.Float (f.Half n)) t p z q s m =
    float_shortens b Two n (title_in_range t (h.Float (f.Half n)) p) (omega arith) z
plain_shortens b (h.Float (f.Single n)) t p z q s m =
    float_shortens b Four n (title_in_range t (h.Float (f.Single n)) p) (omega arith) z
plain_shortens b (h.Float (f.Double n)) t p z q s m =
    float_shortens b Eight n (title_in_range t (h.Float (f.Double n)) p) (omega arith) z
plain_shortens b (h.Bytes len) t p z q s m = absurd q
plain_shortens b (h.Text len) t p z q s m = absurd q

-- ---- strings

-- The major type of a kind.
abbrev pub string_code : Kind → ℕ
string_code Bytes = 2
string_code Text = 3

empty_body : (k : Kind) → IsBody (string_code k) []
empty_body k = grind (arith, bytes, text)

titled_by : (b : Spelling) (m : Major) (title body : List ℕ) → HasNumber m (length body) title
    → (b ≡ Shortest → title ≡ shortest_numbered m (length body)) → IsBody (major_code m) body
    → ShortensString b (major_code m) (title ++ body) (shortest_numbered m (length body) ++ body)
titled_by b m title body z least sound = titled (taken_title b m (length body) title z least)
    (least_title Shortest m (length body) (size_below z.0 (length body) z.1)) sound

string_shortens : (b : Spelling) (k : Kind) (title body : List ℕ) → IsTitle title (kind_header k (Some (length body)))
    → (b ≡ Shortest → IsStrictTitle title (kind_header k (Some (length body)))) → IsWritable k body
    → ShortensString b (string_code k) (title ++ body) (body_spelling k body)
string_shortens b Bytes t x p s sound =
    titled_by b ByteString t x (title_of t (h.Bytes (Some (length x))) p) (λ on. (s on).shortest) bytes
string_shortens b Text t x p s sound =
    titled_by b TextString t x (title_of t (h.Text (Some (length x))) p) (λ on. (s on).shortest) (text sound)

-- The one byte of the open of a string.
abbrev pub open_byte : Kind → ℕ
open_byte k = 32 * string_code k + 31

pub open_title : (k : Kind) (title : List ℕ) → IsTitle title (kind_header k None) → title ≡ open_byte k ∷ []
open_title k title p = grind (arith, title_of)

pub open_shortest : (k : Kind) → shortest_title (kind_header k None) ≡ open_byte k ∷ []
open_shortest k = grind arith

pub parts_spelled : (k : Kind) (bs : List (List ℕ))
    → spelling (open_marks k bs) ≡ open_byte k ∷ (spelling (pieces k bs) ++ 0xff ∷ [])
parts_spelled k bs = open_spelled k bs
    ∙ ap (λ (z : List ℕ). z ++ (spelling (pieces k bs) ++ 0xff ∷ [])) (open_shortest k)

parts_shortened : (b : Spelling) (k : Kind) (title strings : List ℕ) (bs : List (List ℕ))
    → IsTitle title (kind_header k None) → ShortensStrings b (string_code k) strings (spelling (pieces k bs))
    → ShortensElement b (title ++ (strings ++ 0xff ∷ [])) (spelling (open_marks k bs))
parts_shortened b k title strings bs p within =
    rw (open_title k title p, parts_spelled k bs) (parts (empty_body k) within)

-- ---- any elements

mutual
  any_one : (k : Kind) (w : List ℕ) (bs : List (List ℕ)) → IsString k w bs → AreWritable k bs → (rest written : List ℕ)
      → ShortensStrings Any (string_code k) rest written
      → ShortensStrings Any (string_code k) (w ++ rest) (spelling (pieces k bs) ++ written)
  any_one k w bs (definite {title = t} {body = b} p) sound rest written others =
      rw append-nil (definite_more (string_shortens Any k t b p (λ on. absurd cc) sound.0) others)
  any_one k w bs (indefinite {title = t} {strings = x} {bodies = cs} p q) sound rest written others =
      rw (open_title k t p) (open_more refl (any_all k x cs q sound) others)

  any_all : (k : Kind) (w : List ℕ) (bs : List (List ℕ)) → AreStrings k w bs → AreWritable k bs
      → ShortensStrings Any (string_code k) w (spelling (pieces k bs))
  any_all k w bs none sound = no_more
  any_all k w bs (more {first = x} {rest = y} {bodies = ds} {others = es} s ss) sound =
      rw (pieces-append, spelling-append) (any_one k x ds s (AreWritable-left k ds es sound) y _
      (any_all k y es ss (AreWritable-right k ds es sound)))

any_element : (w : List ℕ) (ms : List Mark) → IsElement w ms → ShortensElement Any w (spelling ms)
any_element w ms (plain header p q) =
    rw append-nil (plain_shortens Any header w p (title_of w header p) q (λ on. absurd cc) (λ on. absurd cc))
any_element w ms (string k (definite {title = t} {body = b} p) sound) =
    rw append-nil (whole (string_shortens Any k t b p (λ on. absurd cc) sound.0))
any_element w ms (string k (indefinite {title = t} {strings = x} {bodies = bs} p q) sound) =
    parts_shortened Any k t x bs p (any_all k x bs q sound)

-- One more element is copied.
next_shortened : (b : Spelling) (m : ℕ) (x y rest : List ℕ) (ns os : List Mark) → ShortensElement b x (spelling ns)
    → Shortens b m (y ++ rest) (spelling os) rest → Shortens b (suc m) ((x ++ y) ++ rest) (spelling (ns ++ os)) rest
next_shortened b m x y rest ns os e others = rw (append_assoc x y rest, spelling-append) (shortens_next e others)

any_run : (n : ℕ) (w : List ℕ) (ms : List Mark) → IsRun n w ms → (rest : List ℕ)
    → Shortens Any n (w ++ rest) (spelling ms) rest
any_run n w ms done rest = shortens_done
any_run n w ms (next {count = m} {first = x} {rest = y} {marks = ns} {others = os} e run) rest =
    next_shortened Any m x y rest ns os (any_element x ns e) (any_run m y os run rest)

-- ---- elements in their shortest spelling

flat_strings : (k : Kind) (w : List ℕ) (bs : List (List ℕ)) → AreFlat k w bs → AreWritable k bs
    → ShortensStrings Shortest (string_code k) w (spelling (pieces k bs))
flat_strings k w bs no_flat sound = no_more
flat_strings k w bs (more_flat {title = t} {body = b} {rest = y} {bodies = es} p s others) sound =
    definite_more (string_shortens Shortest k t b p (λ on. s) sound.0) (flat_strings k y es others sound.1)

strict_element : (w : List ℕ) (ms : List Mark) → IsStrictElement w ms → ShortensElement Shortest w (spelling ms)
strict_element w ms (strict_plain header p s q) =
    rw append-nil (plain_shortens Shortest header w p (title_of w header p) q (λ on. s.shortest) (λ on. s.meant))
strict_element w ms (strict_whole {title = t} {body = b} k p s sound) =
    rw append-nil (whole (string_shortens Shortest k t b p (λ on. s) sound))
strict_element w ms (strict_parts {title = t} {strings = x} {bodies = bs} k p within sound) =
    parts_shortened Shortest k t x bs p (flat_strings k x bs within sound)

strict_elements : (n : ℕ) (w : List ℕ) (ms : List Mark) → AreStrictElements n w ms → (rest : List ℕ)
    → Shortens Shortest n (w ++ rest) (spelling ms) rest
strict_elements n w ms strict_done rest = shortens_done
strict_elements n w ms (strict_next {count = m} {first = x} {rest = y} {marks = ns} {others = os} e run) rest =
    next_shortened Shortest m x y rest ns os (strict_element x ns e) (strict_elements m y os run rest)

-- ---- elements at the beginning of bytes

pub front_shortened : (allowed : Spelling) (count : ℕ) (due : List ℕ) (front : BeginsWithElements allowed count due)
    → Shortens allowed count due (spelling front.marks) front.rest
front_shortened Any count due front = rw front.is (any_run count front.elements front.marks front.run front.rest)
front_shortened Shortest count due front =
    let spelled = front.spelled refl in
    let same = spelled_alone front.elements front.marks spelled in
    let allowed : IsStrictRun count front.elements front.marks = search in
    let elements = (titles count front.elements front.marks).0 allowed in
    rw front.is (strict_elements count front.elements front.marks elements front.rest)
