-- The segments of a string, one by one.
use Rattle.std.proofs.Common.{◌≡◌, ℕ, ◌<◌, ◌≤◌, List, [], ◌∷◌, ◌++◌, length, Option, Some, None}
use Rattle.std.proofs.Common.{MatchOption, refl, sym, ◌∙◌, ap, subst, append_assoc, append-nil, arith, length-append}
use Rattle.std.proofs.Common.{◌⊎◌, inl, inr}
use Rattle.std.proofs.lemmas.Grind.{not_there}
use Rattle.std.proofs.Math.Logic.{∥∥₁_map, ∥∥₁_elim}
use Rattle.std.proofs.Props.{props}
use Rattle.ciborium_ll_grammar.specs.declared.spelling.Spelling.TheVariants.{Any}
use Rattle.ciborium_ll_grammar.specs.declared.hdr.Header.{Header}
use Rattle.ciborium_ll_grammar.specs.declared.hdr.Header.TheVariants as h
use Rattle.ciborium_ll_grammar.specs.Title.{HasFirstTitle, HasNoTitle, IsTitle}
use Rattle.ciborium_ll_grammar.specs.Strings.{Kind, Bytes, Text, kind_header, IsString, definite, indefinite}
use Rattle.ciborium_ll_grammar.specs.Strings.{AreStrings, none, more}
use Rattle.ciborium_ll_grammar.specs.Elements.{AreWritable}
use Rattle.ciborium_ll_grammar.specs.Items.{Completes, byte_string, text_string, open_bytes, open_text}
use Rattle.ciborium_ll_grammar.proofs.AloneLaws.{title_some}
use Rattle.ciborium_ll_grammar.proofs.TitleLaws.{one_title}
use Rattle.ciborium_ll_grammar.proofs.StringLaws.{break_title, not_break, same_string, some_is, mixed}
use Rattle.ciborium_ll_text.specs.Text.{IsCharacters}
use Rattle.ciborium_ll_text.proofs.Lists.{same_front}
use Rattle.ciborium_ll_text.proofs.Utf8Laws.{text_or_none}
use Rattle.cbor_view.specs.Views.{IsOpenedBy, Opens}
use Rattle.cbor_view.proofs.OpenLaws.{none_opened}
use Rattle.cbor_view.specs.Segments.{AreSegments, ended, segment, opened, closed, HasSegments, HasTexts}
use Rattle.cbor_view.specs.Segments.{IsFirstSegment, IsStringItem, IsSegmented}

-- ---- a whole string

mutual
  string_segments : (k : Kind) (w : List ℕ) (bs : List (List ℕ)) → IsString k w bs → (v : List ℕ) (cs : List (List ℕ))
      → AreSegments k v cs → AreSegments k (w ++ v) (bs ++ cs)
  string_segments k w bs (definite {title = t} {body = b} p) v cs s =
      subst (λ (z : List ℕ). AreSegments k z (b ∷ cs)) (sym (append_assoc t b v)) (segment p s)
  string_segments k w bs (indefinite {title = t} {strings = x} {bodies = bodies} p q) v cs s =
      let within = strings_segments k x bodies q (0xff ∷ v) cs (closed s) in
      let is : (t ++ (x ++ 0xff ∷ [])) ++ v ≡ t ++ (x ++ 0xff ∷ v) =
      append_assoc t (x ++ 0xff ∷ []) v ∙ ap (λ (z : List ℕ). t ++ z) (append_assoc x (0xff ∷ []) v) in
      subst (λ (z : List ℕ). AreSegments k z (bodies ++ cs)) (sym is) (opened p within)

  strings_segments : (k : Kind) (w : List ℕ) (bs : List (List ℕ)) → AreStrings k w bs → (v : List ℕ)
      (cs : List (List ℕ)) → AreSegments k v cs → AreSegments k (w ++ v) (bs ++ cs)
  strings_segments k w bs none v cs s = s
  strings_segments k w bs (more {first = f} {rest = r} {bodies = b} {others = o} p q) v cs s =
      let all = string_segments k f b p (r ++ v) (o ++ cs) (strings_segments k r o q v cs s) in
      subst (λ (z : List ℕ). AreSegments k z ((b ++ o) ++ cs)) (sym (append_assoc f r v))
      (subst (λ (z : List (List ℕ)). AreSegments k (f ++ (r ++ v)) z) (sym (append_assoc b o cs)) all)

-- A string has the segments of its bodies.
pub whole_segments : (k : Kind) (w : List ℕ) (bs : List (List ℕ)) → IsString k w bs → AreSegments k w bs
whole_segments k w bs s =
    subst (λ (z : List ℕ). AreSegments k z bs) (append-nil w)
    (subst (λ (z : List (List ℕ)). AreSegments k (w ++ []) z) (append-nil bs) (string_segments k w bs s [] [] ended))

-- ---- the first title

-- The title at the beginning of segments is that of a segment, an open or a break.
data Step (k : Kind) (x : Header) (after : List ℕ) (bodies : List (List ℕ)) : Type 0 where
  at_segment : (body rest : List ℕ) (others : List (List ℕ)) → x ≡ kind_header k (Some (length body))
      → after ≡ body ++ rest → AreSegments k rest others → bodies ≡ body ∷ others → Step k x after bodies
  at_open : x ≡ kind_header k None → AreSegments k after bodies → Step k x after bodies
  at_break : x ≡ h.Break → AreSegments k after bodies → Step k x after bodies

step : (k : Kind) (w t after : List ℕ) (x : Header) (bodies : List (List ℕ)) → AreSegments k w bodies → IsTitle t x
    → w ≡ t ++ after → Step k x after bodies
step k w t after x bodies ended p z =
    absurd (omega (arith, title_some t x p, ap length z, length-append t after))
step k w t after x bodies (segment {title = o} {body = b} {rest = r} {others = others} q s) p z =
    let one = one_title o t (b ++ r) after (kind_header k (Some (length b))) x q p z in
    at_segment b r others (sym one.1) (sym one.2) s refl
step k w t after x bodies (opened {title = o} {rest = r} q s) p z =
    let one = one_title o t r after (kind_header k None) x q p z in
    at_open (sym one.1) (subst (λ (v : List ℕ). AreSegments k v bodies) one.2 s)
step k w t after x bodies (closed {rest = r} s) p z =
    let one = one_title (0xff ∷ []) t r after h.Break x break_title p z in
    at_break (sym one.1) (subst (λ (v : List ℕ). AreSegments k v bodies) one.2 s)

title_go : (k : Kind) (w : List ℕ) (bodies : List (List ℕ)) → AreSegments k w bodies → 0 < length w
    → ((x : Header) → IsOpenedBy w x → ⊥) → ⊥
title_go k w bodies ended l f = omega arith
title_go k w bodies (segment {title = t} {body = b} {rest = r} q s) l f =
    f (kind_header k (Some (length b))) (record { title = t; contents = b ++ r; is_title = q; whole = refl })
title_go k w bodies (opened {title = t} {rest = r} q s) l f =
    f (kind_header k None) (record { title = t; contents = r; is_title = q; whole = refl })
title_go k w bodies (closed {rest = r} s) l f =
    f h.Break (record { title = 0xff ∷ []; contents = r; is_title = break_title; whole = refl })

-- Segments begin with a title.
pub title_there : (w : List ℕ) → ∥ HasSegments w ∥₁ → 0 < length w → HasNoTitle w → ⊥
title_there w t l q = not_there t (λ i. title_go i.kind w i.bodies i.are l (none_opened w q))

pub none_left : (k : Kind) (w : List ℕ) (bodies : List (List ℕ)) → AreSegments k w bodies → length w ≡ 0 → bodies ≡ []
none_left k w bodies ended z = refl
none_left k w bodies (segment {title = t} {body = b} {rest = r} q s) z =
    absurd (omega (arith, title_some t (kind_header k (Some (length b))) q, length-append t (b ++ r)))
none_left k w bodies (opened {title = t} {rest = r} q s) z =
    absurd (omega (arith, title_some t (kind_header k None) q, length-append t r))
none_left k w bodies (closed s) z = absurd (omega arith)

-- The header is that of a segment, in either kind of string.
abbrev pub IsSegmentHeader : Header → ℕ → Type 0
IsSegmentHeader x len = (kind : Kind) × (x ≡ kind_header kind (Some len))

same_len : (k j : Kind) (x : Header) (n len : ℕ) → x ≡ kind_header k (Some n) → x ≡ kind_header j (Some len) → n ≡ len
same_len k j x n len e f = some_is n len (same_string k j (Some n) (Some len) (sym e ∙ f)).1

no_open : (k j : Kind) (x : Header) (len : ℕ) → x ≡ kind_header k None → x ≡ kind_header j (Some len) → ⊥
no_open k j x len e f = mixed len (same_string j k (Some len) None (sym f ∙ e)).1

fits_go : (k : Kind) (x : Header) (after : List ℕ) (bodies : List (List ℕ)) (len : ℕ) → IsSegmentHeader x len
    → Step k x after bodies → len ≤ length after
fits_go k x after bodies len i (at_segment b r others e z s q) =
    let same = same_len k i.0 x (length b) len e i.1 in
    omega (arith, same, ap length z, length-append b r)
fits_go k x after bodies len i (at_open e s) = absurd (no_open k i.0 x len e i.1)
fits_go k x after bodies len i (at_break e s) = absurd (not_break i.0 (Some len) (sym i.1 ∙ e))

-- The whole body of a segment follows its title.
pub segment_fits : (w after : List ℕ) (x : Header) (len : ℕ) → ∥ HasSegments w ∥₁ → HasFirstTitle w x after
    → IsSegmentHeader x len → len ≤ length after
segment_fits w after x len t f i =
    ∥∥₁_elim t (hlevel props) (λ s.
    fits_go s.kind x after s.bodies len i (step s.kind w f.title after x s.bodies s.are f.is_title f.whole))

first_go : (k : Kind) (x : Header) (after body last : List ℕ) (bodies : List (List ℕ)) (len : ℕ)
    → IsSegmentHeader x len → after ≡ body ++ last → length body ≡ len → Step k x after bodies
    → IsFirstSegment k bodies body last
first_go k x after body last bodies len i split l (at_segment b r others e z s q) =
    let len_same : length body ≡ length b = l ∙ sym (same_len k i.0 x (length b) len e i.1) in
    let same = same_front body b last r len_same (sym split ∙ z) in
    record {
      others = others;
      is = q ∙ ap (λ (v : List ℕ). v ∷ others) (sym same.0);
      are = subst (λ (v : List ℕ). AreSegments k v others) (sym same.1) s;
    }
first_go k x after body last bodies len i split l (at_open e s) = absurd (no_open k i.0 x len e i.1)
first_go k x after body last bodies len i split l (at_break e s) = absurd (not_break i.0 (Some len) (sym i.1 ∙ e))

-- The bytes after the title of a segment are its body and the rest.
pub first_segment : (k : Kind) (w after body last : List ℕ) (x : Header) (bodies : List (List ℕ)) (len : ℕ)
    → AreSegments k w bodies → HasFirstTitle w x after → IsSegmentHeader x len → after ≡ body ++ last → length body ≡ len
    → IsFirstSegment k bodies body last
first_segment k w after body last x bodies len s f i split l =
    first_go k x after body last bodies len i split l (step k w f.title after x bodies s f.is_title f.whole)

pub first_left : (w after body last : List ℕ) (x : Header) (len : ℕ) → ∥ HasSegments w ∥₁ → HasFirstTitle w x after
    → IsSegmentHeader x len → after ≡ body ++ last → length body ≡ len → ∥ HasSegments last ∥₁
first_left w after body last x len t f i split l =
    ∥∥₁_map t (λ s.
    let g = first_segment s.kind w after body last x s.bodies len s.are f i split l in
    let has : HasSegments last = record { kind = s.kind; bodies = g.others; are = g.are } in has)

-- The segments stay the same after an open and after a break.
passed_go : (k : Kind) (x : Header) (after : List ℕ) (bodies : List (List ℕ))
    → ((kind : Kind) (len : ℕ) → x ≡ kind_header kind (Some len) → ⊥) → Step k x after bodies
    → AreSegments k after bodies
passed_go k x after bodies n (at_segment b r others e z s q) = absurd (n k (length b) e)
passed_go k x after bodies n (at_open e s) = s
passed_go k x after bodies n (at_break e s) = s

pub passed : (k : Kind) (w after : List ℕ) (x : Header) (bodies : List (List ℕ)) → AreSegments k w bodies
    → HasFirstTitle w x after → ((kind : Kind) (len : ℕ) → x ≡ kind_header kind (Some len) → ⊥) → AreSegments k after bodies
passed k w after x bodies s f n = passed_go k x after bodies n (step k w f.title after x bodies s f.is_title f.whole)

pub passed_left : (w after : List ℕ) (x : Header) → ∥ HasSegments w ∥₁ → HasFirstTitle w x after
    → ((kind : Kind) (len : ℕ) → x ≡ kind_header kind (Some len) → ⊥) → ∥ HasSegments after ∥₁
passed_left w after x t f n =
    ∥∥₁_map t (λ s.
    let has : HasSegments after =
    record { kind = s.kind; bodies = s.bodies; are = passed s.kind w after x s.bodies s.are f n } in has)

-- A title has at least one byte.
pub title_takes : (w after : List ℕ) (x : Header) → HasFirstTitle w x after → length after < length w
title_takes w after x f =
    omega (arith, title_some f.title x f.is_title, ap length f.whole, length-append f.title after)

pub segment_header : (x : Header) (r : Option ℕ) → ((len : ℕ) → x ≡ h.Bytes (Some len) → ⊥)
    → MatchOption r ((len : ℕ) → x ≡ h.Text (Some len) → ⊥) (λ len. x ≡ h.Text (Some len))
    → MatchOption r ((kind : Kind) (len : ℕ) → x ≡ kind_header kind (Some len) → ⊥)
    (λ len. (kind : Kind) × (x ≡ kind_header kind (Some len)))
segment_header x None n m = both
  where
    both : (kind : Kind) (len : ℕ) → x ≡ kind_header kind (Some len) → ⊥
    both Bytes len e = n len e
    both Text len e = m len e
segment_header x (Some len) n m = (Text, m)

-- ---- texts

pub as_segments : (w : List ℕ) → ∥ HasTexts w ∥₁ → ∥ HasSegments w ∥₁
as_segments w t = ∥∥₁_map t (λ s.
    let has : HasSegments w = record { kind = Text; bodies = s.bodies; are = s.are } in has)

text_front : (bodies : List (List ℕ)) (body : List ℕ) (others : List (List ℕ)) → bodies ≡ body ∷ others
    → AreWritable Text bodies → IsCharacters body × AreWritable Text others
text_front bodies body others e k = subst (λ (v : List (List ℕ)). AreWritable Text v) e k

-- The first body of texts is UTF-8.
pub first_text : (w body last : List ℕ) → ∥ HasTexts w ∥₁
    → ((k : Kind) (bodies : List (List ℕ)) → AreSegments k w bodies → IsFirstSegment k bodies body last)
    → IsCharacters body
first_text w body last t f = go (text_or_none body)
  where
    go : IsCharacters body ⊎ (IsCharacters body → ⊥) → IsCharacters body
    go (inl k) = k
    go (inr n) =
        absurd (not_there t (λ s.
        let g = f Text s.bodies s.are in n (text_front s.bodies body g.others g.is s.texts).0))

pub texts_left : (w body last : List ℕ) → ∥ HasTexts w ∥₁
    → ((k : Kind) (bodies : List (List ℕ)) → AreSegments k w bodies → IsFirstSegment k bodies body last)
    → ∥ HasTexts last ∥₁
texts_left w body last t f = ∥∥₁_map t (λ s.
    let g = f Text s.bodies s.are in
    let has : HasTexts last =
    record { bodies = g.others; are = g.are; texts = (text_front s.bodies body g.others g.is s.texts).1 } in has)

-- ---- an item that is a string

bytes_item : (e : ℕ) (len : Option ℕ) (t rest : List ℕ) → IsTitle t (h.Bytes len) → Completes Any e (h.Bytes len) rest
    → IsStringItem Bytes (t ++ rest)
bytes_item e (Some len) t rest p (byte_string l) = record {
  bodies = rest ∷ [];
  is = definite (subst (λ (n : ℕ). IsTitle t (h.Bytes (Some n))) (sym l) p);
  written = (tt, tt);
}
bytes_item e None t rest p (open_bytes {bodies = bodies} q k) = record {
  bodies = bodies;
  is = indefinite p q;
  written = any bodies;
}
  where
    any : (bodies : List (List ℕ)) → AreWritable Bytes bodies
    any [] = tt
    any (body ∷ others) = (tt, any others)

text_item : (e : ℕ) (len : Option ℕ) (t rest : List ℕ) → IsTitle t (h.Text len) → Completes Any e (h.Text len) rest
    → IsStringItem Text (t ++ rest)
text_item e (Some len) t rest p (text_string l k) = record {
  bodies = rest ∷ [];
  is = definite (subst (λ (n : ℕ). IsTitle t (h.Text (Some n))) (sym l) p);
  written = (k, tt);
}
text_item e None t rest p (open_text {bodies = bodies} q f k) = record {
  bodies = bodies;
  is = indefinite p q;
  written = k;
}

pub bytes_string : (e : ℕ) (len : Option ℕ) (w rest : List ℕ) → Opens e w (h.Bytes len) rest
    → ∥ IsStringItem Bytes w ∥₁
bytes_string e len w rest o = ∥∥₁_map o.completes (λ c.
    subst (λ (v : List ℕ). IsStringItem Bytes v) (sym o.whole) (bytes_item e len o.title rest o.is_title c))

pub text_string_item : (e : ℕ) (len : Option ℕ) (w rest : List ℕ) → Opens e w (h.Text len) rest
    → ∥ IsStringItem Text w ∥₁
text_string_item e len w rest o = ∥∥₁_map o.completes (λ c.
    subst (λ (v : List ℕ). IsStringItem Text v) (sym o.whole) (text_item e len o.title rest o.is_title c))

pub segmented : (k : Kind) (w : List ℕ) → ∥ IsStringItem k w ∥₁ → IsSegmented k w w
segmented k w t = record { is_string = t; same = λ bodies s. whole_segments k w bodies s }

pub has_segments : (k : Kind) (w : List ℕ) → ∥ IsStringItem k w ∥₁ → ∥ HasSegments w ∥₁
has_segments k w t = ∥∥₁_map t (λ s.
    let has : HasSegments w = record { kind = k; bodies = s.bodies; are = whole_segments k w s.bodies s.is } in has)

pub has_texts : (w : List ℕ) → ∥ IsStringItem Text w ∥₁ → ∥ HasTexts w ∥₁
has_texts w t = ∥∥₁_map t (λ s.
    let has : HasTexts w =
    record { bodies = s.bodies; are = whole_segments Text w s.bodies s.is; texts = s.written } in has)

-- A string begins with a title of its kind.
pub string_header : (k : Kind) (w : List ℕ) (bodies : List (List ℕ)) → IsString k w bodies
    → ((len : Option ℕ) → IsOpenedBy w (kind_header k len) → ⊥) → ⊥
string_header k w bodies (definite {title = t} {body = b} p) f =
    f (Some (length b)) (record { title = t; contents = b; is_title = p; whole = refl })
string_header k w bodies (indefinite {title = t} {strings = x} p q) f =
    f None (record { title = t; contents = x ++ 0xff ∷ []; is_title = p; whole = refl })
