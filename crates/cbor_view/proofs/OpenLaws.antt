-- The title and the contents of a checked item.
use Rattle.std.proofs.Common.{◌≡◌, ℕ, zero, suc, ◌-◌, ◌<◌, false, List, [], ◌++◌, length, Some, refl}
use Rattle.std.proofs.Common.{sym, ◌∙◌, ap, subst, append-nil, arith, Bool, true, nat_eq}
use Rattle.std.proofs.Common.{◌⊎◌, inl, inr}
use Rattle.std.proofs.lemmas.Grind.{not_there}
use Rattle.std.proofs.lemmas.Bool.Decides.{nat_tests}
use Rattle.std.proofs.Math.Logic.{∥∥₁_map}
use Rattle.ciborium_ll_grammar.specs.declared.spelling.Spelling.TheVariants.{Any}
use Rattle.ciborium_ll_grammar.specs.declared.hdr.Header.{Header}
use Rattle.ciborium_ll_grammar.specs.declared.hdr.Header.TheVariants as h
use Rattle.ciborium_ll_grammar.specs.declared.hdr.Float.{Float}
use Rattle.ciborium_ll_grammar.specs.Title.{HasFirstTitle, HasNoTitle, IsTitle}
use Rattle.ciborium_ll_grammar.specs.Items.{Completes, positive, negative, float, simple, text_string, tag}
use Rattle.ciborium_ll_grammar.specs.Items.{AreItems, no_items, more_items, IsItem}
use Rattle.ciborium_ll_grammar.specs.Strings.{Bytes, Text}
use Rattle.ciborium_ll_grammar.proofs.ItemJoins.{body_length, none_joined}
use Rattle.ciborium_ll_grammar.proofs.FrontLaws.{no_title_there}
use Rattle.ciborium_ll_grammar.proofs.TitleLaws.{one_title}
use Rattle.ciborium_ll_text.specs.Text.{IsCharacters}
use Rattle.ciborium_ll_text.proofs.Lists.{length_zero}
use Rattle.ciborium_ll_text.proofs.Utf8Laws.{text_or_none}
use Rattle.cbor_view.specs.Views.{Opens, IsOpenedBy, IsBytesOf, IsTextOf}

titled_go : (e n : ℕ) (w : List ℕ) → AreItems Any e n w → 0 < n → ((x : Header) → IsOpenedBy w x → ⊥) → ⊥
titled_go e n w no_items l f = absurd (omega arith)
titled_go e n w (more_items {title = t} {rest = r} {others = a} {header = x} p k c i) l f =
    f x (record { title = t; contents = r ++ a; is_title = p; whole = refl })

-- Bytes that begin with no title are opened by none.
pub none_opened : (w : List ℕ) → HasNoTitle w → (x : Header) → IsOpenedBy w x → ⊥
none_opened w none x o = no_title_there w o.title o.contents x none o.is_title o.whole

-- An item begins with a title.
pub checked_title : (e : ℕ) (w : List ℕ) → ∥ IsItem Any e w ∥₁ → HasNoTitle w → ⊥
checked_title e w t none = not_there t (λ i. titled_go e (suc zero) w i (omega arith) (none_opened w none))

completes_go : (e n : ℕ) (w t rest : List ℕ) (x : Header) → AreItems Any e n w → n ≡ 1 → IsTitle t x
    → w ≡ t ++ rest → Completes Any e x rest
completes_go e n w t rest x no_items one q z = absurd (omega arith)
completes_go e n w t rest x (more_items {count = m} {title = o} {rest = r} {others = a} {header = y} p k c i) one q z =
    let same = one_title o t (r ++ a) rest y x p q z in
    let none : a ≡ [] = none_joined Any e m a i (omega arith) in
    let is : r ≡ rest = sym (append-nil r) ∙ ap (λ (v : List ℕ). r ++ v) (sym none) ∙ same.2 in
    subst (λ (v : List ℕ). Completes Any e x v) is (subst (λ (k : Header). Completes Any e k r) same.1 c)

pub opened : (e : ℕ) (w rest : List ℕ) (x : Header) → ∥ IsItem Any e w ∥₁ → HasFirstTitle w x rest → Opens e w x rest
opened e w rest x t f = record {
  title = f.title;
  is_title = f.is_title;
  whole = f.whole;
  completes = ∥∥₁_map t (λ i. completes_go e (suc zero) w f.title rest x i refl f.is_title f.whole);
}

pub opened_by : (e : ℕ) (w rest : List ℕ) (x : Header) → Opens e w x rest → IsOpenedBy w x
opened_by e w rest x o = record { title = o.title; contents = rest; is_title = o.is_title; whole = o.whole }

pub same_header : (e : ℕ) (w rest : List ℕ) (x y : Header) → Opens e w x rest → IsOpenedBy w y → x ≡ y
same_header e w rest x y o b =
    (one_title o.title b.title rest b.contents x y o.is_title b.is_title (sym o.whole ∙ b.whole)).1

pub whole_header : (e : ℕ) (w rest : List ℕ) (x y : Header) → Opens e w x rest → IsTitle w y → x ≡ y
whole_header e w rest x y o p =
    (one_title o.title w rest [] x y o.is_title p (sym o.whole ∙ sym (append-nil w))).1

-- An item has one header and one sequence of contents.
pub one_opening : (e : ℕ) (w r r' : List ℕ) (x x' : Header) → Opens e w x r → Opens e w x' r' → (x ≡ x') × (r ≡ r')
one_opening e w r r' x x' o o' =
    let one = one_title o.title o'.title r r' x x' o.is_title o'.is_title (sym o.whole ∙ o'.whole) in (one.1, one.2)

pub as_header : (e : ℕ) (w : List ℕ) (x y : Header) (rest : List ℕ) → Opens e w x rest → x ≡ y → Opens e w y rest
as_header e w x y rest o s = subst (λ (z : Header). Opens e w z rest) s o

pub same_contents : (e : ℕ) (w : List ℕ) (x : Header) (r r' : List ℕ) → Opens e w x r → r ≡ r' → Opens e w x r'
same_contents e w x r r' o z = subst (λ (v : List ℕ). Opens e w x v) z o

-- ---- items with empty contents

pub len_is : (a b : ℕ) → ¬ (¬ (a ≡ b)) → a ≡ b
len_is a b f = absurd_or (nat_eq a b) refl
  where
    absurd_or : (t : Bool) → nat_eq a b ≡ t → a ≡ b
    absurd_or true e = grind (arith, nat_tests)
    absurd_or false e = absurd (f (λ s. grind (arith, nat_tests)))

value_item : (e : ℕ) (w rest : List ℕ) (x : Header) → Opens e w x rest
    → (Completes Any e x rest → length rest ≡ 0) → IsTitle w x
value_item e w rest x o f =
    let l : length rest ≡ 0 = len_is (length rest) 0 (λ n. not_there o.completes (λ c. n (f c))) in
    let n : rest ≡ [] = length_zero rest l in
    let whole : w ≡ o.title = o.whole ∙ ap (λ (v : List ℕ). o.title ++ v) n ∙ append-nil o.title in
    subst (λ (v : List ℕ). IsTitle v x) (sym whole) o.is_title

positive_go : (e n : ℕ) (rest : List ℕ) → Completes Any e (h.Positive n) rest → length rest ≡ 0
positive_go e n rest positive = refl

negative_go : (e n : ℕ) (rest : List ℕ) → Completes Any e (h.Negative n) rest → length rest ≡ 0
negative_go e n rest negative = refl

simple_go : (e n : ℕ) (rest : List ℕ) → Completes Any e (h.Simple n) rest → length rest ≡ 0
simple_go e n rest simple = refl

float_go : (e : ℕ) (n : Float) (rest : List ℕ) → Completes Any e (h.Float n) rest → length rest ≡ 0
float_go e n rest float = refl

pub positive_item : (e n : ℕ) (w rest : List ℕ) → Opens e w (h.Positive n) rest → IsTitle w (h.Positive n)
positive_item e n w rest o = value_item e w rest (h.Positive n) o (positive_go e n rest)

pub negative_item : (e n : ℕ) (w rest : List ℕ) → Opens e w (h.Negative n) rest → IsTitle w (h.Negative n)
negative_item e n w rest o = value_item e w rest (h.Negative n) o (negative_go e n rest)

pub simple_item : (e n : ℕ) (w rest : List ℕ) → Opens e w (h.Simple n) rest → IsTitle w (h.Simple n)
simple_item e n w rest o = value_item e w rest (h.Simple n) o (simple_go e n rest)

pub float_item : (e : ℕ) (n : Float) (w rest : List ℕ) → Opens e w (h.Float n) rest → IsTitle w (h.Float n)
float_item e n w rest o = value_item e w rest (h.Float n) o (float_go e n rest)

-- ---- strings of definite length

text_valid : (len e : ℕ) (w : List ℕ) → Completes Any e (h.Text (Some len)) w → IsCharacters w
text_valid len e w (text_string l k) = k

pub bytes_of : (e len : ℕ) (w rest : List ℕ) → Opens e w (h.Bytes (Some len)) rest → IsBytesOf w rest
bytes_of e len w rest o =
    let l : length rest ≡ len =
    len_is (length rest) len (λ n. not_there o.completes (λ c. n (body_length Any e Bytes len rest c))) in
    record {
      title = o.title;
      is_title = subst (λ (k : ℕ). IsTitle o.title (h.Bytes (Some k))) (sym l) o.is_title;
      whole = o.whole;
    }

pub text_is : (e len : ℕ) (w rest : List ℕ) → Opens e w (h.Text (Some len)) rest → IsTextOf w rest
text_is e len w rest o =
    let l : length rest ≡ len =
    len_is (length rest) len (λ n. not_there o.completes (λ c. n (body_length Any e Text len rest c))) in
    record {
      title = o.title;
      is_title = subst (λ (k : ℕ). IsTitle o.title (h.Text (Some k))) (sym l) o.is_title;
      whole = o.whole;
    }

-- The contents of a text are UTF-8.
pub text_told : (e len : ℕ) (w rest : List ℕ) → Opens e w (h.Text (Some len)) rest → IsCharacters rest
text_told e len w rest o = go (text_or_none rest)
  where
    go : IsCharacters rest ⊎ (IsCharacters rest → ⊥) → IsCharacters rest
    go (inl t) = t
    go (inr n) = absurd (not_there o.completes (λ c. n (text_valid len e rest c)))

pub bytes_header : (e : ℕ) (w rest body : List ℕ) (x : Header) → Opens e w x rest → IsBytesOf w body
    → x ≡ h.Bytes (Some (length body))
bytes_header e w rest body x o b =
    same_header e w rest x (h.Bytes (Some (length body))) o
    (record { title = b.title; contents = body; is_title = b.is_title; whole = b.whole })

pub text_header : (e : ℕ) (w rest body : List ℕ) (x : Header) → Opens e w x rest → IsTextOf w body
    → x ≡ h.Text (Some (length body))
text_header e w rest body x o b =
    same_header e w rest x (h.Text (Some (length body))) o
    (record { title = b.title; contents = body; is_title = b.is_title; whole = b.whole })

-- ---- a tag

tag_flat : (n : ℕ) (w : List ℕ) → Completes Any zero (h.Tag n) w → ⊥
tag_flat n w c = elim c [ ]

pub tag_level : (e n : ℕ) (w : List ℕ) → ∥ Completes Any e (h.Tag n) w ∥₁ → 0 < e
tag_level zero n w t = absurd (not_there t (tag_flat n w))
tag_level (suc e) n w t = omega arith

of_tag : (e n : ℕ) (w : List ℕ) → Completes Any (suc e) (h.Tag n) w → IsItem Any e w
of_tag e n w (tag i) = i

pub tag_checked : (e n : ℕ) (w : List ℕ) → ∥ Completes Any e (h.Tag n) w ∥₁ → ∥ IsItem Any (e - 1) w ∥₁
tag_checked e n w t =
    let l = tag_level e n w t in
    let s : e ≡ suc (e - 1) = omega arith in
    ∥∥₁_map (subst (λ (d : ℕ). ∥ Completes Any d (h.Tag n) w ∥₁) s t) (of_tag (e - 1) n w)
