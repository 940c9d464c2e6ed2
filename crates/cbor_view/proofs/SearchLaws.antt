-- The first pair with a key, and the keys that are the same text.
use Rattle.std.proofs.Common.{◌≡◌, ℕ, zero, suc, ◌+◌, ◌-◌, Bool, true, false, List, [], ◌++◌, length}
use Rattle.std.proofs.Common.{Option, Some, None, MatchOption, IsTrue, refl, sym, ◌∙◌, ap, subst, arith, length-append}
use Rattle.std.specs.List.{concat, IsSplitAt}
use Rattle.std.proofs.lemmas.Grind.{not_there}
use Rattle.std.proofs.Math.Logic.{∥∥₁_map}
use Rattle.ciborium_ll_grammar.specs.declared.spelling.Spelling.TheVariants.{Any}
use Rattle.ciborium_ll_grammar.specs.declared.hdr.Header.TheVariants as h
use Rattle.ciborium_ll_grammar.specs.Title.{IsTitle}
use Rattle.ciborium_ll_grammar.specs.Items.{IsItem}
use Rattle.ciborium_ll_grammar.specs.Strings.{Kind, Text, IsString}
use Rattle.ciborium_ll_grammar.proofs.ItemLaws.{one_item}
use Rattle.ciborium_ll_grammar.proofs.FrontLaws.{split_whole}
use Rattle.ciborium_ll_grammar.proofs.TitleLaws.{one_title}
use Rattle.ciborium_ll_text.proofs.Lists.{same_front}
use Rattle.cbor_view.specs.declared.item.Item.{Item}
use Rattle.cbor_view.specs.Views.{IsTextOf, Opens, closed}
use Rattle.cbor_view.specs.Segments.{AreSegments, IsFirstSegment, IsSegmented, SpellsText}
use Rattle.cbor_view.specs.Pairs.{IsPairOf, first_pair, later_pair, IsFirstPair, here, later, HasFirst, HasNone}
use Rattle.cbor_view.proofs.NestLaws.{items_some, false_true, one_map}

-- ---- pairs one by one

module _ (Matches : List ℕ → Type 0) where
  pub first_here : (e : ℕ) (w key value last : List ℕ) → IsItem Any e key → IsItem Any e value
      → w ≡ key ++ (value ++ last) → Matches key → IsFirstPair Matches e w value
  first_here e w key value last i v z m =
      subst (λ (u : List ℕ). IsFirstPair Matches e u value) (sym z) (here last i v m)

  pub first_later : (e : ℕ) (w key value last found : List ℕ) → IsItem Any e key → IsItem Any e value
      → w ≡ key ++ (value ++ last) → (Matches key → ⊥) → IsFirstPair Matches e last found
      → IsFirstPair Matches e w found
  first_later e w key value last found i v z n f =
      subst (λ (u : List ℕ). IsFirstPair Matches e u found) (sym z) (later i v n f)

  -- A pair whose key matches is a later one, if the first key does not match.
  pub later_back : (e : ℕ) (w key value last k v : List ℕ) → IsItem Any e key → IsItem Any e value
      → w ≡ key ++ (value ++ last) → (Matches key → ⊥) → IsPairOf e w k v → Matches k → IsPairOf e last k v
  later_back e w key value last k v i j z n (first_pair others p q) m =
      let one = one_item Any Any e e k key (v ++ others) (value ++ last) p i z in
      absurd (n (subst Matches one.0 m))
  later_back e w key value last k v i j z n (later_pair {other = a} {another = b} {others = o} p q r) m =
      let one = one_item Any Any e e a key (b ++ o) (value ++ last) p i z in
      let two = one_item Any Any e e b value o last q j one.1 in
      subst (λ (u : List ℕ). IsPairOf e u k v) two.1 r

pub no_pair : (e : ℕ) (w k v : List ℕ) → IsPairOf e w k v → w ≡ [] → ⊥
no_pair e w k v (first_pair others p q) z =
    omega (arith, items_some e (suc zero) k p (omega arith), ap length z, length-append k (v ++ others))
no_pair e w k v (later_pair {other = a} {another = b} {others = o} p q r) z =
    omega (arith, items_some e (suc zero) a p (omega arith), ap length z, length-append a (b ++ o))

-- ---- a map

module _ (Matches : List ℕ → Type 0) where
  pub map_first : (e d : ℕ) (w rest value : List ℕ) (due : Option ℕ) → Opens e w (h.Map due) (closed due rest)
      → e ≡ d + 1 → IsFirstPair Matches d rest value → HasFirst Matches e w value
  map_first e d w rest value due o s f =
      let less : d ≡ e - 1 = omega arith in
      record {
        count = due;
        pairs = rest;
        opens = o;
        first = subst (λ (n : ℕ). IsFirstPair Matches n rest value) less f;
      }

  pub map_none : (e d : ℕ) (w rest : List ℕ) (due : Option ℕ) → Opens e w (h.Map due) (closed due rest) → e ≡ d + 1
      → ((k v : List ℕ) → IsPairOf d rest k v → Matches k → ⊥) → HasNone Matches e w
  map_none e d w rest due o s none = λ count pairs k v p q m.
      let one = one_map p.title o.title pairs rest count due p.is_title o.is_title (sym p.whole ∙ o.whole) in
      let less : e - 1 ≡ d = omega arith in
      none k v (subst (λ (n : ℕ). IsPairOf n rest k v) less
      (subst (λ (u : List ℕ). IsPairOf (e - 1) u k v) one.2 q)) m

  pub map_found : (e d : ℕ) (w rest : List ℕ) (due : Option ℕ) (r : Option Item)
      → Opens e w (h.Map due) (closed due rest) → e ≡ d + 1
      → MatchOption r ((k v : List ℕ) → IsPairOf d rest k v → Matches k → ⊥)
      (λ item. IsFirstPair Matches d rest item.bytes.now)
      → MatchOption r (HasNone Matches e w) (λ item. HasFirst Matches e w item.bytes.now)
  map_found e d w rest due None o s f = map_none e d w rest due o s f
  map_found e d w rest due (Some item) o s f = map_first e d w rest item.bytes.now due o s f

-- ---- integers

-- A test of two numbers tells whether an item is the integer that is sought.
pub same_positive : (w : List ℕ) (n m : ℕ) (r : Bool) → IsTitle w (h.Positive n)
    → (IsTrue r → n ≡ m) × (n ≡ m → IsTrue r)
    → (IsTrue r → IsTitle w (h.Positive m)) × (IsTitle w (h.Positive m) → IsTrue r)
same_positive w n m r p i = (
  λ t. subst (λ (k : ℕ). IsTitle w (h.Positive k)) (i.0 t) p,
  λ q. i.1 (same (one_title w w [] [] (h.Positive n) (h.Positive m) p q refl).1),
)
  where
    same : h.Positive n ≡ h.Positive m → n ≡ m
    same z = cc

pub same_negative : (w : List ℕ) (n m : ℕ) (r : Bool) → IsTitle w (h.Negative n)
    → (IsTrue r → n ≡ m) × (n ≡ m → IsTrue r)
    → (IsTrue r → IsTitle w (h.Negative m)) × (IsTitle w (h.Negative m) → IsTrue r)
same_negative w n m r p i = (
  λ t. subst (λ (k : ℕ). IsTitle w (h.Negative k)) (i.0 t) p,
  λ q. i.1 (same (one_title w w [] [] (h.Negative n) (h.Negative m) p q refl).1),
)
  where
    same : h.Negative n ≡ h.Negative m → n ≡ m
    same z = cc

-- ---- texts

-- An item is at most one text.
pub one_text : (w text body : List ℕ) → IsTextOf w text → IsTextOf w body → text ≡ body
one_text w text body a b =
    (one_title a.title b.title text body (h.Text (Some (length text))) (h.Text (Some (length body))) a.is_title
    b.is_title (sym a.whole ∙ b.whole)).2

-- A test of two texts tells whether an item is the text that is sought.
pub same_text : (w text body : List ℕ) (r : Bool) → IsTextOf w text
    → (IsTrue r → text ≡ body) × (text ≡ body → IsTrue r)
    → (IsTrue r → IsTextOf w body) × (IsTextOf w body → IsTrue r)
same_text w text body r p i =
    (λ t. subst (λ (u : List ℕ). IsTextOf w u) (i.0 t) p, λ q. i.1 (one_text w text body p q))

pub truth : (r : Bool) → ¬ (¬ (r ≡ true)) → r ≡ true
truth true f = refl
truth false f = absurd (f (λ z. false_true z))

-- The bodies that are left equal the bytes that are left exactly if all bodies equal all bytes.
pub record LeftOf (kind : Kind) (bodies : List (List ℕ)) (bytes rest left : List ℕ) : Type 0 where
  pub more : List (List ℕ)
  pub are : AreSegments kind rest more
  pub to : concat bodies ≡ bytes → concat more ≡ left
  pub back : concat more ≡ left → concat bodies ≡ bytes

pub all_left : (kind : Kind) (bodies : List (List ℕ)) (bytes rest : List ℕ) → AreSegments kind rest bodies
    → LeftOf kind bodies bytes rest bytes
all_left kind bodies bytes rest s = record { more = bodies; are = s; to = λ z. z; back = λ z. z }

abbrev pub GivesFirst : List ℕ → List ℕ → List ℕ → Type 0
GivesFirst rest body after = (k : Kind) (bs : List (List ℕ)) → AreSegments k rest bs → IsFirstSegment k bs body after

pub less_left : (kind : Kind) (bodies : List (List ℕ)) (bytes rest left body after more : List ℕ)
    → LeftOf kind bodies bytes rest left → GivesFirst rest body after → left ≡ body ++ more
    → LeftOf kind bodies bytes after more
less_left kind bodies bytes rest left body after more l g z =
    let f = g kind l.more l.are in
    record {
      more = f.others;
      are = f.are;
      to = λ y.
          (same_front body body (concat f.others) more refl (sym (ap concat f.is) ∙ l.to y ∙ z)).1;
      back = λ y. l.back (ap concat f.is ∙ ap (λ (v : List ℕ). body ++ v) y ∙ sym z);
    }

-- If the bytes do not begin with the next body, they are not the joined bodies.
pub other_front : (kind : Kind) (bodies : List (List ℕ)) (bytes rest left body after : List ℕ)
    → LeftOf kind bodies bytes rest left → GivesFirst rest body after → ((more : List ℕ) → left ≡ body ++ more → ⊥)
    → (false ≡ true → concat bodies ≡ bytes) × (concat bodies ≡ bytes → false ≡ true)
other_front kind bodies bytes rest left body after l g n =
    let f = g kind l.more l.are in (
      λ z. absurd (false_true z),
      λ y. absurd (n (concat f.others) (sym (l.to y) ∙ ap concat f.is)),
    )

-- After the last body, the bytes are the joined bodies exactly if none is left.
pub at_end : (kind : Kind) (bodies : List (List ℕ)) (bytes rest left : List ℕ) (r : Bool)
    → LeftOf kind bodies bytes rest left → ((k : Kind) (bs : List (List ℕ)) → AreSegments k rest bs → bs ≡ [])
    → (IsTrue r → left ≡ []) × (left ≡ [] → IsTrue r)
    → (IsTrue r → concat bodies ≡ bytes) × (concat bodies ≡ bytes → IsTrue r)
at_end kind bodies bytes rest left r l none i =
    let done = ap concat (none kind l.more l.are) in (
      λ t. l.back (done ∙ sym (i.0 t)),
      λ y. i.1 (sym (l.to y) ∙ done),
    )

-- The bodies of a text tell which text it is.
pub text_told : (w rest text : List ℕ) (r : Bool) → IsSegmented Text w rest
    → ((k : Kind) (bs : List (List ℕ)) → AreSegments k rest bs
    → (IsTrue r → concat bs ≡ text) × (concat bs ≡ text → IsTrue r))
    → (IsTrue r → ∥ SpellsText w text ∥₁) × (∥ SpellsText w text ∥₁ → IsTrue r)
text_told w rest text r s i = (
  λ t. ∥∥₁_map s.is_string (λ item.
      let spells : SpellsText w text = record {
        bodies = item.bodies;
        is = item.is;
        joined = (i Text item.bodies (s.same item.bodies item.is)).0 t;
      } in spells),
  λ y. truth r (λ n. not_there y (λ spells.
      n ((i Text spells.bodies (s.same spells.bodies spells.is)).1 spells.joined))),
)

pub no_text : (w text : List ℕ) → ((bodies : List (List ℕ)) → IsString Text w bodies → ⊥)
    → (false ≡ true → ∥ SpellsText w text ∥₁) × (∥ SpellsText w text ∥₁ → false ≡ true)
no_text w text n = (
  λ z. absurd (false_true z),
  λ y. absurd (not_there y (λ spells. n spells.bodies spells.is)),
)

-- ---- a front of bytes

pub differs : (xs front begun back : List ℕ) → IsSplitAt xs (length front) begun back → (begun ≡ front → ⊥)
    → (rest : List ℕ) → xs ≡ front ++ rest → ⊥
differs xs front begun back s n rest z =
    n (same_front begun front back rest s.3 (sym (split_whole xs begun back (length front) s) ∙ z)).0
