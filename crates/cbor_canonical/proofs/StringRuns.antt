-- Strings of any form, read step by step.
use Rattle.std.proofs.Common.{◌≡◌, ℕ, zero, suc, ◌+◌, ◌≤◌, ◌<◌, ◌^◌, List, [], ◌∷◌, ◌++◌, length, Option, Some, None}
use Rattle.std.proofs.Common.{refl, sym, ◌∙◌, ap, subst, append_assoc, append-nil, arith, length-append, take, ◌-◌}
use Rattle.std.specs.List.{AllByRecursion}
use Rattle.ciborium_ll_text.specs.Text.{IsCharacters, joined}
use Rattle.ciborium_ll_text.proofs.Lists.{same_front}
use Rattle.ciborium_ll_text.proofs.TextLaws.{IsCharacters-append, IsCharacters-nil}
use Rattle.ciborium_ll_grammar.specs.declared.hdr.Header.{Header}
use Rattle.ciborium_ll_grammar.specs.declared.hdr.Header.TheVariants as h
use Rattle.ciborium_ll_grammar.specs.Title.{HasFirstTitle, HasNoTitle, IsTitle, IsInRange, shortest_title}
use Rattle.ciborium_ll_grammar.specs.Strings.{Kind, Bytes, Text, kind_header, IsString, definite, indefinite}
use Rattle.ciborium_ll_grammar.specs.Strings.{AreStrings}
use Rattle.ciborium_ll_grammar.specs.Strings.{none, more, IsWritable}
use Rattle.ciborium_ll_grammar.specs.Elements.{AreWritable, body_spelling}
use Rattle.ciborium_ll_grammar.proofs.TitleLaws.{one_title}
use Rattle.ciborium_ll_grammar.proofs.AloneLaws.{title_some}
use Rattle.ciborium_ll_grammar.proofs.StringLaws.{break_title, not_break, same_string, some_is, mixed}
use Rattle.cbor_deterministic.specs.Fronts.{InFront}
use Rattle.cbor_canonical.specs.Runs.{Turns}
use Rattle.cbor_canonical.specs.Strings.{IsBody, HasNoBody, IsChunk, Closes, all_closed, by_break, by_chunk, by_open}
use Rattle.cbor_canonical.specs.Strings.{HasNoStep, Gathers, IsContent, told, until_break, IsStringTurned}
use Rattle.cbor_canonical.specs.Writing.{Adds, Extends, Inserts}
use Rattle.ciborium_ll_grammar.proofs.FrontLaws.{no_title_there}
use Rattle.cbor_canonical.proofs.WriteRuns.{adds_reach}
use Rattle.std.proofs.lemmas.List.{length-take-le}

-- ---- bodies

-- Bytes have no body of this length if their first bytes may not be a body.
pub no_body : (k : Kind) (len : ℕ) (bytes body rest : List ℕ) → bytes ≡ body ++ rest → length body ≡ len
    → (IsWritable k body → ⊥) → HasNoBody k len bytes
no_body k len bytes body rest w l n other others b =
    let s = same_front other body others rest (b.is ∙ sym l) (sym b.whole ∙ w) in
    n (subst (λ (z : List ℕ). IsWritable k z) s.0 b.writable)

-- Bytes that are fewer than the length have no body of this length.
pub few_bytes : (k : Kind) (len : ℕ) (bytes : List ℕ) → length bytes < len → HasNoBody k len bytes
few_bytes k len bytes l other others b = omega (arith, b.is, ap (length {A = ℕ}) b.whole, length-append other others)

-- ---- one step

pub chunk_there : (k : Kind) (len : ℕ) (o : Option ℕ) (x : Header) (bytes rest body after : List ℕ)
    → HasFirstTitle bytes x rest → x ≡ kind_header k o → o ≡ Some len → IsBody k len rest body after
    → InFront (IsChunk k body) bytes after
chunk_there k len o x bytes rest body after f e l b = record {
  front = f.title ++ body;
  is = record {
    title = f.title;
    is_title = subst (λ (y : Header). IsTitle f.title y)
        (e ∙ ap (kind_header k) (l ∙ ap Some (sym b.is))) f.is_title;
    writable = b.writable;
    whole = refl;
  };
  whole = f.whole ∙ ap (λ (z : List ℕ). f.title ++ z) b.whole ∙ sym (append_assoc f.title body after);
}

-- The title at the beginning of bytes that close their opens is a break, a string or a further open.
data Stepped (k : Kind) (n : ℕ) (x : Header) (rest : List ℕ) : Type 0 where
  at_break : x ≡ h.Break → Closes k n rest → Stepped k n x rest
  at_chunk : (body more : List ℕ) → x ≡ kind_header k (Some (length body)) → IsWritable k body → rest ≡ body ++ more
      → Closes k (suc n) more → Stepped k n x rest
  at_open : x ≡ kind_header k None → Closes k (suc (suc n)) rest → Stepped k n x rest

stepped : (k : Kind) (n : ℕ) (x : Header) (t b rest : List ℕ) → Closes k (suc n) b → IsTitle t x → b ≡ t ++ rest
    → Stepped k n x rest
stepped k n x t b rest (by_break {rest = r} c) p z =
    let o = one_title (0xff ∷ []) t r rest h.Break x break_title p z in
    at_break (sym o.1) (subst (λ (w : List ℕ). Closes k n w) o.2 c)
stepped k n x t b rest (by_chunk {title = t'} {rest = r} y p' w c) p z =
    let o = one_title t' t (y ++ r) rest _ x p' p z in
    at_chunk y r (sym o.1) w (sym o.2) c
stepped k n x t b rest (by_open {title = t'} {rest = r} p' c) p z =
    let o = one_title t' t r rest _ x p' p z in
    at_open (sym o.1) (subst (λ (w : List ℕ). Closes k (suc (suc n)) w) o.2 c)

-- Bytes that begin with no title have no step of an open string.
pub no_title_step : (k : Kind) (b : List ℕ) → HasNoTitle b → HasNoStep k b
no_title_step k b q n (by_break {rest = r} c) = no_title_there b (0xff ∷ []) r h.Break q break_title refl
no_title_step k b q n (by_chunk {title = t} {rest = r} y p w c) = no_title_there b t (y ++ r) _ q p refl
no_title_step k b q n (by_open {title = t} {rest = r} p c) = no_title_there b t r _ q p refl

-- Bytes have no step if their title is no break and no string of the kind.
pub other_step : (k : Kind) (x : Header) (b rest : List ℕ) → HasFirstTitle b x rest
    → ((o : Option ℕ) → x ≡ kind_header k o → ⊥) → (x ≡ h.Break → ⊥) → HasNoStep k b
other_step k x b rest f other not n c = go (stepped k n x f.title b rest c f.is_title f.whole)
  where
    go : Stepped k n x rest → ⊥
    go (at_break e d) = not e
    go (at_chunk y r e w z d) = other _ e
    go (at_open e d) = other None e

-- Bytes have no step if they have no body of the length in their title.
pub body_step : (k : Kind) (len : ℕ) (x : Header) (b rest : List ℕ) → HasFirstTitle b x rest
    → x ≡ kind_header k (Some len) → HasNoBody k len rest → HasNoStep k b
body_step k len x b rest f e empty n c = go (stepped k n x f.title b rest c f.is_title f.whole)
  where
    go : Stepped k n x rest → ⊥
    go (at_break g d) = not_break k (Some len) (sym e ∙ g)
    go (at_chunk y r g w z d) =
        empty y r (record {
          whole = z;
          is = some_is (length y) len (same_string k k (Some (length y)) (Some len) (sym g ∙ e)).1;
          writable = w;
        })
    go (at_open g d) = mixed len (same_string k k (Some len) None (sym e ∙ g)).1

close_goes_on : (k : Kind) (n : ℕ) (b rest : List ℕ) → Closes k (suc n) b → b ≡ 0xff ∷ rest → Closes k n rest
close_goes_on k n b rest c z = go (stepped k n h.Break (0xff ∷ []) b rest c break_title z)
  where
    go : Stepped k n h.Break rest → Closes k n rest
    go (at_break g d) = d
    go (at_chunk y r g w z d) = absurd (not_break k _ (sym g))
    go (at_open g d) = absurd (not_break k _ (sym g))

open_goes_on : (k : Kind) (n : ℕ) (b rest : List ℕ) → Closes k (suc n) b
    → InFront (λ t. IsTitle t (kind_header k None)) b rest → Closes k (suc (suc n)) rest
open_goes_on k n b rest c f = go (stepped k n (kind_header k None) f.front b rest c f.is f.whole)
  where
    go : Stepped k n (kind_header k None) rest → Closes k (suc (suc n)) rest
    go (at_break g d) = absurd (not_break k _ g)
    go (at_chunk y r g w z d) = absurd (mixed (length y) (sym (same_string k k None (Some (length y)) g).1))
    go (at_open g d) = d

chunk_goes_on : (k : Kind) (n : ℕ) (b body rest : List ℕ) → Closes k (suc n) b → InFront (IsChunk k body) b rest
    → Closes k (suc n) rest
chunk_goes_on k n b body rest c f =
    go (stepped k n (kind_header k (Some (length body))) f.is.title b (body ++ rest) c f.is.is_title
    (f.whole ∙ ap (λ (z : List ℕ). z ++ rest) f.is.whole ∙ append_assoc f.is.title body rest))
  where
    go : Stepped k n (kind_header k (Some (length body))) (body ++ rest) → Closes k (suc n) rest
    go (at_break g d) = absurd (not_break k _ g)
    go (at_chunk y r g w z d) =
        let e = some_is (length body) (length y) (same_string k k (Some (length body)) (Some (length y)) g).1 in
        subst (λ (v : List ℕ). Closes k (suc n) v) (sym (same_front body y rest r e z).1) d
    go (at_open g d) = absurd (mixed (length body) (same_string k k (Some (length body)) None g).1)

-- ---- all of them

all_front : {X : Type 0} (P : X → Type 0) (xs ys : List X) → AllByRecursion P (xs ++ ys) → AllByRecursion P xs
all_front P [] ys a = tt
all_front P (x ∷ xs) ys a = (a.0, all_front P xs ys a.1)

all_back : {X : Type 0} (P : X → Type 0) (xs ys : List X) → AllByRecursion P (xs ++ ys) → AllByRecursion P ys
all_back P [] ys a = a
all_back P (x ∷ xs) ys a = all_back P xs ys a.1

all_both : {X : Type 0} (P : X → Type 0) (xs ys : List X) → AllByRecursion P xs → AllByRecursion P ys
    → AllByRecursion P (xs ++ ys)
all_both P [] ys a b = b
all_both P (x ∷ xs) ys a b = (a.0, all_both P xs ys a.1 b)

mutual
  string_closes : (k : Kind) (n : ℕ) (w rest : List ℕ) (bs : List (List ℕ)) → IsString k w bs → AreWritable k bs
      → Closes k (suc n) rest → Closes k (suc n) (w ++ rest)
  string_closes k n w rest bs (definite {title = t} {body = b} p) a c =
      subst (λ (z : List ℕ). Closes k (suc n) z) (sym (append_assoc t b rest)) (by_chunk b p a.0 c)
  string_closes k n w rest bs (indefinite {title = t} {strings = s} p q) a c =
      subst (λ (z : List ℕ). Closes k (suc n) z)
      (ap (λ (z : List ℕ). t ++ z) (sym (append_assoc s (0xff ∷ []) rest)) ∙ sym (append_assoc t (s ++ 0xff ∷ []) rest))
      (by_open p (strings_close k (suc n) s (0xff ∷ rest) bs q a (by_break c)))

  strings_close : (k : Kind) (n : ℕ) (w rest : List ℕ) (bs : List (List ℕ)) → AreStrings k w bs → AreWritable k bs
      → Closes k (suc n) rest → Closes k (suc n) (w ++ rest)
  strings_close k n w rest bs none a c = c
  strings_close k n w rest bs (more {first = f} {rest = r} {bodies = b} {others = o} i is) a c =
      subst (λ (z : List ℕ). Closes k (suc n) z) (sym (append_assoc f r rest))
      (string_closes k n f (r ++ rest) b i (all_front (IsWritable k) b o a)
      (strings_close k n r rest o is (all_back (IsWritable k) b o a) c))

-- Bytes within an open string, after a number of further opens that are not closed.
pub data Inside (k : Kind) : ℕ → List ℕ → List (List ℕ) → Type 0 where
  outermost : {strings : List ℕ} {bodies : List (List ℕ)} → AreStrings k strings bodies → Inside k zero strings bodies
  deeper : {opens : ℕ} {outer title strings : List ℕ} {bodies others : List (List ℕ)} → Inside k opens outer bodies
      → IsTitle title (kind_header k None) → AreStrings k strings others
      → Inside k (suc opens) (outer ++ (title ++ strings)) (bodies ++ others)

strings_more : (k : Kind) (s w : List ℕ) (bs cs : List (List ℕ)) → AreStrings k s bs → IsString k w cs
    → AreStrings k (s ++ w) (bs ++ cs)
strings_more k s w bs cs none i = simp append-nil at (more i none)
strings_more k s w bs cs (more {first = f} {rest = r} {bodies = b} {others = o} j js) i =
    simp append_assoc (more j (strings_more k r w o cs js i))

inside_more : (k : Kind) (n : ℕ) (s w : List ℕ) (bs cs : List (List ℕ)) → Inside k n s bs → IsString k w cs
    → Inside k n (s ++ w) (bs ++ cs)
inside_more k n s w bs cs (outermost q) i = outermost (strings_more k s w bs cs q i)
inside_more k n s w bs cs (deeper {outer = u} {title = t} {strings = v} {bodies = b} {others = o} j p q) i =
    simp append_assoc (deeper j p (strings_more k v w o cs q i))

inside_opened : (k : Kind) (n : ℕ) (s t : List ℕ) (bs : List (List ℕ)) → Inside k n s bs
    → IsTitle t (kind_header k None) → Inside k (suc n) (s ++ t) bs
inside_opened k n s t bs j p = simp append-nil at (deeper j p none)

inside_closed : (k : Kind) (n m : ℕ) (s : List ℕ) (bs : List (List ℕ)) → Inside k m s bs → m ≡ suc n
    → Inside k n (s ++ 0xff ∷ []) bs
inside_closed k n m s bs (outermost q) e = absurd (omega arith)
inside_closed k n m s bs (deeper {opens = l} {outer = u} {title = t} {strings = v} {bodies = b} {others = o} j p q) e =
    let f : l ≡ n = omega arith in
    subst (λ (i : ℕ). Inside k i ((u ++ (t ++ v)) ++ 0xff ∷ []) (b ++ o)) f
    (simp append_assoc (inside_more k l u (t ++ (v ++ 0xff ∷ [])) b o j (indefinite p q)))

pub joined_both : (bs cs : List (List ℕ)) → joined (bs ++ cs) ≡ joined bs ++ joined cs
joined_both [] cs = refl
joined_both (b ∷ bs) cs = ap (λ (z : List ℕ). b ++ z) (joined_both bs cs) ∙ sym (append_assoc b (joined bs) (joined cs))

-- ---- the loop

pub record Gathering (k : Kind) (bytes rest old now : List ℕ) (opens due : ℕ) : Type 0 where
  pub read : List ℕ
  pub bodies : List (List ℕ)
  pub inside : Inside k opens read bodies
  pub writable : AreWritable k bodies
  pub whole : bytes ≡ read ++ rest
  pub wrote : now ≡ old ++ joined bodies
  pub closes : Closes k 1 bytes → Closes k (suc opens) rest
  pub few : length rest ≤ due
  pub within : opens + due ≤ length bytes

pub gathering_start : (k : Kind) (bytes old : List ℕ) → Gathering k bytes bytes old old 0 (length bytes)
gathering_start k bytes old = record {
  read = [];
  bodies = [];
  inside = outermost none;
  writable = tt;
  whole = refl;
  wrote = sym (append-nil old);
  closes = λ c. c;
  few = omega arith;
  within = omega arith;
}

module _ (k : Kind) (bytes rest after old now : List ℕ) (opens due left : ℕ)
    (g : Gathering k bytes rest old now opens due) where
  pub gathering_closed : (n : ℕ) → opens ≡ suc n → left + 1 ≡ due → rest ≡ 0xff ∷ after
      → Gathering k bytes after old now n left
  gathering_closed n e l z = record {
    read = g.read ++ 0xff ∷ [];
    bodies = g.bodies;
    inside = inside_closed k n opens g.read g.bodies g.inside e;
    writable = g.writable;
    whole = g.whole ∙ ap (λ (v : List ℕ). g.read ++ v) z ∙ sym (append_assoc g.read (0xff ∷ []) after);
    wrote = g.wrote;
    closes = λ c. subst (λ (m : ℕ). Closes k m after) e (close_goes_on k opens rest after (g.closes c) z);
    few = omega (arith, g.few, ap (length {A = ℕ}) z);
    within = omega (arith, g.within);
  }

  pub gathering_opened : (n : ℕ) → n ≡ opens + 1 → left + 1 ≡ due
      → InFront (λ t. IsTitle t (kind_header k None)) rest after → Gathering k bytes after old now n left
  gathering_opened n e l f = record {
    read = g.read ++ f.front;
    bodies = g.bodies;
    inside = subst (λ (m : ℕ). Inside k m (g.read ++ f.front) g.bodies) (omega arith)
        (inside_opened k opens g.read f.front g.bodies g.inside f.is);
    writable = g.writable;
    whole = g.whole ∙ ap (λ (v : List ℕ). g.read ++ v) f.whole ∙ sym (append_assoc g.read f.front after);
    wrote = g.wrote;
    closes = λ c. subst (λ (m : ℕ). Closes k (suc m) after) (omega arith)
        (open_goes_on k opens rest after (g.closes c) f);
    few = omega (arith, g.few, ap (length {A = ℕ}) f.whole, length-append f.front after, title_some f.front _ f.is);
    within = omega (arith, g.within);
  }

  pub gathering_more : (body next : List ℕ) → left + 1 ≡ due → InFront (IsChunk k body) rest after → next ≡ now ++ body
      → Gathering k bytes after old next opens left
  gathering_more body next l f e = record {
    read = g.read ++ f.front;
    bodies = g.bodies ++ body ∷ [];
    inside = inside_more k opens g.read f.front g.bodies (body ∷ []) g.inside
        (subst (λ (z : List ℕ). IsString k z (body ∷ [])) (sym f.is.whole) (definite f.is.is_title));
    writable = all_both (IsWritable k) g.bodies (body ∷ []) g.writable (f.is.writable, tt);
    whole = g.whole ∙ ap (λ (v : List ℕ). g.read ++ v) f.whole ∙ sym (append_assoc g.read f.front after);
    wrote = e ∙ ap (λ (z : List ℕ). z ++ body) g.wrote ∙ append_assoc old (joined g.bodies) body
        ∙ ap (λ (z : List ℕ). old ++ z) (ap (λ (z : List ℕ). joined g.bodies ++ z) (sym (append-nil body))
        ∙ sym (joined_both g.bodies (body ∷ [])));
    closes = λ c. chunk_goes_on k opens rest body after (g.closes c) f;
    few = omega (
      arith,
      g.few,
      ap (length {A = ℕ}) f.whole,
      length-append f.front after,
      ap (length {A = ℕ}) f.is.whole,
      length-append f.is.title body,
      title_some f.is.title _ f.is.is_title,
    );
    within = omega (arith, g.within);
  }

  pub gather_stuck : HasNoStep k rest → (strings r : List ℕ) (bodies : List (List ℕ)) → AreStrings k strings bodies
      → AreWritable k bodies → bytes ≡ strings ++ 0xff ∷ r → ⊥
  gather_stuck q strings r bodies s a z =
      q opens (g.closes (subst (λ (w : List ℕ). Closes k 1 w) (sym z)
      (strings_close k 0 strings (0xff ∷ r) bodies s a (by_break all_closed))))

  pub gather_over : due ≡ 0 → (strings r : List ℕ) (bodies : List (List ℕ)) → AreStrings k strings bodies
      → AreWritable k bodies → bytes ≡ strings ++ 0xff ∷ r → ⊥
  gather_over e = gather_stuck (λ n c. nothing n rest c (omega (arith, g.few)))
    where
      nothing : (n : ℕ) (b : List ℕ) → Closes k (suc n) b → length b ≡ 0 → ⊥
      nothing n b (by_break c) l = omega arith
      nothing n b (by_chunk {title = t} {rest = r} y p w c) l =
          omega (arith, length-append t (y ++ r), title_some t _ p)
      nothing n b (by_open {title = t} {rest = r} p c) l = omega (arith, length-append t r, title_some t _ p)

-- ---- the string that is written

pub joined_text : (bodies : List (List ℕ)) → AreWritable Text bodies → IsCharacters (joined bodies)
joined_text [] a = IsCharacters-nil
joined_text (b ∷ bs) a = IsCharacters-append b (joined bs) a.0 (joined_text bs a.1)

pub joined_writable : (k : Kind) (bodies : List (List ℕ)) → AreWritable k bodies → IsWritable k (joined bodies)
joined_writable Bytes bodies a = tt
joined_writable Text bodies a = joined_text bodies a

pub told_turned : (k : Kind) (len : ℕ) (bytes body rest : List ℕ) (at end : ℕ) (old new : List ℕ)
    → IsBody k len bytes body rest → length body < 2 ^ 64 → Adds (body_spelling k body) at end old new
    → Extends (Turns (IsStringTurned k (Some len)) bytes rest) at end old new
told_turned k len bytes body rest at end old new b l w = record {
  is = record {
    front = body;
    written = body_spelling k body;
    is = record {
      body = body;
      content = subst (λ (n : ℕ). IsContent k (Some n) body body) b.is (told b.writable);
      range = l;
      spelled = refl;
    };
    whole = b.whole;
    wrote = w.is;
  };
  from = w.from;
  within = w.within;
}

kind_range : (k : Kind) (n : ℕ) → IsInRange (kind_header k (Some n)) → n < 2 ^ 64
kind_range Bytes n r = r
kind_range Text n r = r

pub open_turned : (k : Kind) (bytes rest : List ℕ) (at end after : ℕ) (old now new : List ℕ) → at ≤ length old
    → Extends (Gathers k bytes rest) at end old now → IsInRange (kind_header k (Some (end - at)))
    → Inserts (shortest_title (kind_header k (Some (end - at)))) at end after now new
    → Extends (Turns (IsStringTurned k None) bytes rest) at after old new
open_turned k bytes rest at end after old now new l g r w =
    let body : List ℕ = joined g.is.bodies in
    let n : end - at ≡ length body =
    omega (arith, adds_reach body at end old now l (record { is = g.is.wrote; from = g.from; within = g.within })) in
    record {
      is = record {
        front = g.is.strings ++ 0xff ∷ [];
        written = body_spelling k body;
        is = record {
          body = body;
          content = until_break g.is.are g.is.writable;
          range = subst (λ (m : ℕ). m < 2 ^ 64) n (kind_range k (end - at) r);
          spelled = refl;
        };
        whole = g.is.whole ∙ sym (append_assoc g.is.strings (0xff ∷ []) rest);
        wrote = w.moved (take at old) body g.is.wrote (length-take-le at old l)
            ∙ ap (λ (m : ℕ). take at old ++ (shortest_title (kind_header k (Some m)) ++ body)) n;
      };
      from = omega (arith, g.from, w.from);
      within = w.within;
    }
