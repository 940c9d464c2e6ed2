-- An item in the deterministic encoding is a run of elements that is its own shortest spelling.
use Rattle.std.proofs.Common.{◌≡◌, ℕ, suc, List, [], ◌∷◌, ◌++◌, length, Some, refl, sym, ◌∙◌, ap, subst, append_assoc}
use Rattle.std.proofs.Common.{append-nil}
use Rattle.ciborium_ll_grammar.specs.declared.hdr.Header.{Header}
use Rattle.ciborium_ll_grammar.specs.Strings.{Kind, Bytes, Text, kind_header, definite, IsWritable}
use Rattle.ciborium_ll_grammar.specs.Elements.{Mark, Plain, Whole, IsPlain, plain, string, IsRun, done, next}
use Rattle.ciborium_ll_grammar.specs.Elements.{spelling, body_spelling}
use Rattle.ciborium_ll_grammar.proofs.ElementLaws.{spelling-append}
use Rattle.ciborium_ll_grammar.proofs.SpelledLaws.{meant_append}
use Rattle.cbor_deterministic.specs.declared.Order.{Order}
use Rattle.cbor_deterministic.specs.Preferred.{IsPreferredTitle}
use Rattle.cbor_deterministic.specs.Deterministic.{Completes, positive, negative, float, simple, byte_string}
use Rattle.cbor_deterministic.specs.Deterministic.{text_string}
use Rattle.cbor_deterministic.specs.Deterministic.{tag, array, pairs, IsDeterministic, item, AreDeterministic, no_items}
use Rattle.cbor_deterministic.specs.Deterministic.{more_items, AreSortedPairs, no_pairs, more_pairs}
use Rattle.cbor_deterministic.specs.Laws.{HasStrictRun}

-- ---- runs, joined

record Longer (w : List ℕ) (ms : List Mark) : Type 0 where
  pub count : ℕ
  pub run : IsRun count w ms

joined_run : (n : ℕ) (u : List ℕ) (ms : List Mark) → IsRun n u ms → (m : ℕ) (w : List ℕ) (ns : List Mark) → IsRun m w ns
    → Longer (u ++ w) (ms ++ ns)
joined_run n u ms done m w ns q = record { count = m; run = q }
joined_run n u ms (next {rest = b} {others = os} e r) m w ns q =
    let s = joined_run _ b os r m w ns q in
    record { count = suc s.count; run = simp append_assoc (next e s.run) }

no_run : HasStrictRun []
no_run = record { count = 0; marks = []; strict = record { run = done; same = refl; meant = tt } }

join : (u w : List ℕ) → HasStrictRun u → HasStrictRun w → HasStrictRun (u ++ w)
join u w p q =
    let s = joined_run p.count u p.marks p.strict.run q.count w q.marks q.strict.run in
    record {
      count = s.count;
      marks = p.marks ++ q.marks;
      strict = record {
        run = s.run;
        same = ap (λ (z : List ℕ). z ++ w) p.strict.same ∙ ap (λ (z : List ℕ). spelling p.marks ++ z) q.strict.same
            ∙ sym (spelling-append p.marks q.marks);
        meant = meant_append p.marks q.marks p.strict.meant q.strict.meant;
      };
    }

-- ---- one element

title_run : (t : List ℕ) (x : Header) → IsPreferredTitle t x → IsPlain x → HasStrictRun t
title_run t x p k = record {
  count = 1;
  marks = Plain x ∷ [];
  strict = record {
    run = simp append-nil at (next (plain x p.is_title k) done);
    same = p.strict.shortest ∙ sym (append-nil _);
    meant = (p.strict.meant, tt);
  };
}

string_run : (k : Kind) (t body : List ℕ) → IsPreferredTitle t (kind_header k (Some (length body))) → IsWritable k body
    → HasStrictRun (t ++ body)
string_run k t body p w = record {
  count = 1;
  marks = Whole k body ∷ [];
  strict = record {
    run = simp append-nil at (next (string k (definite p.is_title) (w, tt)) done);
    same = ap (λ (z : List ℕ). z ++ body) p.strict.shortest ∙ sym (append-nil (body_spelling k body));
    meant = (tt, tt);
  };
}

body_run : (k : Kind) (t body : List ℕ) (len : ℕ) → IsPreferredTitle t (kind_header k (Some len)) → length body ≡ len
    → IsWritable k body → HasStrictRun (t ++ body)
body_run k t body len p e w =
    string_run k t body (subst (λ (n : ℕ). IsPreferredTitle t (kind_header k (Some n))) (sym e) p) w

-- ---- items

module _ {ord : Order} where
  mutual
    rest_run : (e : ℕ) (x : Header) (t r : List ℕ) → IsPreferredTitle t x → Completes ord e x r → HasStrictRun (t ++ r)
    rest_run e x t r p positive = join t [] (title_run t x p tt) no_run
    rest_run e x t r p negative = join t [] (title_run t x p tt) no_run
    rest_run e x t r p simple = join t [] (title_run t x p tt) no_run
    rest_run e x t r p float = join t [] (title_run t x p tt) no_run
    rest_run e x t r p (byte_string {len = n} l) = body_run Bytes t r n p l tt
    rest_run e x t r p (text_string {len = n} l k) = body_run Text t r n p l k
    rest_run e x t r p (tag i) = join t r (title_run t x p tt) (item_run _ r i)
    rest_run e x t r p (array i) = join t r (title_run t x p tt) (items_run _ _ r i)
    rest_run e x t r p (pairs i) = join t r (title_run t x p tt) (pairs_run _ _ _ r i)

    item_run : (e : ℕ) (w : List ℕ) → IsDeterministic ord e w → HasStrictRun w
    item_run e w (item {title = t} {rest = r} {header = x} p c) = rest_run e x t r p c

    items_run : (e n : ℕ) (w : List ℕ) → AreDeterministic ord e n w → HasStrictRun w
    items_run e n w no_items = no_run
    items_run e n w (more_items {count = m} {first = x} {others = y} i is) =
        join x y (item_run e x i) (items_run e m y is)

    pairs_run : (e n : ℕ) (a w : List ℕ) → AreSortedPairs ord e n a w → HasStrictRun w
    pairs_run e n a w no_pairs = no_run
    pairs_run e n a w (more_pairs {count = m} {key = x} {value = y} {others = z} i o u is) =
        join x (y ++ z) (item_run e x i) (join y z (item_run e y u) (pairs_run e m x z is))

-- An item in the deterministic encoding is such a run.
pub strict_run : (ord : Order) (e : ℕ) (w : List ℕ) → IsDeterministic ord e w → HasStrictRun w
strict_run ord e w i = item_run e w i
