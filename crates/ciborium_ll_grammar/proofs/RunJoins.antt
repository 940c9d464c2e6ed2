-- Elements that follow one another, and the first of them.
use Rattle.std.proofs.Common.{◌≡◌, ℕ, suc, ◌<◌, List, [], ◌∷◌, ◌++◌, length, refl, sym, ◌∙◌, ap, arith}
use Rattle.std.proofs.Common.{append_assoc, append-nil, length-append}
use Rattle.std.specs.List.{AllByRecursion}
use Rattle.ciborium_ll_grammar.specs.declared.spelling.Spelling.TheVariants.{Shortest}
use Rattle.ciborium_ll_grammar.specs.Elements.{Mark, IsElement, IsRun, done, next, spelling}
use Rattle.ciborium_ll_grammar.specs.Elements.{IsNoSmallSimple, IsStrictRun}
use Rattle.ciborium_ll_grammar.specs.Faults.{BeginsWithElements}
use Rattle.ciborium_ll_grammar.proofs.AloneLaws.{title_some}
use Rattle.ciborium_ll_grammar.proofs.ElementLaws.{element_again, one_element, spelling-append}
use Rattle.ciborium_ll_grammar.proofs.FaultLaws.{meant_left, meant_right}
use Rattle.ciborium_ll_grammar.proofs.StepLaws.{add_element}

-- An element has at least one byte.
pub element_some : (w : List ℕ) (ms : List Mark) → IsElement w ms → 0 < length w
element_some w ms e = grind (arith, title_some, length-append {A = ℕ})

-- An element is a run of one element.
pub run_of_one : (w : List ℕ) (ms : List Mark) → IsElement w ms → IsRun 1 w ms
run_of_one w ms e = simp append-nil at (next e done)

-- A run of one element is this element.
pub one_of_run : (w : List ℕ) (ms : List Mark) → IsRun 1 w ms → IsElement w ms
one_of_run w ms (next e done) = simp append-nil e

-- ---- strict runs

meant_both : (ms ns : List Mark) → AllByRecursion IsNoSmallSimple ms → AllByRecursion IsNoSmallSimple ns
    → AllByRecursion IsNoSmallSimple (ms ++ ns)
meant_both [] ns p q = q
meant_both (m ∷ ms) ns p q = (p.0, meant_both ms ns p.1 q)

-- A strict run and then one more strict element are a strict run.
pub strict_more : (n : ℕ) (u w : List ℕ) (ms ns : List Mark) → IsStrictRun n u ms → IsStrictRun 1 w ns
    → IsStrictRun (suc n) (u ++ w) (ms ++ ns)
strict_more n u w ms ns r e = record {
  run = add_element n u ms r.run w ns (one_of_run w ns e.run);
  same = ap (λ (z : List ℕ). z ++ w) r.same ∙ ap (λ (z : List ℕ). spelling ms ++ z) e.same
      ∙ sym (spelling-append ms ns);
  meant = meant_both ms ns r.meant e.meant;
}

-- The first of some strict elements, and the others.
pub record FirstStrict (w : List ℕ) : Type 0 where
  pub first : List ℕ
  pub marks : List Mark
  pub is_strict : IsStrictRun 1 first marks
  pub count : ℕ
  pub others : List ℕ
  pub more : List Mark
  pub are : IsStrictRun count others more
  pub whole : w ≡ first ++ others

-- A strict run that has bytes is a strict element and a strict run of the others.
pub first_strict : (n : ℕ) (w : List ℕ) (ms : List Mark) → IsStrictRun n w ms → 0 < length w → FirstStrict w
first_strict n w ms strict some = go n w ms strict.run strict.same strict.meant some
  where
    go : (n : ℕ) (w : List ℕ) (ms : List Mark) → IsRun n w ms → w ≡ spelling ms → AllByRecursion IsNoSmallSimple ms
        → 0 < length w → FirstStrict w
    go n w ms done same meant some = absurd (omega (arith, some))
    go n w ms (next {count = m} {first = x} {rest = y} {marks = ns} {others = os} e r) same meant some =
        let again = element_again x ns e in
        let one = one_element x (spelling ns) y (spelling os) ns ns e again.element (same ∙ spelling-append ns os) in
        record {
          first = x;
          marks = ns;
          is_strict = record { run = run_of_one x ns e; same = one.0; meant = meant_left ns os meant };
          count = m;
          others = y;
          more = os;
          are = record { run = r; same = one.2; meant = meant_right ns os meant };
          whole = refl;
        }

-- If a strict run begins with some elements and bytes are left, a strict element begins these bytes.
pub strict_next : (m : ℕ) (u : List ℕ) (ms : List Mark) → IsRun m u ms → (n : ℕ) (w : List ℕ) (ns : List Mark)
    → IsStrictRun n w ns → (v : List ℕ) → w ≡ u ++ v → 0 < length v → BeginsWithElements Shortest 1 v
strict_next m u ms done n w ns strict v z some =
    let f = first_strict n w ns strict (omega (arith, some, ap length z)) in
    record {
      elements = f.first;
      marks = f.marks;
      rest = f.others;
      run = f.is_strict.run;
      is = sym z ∙ f.whole;
      spelled = λ on. record {
        same = f.is_strict.same ∙ sym (append-nil (spelling f.marks));
        meant = f.is_strict.meant;
      };
    }
strict_next m u ms (next {count = k} {first = x} {rest = y} {marks = os} {others = ps} e r) n w ns strict v z some =
    let f = first_strict n w ns strict (omega (arith, some, ap length z, length-append (x ++ y) v)) in
    let one = one_element f.first x f.others (y ++ v) f.marks os (one_of_run f.first f.marks f.is_strict.run) e
    (sym f.whole ∙ z ∙ append_assoc x y v) in
    strict_next k y ps r f.count f.others f.more f.are v one.2 some
