-- Elements that are their own spelling are those whose titles are all strict, with no open inside another open.
use Rattle.std.proofs.Common.{[], ◌≡◌, ℕ, ◌≤◌, ◌↔◌, true, List, ◌++◌, length, Some, None, refl, sym, ap, subst}
use Rattle.std.proofs.Common.{◌∙◌, arith, append-nil, length-append}
use Rattle.std.specs.List.{AllByRecursion}
use Rattle.ciborium_ll_grammar.specs.declared.spelling.Spelling.TheVariants.{Any, Shortest}
use Rattle.ciborium_ll_grammar.specs.Title.{shortest_title}
use Rattle.ciborium_ll_grammar.specs.Strings.{Kind, kind_header, AreStrings, none as no_strings, more as more_strings}
use Rattle.ciborium_ll_grammar.specs.Strings.IsString.{definite, indefinite}
use Rattle.ciborium_ll_grammar.specs.Elements.{Mark, IsNoSmallSimple, pieces, spelling, body_spelling, IsElement, IsRun, string}
use Rattle.ciborium_ll_grammar.specs.Elements.{IsStrictRun, plain as plain_element, done as run_done, next as run_next}
use Rattle.ciborium_ll_grammar.specs.Elements.{IsStrictSpelling}
use Rattle.ciborium_ll_grammar.specs.Faults.{BeginsWithElements}
use Rattle.ciborium_ll_grammar.specs.StrictElements.{AreFlat, none, more, IsStrictElement, plain, whole, parts}
use Rattle.ciborium_ll_grammar.specs.StrictElements.{AreStrictElements, done, next}
use Rattle.ciborium_ll_grammar.proofs.TitleLaws.{shortest_no_longer}
use Rattle.ciborium_ll_grammar.proofs.TightLaws.{tight_run}
use Rattle.ciborium_ll_grammar.proofs.ElementLaws.{spelling-append, open_spelled, element_again, one_element, one_run}
use Rattle.ciborium_ll_decoder.proofs.FlatStrings.{strict_title, flat}
use Rattle.ciborium_ll_decoder.proofs.NestLaws.{alone_bytes, open_alone}
use Rattle.ciborium_ll_grammar.proofs.SpelledLaws.{meant_append, open_meant, spelled_alone}
use Rattle.ciborium_ll_grammar.proofs.FaultLaws.{meant_left, meant_right}

-- ---- from the spelling to the titles

strict_element : (w : List ℕ) (ms : List Mark) → IsElement w ms → w ≡ spelling ms → AllByRecursion IsNoSmallSimple ms
    → IsStrictElement w ms
strict_element w ms (plain_element header p q) same meant =
    plain header p (record { shortest = same ∙ append-nil (shortest_title header); meant = meant.0 }) q
strict_element w ms (string k (definite {title = t} {body = b} p) sound) same meant =
    let header = kind_header k (Some (length b)) in
    let counted = ap length same in
    whole k p (strict_title k (Some (length b)) t p (omega (arith, counted, length-append {A = ℕ}))) sound.0
strict_element w ms (string k (indefinite {title = t} {strings = y} {bodies = bs} p q) sound) same meant =
    let header = kind_header k None in
    let n = shortest_no_longer t header p in
    parts k p (flat k y bs q (omega (arith, ap length (same ∙ open_spelled k bs), n, length-append {A = ℕ}))) sound

strict_elements : (n : ℕ) (w : List ℕ) (ms : List Mark) → IsRun n w ms → w ≡ spelling ms → AllByRecursion IsNoSmallSimple ms
    → AreStrictElements n w ms
strict_elements n w ms run_done same meant = done
strict_elements n w ms (run_next {count = m} {first = y} {rest = z} {marks = ns} {others = os} e run) same meant =
    let again = element_again y ns e in
    let one = one_element y (spelling ns) z (spelling os) ns ns e again.element (same ∙ spelling-append ns os) in
    next (strict_element y ns e one.0 (meant_left ns os meant))
    (strict_elements m z os run one.2 (meant_right ns os meant))

-- ---- from the titles to the spelling

flat_spelled : (k : Kind) {w : List ℕ} {bs : List (List ℕ)} → AreFlat k w bs
    → AreStrings k w bs × (w ≡ spelling (pieces k bs))
flat_spelled k none = (no_strings, refl)
flat_spelled k (more {body = b} {rest = y} p s f) =
    let others = flat_spelled k f in (
      more_strings (definite p) others.0,
      ap (λ (z : List ℕ). (z ++ b) ++ y) s.shortest ∙ ap (λ (z : List ℕ). body_spelling k b ++ z) others.1,
    )

element_spelled : {w : List ℕ} {ms : List Mark} → IsStrictElement w ms
    → IsElement w ms × (w ≡ spelling ms) × AllByRecursion IsNoSmallSimple ms
element_spelled (plain header p s q) =
    (plain_element header p q, s.shortest ∙ sym (append-nil (shortest_title header)), (s.meant, tt))
element_spelled (whole {body = b} k p s sound) = (
  string k (definite p) (sound, tt),
  ap (λ (z : List ℕ). z ++ b) s.shortest ∙ sym (append-nil (body_spelling k b)),
  (tt, tt),
)
element_spelled (parts {title = t} {strings = y} {bodies = bs} k p f sound) =
    let strings = flat_spelled k f in
    let title = alone_bytes t (kind_header k None) p (open_alone k) in
    (string k (indefinite p strings.0) sound, rw (title, strings.1) (sym (open_spelled k bs)), open_meant k bs)

run_spelled : {n : ℕ} {w : List ℕ} {ms : List Mark} → AreStrictElements n w ms → IsStrictRun n w ms
run_spelled done = record { run = run_done; same = refl; meant = tt }
run_spelled (next {rest = z} {marks = ns} {others = os} e run) =
    let one = element_spelled e in
    let all = run_spelled run in
    record {
      run = run_next one.0 all.run;
      same = ap (λ (v : List ℕ). v ++ z) one.1 ∙ ap (λ (v : List ℕ). spelling ns ++ v) all.same
          ∙ sym (spelling-append ns os);
      meant = meant_append ns os one.2 all.meant;
    }

-- ---- both directions

pub titles : (count : ℕ) (bytes : List ℕ) (marks : List Mark)
    → IsStrictRun count bytes marks ↔ AreStrictElements count bytes marks
titles count bytes marks = (
  λ strict. strict_elements count bytes marks strict.run strict.same strict.meant,
  run_spelled,
)

-- Elements at the beginning are strict exactly if they are their own spelling, without simple values from 24 to 31.
pub unchanged : (count : ℕ) (bytes : List ℕ) (front : BeginsWithElements Any count bytes)
    → BeginsWithElements Shortest count bytes
    ↔ ((spelling front.marks ≡ front.elements) × AllByRecursion IsNoSmallSimple front.marks)
unchanged count bytes front = (
  λ strict. (
      let spelled = strict.spelled refl in
      let one = one_run count front.elements front.marks front.run strict.elements front.rest strict.rest strict.marks
      strict.run (sym front.is ∙ strict.is) in (
        ap spelling one.1 ∙ sym (spelled_alone strict.elements strict.marks spelled) ∙ sym one.0,
        subst (λ (z : List Mark). AllByRecursion IsNoSmallSimple z) (sym one.1) spelled.meant,
      )
      ),
  λ same. (
      let allowed : true ≡ true → IsStrictSpelling front.elements front.marks [] = λ on. record {
        same = sym same.0 ∙ sym (append-nil (spelling front.marks));
        meant = same.1;
      } in
      search
      ),
)

pub as_long : (count : ℕ) (bytes : List ℕ) (front : BeginsWithElements Any count bytes)
    → length front.elements ≤ length (spelling front.marks) → spelling front.marks ≡ front.elements
as_long count bytes front long = sym (tight_run count front.elements front.marks front.run long)
