-- An item is a run of some number of elements. Bytes that go on as an item have no fault as elements.
use Rattle.std.proofs.Common.{◌≡◌, ℕ, zero, suc, ◌-◌, ◌*◌, ◌<◌, ◌≤◌, List, [], ◌∷◌, ◌++◌, length}
use Rattle.std.proofs.Common.{refl, sym, ap, ◌∙◌, arith, inl, inr, append_assoc, length-append}
use Rattle.std.proofs.lemmas.Bool.{cases_lt}
use Rattle.ciborium_ll_grammar.specs.declared.spelling.Spelling.{Spelling}
use Rattle.ciborium_ll_grammar.specs.declared.spelling.Spelling.TheVariants.{Any}
use Rattle.ciborium_ll_grammar.specs.declared.hdr.Header.{Header}
use Rattle.ciborium_ll_grammar.specs.declared.hdr.Header.TheVariants as h
use Rattle.ciborium_ll_grammar.specs.Title.{IsTitle, AreBytes}
use Rattle.ciborium_ll_grammar.specs.Strings.{Bytes, Text, definite, indefinite}
use Rattle.ciborium_ll_grammar.specs.Elements.{Mark, IsPlain, IsElement, plain, string, IsRun, done, next}
use Rattle.ciborium_ll_grammar.specs.Faults.{BeginsWithElements}
use Rattle.ciborium_ll_grammar.specs.Items.{Completes, byte_string, text_string, open_bytes, open_text, tag, array}
use Rattle.ciborium_ll_grammar.specs.Items.{pairs, open_array, open_pairs, AreItems, no_items, more_items, IsItem}
use Rattle.ciborium_ll_grammar.proofs.AffixLaws.{AreBytes-append, announced}
use Rattle.ciborium_ll_grammar.proofs.ElementLaws.{bytes_writable, one_element}
use Rattle.ciborium_ll_grammar.proofs.StepLaws.{add_element}
use Rattle.ciborium_ll_grammar.proofs.StringLaws.{break_title}
use Rattle.cbor_copier.specs.Reading.{NoneGoOn}
use Rattle.cbor_copier.proofs.TellLaws.{any_run, in_front, whole_in_front}
use Rattle.cbor_copier.proofs.LiveLaws.{run_goes}
use Rattle.cbor_item_copier.proofs.ByteLaws.{as_bytes, are_bytes, same_bytes, as_append, run_as}

-- ---- an item is a run

-- The bytes are some number of elements, joined.
pub record SomeRun (bytes : List ℕ) : Type 0 where
  pub count : ℕ
  pub marks : List Mark
  pub run : IsRun count bytes marks

join : {n : ℕ} {a b : List ℕ} {marks : List Mark} → IsRun n a marks → SomeRun b → SomeRun (a ++ b)
join done behind = behind
join (next {marks = ms} element rest) behind =
    let o = join rest behind in
    record { count = suc o.count; marks = ms ++ o.marks; run = rw append_assoc (next element o.run) }

both : {a b : List ℕ} → SomeRun a → SomeRun b → SomeRun (a ++ b)
both front behind = join front.run behind

one : {word : List ℕ} {marks : List Mark} → IsElement word marks → SomeRun word
one element = record { count = 1; marks = _; run = add_element 0 [] [] done _ _ element }

titled : {t r : List ℕ} {x : Header} → IsTitle t x → IsPlain x → SomeRun r → SomeRun (t ++ r)
titled {x = x} q is_plain behind = both (one (plain x q is_plain)) behind

none_run : SomeRun []
none_run = record { count = 0; marks = []; run = done }

closed : {u : List ℕ} → SomeRun u → SomeRun (u ++ 0xff ∷ [])
closed items = both items (one (plain h.Break break_title tt))

mutual
  completed_run : (s : Spelling) (d : ℕ) (x : Header) (t r : List ℕ) → IsTitle t x → Completes s d x r
      → SomeRun (t ++ r)
  completed_run s d x t r q (byte_string long) = one (string Bytes (definite (rw (← long) at q)) (tt, tt))
  completed_run s d x t r q (text_string long sound) = one (string Text (definite (rw (← long) at q)) (sound, tt))
  completed_run s d x t r q (open_bytes {bodies = bs} are taken) =
      one (string Bytes (indefinite q are) (bytes_writable bs))
  completed_run s d x t r q (open_text are taken sound) = one (string Text (indefinite q are) sound)
  completed_run s d x t r q (tag {depth = e} i) = titled q tt (items_run s e (suc zero) r i)
  completed_run s d x t r q (array {depth = e} {count = n} i) = titled q tt (items_run s e n r i)
  completed_run s d x t r q (pairs {depth = e} {count = n} i) = titled q tt (items_run s e (2 * n) r i)
  completed_run s d x t r q (open_array {depth = e} {count = n} {items = u} i) =
      titled q tt (closed (items_run s e n u i))
  completed_run s d x t r q (open_pairs {depth = e} {items = u} n i) =
      titled q tt (closed (items_run s e (2 * n) u i))
  completed_run s d x t r q number = titled q tt none_run

  items_run : (s : Spelling) (d n : ℕ) (w : List ℕ) → AreItems s d n w → SomeRun w
  items_run s d n w no_items = none_run
  items_run s d n w (more_items {count = m} {title = t} {rest = r} {others = a} {header = x} q k c i) =
      rw (append_assoc t r a) at (both (completed_run s d x t r q c) (items_run s d m a i))

pub item_run : (s : Spelling) (d : ℕ) (item : List ℕ) → IsItem s d item → SomeRun item
item_run s d item i = items_run s d (suc zero) item i

-- ---- runs by their numbers of elements

pub title_some : (t r : List ℕ) (x : Header) → IsTitle t x → 0 < length (t ++ r)
title_some t r x q = omega (arith, ap length (announced t x q).is, length-append t r)

element_some : (w : List ℕ) (ms : List Mark) → IsElement w ms → 0 < length w
element_some w ms (plain x q is_plain) = omega (arith, title_some w [] x q, length-append w [])
element_some w ms (string k (definite {title = t} {body = b} q) sound) = title_some t b _ q
element_some w ms (string k (indefinite {title = t} {strings = u} q are) sound) = title_some t (u ++ 0xff ∷ []) _ q

-- A run has at least as many bytes as elements.
pub run_long : (n : ℕ) (w : List ℕ) (ms : List Mark) → IsRun n w ms → n ≤ length w
run_long n w ms done = omega arith
run_long n w ms (next {count = m} {first = x} {rest = y} {marks = ns} {others = os} element rest) =
    omega (arith, element_some x ns element, run_long m y os rest, length-append x y)

-- The same bytes are one number of elements, with the same marks.
pub same_runs : (n : ℕ) (w : List ℕ) (ms : List Mark) → IsRun n w ms → (m : ℕ) (v : List ℕ) (ns : List Mark)
    → IsRun m v ns → w ≡ v → (n ≡ m) × (ms ≡ ns)
same_runs n w ms done m v ns done e = (refl, refl)
same_runs n w ms done m v ns (next {first = x} {rest = y} {marks = os} element rest) e =
    absurd (omega (arith, ap length e, element_some x os element, length-append x y))
same_runs n w ms (next {first = x} {rest = y} {marks = os} element rest) m v ns done e =
    absurd (omega (arith, ap length e, element_some x os element, length-append x y))
same_runs n w ms (next {count = i} {first = x} {rest = y} {marks = os} {others = ps} element rest) m v ns
    (next {count = j} {first = x'} {rest = y'} {marks = os'} {others = ps'} element' rest') e =
    let o = one_element x x' y y' os os' element element' e in
    let s = same_runs i y ps rest j y' ps' rest' o.2 in
    (ap suc s.0, cc (o.1, s.1))

in_none : (w : List ℕ) → BeginsWithElements Any zero w
in_none w = whole_in_front Any zero [] w [] (any_run done)

-- A run begins with each smaller number of elements.
pub run_front : (m n : ℕ) (w : List ℕ) (ms : List Mark) → IsRun n w ms → m ≤ n → BeginsWithElements Any m w
run_front zero n w ms run fewer = in_none w
run_front (suc m) n w ms done fewer = absurd (omega (arith, fewer))
run_front (suc m) n w ms (next {count = j} {first = x} {rest = y} {marks = ns} {others = os} element rest) fewer =
    let o = run_front m j y os rest (omega (arith, fewer)) in
    let is : x ++ y ≡ (x ++ o.elements) ++ o.rest =
    ap (λ (z : List ℕ). x ++ z) o.is ∙ sym (append_assoc x o.elements o.rest) in
    record {
      elements = x ++ o.elements;
      marks = ns ++ o.marks;
      rest = o.rest;
      run = next element o.run;
      is = is;
      spelled = λ short. absurd cc;
    }

-- If some number of elements begins with the bytes, each number does.
run_goes_on : (count n : ℕ) (bytes more : List ℕ) (ms : List Mark) → AreBytes more → IsRun n (bytes ++ more) ms
    → NoneGoOn Any count bytes → ⊥
run_goes_on count n bytes more ms are run never =
    elim (cases_lt n count) [
      | inl fewer ↦ (
          let o = run_goes {allowed = Any} {count = count} (count - n)
          (record { before = n; run = run; counted = omega (arith, fewer) }) (λ short. absurd cc) in
          never (more ++ o.more) (AreBytes-append more o.more are o.more_bytes)
          (rw (append_assoc bytes more o.more) at (in_front o.run))
          )
      | inr enough ↦ never more are (run_front count n (bytes ++ more) ms run enough)
    ]

-- If an item begins with the bytes, each number of elements does.
pub item_goes_on : (count : ℕ) (s : Spelling) (d : ℕ) (bytes more : List ℕ) → AreBytes bytes
    → IsItem s d (bytes ++ more)
    → NoneGoOn Any count bytes → ⊥
item_goes_on count s d bytes more are item never =
    let o = item_run s d (bytes ++ more) item in
    let a = run_as o.count (bytes ++ more) o.marks o.run in
    run_goes_on count o.count bytes (as_bytes more) a.0 (are_bytes more)
    (rw (as_append bytes more, same_bytes bytes are) at a.1) never
