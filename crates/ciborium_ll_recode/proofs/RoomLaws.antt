-- A copy of elements writes no more bytes than were read, and no more than the spelling of the elements at the
-- beginning.
use Rattle.std.proofs.Common.{◌≡◌, ℕ, ◌+◌, ◌≤◌, List, [], ◌∷◌, ◌++◌, length, take, drop, min, Some, None, sym, ap}
use Rattle.std.proofs.Common.{subst, ◌∙◌, inl, inr, arith, append_assoc, append-nil, length-append}
use Rattle.std.proofs.lemmas.Bool.{cases_lt}
use Rattle.std.proofs.lemmas.List.{length-take-le, take-append-drop}
use Rattle.ciborium_ll_grammar.specs.declared.spelling.Spelling.TheVariants.{Any}
use Rattle.ciborium_ll_grammar.specs.Title.{IsTitle, title_len}
use Rattle.ciborium_ll_grammar.specs.Strings.{Kind, kind_header, IsString, AreStrings, none, more, IsWritable}
use Rattle.ciborium_ll_grammar.specs.Strings.IsString.{definite, indefinite}
use Rattle.ciborium_ll_grammar.specs.Elements.{Mark, Whole, Open, pieces, spelling, IsElement, IsPlain, plain, string}
use Rattle.ciborium_ll_grammar.specs.Elements.{IsRun, done, next}
use Rattle.ciborium_ll_grammar.specs.Faults.{Point, Due, In, BodyDue, due_title, IsInside, opened, deeper, Reaches, due}
use Rattle.ciborium_ll_grammar.specs.Faults.{inside, body, body_inside, BeginsWithElements}
use Rattle.ciborium_ll_grammar.proofs.TitleLaws.{one_title, shortest_no_longer}
use Rattle.ciborium_ll_grammar.proofs.StringLaws.{mixed, fronts, title_not_break, string_not_break, one_string}
use Rattle.ciborium_ll_grammar.proofs.ElementLaws.{not_plain, string_fronts, one_element, pieces-append}
use Rattle.ciborium_ll_grammar.proofs.ElementLaws.{spelling-append, open_spelled, run_again, AreStrings-append}
use Rattle.ciborium_ll_grammar.proofs.ElementLaws.{AreWritable-append}
use Rattle.ciborium_ll_grammar.proofs.StepLaws.{add_element}
use Rattle.ciborium_ll_grammar.proofs.HaltLaws.{IsBad, opens_of, opens_title}
use Rattle.ciborium_ll_grammar.proofs.FaultLaws.{follows, bad_body, reach_stuck}
use Rattle.ciborium_ll_grammar.proofs.StrictFaultLaws.{inside_shorter}
use Rattle.ciborium_ll_decoder.proofs.NestLaws.{open_length}
use Rattle.ciborium_ll_recode.specs.Recoding.{NextWrite, Alone, Titled, Chunk}

-- The length of the spelling of joined marks is the sum of both lengths.
spelled_long : (ms ns : List Mark) → length (spelling (ms ++ ns)) ≡ length (spelling ms) + length (spelling ns)
spelled_long ms ns = ap length (spelling-append ms ns) ∙ length-append (spelling ms) (spelling ns)

-- The length of the spelling of the pieces of bodies.
abbrev size : Kind → List (List ℕ) → ℕ
size k bs = length (spelling (pieces k bs))

size-append : (k : Kind) (cs ds : List (List ℕ)) → size k (cs ++ ds) ≡ size k cs + size k ds
size-append k cs ds = rw pieces-append (spelled_long (pieces k cs) (pieces k ds))

open_long : (k : Kind) (ms : List Mark) (bs : List (List ℕ))
    → length (spelling (ms ++ Open k ∷ pieces k bs)) ≡ length (spelling ms) + 1 + size k bs
open_long k ms bs = omega (arith, spelled_long ms (Open k ∷ pieces k bs), open_length k, length-append {A = ℕ})

-- ---- no more bytes than were read

reach_shorter : {count : ℕ} {bytes : List ℕ} {marks : List Mark} {point : Point} → Reaches count bytes marks point
    → length (spelling marks) + length (due_title point) ≤ length bytes
reach_shorter (due {before = j} {bytes = u} {marks = ms} less run) = omega (arith, (run_again j u ms run).shorter)
reach_shorter (inside {before = j} {bytes = u} {opens = v} {marks = ms} {bodies = bs} {kind = k} less run i s) =
    let again = (run_again j u ms run).shorter in
    omega (arith, again, inside_shorter k v bs i, open_long, open_length k, length-append {A = ℕ})
reach_shorter (body {bytes = u} {title = t} {len = l} k reach p) =
    omega (arith, reach_shorter reach, shortest_no_longer t (kind_header k (Some l)) p, length-append {A = ℕ})
reach_shorter (body_inside {bytes = u} {title = t} {len = l} {kind = k} reach p) =
    omega (arith, reach_shorter reach, shortest_no_longer t (kind_header k (Some l)) p, length-append {A = ℕ})

-- ---- elements at the beginning of the same bytes

-- Two runs begin the same bytes. The spelling of the one with fewer elements is no longer than that of the other.
run_within : {i n : ℕ} {u w : List ℕ} {ms ns : List Mark} → IsRun i u ms → IsRun n w ns → i ≤ n → (x v : List ℕ)
    → u ++ x ≡ w ++ v → length (spelling ms) ≤ length (spelling ns)
run_within done run l x v e = omega arith
run_within (next p r) done l x v e = absurd (omega arith)
run_within (next {first = a} {rest = b} {marks = os} {others = ps} p r)
    (next {first = c} {rest = d} {marks = qs} {others = rs} q s) l x v e =
    let o = one_element a c (b ++ x) (d ++ v) os qs p q (sym (append_assoc a b x) ∙ (e ∙ append_assoc c d v)) in
    let same = ap (λ (z : List Mark). length (spelling z)) o.1 in
    omega (arith, run_within r s (omega arith) x v o.2, same, spelled_long)

-- The bytes begin with strings and then a break. Spelled after `before` bytes, their pieces end within `all` bytes.
record Rest (k : Kind) (x v : List ℕ) (before all : ℕ) : Type 0 where
  strings : List ℕ
  bodies : List (List ℕ)
  ok : AreStrings k strings bodies
  is : x ≡ strings ++ 0xff ∷ v
  cost : before + size k bodies ≤ all

module _ {k : Kind} where
  -- The fact also holds with more bytes spelled before, if `all` grows as much.
  rest_within : {x v : List ℕ} {before all before' all' : ℕ} → Rest k x v before all → before' + all ≤ all' + before
      → Rest k x v before' all'
  rest_within r shift = search arith

  -- Strings at the beginning of strings and a break leave strings and a break.
  goes : {w w' : List ℕ} {bs bs' : List (List ℕ)} → AreStrings k w bs → AreStrings k w' bs' → (x v : List ℕ)
      → w ++ x ≡ w' ++ 0xff ∷ v → Rest k x v (size k bs) (size k bs')
  goes {w' = w'} {bs' = bs'} none s' x v e =
      record { strings = w'; bodies = bs'; ok = s'; is = e; cost = omega arith }
  goes (more {first = a} {rest = y} {bodies = cs} s ss) none x v e =
      absurd (string_not_break k a (y ++ x) v cs s (sym (append_assoc a y x) ∙ e))
  goes (more {first = a} {rest = y} {bodies = cs} {others = ds} s ss)
      (more {first = b} {rest = z} {bodies = es} {others = fs} s' ss') x v e =
      let o = one_string k a b (y ++ x) (z ++ 0xff ∷ v) cs es s s' (simp append_assoc at e) in
      let same = ap (λ (z : List (List ℕ)). size k z) o.1 in
      rest_within (goes ss ss' x v o.2) (omega (arith, same, size-append))

  -- The bytes inside a string begin with an open.
  first_open : {u : List ℕ} {os : List (List ℕ)} → IsInside k u os → (y : List ℕ)
      → (t : List ℕ) × (r : List ℕ) × IsTitle t (kind_header k None) × (u ++ y ≡ t ++ r)
  first_open {u} {os} i y =
      let z = opens_title k u (opens_of k u os i) in
      (z.0, z.1 ++ y, z.2, ap (λ (x : List ℕ). x ++ y) z.3 ∙ append_assoc z.0 z.1 y)

  -- If the bytes inside a string begin strings and a break, strings and a break are left.
  strings_rest : {u : List ℕ} {os : List (List ℕ)} → IsInside k u os → (y : List ℕ)
      → ((w : List ℕ) (bs : List (List ℕ)) → IsString k w bs → (q : List ℕ) → u ++ y ≡ w ++ q
      → (z : List ℕ) × Rest k y z (size k os) (size k bs)) → {w : List ℕ} {bs : List (List ℕ)} → AreStrings k w bs
      → (v : List ℕ) → u ++ y ≡ w ++ 0xff ∷ v → (z : List ℕ) × Rest k y z (size k os) (size k bs)
  strings_rest i y rec none v e =
      let z = first_open i y in
      absurd (title_not_break k z.0 z.1 v None z.2 (sym z.3 ∙ e))
  strings_rest i y rec (more {first = a} {rest = b} {bodies = cs} {others = ds} s ss) v e =
      let m = rec a cs s (b ++ 0xff ∷ v) (e ∙ append_assoc a b (0xff ∷ v)) in
      (m.0, rest_within m.1 (omega (arith, size-append)))

  -- If the bytes inside a string begin a string, strings and a break are left.
  inside_rest : {u : List ℕ} {os : List (List ℕ)} → IsInside k u os → (y w : List ℕ) (bs : List (List ℕ))
      → IsString k w bs → (q : List ℕ) → u ++ y ≡ w ++ q → (z : List ℕ) × Rest k y z (size k os) (size k bs)
  inside_rest (opened {title = t} {strings = w} p s) y x bs (definite {title = t'} {body = b} p') q e =
      let o = fronts k t t' (w ++ y) (b ++ q) None (Some (length b)) p p' (simp append_assoc at e) in
      absurd (mixed (length b) (sym o.1))
  inside_rest (opened {title = t} {strings = w} p s) y z bs (indefinite {title = t'} {strings = x} p' s') q e =
      (q, goes s s' y q (fronts k t t' (w ++ y) (x ++ 0xff ∷ q) None None p p' (simp append_assoc at e)).2)
  inside_rest (deeper {outer = a} {inner = b} {bodies = cs} {others = ds} i j) y w bs s q e =
      let g = inside_rest i (b ++ y) w bs s q (sym (append_assoc a b y) ∙ e) in
      let m = strings_rest j y (inside_rest j y) g.1.ok g.0 g.1.is in
      (m.0, rest_within m.1 (omega (arith, g.1.cost, size-append)))

  -- The bytes inside an element, at its beginning, are spelled within its spelling.
  element_rest : {u w : List ℕ} {os : List (List ℕ)} {ms : List Mark} → IsInside k u os → IsElement w ms
      → (y q : List ℕ) → u ++ y ≡ w ++ q → 1 + size k os ≤ length (spelling ms)
  element_rest {w = w} i (plain x p f) y q e =
      let z = first_open i y in
      absurd (not_plain k None (subst IsPlain (one_title w z.0 q z.1 x (kind_header k None) p z.2 (sym e ∙ z.3)).1 f))
  element_rest i (string j (definite {title = t} {body = b} p) s) y q e =
      let z = first_open i y in
      absurd (mixed (length b) (string_fronts j k t z.0 (b ++ q) z.1 (Some (length b)) None p z.2
      (sym (append_assoc t b q) ∙ sym e ∙ z.3)).2)
  element_rest i (string j (indefinite {title = t} {strings = x} {bodies = bs} p s) ok) y q e =
      let z = first_open i y in
      let same = (string_fronts j k t z.0 ((x ++ 0xff ∷ []) ++ q) z.1 None None p z.2
      (sym (append_assoc t (x ++ 0xff ∷ []) q) ∙ sym e ∙ z.3)).0 in
      let all = subst (λ (r : Kind). IsString r (t ++ (x ++ 0xff ∷ [])) bs) same (indefinite p s) in
      let g = inside_rest i y _ bs all q e in
      let sizes = ap (λ (r : Kind). size r bs) same in
      omega (arith, g.1.cost, sizes, ap length (open_spelled j bs), open_length j, length-append {A = ℕ})

  -- With one more string, the bytes are still inside the string.
  inside_add : {u w : List ℕ} {bs cs : List (List ℕ)} → IsInside k u bs → IsString k w cs
      → IsInside k (u ++ w) (bs ++ cs)
  inside_add {w = w} {cs = cs} (opened {title = t} {strings = x} {bodies = bs} p s) one =
      let all = AreStrings-append k x bs s (w ++ []) (cs ++ []) (more one none) in
      rw append_assoc (opened p (simp append-nil at all))
  inside_add {w = w} {cs = cs} (deeper {outer = x} {inner = y} {bodies = ds} {others = es} i j) one =
      rw (append_assoc x y w, append_assoc ds es cs) (deeper i (inside_add j one))

-- ---- the point of a copy within the spelling of the elements at the beginning

-- A body is bad unless enough bytes are there, and may be written.
bad_of : (k : Kind) (len : ℕ) (x : List ℕ) → (len ≤ length x → IsWritable k (take len x) → ⊥) → IsBad k len x
bad_of k len x fails = grind arith

-- The length of the body that is due.
abbrev body_len : Point → ℕ
body_len Due = 0
body_len (In kind) = 0
body_len (BodyDue kind len start) = len

module _ {n : ℕ} {w : List ℕ} {ns : List Mark} (run : IsRun n w ns) (v : List ℕ) where
  inside_within : {k : Kind} {u : List ℕ} {ms : List Mark} → Reaches n u ms (In k) → (x : List ℕ)
      → u ++ x ≡ w ++ v → length (spelling ms) ≤ length (spelling ns)
  inside_within {k} (inside {before = i} {bytes = a} {opens = b} {marks = os} {bodies = bs} l r q ok) x e =
      let f = follows i a os r n w ns run l (b ++ x) v (sym (append_assoc a b x) ∙ e) in
      let front = append_assoc a f.word f.rest ∙ ap (λ (z : List ℕ). a ++ z) (sym f.is)
      ∙ (sym (append_assoc a b x) ∙ e) in
      let longer = run_within (add_element i a os r f.word f.marks f.ok) run l f.rest v front in
      omega (arith, longer, element_rest q f.ok x f.rest f.is, spelled_long, open_long k os bs)

  -- The spelling so far, with the title and the body that is due, is within the spelling of the elements.
  body_added : (b x : List ℕ) {k : Kind} {u : List ℕ} {ms : List Mark} {start : ℕ}
      → Reaches n u ms (BodyDue k (length b) start) → IsWritable k b → u ++ (b ++ x) ≡ w ++ v
      → length (spelling ms) + title_len (kind_header k (Some (length b))) + length b ≤ length (spelling ns)
  body_added b x {ms = ms} (body {title = t} k (due {before = i} {bytes = a} l r) p) sound e =
      let mark = Whole k b ∷ [] in
      let added = add_element i a ms r (t ++ b) mark (string k (definite p) (sound, tt)) in
      let front : (a ++ (t ++ b)) ++ x ≡ w ++ v = simp append_assoc (simp append_assoc at e) in
      omega (arith, run_within added run l x v front, spelled_long ms mark, length-append {A = ℕ})
  body_added b x (body_inside {title = t}
      (inside {before = i} {bytes = a} {opens = c} {marks = os} {bodies = bs} {kind = k} l r q ok) p) sound e =
      let all = inside l r (inside_add q (definite p)) (AreWritable-append k bs (b ∷ []) ok (sound, tt)) in
      let within = inside_within all x (simp append_assoc (simp append_assoc at e)) in
      omega (arith, within, open_long k os, size-append k bs (b ∷ []), length-append {A = ℕ})

  reach_within : {u : List ℕ} {ms : List Mark} {at : Point} → Reaches n u ms at → (x : List ℕ) → u ++ x ≡ w ++ v
      → length (spelling ms) + length (due_title at) + body_len at ≤ length (spelling ns)
  reach_within {at = Due} (due less before) x e = omega (arith, run_within before run (omega (arith, less)) x v e)
  reach_within {at = In k} reach x e = omega (arith, inside_within reach x e)
  reach_within {u} {ms} {at = BodyDue k len start} reach x e =
      elim (cases_lt (length (spelling ns)) (length (spelling ms) + title_len (kind_header k (Some len)) + len)) [
        | inr within ↦ within
        | inl less ↦ absurd (reach_stuck n u ms (BodyDue k len start) reach x (bad_body (bad_of k len x (λ all sound.
            let same = length-take-le len x all in
            let fits = body_added (take len x) (drop len x)
            (subst (λ (m : ℕ). Reaches n u ms (BodyDue k m start)) (sym same) reach) sound
            (ap (λ (z : List ℕ). u ++ z) (take-append-drop len x) ∙ e) in
            let titles = ap (λ (m : ℕ). title_len (kind_header k (Some m))) same in
            omega (arith, less, fits, same, titles)))) w v ns run e)
      ]

-- ---- the bytes of a copy that stops in writing

-- The bytes that were written, and the next write, fit in `all` bytes. The premises bound the spelling so far by `all`.
next_within : {count room : ℕ} {before read whole next : List ℕ} → NextWrite count room before read whole next
    → (all : ℕ) → ((marks : List Mark) → IsRun count before marks → length (spelling marks) ≤ all)
    → ((marks : List Mark) (point : Point) → Reaches count before marks point
    → length (spelling marks) + length (due_title point) + min (body_len point) (length read) ≤ all)
    → length whole + length next ≤ all
next_within (Alone marks mark header spelled (inl run)) all runs reaches =
    omega (arith, runs _ run, ap length spelled, spelled_long marks (mark ∷ []), length-append {A = ℕ})
next_within (Alone marks mark header spelled (inr at)) all runs reaches =
    omega (arith, reaches _ _ at.1, ap length spelled, spelled_long marks (mark ∷ []), length-append {A = ℕ})
next_within (Titled marks kind len start reach) all runs reaches = omega (arith, reaches _ _ reach)
next_within (Chunk marks kind len start front chunk kept reach sound within filled few) all runs reaches =
    omega (arith, reaches _ _ reach, within, filled, length-append {A = ℕ})

pub next_shorter : {count room : ℕ} {before read whole next : List ℕ}
    → NextWrite count room before read whole next → length whole + length next ≤ length (before ++ read)
next_shorter {before = before} {read = read} next_write =
    next_within next_write _ (λ ms run. omega (arith, (run_again _ _ _ run).shorter, length-append {A = ℕ}))
    (λ ms at reach. omega (arith, reach_shorter reach, length-append {A = ℕ}))

-- If the elements are at the beginning, the bytes fit in the spelling of the elements.
pub next_spelled : {count room : ℕ} {before read whole next due : List ℕ} (rest : List ℕ)
    → NextWrite count room before read whole next → (front : BeginsWithElements Any count due)
    → due ≡ (before ++ read) ++ rest
    → length whole + length next ≤ length (spelling front.marks)
next_spelled {before = before} {read = read} rest next_write front is =
    let same : before ++ (read ++ rest) ≡ front.elements ++ front.rest = sym (append_assoc before read rest)
    ∙ sym is ∙ front.is in
    next_within next_write _ (λ ms run. run_within run front.run (omega arith) (read ++ rest) front.rest same)
    (λ ms at reach. omega (arith, reach_within front.run front.rest reach (read ++ rest) same))
