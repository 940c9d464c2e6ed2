-- Bytes begin with `n` elements, or a fault stops them.
use Rattle.std.proofs.Common.{◌≡◌, ℕ, zero, suc, ◌%◌, ◌<◌, ◌≤◌, ◌⊎◌, List, [], ◌∷◌}
use Rattle.std.proofs.Common.{◌++◌, length, take, drop, Some, None, refl, sym, ap, ◌∙◌, append_assoc, arith}
use Rattle.std.proofs.Common.{inl, inr}
use Rattle.std.proofs.lemmas.Bool.{cases_lt}
use Rattle.std.proofs.lemmas.List.{append-nil, length-append, take-append-drop, length-take, length-take-le}
use Rattle.ciborium_ll_grammar.specs.declared.spelling.Spelling.{Spelling}
use Rattle.ciborium_ll_grammar.specs.declared.spelling.Spelling.TheVariants.{Shortest}
use Rattle.ciborium_ll_grammar.proofs.SpellingLaws.{either_allowed}
use Rattle.ciborium_ll_grammar.specs.declared.hdr.Header.{Header}
use Rattle.ciborium_ll_grammar.specs.declared.hdr.Header.TheVariants as h
use Rattle.ciborium_ll_grammar.specs.Title.{IsTitle, affix_len, IsCutTitle, BeginsRefused, AreBytes}
use Rattle.ciborium_ll_grammar.specs.Title.{shortest_title, IsSmallSimple}
use Rattle.ciborium_ll_grammar.specs.Strings.{Kind, Bytes, Text, kind_header, none, IsMisplaced, IsWritable}
use Rattle.ciborium_ll_grammar.specs.Strings.IsString.{definite}
use Rattle.ciborium_ll_text.specs.Text.{IsCharacters}
use Rattle.ciborium_ll_grammar.specs.Elements.{AreWritable, Mark, Plain, Whole, Open, Piece, Close, pieces}
use Rattle.ciborium_ll_grammar.specs.Elements.{IsPlain, plain, string, IsRun, done, body_spelling, IsStrictSpelling}
use Rattle.ciborium_ll_grammar.specs.Items.{IsTakenTitle}
use Rattle.ciborium_ll_grammar.specs.Faults.{Point, In, BodyDue, Reaches, due, inside, body, body_inside}
use Rattle.ciborium_ll_grammar.specs.Faults.{IsAtTitle, Answer, FirstFault, due_title, CutTitle, NoTitle, LongTitle}
use Rattle.ciborium_ll_grammar.specs.Faults.{OtherTitle, DamagedText, CutBody, BeginsWithElements, HasFault}
use Rattle.ciborium_ll_grammar.proofs.OpenStrings.{IsInsideAt, one_open}
use Rattle.ciborium_ll_grammar.proofs.AffixLaws.{AreBytes-take, title_or_refused}
use Rattle.ciborium_ll_grammar.proofs.TitleLaws.{shortest_or_longer}
use Rattle.ciborium_ll_grammar.proofs.AloneLaws.{alone_bytes, title_some}
use Rattle.ciborium_ll_grammar.proofs.ElementLaws.{AreWritable-append, pieces-append}
use Rattle.ciborium_ll_grammar.proofs.SpelledLaws.{spelled_none, spelled_then, spelled_title}
use Rattle.ciborium_ll_text.proofs.TextLaws.{IsCharacters-nil}
use Rattle.ciborium_ll_text.proofs.Utf8Laws.{text_or_none}
use Rattle.ciborium_ll_grammar.proofs.StepLaws.{add_string, add_open, close_inner, close_last, counted, add_element}

-- The bytes are a cut title, begin with a refused byte, or begin with a title.
data Sight (y : List ℕ) : Type 0 where
  ends : IsCutTitle y → Sight y
  refuses : BeginsRefused y → Sight y
  titled : (t rest : List ℕ) (x : Header) → IsTitle t x → y ≡ t ++ rest → Sight y

-- Any bytes are one of these three cases.
sight : (y : List ℕ) → AreBytes y → Sight y
sight [] f = ends tt
sight (b ∷ y) f =
    let n = affix_len (b % 32) in
    elim (cases_lt (length y) n) [
      | inl l ↦ ends l
      | inr l ↦ elim (title_or_refused b (take n y) f.0 (AreBytes-take n y f.1) (length-take-le n y l)) [
        | inl r ↦ refuses r
        | inr t ↦ titled (b ∷ take n y) (drop n y) t.0 t.1 (ap (λ (z : List ℕ). b ∷ z) (sym (take-append-drop n y)))
      ]
    ]

-- ---- titles that are taken

small_or_not : (x : Header) → IsSmallSimple x ⊎ (IsSmallSimple x → ⊥)
small_or_not (h.Simple m) = let low = cases_lt m 24 in let high = cases_lt m 32 in grind arith
small_or_not x = inr (λ s. s)

taken_or_not : (allowed : Spelling) (t : List ℕ) (x : Header) → IsTitle t x
    → IsTakenTitle allowed t x ⊎ (IsTakenTitle allowed t x → ⊥)
taken_or_not allowed t x p = let small = small_or_not x in let shortest = shortest_or_longer x t p in grind arith

-- If the title of a body is the shortest, the title and the body are the spelling of the body.
body_same : {l : ℕ} {t : List ℕ} (k : Kind) (b : List ℕ) → t ≡ shortest_title (kind_header k (Some l)) → length b ≡ l
    → t ++ b ≡ body_spelling k b ++ []
body_same k b s len = rw (s, ← len) (sym (append-nil _))

-- A header is plain, a string of a definite length, or an open.
data View : Header → Type 0 where
  is_plain : {x : Header} → IsPlain x → View x
  is_definite : (k : Kind) (l : ℕ) → View (kind_header k (Some l))
  is_open : (k : Kind) → View (kind_header k None)

-- Each header is one of these three cases.
view_of : (x : Header) → View x
view_of (h.Bytes None) = is_open Bytes
view_of (h.Bytes (Some l)) = is_definite Bytes l
view_of (h.Text None) = is_open Text
view_of (h.Text (Some l)) = is_definite Text l
view_of x = is_plain tt

-- Within a string of the kind, a header is a break, a string of a definite length, an open, or misplaced.
data ViewIn (k : Kind) : Header → Type 0 where
  in_break : ViewIn k h.Break
  in_definite : (l : ℕ) → ViewIn k (kind_header k (Some l))
  in_open : ViewIn k (kind_header k None)
  in_misplaced : {x : Header} → IsMisplaced k x → ViewIn k x

-- Each header is one of these four cases.
view_in : (k : Kind) (x : Header) → ViewIn k x
view_in Bytes (h.Bytes None) = in_open
view_in Bytes (h.Bytes (Some l)) = in_definite l
view_in Bytes h.Break = in_break
view_in Bytes x = in_misplaced tt
view_in Text (h.Text None) = in_open
view_in Text (h.Text (Some l)) = in_definite l
view_in Text h.Break = in_break
view_in Text x = in_misplaced tt

-- A copy may write the empty front of any body.
part_nil : (k : Kind) → IsWritable k []
part_nil Bytes = tt
part_nil Text = IsCharacters-nil

-- A copy may write a body, or the body is of a text string and no text.
writable_or_not : (k : Kind) (b : List ℕ) → IsWritable k b ⊎ ((k ≡ Text) × (IsCharacters b → ⊥))
writable_or_not Bytes b = inl tt
writable_or_not Text b = elim (text_or_none b) [ inl text ↦ inl text | inr never ↦ inr (refl, never) ]

AreBytes-rest : (a b : List ℕ) → AreBytes (a ++ b) → AreBytes b
AreBytes-rest [] b f = f
AreBytes-rest (x ∷ a) b f = AreBytes-rest a b f.1

-- ---- one step

module _ (allowed : Spelling) (n : ℕ) where
  -- If only the shortest spelling is taken, the bytes are the spelling of the marks.
  abbrev Spelled : List ℕ → List Mark → List ℕ → Type 0
  Spelled u ms more = allowed ≡ Shortest → IsStrictSpelling u ms more

  -- The bytes are a part of `n` elements: a run, or a run and a string that is not closed.
  data Going : List ℕ → Type 0 where
    between : {u : List ℕ} (i : ℕ) (ms : List Mark) → i ≤ n → IsRun i u ms → Spelled u ms [] → Going u
    within : {u v : List ℕ} (i j : ℕ) (ms : List Mark) (bs : List (List ℕ)) (k : Kind) → i < n → IsRun i u ms
        → IsInsideAt k (suc j) v bs → AreWritable k bs → (allowed ≡ Shortest → j ≡ 0)
        → Spelled (u ++ v) (ms ++ Open k ∷ pieces k bs) [] → Going (u ++ v)

  -- One step over a title gives `n` elements, a fault, or fewer bytes ahead.
  data Step (u s : List ℕ) : Type 0 where
    whole : BeginsWithElements allowed n (u ++ s) → Step u s
    fails : HasFault allowed n (u ++ s) → Step u s
    goes : (t rest : List ℕ) → Going (u ++ t) → s ≡ t ++ rest → 0 < length t → Step u s

  faulty : {u s out : List ℕ} {ms : List Mark} {at : Point} {a : Answer} {c : ℕ} → Reaches n u ms at
      → Spelled u ms (due_title at) → FirstFault allowed u ms at s a out c → HasFault allowed n (u ++ s)
  faulty {u = u} {s = s} reach sp fault = let is : u ++ s ≡ u ++ s = refl in search

  -- The step at a place where a title is due, if there is a step over each title that is taken.
  title_step : {u s : List ℕ} {ms : List Mark} {at : Point} → Reaches n u ms at → IsAtTitle at
      → Spelled u ms (due_title at)
      → ((t rest : List ℕ) (x : Header) → IsTitle t x → IsTakenTitle allowed t x → s ≡ t ++ rest → Step u s) → Sight s
      → Step u s
  title_step reach d sp on (ends c) = fails (faulty reach sp (CutTitle d c))
  title_step reach d sp on (refuses c) = fails (faulty reach sp (NoTitle d c))
  title_step reach d sp on (titled t rest x p q) =
      elim (taken_or_not allowed t x p) [
        | inl taken ↦ on t rest x p taken q
        | inr untaken ↦ fails (faulty reach sp (LongTitle x rest d p untaken q))
      ]

  -- The step over the title of a body, if there is a step over each body that may be written.
  body_step : {u s : List ℕ} {ms : List Mark} {k : Kind} {l p : ℕ} (t rest : List ℕ)
      → Reaches n (u ++ t) ms (BodyDue k l p) → Spelled (u ++ t) ms (shortest_title (kind_header k (Some l)))
      → s ≡ t ++ rest → ((b more : List ℕ) → s ≡ (t ++ b) ++ more → length b ≡ l → IsWritable k b → Step u s) → Step u s
  body_step {u = u} {s = s} {k = k} {l = l} t rest reach sp q on =
      let there : HasFault allowed n ((u ++ t) ++ rest) → Step u s = λ f. fails (rw q (rw append_assoc at f)) in
      elim (cases_lt (length rest) l) [
        | inl few ↦ there (faulty {c = 0} reach sp
            (CutBody [] rest few refl (part_nil k) (omega arith) (omega arith) (omega arith)))
        | inr enough ↦ elim (writable_or_not k (take l rest)) [
          | inl ok ↦ on (take l rest) (drop l rest) (rw (append_assoc, take-append-drop l rest) q)
              (omega (arith, length-take l rest)) ok
          | inr bad ↦ there (faulty {c = 0} (rw bad.0 at reach) (rw bad.0 at sp)
              (DamagedText [] (take l rest) enough bad.1 refl IsCharacters-nil (omega arith) (omega arith)))
        ]
      ]

  -- The step over a title that is taken, at a place where an element is due.
  due_titled : {i : ℕ} {u s t : List ℕ} {ms : List Mark} {x : Header} (rest : List ℕ) → View x → i < n → IsRun i u ms
      → Spelled u ms [] → IsTitle t x → IsTakenTitle allowed t x → s ≡ t ++ rest → Step u s
  due_titled {i = i} {u = u} {t = t} {ms = ms} {x = x} rest (is_plain o) l r sp p taken q =
      goes t rest (between (suc i) (ms ++ Plain x ∷ []) l (add_element i u ms r t (Plain x ∷ []) (plain x p o)) (λ on.
      let d = rw on at taken in
      spelled_then u ms t (Plain x ∷ []) (sp on) (d.shortest ∙ sym (append-nil _)) (d.meant, tt))) q (title_some t x p)
  due_titled {i = i} {u = u} {t = t} {ms = ms} rest (is_open k) l r sp p taken q =
      goes t rest (within i 0 ms [] k l r (rw append-nil at (one_open p none)) tt (λ on. refl) (λ on.
      let d = rw on at taken in
      spelled_then u ms t (Open k ∷ []) (sp on) (d.shortest ∙ sym (append-nil _)) (tt, tt))) q (title_some t _ p)
  due_titled {i = i} {u = u} {t = t} {ms = ms} rest (is_definite k m) l r sp p taken q =
      body_step t rest (body k (due l r) p)
      (λ on. let d = rw on at taken in spelled_title u ms t _ (sp on) d.shortest) q (λ b more e len ok.
      goes (t ++ b) more (between (suc i) (ms ++ Whole k b ∷ []) l (add_element i u ms r (t ++ b) (Whole k b ∷ [])
      (string k (definite (rw (sym len) at p)) (ok, tt))) (λ on.
      let d = rw on at taken in
      spelled_then u ms (t ++ b) (Whole k b ∷ []) (sp on) (body_same k b d.shortest len) (tt, tt))) e
      (omega (arith, title_some t _ p, length-append t b)))

  -- The step over a break.
  break_step : {i : ℕ} {u v s rest : List ℕ} {ms : List Mark} {bs : List (List ℕ)} {k : Kind} (j : ℕ) → i < n
      → IsRun i u ms → IsInsideAt k (suc j) v bs → AreWritable k bs → (allowed ≡ Shortest → j ≡ 0)
      → Spelled (u ++ v) (ms ++ Open k ∷ pieces k bs) [] → s ≡ 0xff ∷ rest → Step (u ++ v) s
  break_step {i = i} {u = u} {v = v} {rest = rest} {ms = ms} {bs = bs} {k = k} zero l r ia ok single sp q =
      let closed = Open k ∷ (pieces k bs ++ Close ∷ []) in
      goes (0xff ∷ []) rest (rw append_assoc (between (suc i) (ms ++ closed) l
      (add_element i u ms r (v ++ 0xff ∷ []) closed (close_last k v bs ia ok)) (λ on.
      simp append_assoc at (spelled_then (u ++ v) (ms ++ Open k ∷ pieces k bs) (0xff ∷ []) (Close ∷ []) (sp on) refl
      (tt, tt))))) q (omega arith)
  break_step {i = i} {v = v} {rest = rest} {ms = ms} {bs = bs} {k = k} (suc j) l r ia ok single sp q =
      goes (0xff ∷ []) rest (rw append_assoc (within i j ms bs k l r (close_inner k j v bs ia) ok
      (λ on. absurd (let never = single on in omega arith)) (λ on. absurd (let never = single on in omega arith)))) q
      (omega arith)

  -- The steps within a string.
  module _ {i j : ℕ} {u v : List ℕ} {ms : List Mark} {bs : List (List ℕ)} {k : Kind} (l : i < n) (r : IsRun i u ms)
      (ia : IsInsideAt k (suc j) v bs) (ok : AreWritable k bs) (single : allowed ≡ Shortest → j ≡ 0)
      (sp : Spelled (u ++ v) (ms ++ Open k ∷ pieces k bs) []) where
    reach : Reaches n (u ++ v) (ms ++ Open k ∷ pieces k bs) (In k)
    reach = inside l r (counted k (suc j) v bs ia) ok

    -- The step over a title that is taken, within a string.
    in_titled : {s t : List ℕ} {x : Header} (rest : List ℕ) → ViewIn k x → IsTitle t x → IsTakenTitle allowed t x
        → s ≡ t ++ rest → Step (u ++ v) s
    in_titled {x = x} rest (in_misplaced f) p taken q =
        fails (faulty reach sp (OtherTitle x rest p (inl f) q))
    in_titled {t = t} rest in_break p taken q =
        break_step j l r ia ok single sp (rw (alone_bytes t h.Break p refl) at q)
    in_titled {t = t} rest in_open p taken q =
        elim (either_allowed allowed) [
          | inl on ↦ fails (faulty reach sp (OtherTitle _ rest p (inr (on, refl)) q))
          | inr off ↦ goes t rest (rw append_assoc (within i (suc j) ms bs k l r (add_open k (suc j) v t bs ia p) ok
              (λ on. absurd (let a = off in cc)) (λ on. absurd (let a = off in cc)))) q (title_some t _ p)
        ]
    in_titled {t = t} rest (in_definite m) p taken q =
        body_step t rest (body_inside reach p)
        (λ on. let d = rw on at taken in spelled_title (u ++ v) _ t _ (sp on) d.shortest) q (λ b more e len good.
        goes (t ++ b) more (rw append_assoc (within i j ms (bs ++ b ∷ []) k l r
        (add_string k (suc j) v (t ++ b) bs (b ∷ []) ia (definite (rw (sym len) at p)))
        (AreWritable-append k bs (b ∷ []) ok (good, tt)) single (λ on.
        let d = rw on at taken in
        simp pieces-append (simp append_assoc at (spelled_then (u ++ v) (ms ++ Open k ∷ pieces k bs)
        (t ++ b) (Piece k b ∷ []) (sp on) (body_same k b d.shortest len) (tt, tt)))))) e
        (omega (arith, title_some t _ p, length-append t b)))

  -- The step at any place.
  step : {u : List ℕ} → Going u → (s : List ℕ) → AreBytes s → Step u s
  step {u = u} (between i ms l r sp) s f =
      elim (cases_lt i n) [
        | inl less ↦ title_step (due less r) tt sp
            (λ t rest x p taken q. due_titled rest (view_of x) less r sp p taken q) (sight s f)
        | inr all ↦ (
            let same : i ≡ n = omega arith in
            whole (record { elements = u; marks = ms; rest = s; run = rw same at r; is = refl; spelled = sp })
            )
      ]
  step (within i j ms bs k l r ia ok single sp) s f =
      title_step (reach l r ia ok single sp) tt sp
      (λ t rest x p taken q. in_titled l r ia ok single sp rest (view_in k x) p taken q) (sight s f)

  -- ---- all steps

  -- All steps, by induction on the number of bytes ahead.
  all_steps : (fuel : ℕ) {u : List ℕ} (s : List ℕ) → length s < fuel → Going u → AreBytes s
      → BeginsWithElements allowed n (u ++ s) ⊎ HasFault allowed n (u ++ s)
  all_steps zero s l g f = absurd (omega arith)
  all_steps (suc fuel) {u = u} s l g f =
      elim (step g s f) [
        | whole r ↦ inl r
        | fails r ↦ inr r
        | goes t rest g' e some ↦ (
            let counted = simp length-append at (ap length e) in
            rw (e, ← append_assoc u t rest) (all_steps fuel rest (omega arith) g' (AreBytes-rest t rest (rw e at f)))
            )
      ]

-- Any bytes begin with a run of `n` elements, or a fault stops it.
pub complete : (allowed : Spelling) (n : ℕ) (x : List ℕ) → AreBytes x → BeginsWithElements allowed n x
    ⊎ HasFault allowed n x
complete allowed n x f =
    all_steps allowed n (suc (length x)) x (omega arith) (between 0 [] (omega arith) done (λ on. spelled_none)) f
