-- No element begins another element. The spelling of a run's marks is a run of the same marks, and no longer.
use Rattle.std.proofs.Common.{◌≡◌, ℕ, ◌≤◌, List, [], ◌∷◌, ◌++◌, length, Option, None, refl, sym, ap, ◌∙◌, append_assoc}
use Rattle.std.proofs.Common.{inl, inr, arith}
use Rattle.std.proofs.lemmas.List.{append-nil, length-append}
use Rattle.ciborium_ll_grammar.specs.declared.hdr.Header.{Header}
use Rattle.ciborium_ll_grammar.specs.Title.{IsTitle, shortest_title}
use Rattle.ciborium_ll_grammar.specs.Strings.{Kind, Bytes, kind_header, IsString, AreStrings, none, more}
use Rattle.ciborium_ll_grammar.specs.Strings.IsString.{definite, indefinite}
use Rattle.ciborium_ll_grammar.specs.Elements.{AreWritable, Mark, Open, Piece, Close, IsPlain, mark_spelling, spelling}
use Rattle.ciborium_ll_grammar.specs.Elements.{pieces, IsElement, plain, string, IsRun, done, next}
use Rattle.ciborium_ll_text.proofs.Lists.{same_front}
use Rattle.ciborium_ll_grammar.proofs.TitleLaws.{one_title, title_in_range, IsTitle-shortest, shortest_or_longer}
use Rattle.ciborium_ll_grammar.proofs.TitleLaws.{LeastOr}
use Rattle.ciborium_ll_grammar.proofs.StringLaws.{one_strings_then}
pub use Rattle.ciborium_ll_grammar.proofs.StringLaws.{string_fronts}

-- The bytes, the marks and the rests are the same.
abbrev pub SameElement : List ℕ → List ℕ → List Mark → List Mark → List ℕ → List ℕ → Type 0
SameElement w w' ms ms' v v' = (w ≡ w') × (ms ≡ ms') × (v ≡ v')

-- The header of a string is not plain.
pub not_plain : (k : Kind) (o : Option ℕ) → IsPlain (kind_header k o) → ⊥
not_plain k o p = grind arith

-- The title of a plain header begins no string.
plain_string : (w v w' v' : List ℕ) (x : Header) (k : Kind) (bs : List (List ℕ)) → IsTitle w x → IsPlain x
    → IsString k w' bs → w ++ v ≡ w' ++ v' → ⊥
plain_string w v w' v' x k bs p q s e = grind (arith, not_plain, one_title, append_assoc)

-- No element begins another element, and each element has one list of marks.
pub one_element : (w w' v v' : List ℕ) (ms ms' : List Mark) → IsElement w ms → IsElement w' ms' → w ++ v ≡ w' ++ v'
    → SameElement w w' ms ms' v v'
one_element w w' v v' ms ms' (plain x p q) (plain x' p' q') e = grind (arith, one_title w w' v v' x x' p p' e)
one_element w w' v v' ms ms' (plain x p q) (string k s f) e = absurd (plain_string w v w' v' x k _ p q s e)
one_element w w' v v' ms ms' (string k s f) (plain x p q) e = absurd (plain_string w' v' w v x k _ p q s (sym e))
one_element w w' v v' ms ms' (string k (definite p) f) (string k' (definite p') f') e =
    grind (arith, string_fronts, same_front, append_assoc)
one_element w w' v v' ms ms' (string k (definite p) f) (string k' (indefinite p' q') f') e =
    absurd (grind (arith, string_fronts, append_assoc))
one_element w w' v v' ms ms' (string k (indefinite p q) f) (string k' (definite p') f') e =
    absurd (grind (arith, string_fronts, append_assoc))
one_element w w' v v' ms ms' (string k (indefinite p q) f) (string k' (indefinite p' q') f') e =
    grind (arith, string_fronts, one_strings_then, append_assoc)

-- No run begins another run of as many elements, and each run has one list of marks.
pub one_run : (n : ℕ) (w : List ℕ) (ms : List Mark) → IsRun n w ms → (w' v v' : List ℕ) (ms' : List Mark)
    → IsRun n w' ms' → w ++ v ≡ w' ++ v' → SameElement w w' ms ms' v v'
one_run n w ms done w' v v' ms' done e = (refl, refl, e)
one_run n w ms (next {rest = y} a r) w' v v' ms' (next {rest = y'} a' r') e =
    let f = one_element _ _ (y ++ v) (y' ++ v') _ _ a a' (simp append_assoc at e) in
    let g = one_run _ y _ r y' v v' _ r' f.2 in
    grind arith

-- ---- bodies that may be written

-- A copy may write the bodies of any byte strings.
pub bytes_writable : (bs : List (List ℕ)) → AreWritable Bytes bs
bytes_writable [] = tt
bytes_writable (b ∷ bs) = (tt, bytes_writable bs)

-- If a copy may write joined lists of bodies, it may write the first list.
pub AreWritable-left : (k : Kind) (bs cs : List (List ℕ)) → AreWritable k (bs ++ cs) → AreWritable k bs
AreWritable-left k [] cs s = tt
AreWritable-left k (b ∷ bs) cs s = (s.0, AreWritable-left k bs cs s.1)

-- If a copy may write joined lists of bodies, it may write the second list.
pub AreWritable-right : (k : Kind) (bs cs : List (List ℕ)) → AreWritable k (bs ++ cs) → AreWritable k cs
AreWritable-right k [] cs s = s
AreWritable-right k (b ∷ bs) cs s = AreWritable-right k bs cs s.1

-- If a copy may write two lists of bodies, it may write them joined.
pub AreWritable-append : (k : Kind) (bs cs : List (List ℕ)) → AreWritable k bs → AreWritable k cs
    → AreWritable k (bs ++ cs)
AreWritable-append k [] cs p q = q
AreWritable-append k (b ∷ bs) cs p q = (p.0, AreWritable-append k bs cs p.1 q)

-- ---- the spelling

-- If a header has a title, its shortest title is a title of it.
IsTitle-shortest_of : (w : List ℕ) (x : Header) → IsTitle w x → IsTitle (shortest_title x) x
IsTitle-shortest_of w x t = IsTitle-shortest x (title_in_range w x t)

-- The spelling of joined lists of marks is their spellings, joined.
pub spelling-append : (ms ns : List Mark) → spelling (ms ++ ns) ≡ spelling ms ++ spelling ns
spelling-append [] ns = refl
spelling-append (m ∷ ms) ns = rw append_assoc (ap (λ y. mark_spelling m ++ y) (spelling-append ms ns))

-- The pieces of joined lists of bodies are their pieces, joined.
pub pieces-append : (k : Kind) (bs cs : List (List ℕ)) → pieces k (bs ++ cs) ≡ pieces k bs ++ pieces k cs
pieces-append k [] cs = refl
pieces-append k (b ∷ bs) cs = ap (λ y. Piece k b ∷ y) (pieces-append k bs cs)

-- The spelling of the pieces of joined lists of bodies is their spellings, joined.
pub pieces_spelled : (k : Kind) (bs cs : List (List ℕ))
    → spelling (pieces k (bs ++ cs)) ≡ spelling (pieces k bs) ++ spelling (pieces k cs)
pieces_spelled k bs cs = ap spelling (pieces-append k bs cs) ∙ spelling-append (pieces k bs) (pieces k cs)

-- Two lists of strings joined are a list of strings.
pub AreStrings-append : (k : Kind) (w : List ℕ) (bs : List (List ℕ)) → AreStrings k w bs
    → (v : List ℕ) (cs : List (List ℕ)) → AreStrings k v cs → AreStrings k (w ++ v) (bs ++ cs)
AreStrings-append k w bs none v cs r = r
AreStrings-append k w bs (more {rest = y} s ss) v cs r = simp append_assoc (more s (AreStrings-append k y _ ss v cs r))

-- If each of two lists is the shortest or longer, so is the joined list.
least_append : (a b a' b' : List ℕ) → LeastOr a a' → LeastOr b b' → LeastOr (a ++ b) (a' ++ b')
least_append a b a' b' p q = grind (arith, length-append {A = ℕ})

-- The spelling of the pieces is strings with the same bodies. It is the bytes themselves, or shorter.
pub record Respelled (k : Kind) (w : List ℕ) (bs : List (List ℕ)) : Type 0 where
  pub strings : AreStrings k (spelling (pieces k bs)) bs
  pub least : LeastOr w (spelling (pieces k bs))
  -- The spelling is no longer than the bytes.
  pub shorter : length (spelling (pieces k bs)) ≤ length w

respelled : (k : Kind) (w : List ℕ) (bs : List (List ℕ)) → AreStrings k (spelling (pieces k bs)) bs
    → LeastOr w (spelling (pieces k bs)) → Respelled k w bs
respelled k w bs strings least = record { strings = strings; least = least; shorter = grind arith }

mutual
  -- The spelling of a string's pieces is strings with the same bodies, and no longer than the string.
  pub respell_one : (k : Kind) (w : List ℕ) (bs : List (List ℕ)) → IsString k w bs → Respelled k w bs
  respell_one k w bs (definite {title = t} {body = b} p) =
      respelled k (t ++ b) _ (more (definite (IsTitle-shortest_of t _ p)) none)
      (rw append-nil (least_append t b _ b (shortest_or_longer _ t p) (inl refl)))
  respell_one k w bs (indefinite {title = t} {strings = x} p q) =
      let r = respell_all k x bs q in
      respelled k _ bs r.strings (inr (let l = r.shorter in simp length-append (omega arith)))

  -- The spelling of the pieces of strings is strings with the same bodies, and no longer.
  pub respell_all : (k : Kind) (w : List ℕ) (bs : List (List ℕ)) → AreStrings k w bs → Respelled k w bs
  respell_all k w bs none = respelled k [] [] none (inl refl)
  respell_all k w bs (more {first = x} {rest = y} {bodies = ds} {others = es} s ss) =
      let a = respell_one k x ds s in
      let b = respell_all k y es ss in
      respelled k (x ++ y) (ds ++ es)
      (rw pieces_spelled (AreStrings-append k _ ds a.strings _ es b.strings))
      (rw pieces_spelled (least_append x y _ _ a.least b.least))

-- The spelling of a string of indefinite length is its open, its pieces and a break.
pub open_spelled : (k : Kind) (bs : List (List ℕ))
    → spelling (Open k ∷ (pieces k bs ++ Close ∷ [])) ≡ shortest_title (kind_header k None) ++
    (spelling (pieces k bs) ++ 0xff ∷ [])
open_spelled k bs = ap (λ y. shortest_title (kind_header k None) ++ y) (spelling-append (pieces k bs) (Close ∷ []))

-- An element is the spelling of its marks, or longer.
pub least_element : (w : List ℕ) (ms : List Mark) → IsElement w ms → LeastOr w (spelling ms)
least_element w ms (plain x p q) = rw append-nil (shortest_or_longer x w p)
least_element w ms (string k (definite p) s) = (respell_one k w _ (definite p)).least
least_element w ms (string k (indefinite {title = t} {strings = y} p q) s) =
    rw open_spelled (least_append t _ _ _ (shortest_or_longer _ t p)
    (least_append y _ _ _ (respell_all k y _ q).least (inl refl)))

-- A run is the spelling of its marks, or longer.
pub least_run : (n : ℕ) (w : List ℕ) (ms : List Mark) → IsRun n w ms → LeastOr w (spelling ms)
least_run n w ms done = inl refl
least_run n w ms (next {first = x} {rest = y} a r) =
    rw spelling-append (least_append x y _ _ (least_element x _ a) (least_run _ y _ r))

-- The spelling of the marks is an element with the same marks, and no longer than the bytes.
pub record Again (w : List ℕ) (ms : List Mark) : Type 0 where
  pub element : IsElement (spelling ms) ms
  -- The spelling is no longer than the bytes.
  pub shorter : length (spelling ms) ≤ length w

-- The spelling of an element's marks is an element with the same marks, and no longer.
pub element_again : (w : List ℕ) (ms : List Mark) → IsElement w ms → Again w ms
element_again w ms e = record { element = spelled w ms e; shorter = grind (arith, least_element w ms e) }
  where
    spelled : (w : List ℕ) (ms : List Mark) → IsElement w ms → IsElement (spelling ms) ms
    spelled w ms (plain x p q) = rw append-nil (plain x (IsTitle-shortest_of w x p) q)
    spelled w ms (string k (definite p) s) = rw append-nil (string k (definite (IsTitle-shortest_of _ _ p)) s)
    spelled w ms (string k (indefinite p q) s) =
        rw open_spelled (string k (indefinite (IsTitle-shortest_of _ _ p) (respell_all k _ _ q).strings) s)

-- The spelling of the marks is a run with the same marks, and no longer than the bytes.
pub record RunAgain (n : ℕ) (w : List ℕ) (ms : List Mark) : Type 0 where
  pub run : IsRun n (spelling ms) ms
  -- The spelling is no longer than the bytes.
  pub shorter : length (spelling ms) ≤ length w

-- The spelling of a run's marks is a run with the same marks, and no longer.
pub run_again : (n : ℕ) (w : List ℕ) (ms : List Mark) → IsRun n w ms → RunAgain n w ms
run_again n w ms done = record { run = done; shorter = omega arith }
run_again n w ms (next {first = x} {rest = y} a r) = record {
  run = rw spelling-append (next (element_again x _ a).element (run_again _ y _ r).run);
  shorter = grind (arith, least_run n w ms (next a r));
}
