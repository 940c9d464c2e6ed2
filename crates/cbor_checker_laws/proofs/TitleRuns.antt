-- A run over a title.
use Rattle.std.proofs.Common.{◌≡◌, ℕ, suc, ◌+◌, List, [], ◌∷◌, ◌++◌, length, length-append, refl, sym, ap, subst}
use Rattle.std.proofs.Common.{◌∙◌, arith, append_assoc, append-nil}
use Rattle.std.proofs.lemmas.Bool.Decides.{nat_tests}
use Rattle.ciborium_ll_grammar.specs.declared.spelling.Spelling.{Spelling}
use Rattle.ciborium_ll_grammar.specs.declared.hdr.Header.{Header}
use Rattle.ciborium_ll_grammar.specs.Title.{IsTitle, IsCutTitle}
use Rattle.ciborium_ll_grammar.specs.Items.{IsTakenTitle}
use Rattle.ciborium_ll_grammar.proofs.TitleLaws.{one_title}
use Rattle.ciborium_ll_grammar.proofs.AffixLaws.{title_not_cut}
use Rattle.ciborium_ll_grammar.proofs.AloneLaws.{title_some}
use Rattle.ciborium_ll_grammar.specs.declared.remaining.Remaining.{Remaining}
use Rattle.cbor_checker.specs.declared.phase.Phase.TheVariants as p
use Rattle.cbor_checker.specs.declared.phase.Fault.{Fault}
use Rattle.cbor_checker.specs.declared.phase.Fault.TheVariants as f
use Rattle.cbor_parser.specs.declared.strings.Within.{Within}
use Rattle.ciborium_ll_grammar.specs.Remaining.{next}
use Rattle.cbor_checker.specs.Spots.{Spot, settled, entered, text_due}
use Rattle.cbor_checker.specs.Steps.{TitleStep, cut, early, whole, none}
use Rattle.cbor_checker_laws.proofs.Runs.{Runs, faulted, fault_of, next_of, On, at}

-- ---- the part that is due after a title does not depend on the number of bytes before

abbrev pub Faults : Fault → Spot → Type 0
Faults fault spot = spot.phase ≡ p.Faulted fault

settled_moved : (gs : List Remaining) (d a n : ℕ) (u : Spot)
    → (settled d gs (record u { place = a; offset = n })).phase ≡ (settled d gs u).phase
settled_moved [] d a n u = refl
settled_moved (g ∷ gs) d a n u = let same = settled_moved gs (suc d) a n u in grind (arith, nat_tests)

text_moved : (len a n : ℕ) (u : Spot)
    → (text_due len (record u { place = a; offset = n })).phase ≡ (text_due len u).phase
text_moved len a n u = grind (arith, nat_tests, settled_moved)

entered_moved : (i : Within) (x : Header) (n : ℕ) (u : Spot)
    → (entered i x (record u { offset = n })).phase ≡ (entered i x u).phase
entered_moved i x n u = grind (arith, nat_tests, settled_moved, text_moved)

-- ---- a title

-- The run goes on after a title, or a fault is known before its end, or the title is not taken.
pub data Titled (fault : Fault) (s : Spelling) (i : Within) (d : ℕ) (gs : List Remaining) (a n : ℕ) (x : Header)
    (title rest : List ℕ) : Type 0 where
  taken : IsTakenTitle s title x → Runs fault (entered i x (at s i d gs a n)) rest
      → Titled fault s i d gs a n x title rest
  known : (entered i x (at s i d gs a n)).phase ≡ p.Faulted fault → Titled fault s i d gs a n x title rest
  untaken : (IsTakenTitle s title x → ⊥) → fault ≡ f.Syntax a → Titled fault s i d gs a n x title rest

module _ (fault : Fault) (s : Spelling) (i : Within) (d : ℕ) (gs : List Remaining) (a end : ℕ) (x : Header)
    (t rest : List ℕ)
    (q : IsTitle t x) where
  -- Some bytes of the title came.
  abbrev amid : ℕ → List ℕ → ℕ → Spot
  amid c cs n = record (at s i d gs a n) { front = c ∷ cs }

  abbrev Out : Type 0
  Out = Titled fault s i d gs a end x t rest

  stepped : (c : ℕ) (cs m : List ℕ) (n : ℕ) (next : Spot) → (c ∷ cs) ++ m ≡ t → n + length m ≡ end
      → TitleStep (amid c cs n) next → Runs fault next (m ++ rest)
      → (IsCutTitle (c ∷ cs) → Runs fault (amid c cs n) (m ++ rest) → Out) → Out
  stepped c cs m n next e counts (cut is_cut some may) runs on = on is_cut runs
  stepped c cs m n next e counts (early other is_cut some all) runs on =
      let one = fault_of fault other next (m ++ rest) refl runs in
      known (entered_moved i x end (at s i d gs a n) ∙ (all m x (rw e q) ∙ ap p.Faulted (sym one)))
  stepped c cs m n next e counts (whole y q' g) runs on =
      let o = one_title (c ∷ cs) t m [] y x q' q (e ∙ sym (append-nil t)) in
      let nothing = ap length o.2 in
      let here : n ≡ end = omega (arith, nothing, counts) in
      taken (rw (o.0, o.1) at g) (rw (o.1, o.2, here) at runs)
  stepped c cs m n next e counts (none never) runs on =
      untaken (λ g. never m t [] x q g (e ∙ sym (append-nil t)))
      (fault_of fault (f.Syntax a) next (m ++ rest) refl runs)

  -- The run goes on after a part of the title.
  later : (m : List ℕ) (c : ℕ) (cs : List ℕ) (n : ℕ) → (c ∷ cs) ++ m ≡ t → n + length m ≡ end → IsCutTitle (c ∷ cs)
      → Runs fault (amid c cs n) (m ++ rest) → Out
  later [] c cs n e counts is_cut runs =
      let same : c ∷ cs ≡ t ++ [] = sym (append-nil (c ∷ cs)) ∙ (e ∙ sym (append-nil t)) in
      absurd (title_not_cut t [] x q (subst IsCutTitle same is_cut))
  later (b ∷ m) c cs n e counts is_cut runs =
      let o = next_of p.Title refl refl runs in
      let e' = append_assoc (c ∷ cs) (b ∷ []) m ∙ e in
      let counts' : n + 1 + length m ≡ end = omega (arith, counts) in
      stepped c (cs ++ b ∷ []) m (n + 1) o.next e' counts' o.step o.runs (later m c (cs ++ b ∷ []) (n + 1) e' counts')

-- A run over a title goes on, meets a fault before its end, or does not take it.
pub title_run : (fault : Fault) (s : Spelling) (i : Within) (d : ℕ) (gs : List Remaining) (a n : ℕ) (x : Header)
    (title rest : List ℕ) → IsTitle title x → Runs fault (at s i d gs a n) (title ++ rest)
    → Titled fault s i d gs n (n + length title) x title rest
title_run fault s i d gs a n x [] rest q runs = absurd (let some = title_some [] x q in omega (arith, some))
title_run fault s i d gs a n x (b ∷ m) rest q runs =
    let o = next_of p.Title refl refl runs in
    let counts : n + 1 + length m ≡ n + length (b ∷ m) = omega arith in
    stepped fault s i d gs n (n + length (b ∷ m)) x (b ∷ m) rest q b [] m (n + 1) o.next refl counts o.step o.runs
    (later fault s i d gs n (n + length (b ∷ m)) x (b ∷ m) rest q m b [] (n + 1) refl counts)

-- After a title that is taken, the run goes on.
pub taken_run : (fault : Fault) (s : Spelling) (i : Within) (d : ℕ) (gs : List Remaining) (a n : ℕ) (x : Header)
    (title rest : List ℕ) → IsTitle title x → IsTakenTitle s title x → Runs fault (at s i d gs a n) (title ++ rest)
    → Runs fault (entered i x (at s i d gs n (n + length title))) rest
taken_run fault s i d gs a n x title rest q g runs =
    elim (title_run fault s i d gs a n x title rest q runs) [
      | taken g' on ↦ on
      | known is ↦ faulted is
      | untaken never is ↦ absurd (never g)
    ]

pub taken_on : {fault : Fault} {all : ℕ} {s : Spelling} {i : Within} {d : ℕ} {gs : List Remaining} (x : Header)
    (title rest : List ℕ) → IsTitle title x → IsTakenTitle s title x → On fault all (at s i d gs) (title ++ rest)
    → On fault all (λ a n. entered i x (at s i d gs a n)) rest
taken_on {fault} {s = s} {i = i} {d = d} {gs = gs} x title rest q g o = record {
  place = o.offset;
  offset = o.offset + length title;
  counts = omega (arith, o.counts, length-append title rest);
  runs = taken_run fault s i d gs o.place o.offset x title rest q g o.runs;
}
