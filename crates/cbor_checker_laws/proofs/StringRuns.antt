-- A run over the body of a string, and over strings within an open string.
use Rattle.std.proofs.Common.{◌≡◌, ℕ, zero, suc, ◌+◌, ◌≤◌, Bool, true, false, List, [], ◌∷◌, ◌++◌, length, take, refl}
use Rattle.std.proofs.Common.{ap, subst, ◌∙◌, arith, Some, None, append_assoc}
use Rattle.std.proofs.lemmas.Bool.Decides.{nat_tests}
use Rattle.ciborium_ll_text.specs.declared.state.State.{State}
use Rattle.ciborium_ll_text.specs.declared.state.State.TheVariants as st
use Rattle.ciborium_ll_text.specs.States.{after, after_byte, may_end}
use Rattle.ciborium_ll_text.proofs.EndLaws.{none_left, text_may_end}
use Rattle.cbor_checker.specs.declared.phase.Phase.TheVariants as p
use Rattle.cbor_checker.specs.declared.phase.Fault.{Fault}
use Rattle.cbor_checker.specs.declared.phase.Fault.TheVariants as f
use Rattle.cbor_parser.specs.declared.strings.StringKind.TheVariants as sk
use Rattle.cbor_parser.specs.declared.strings.Within.{Within}
use Rattle.cbor_checker.specs.Spots.{Spot, string_done, bytes_due, text_due}
use Rattle.cbor_checker.specs.Steps.{text_left}
use Rattle.cbor_checker.proofs.LeadLaws.{between_ends, due_alike, left_alike}
use Rattle.ciborium_ll_grammar.specs.declared.remaining.Remaining.{Remaining}
use Rattle.cbor_checker_laws.proofs.Runs.{Runs, fault_of, next_of, some_due, On, on_to, at, inside}
use Rattle.ciborium_ll_grammar.specs.declared.spelling.Spelling.{Spelling}
use Rattle.ciborium_ll_grammar.specs.declared.spelling.Spelling.TheVariants.{Any, Shortest}
use Rattle.ciborium_ll_grammar.specs.declared.hdr.Header.TheVariants as h
use Rattle.ciborium_ll_grammar.specs.Title.{IsTitle}
use Rattle.ciborium_ll_grammar.specs.Strings.{Kind, Bytes, Text, kind_header, IsString, AreStrings, IsWritable}
use Rattle.ciborium_ll_grammar.specs.Strings.IsString.{definite, indefinite}
use Rattle.ciborium_ll_grammar.specs.Strings.AreStrings.{none, more}
use Rattle.ciborium_ll_grammar.specs.Elements.{AreWritable}
use Rattle.ciborium_ll_grammar.specs.Items.{IsTakenTitle, AreTakenStrings}
use Rattle.ciborium_ll_grammar.specs.StrictElements.{AreFlat, none as no_flat, more as more_flat}
use Rattle.ciborium_ll_grammar.proofs.ElementLaws.{AreWritable-left, AreWritable-right}
use Rattle.ciborium_ll_grammar.proofs.StringLaws.{break_title}
use Rattle.ciborium_ll_text.proofs.StateLaws.{text_ends}
use Rattle.cbor_parser.specs.declared.strings.Within.TheVariants as w
use Rattle.cbor_checker_laws.proofs.TitleRuns.{taken_on}

-- The bytes begin with no text of `len` bytes.
abbrev pub NoText : State → ℕ → List ℕ → Type 0
NoText state len due = len ≤ length due → after state (take len due) ≡ st.Between → ⊥

text_begins : (len : ℕ) (spot : Spot) → text_due len spot ≡ text_left true len st.Between spot
text_begins len spot = grind (arith, nat_tests)

-- The run goes on after one more byte.
one_on : {fault : Fault} {all b : ℕ} {to : ℕ → ℕ → Spot} {rest : List ℕ} (to' : ℕ → ℕ → Spot)
    → (o : On fault all to (b ∷ rest)) → Runs fault (to' o.place (o.offset + 1)) rest → On fault all to' rest
one_on to' o runs = record { place = o.place; offset = o.offset + 1; counts = omega (arith, o.counts); runs = runs }

module _ {fault : Fault} {all : ℕ} (s : Spelling) (i : Within) (d : ℕ) (gs : List Remaining) where
  -- The run leads over the body of a byte string.
  pub bytes_on : (body rest : List ℕ) → On fault all (λ a n. bytes_due (length body) (at s i d gs a n)) (body ++ rest)
      → On fault all (λ a n. string_done i (at s i d gs a n)) rest
  bytes_on [] rest o = o
  bytes_on (b ∷ body) rest o =
      let here = p.Bytes (suc (length body)) in
      let g = next_of here refl refl o.runs in
      let same = g.step ∙ due_alike (length body) (at s i d gs o.place (o.offset + 1)) here in
      bytes_on body rest (one_on _ o (subst (λ (z : Spot). Runs fault z (body ++ rest)) same g.runs))

  -- The run leads over the rest of a text.
  rest_on : (state : State) (body rest : List ℕ) → after state body ≡ st.Between
      → On fault all (λ a n. text_left true (length body) state (at s i d gs a n)) (body ++ rest)
      → On fault all (λ a n. string_done i (at s i d gs a n)) rest
  rest_on state [] rest ends o = o
  rest_on state (b ∷ body) rest ends o =
      let len = length body in
      let here = p.Text (suc len) state in
      let g = next_of here refl refl o.runs in
      let to = after_byte state b in
      let u = at s i d gs o.place (o.offset + 1) in
      let same = g.step ∙ (left_alike (may_end to len) len to u here
      ∙ ap (λ (z : Bool). text_left z len to u) (text_may_end to body ends)) in
      rest_on to body rest ends (one_on _ o (subst (λ (z : Spot). Runs fault z (body ++ rest)) same g.runs))

  -- The run leads over the body of a text.
  pub text_on : (body rest : List ℕ) → after st.Between body ≡ st.Between
      → On fault all (λ a n. text_due (length body) (at s i d gs a n)) (body ++ rest)
      → On fault all (λ a n. string_done i (at s i d gs a n)) rest
  text_on body rest ends o =
      rest_on st.Between body rest ends (on_to _ (λ a n. text_begins (length body) (at s i d gs a n)) o)

-- ---- a body that is no text

module _ (fault : Fault) (s : Spelling) (i : Within) (d : ℕ) (gs : List Remaining) (a : ℕ) where
  -- After a byte there is a fault, or the text goes on.
  next_fails : (may : Bool) (left : ℕ) (to : State) (n : ℕ) (rest : List ℕ)
      → Runs fault (text_left may left to (at s i d gs a n)) rest
      → (may ≡ true → Runs fault (text_left true left to (at s i d gs a n)) rest → fault ≡ f.Syntax a)
      → fault ≡ f.Syntax a
  next_fails false left to n rest runs on = fault_of fault (f.Syntax a) _ rest refl runs
  next_fails true left to n rest runs on = on refl runs

  text_fails : (left : ℕ) (state : State) (due : List ℕ) (n : ℕ) → may_end state left ≡ true
      → Runs fault (text_left true left state (at s i d gs a n)) due → NoText state left due → fault ≡ f.Syntax a
  text_fails zero state due n may runs never = absurd (never (omega arith) (none_left state may))
  text_fails (suc k) state [] n may runs never = absurd (some_due (p.Text (suc k) state) refl refl runs)
  text_fails (suc k) state (b ∷ due) n may runs never =
      let here = p.Text (suc k) state in
      let g = next_of here refl refl runs in
      let to = after_byte state b in
      let same = g.step ∙ left_alike (may_end to k) k to (at s i d gs a (n + 1)) here in
      next_fails (may_end to k) k to (n + 1) due (subst (λ (z : Spot). Runs fault z due) same g.runs)
      (λ may' runs'. text_fails k to due (n + 1) may' runs' (λ fits ends. never (omega (arith, fits)) ends))

  -- A fault in a body that is no text names the body's place.
  pub no_text : (len : ℕ) (due : List ℕ) (n : ℕ) → Runs fault (text_due len (at s i d gs a n)) due
      → NoText st.Between len due → fault ≡ f.Syntax a
  no_text len due n runs never =
      text_fails len st.Between due n (between_ends len)
      (subst (λ (z : Spot). Runs fault z due) (text_begins len (at s i d gs a n)) runs) never

-- ---- strings within an open string

-- The one title of a break is taken.
pub break_taken : (s : Spelling) → IsTakenTitle s (0xff ∷ []) h.Break
break_taken s = grind (arith, nat_tests)

module _ (fault : Fault) (all : ℕ) (s : Spelling) (d : ℕ) (gs : List Remaining) where
  -- The run is within `j` open strings and one more.
  abbrev pub Inside : Kind → ℕ → List ℕ → Type 0
  Inside k j due = On fault all (at s (inside k j) d gs) due

  -- The run leads over a string of a definite length.
  whole_on : (k : Kind) (j : ℕ) (t body rest : List ℕ) → IsTitle t (kind_header k (Some (length body)))
      → IsTakenTitle s t (kind_header k (Some (length body))) → IsWritable k body → Inside k j (t ++ (body ++ rest))
      → Inside k j rest
  whole_on Bytes j t body rest q g sound o =
      bytes_on s (w.Open sk.Bytes j) d gs body rest (taken_on (h.Bytes (Some (length body))) t (body ++ rest) q g o)
  whole_on Text j t body rest q g sound o =
      text_on s (w.Open sk.Text j) d gs body rest (text_ends body sound)
      (taken_on (h.Text (Some (length body))) t (body ++ rest) q g o)

  -- The run leads over an open.
  pub open_on : (k : Kind) (j : ℕ) (t rest : List ℕ) → s ≡ Any → IsTitle t (kind_header k None)
      → Inside k j (t ++ rest) → Inside k (suc j) rest
  open_on Bytes j t rest any q o = rw any (taken_on (h.Bytes None) t rest q tt (rw any at o))
  open_on Text j t rest any q o = rw any (taken_on (h.Text None) t rest q tt (rw any at o))

  -- The run leads over a break that ends an inner string.
  close_on : (k : Kind) (j : ℕ) (rest : List ℕ) → Inside k (suc j) (0xff ∷ rest) → Inside k j rest
  close_on Bytes j rest o = taken_on h.Break (0xff ∷ []) rest break_title (break_taken s) o
  close_on Text j rest o = taken_on h.Break (0xff ∷ []) rest break_title (break_taken s) o

  -- The run leads over any strings, if any spelling is taken.
  module _ (k : Kind) (any : s ≡ Any) where
    mutual
      string_on : {u : List ℕ} {bs : List (List ℕ)} → IsString k u bs → (j : ℕ) (rest : List ℕ) → AreWritable k bs
          → Inside k j (u ++ rest) → Inside k j rest
      string_on (definite {title = t} {body = b} q) j rest sound o =
          whole_on k j t b rest q (rw any tt) sound.0 (rw append_assoc at o)
      string_on (indefinite {title = t} {strings = z} q i) j rest sound o =
          close_on k j rest (strings_on i (suc j) (0xff ∷ rest) sound
          (open_on k j t (z ++ 0xff ∷ rest) any q (simp append_assoc at o)))

      strings_on : {u : List ℕ} {bs : List (List ℕ)} → AreStrings k u bs → (j : ℕ) (rest : List ℕ) → AreWritable k bs
          → Inside k j (u ++ rest) → Inside k j rest
      strings_on none j rest sound o = o
      strings_on (more {rest = v} {bodies = cs} {others = ds} i others) j rest sound o =
          strings_on others j rest (AreWritable-right k cs ds sound)
          (string_on i j (v ++ rest) (AreWritable-left k cs ds sound) (rw append_assoc at o))

-- The run leads over strings of a definite length, each under a strict title.
pub flat_on : (fault : Fault) (all : ℕ) (d : ℕ) (gs : List Remaining) (k : Kind) {u : List ℕ} {bs : List (List ℕ)}
    → AreFlat k u bs → (j : ℕ) (rest : List ℕ) → AreWritable k bs → Inside fault all Shortest d gs k j (u ++ rest)
    → Inside fault all Shortest d gs k j rest
flat_on fault all d gs k no_flat j rest sound o = o
flat_on fault all d gs k (more_flat {title = t} {body = b} {rest = v} q g f) j rest sound o =
    flat_on fault all d gs k f j rest sound.1
    (whole_on fault all Shortest d gs k j t b (v ++ rest) q g sound.0 (simp append_assoc at o))

-- The run leads over strings that are taken.
pub strings_taken_on : (fault : Fault) (all : ℕ) (s : Spelling) (d : ℕ) (gs : List Remaining) (k : Kind) (u : List ℕ)
    (bs : List (List ℕ)) (j : ℕ) (rest : List ℕ) → AreStrings k u bs → AreTakenStrings s k u bs → AreWritable k bs
    → Inside fault all s d gs k j (u ++ rest) → Inside fault all s d gs k j rest
strings_taken_on fault all Shortest d gs k u bs j rest are taken sound o = flat_on fault all d gs k taken j rest sound o
strings_taken_on fault all Any d gs k u bs j rest are taken sound o =
    strings_on fault all Any d gs k refl are j rest sound o
