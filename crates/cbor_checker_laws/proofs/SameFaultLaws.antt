-- The fault that a checker names stops a skip of the same bytes.
use Rattle.std.proofs.Common.{◌≡◌, ◌⊎◌, ℕ, ◌+◌, ◌-◌, inl, inr, false, List, [], ◌∷◌, ◌++◌, length, take, Some}
use Rattle.std.proofs.Common.{refl, subst, ◌∙◌, arith, append_assoc, length-append}
use Rattle.ciborium_ll_grammar.specs.declared.spelling.Spelling.{Spelling}
use Rattle.ciborium_ll_grammar.specs.declared.hdr.Header.{Header}
use Rattle.ciborium_ll_grammar.specs.declared.hdr.Header.TheVariants as h
use Rattle.ciborium_ll_grammar.specs.Title.{IsTitle, title_len}
use Rattle.ciborium_ll_grammar.specs.Strings.{Kind, Bytes, Text}
use Rattle.ciborium_ll_grammar.specs.Items.{IsTakenTitle}
use Rattle.ciborium_ll_grammar.specs.Faults.{Point, Due, In, BodyDue, IsAtTitle, IsRefusedIn, Answer, Short, Syntax}
use Rattle.ciborium_ll_grammar.specs.Faults.{FirstFault, CutTitle, NoTitle, LongTitle, OtherTitle, DamagedText, CutBody}
use Rattle.ciborium_ll_grammar.specs.Faults.{CutDamagedText}
use Rattle.ciborium_ll_grammar.proofs.StringLaws.{break_title}
use Rattle.ciborium_ll_text.specs.declared.state.State.TheVariants as st
use Rattle.ciborium_ll_text.proofs.StateLaws.{text_from}
use Rattle.cbor_skip.specs.Due.{ReachesItem, at_item, at_body, at_piece}
use Rattle.cbor_skip.specs.ItemFaults.{HasItemFault, HasEarlyBreak, HasDeepNest}
use Rattle.cbor_checker.specs.declared.phase.Fault.{Fault}
use Rattle.cbor_checker.specs.declared.phase.Fault.TheVariants as f
use Rattle.cbor_parser.specs.declared.strings.StringKind.TheVariants as sk
use Rattle.cbor_parser.specs.declared.strings.Within.TheVariants as w
use Rattle.cbor_checker_laws.specs.SameFaults.{NamesSyntax}
use Rattle.cbor_checker_laws.proofs.Runs.{fault_of, at, inside}
use Rattle.cbor_checker_laws.proofs.TitleRuns.{title_run, taken_run}
use Rattle.cbor_checker_laws.proofs.StringRuns.{NoText, no_text, break_taken}
use Rattle.cbor_checker_laws.proofs.ReachRuns.{FromStart, due_reached, item_reached, string_reached, title_reached}
use Rattle.cbor_checker_laws.proofs.FaultRuns.{no_title, string_title, long_due, nest_deep, break_early}

module _ (fault : Fault) (s : Spelling) (depth : ℕ) (due : List ℕ) (runs : FromStart fault s depth due) where
  abbrev Named : Answer → Type 0
  Named Short = Unit {0}
  Named (Syntax at) = NamesSyntax s depth due at fault

  string_named : {before : List ℕ} (t rest : List ℕ) (x : Header) (k : Kind) → ReachesItem s depth before (In k)
      → due ≡ before ++ (t ++ rest) → IsTitle t x → IsRefusedIn s k x ⊎ (IsTakenTitle s t x → ⊥)
      → fault ≡ f.Syntax (length before)
  string_named {before} t rest x k reach e q bad =
      let o = string_reached fault s depth (t ++ rest) due reach runs e in
      let n = length before in
      string_title fault s o.1.left o.1.levels n (n + length t) k o.0 x t rest bad
      (title_run fault s (inside k o.0) o.1.left o.1.levels o.1.place n x t rest q o.1.runs)

  long_named : {before : List ℕ} (t rest : List ℕ) (x : Header) (point : Point) → ReachesItem s depth before point
      → due ≡ before ++ (t ++ rest) → IsAtTitle point → IsTitle t x → (IsTakenTitle s t x → ⊥)
      → Named (Syntax (length before))
  long_named {before} t rest x Due (at_item {levels = left} {closable = c} is) e at_title q never =
      let o = item_reached fault s depth before (t ++ rest) due left c is runs e in
      let n = length before in
      let titled = title_run fault s w.Nothing left o.levels o.place n x t rest q o.runs in
      elim (long_due fault s o.levels n (n + length t) left x t rest q never titled) [
        | inl named ↦ inl named
        | inr deep ↦ inr (let here = rw deep.none_left at is in search, refl, deep.deep)
      ]
  long_named t rest x (In k) reach e at_title q never = inl (string_named t rest x k reach e q (inr never))
  long_named t rest x (BodyDue k len start) reach e at_title q never = absurd at_title

  -- If a body of text is due and is no text, the checker names the body's place.
  text_named : {before : List ℕ} (ahead : List ℕ) (k : Kind) (len start : ℕ) → k ≡ Text
      → ReachesItem s depth before (BodyDue k len start) → due ≡ before ++ ahead → NoText st.Between len ahead
      → fault ≡ f.Syntax start
  text_named ahead Bytes len start is_text reach e none = absurd cc
  text_named ahead Text len start is_text (at_body {bytes = b} {title = t} k reach q taken) e none =
      let o = due_reached fault s depth (t ++ ahead) due reach runs (e ∙ append_assoc b t ahead) in
      let on = taken_run _ _ _ _ _ _ _ (h.Text (Some len)) t ahead q taken o.runs in
      let m = length b + length t in
      rw (length-append b t) (no_text fault s w.Nothing o.left o.levels (m - title_len (h.Text (Some len))) len ahead m
      on none)
  text_named ahead Text len start is_text (at_piece {bytes = b} {title = t} reach q taken) e none =
      let o = string_reached fault s depth (t ++ ahead) due reach runs (e ∙ append_assoc b t ahead) in
      let on = taken_run _ _ _ _ _ _ _ (h.Text (Some len)) t ahead q taken o.1.runs in
      no_text fault s (w.Open sk.Text o.0) o.1.left o.1.levels (length b) len ahead (length b + length t) on none

  -- The checker names the fault of each row of `FirstFault`.
  row_named : {before ahead written : List ℕ} {point : Point} {answer : Answer} {consumed : ℕ}
      → FirstFault s before [] point ahead answer written consumed → ReachesItem s depth before point
      → due ≡ before ++ ahead → Named answer
  row_named (CutTitle at_title is_cut) reach e = tt
  row_named {before} {ahead} (NoTitle at_title refused) reach e =
      let o = title_reached fault s depth ahead due reach at_title runs e in
      inl (no_title fault s o.0 o.1.left o.1.levels o.1.place (length before) ahead o.1.runs refused)
  row_named {point = point} (LongTitle {title = t} x rest at_title q never parts) reach e =
      long_named t rest x point reach (rw parts at e) at_title q never
  row_named (OtherTitle {kind = k} {title = t} x rest q refused parts) reach e =
      inl (string_named t rest x k reach (rw parts at e) q (inl refused))
  row_named {ahead = ahead} (DamagedText {len = len} {start = start} _ _ _ none _ _ _ _) reach e =
      inl (text_named ahead Text len start refl reach e (λ long ends. none (text_from (take len ahead) ends)))
  row_named (CutBody _ _ _ _ _ _ _ _) reach e = tt
  row_named {ahead = ahead} (CutDamagedText {len = len} {start = start} _ _ short _ _ _ _ _) reach e =
      inl (text_named ahead Text len start refl reach e (λ long ends. absurd (omega (arith, long, short))))

  -- ---- the faults that stop a skip

  pub syntax_named : (met : HasItemFault s depth due) → (at : ℕ) → met.answer ≡ Syntax at
      → NamesSyntax s depth due at fault
  syntax_named met at a = subst Named a (row_named met.fault met.reach met.is)

  pub break_named : (met : HasEarlyBreak s depth due) → fault ≡ f.Break (length met.before)
  break_named met =
      let o = item_reached _ _ _ _ (0xff ∷ met.rest) due met.levels false met.item_due runs met.is in
      let n = length met.before in
      fault_of fault (f.Break n) _ met.rest (break_early fault s o.levels n (n + 1) met.levels o.levels o.same)
      (taken_run _ _ _ _ _ _ _ h.Break (0xff ∷ []) met.rest break_title (break_taken s) o.runs)

  pub deep_named : (met : HasDeepNest s depth due) → fault ≡ f.Deep (length met.before)
  deep_named met =
      let o = item_reached _ _ _ _ (met.title ++ met.rest) due 0 met.closable met.item_due runs met.is in
      let n = length met.before in
      fault_of fault (f.Deep n) _ met.rest (nest_deep fault s o.levels n (n + length met.title) met.header met.is_nest)
      (taken_run _ _ _ _ _ _ _ met.header met.title met.rest met.is_title met.taken o.runs)
