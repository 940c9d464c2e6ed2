-- Copies of some elements, and then of more.
use Rattle.std.proofs.Common.{◌≡◌, ℕ, suc, ◌+◌, arith, ◌∙◌, List, [], ◌++◌, subst, add-zero, append_assoc, append-nil}
use Rattle.ciborium_ll.specs.Types.Read.{Ghosts as Reader}
use Rattle.ciborium_ll.specs.Types.Write.{Ghosts as Writer}
use Rattle.ciborium_ll.specs.Elements.{Mark, IsRun, done, next}
use Rattle.ciborium_ll.specs.Recoding.{CopiesRun, IsBehind}
use Rattle.ciborium_ll.specs.Sides.{Sides}
use Rattle.ciborium_ll.proofs.DecodingLaws.{ReadsPast-then, passes_settled}
use Rattle.ciborium_ll_grammar.proofs.SpelledLaws.{spelled_alone, spelled_then}
use Rattle.ciborium_ll_recode.proofs.CopyLaws.{marks_then, run_behind}

-- Elements, and then more elements.
run_then : (count more : ℕ) (bytes behind : List ℕ) (marks others : List Mark) → IsRun count bytes marks
    → IsRun more behind others → IsRun (count + more) (bytes ++ behind) (marks ++ others)
run_then count more bytes behind marks others done run = subst (λ (n : ℕ). IsRun n behind others) (omega arith) run
run_then count more bytes behind marks others (next {count = n} {rest = xs} {others = os} element rest) run =
    let last : suc (n + more) ≡ suc n + more = omega arith in
    rw (← last) (simp append_assoc (next element (run_then n more xs behind os others rest run)))

module _ {R E W F : Type 0} (source : Reader R E) (sink : Writer W F) where
  -- A copy of elements, and then a copy of more elements.
  pub runs_joined : (count more : ℕ) (old now new : Sides R W) → CopiesRun source sink count old now
      → CopiesRun source sink more now new → CopiesRun source sink (count + more) old new
  runs_joined count more old now new first second = record {
    bytes = first.bytes ++ second.bytes;
    marks = first.marks ++ second.marks;
    run = run_then count more first.bytes second.bytes first.marks second.marks first.run second.run;
    copied = record {
      passed = ReadsPast-then source old.decoder now.decoder new.decoder first.bytes second.bytes first.copied.passed
          second.copied.passed;
      written = marks_then source sink first.marks second.marks first.copied.written second.copied.written;
    };
    strict = λ on none.
        let behind = second.strict (first.copied.passed.mode ∙ on)
        (passes_settled source old.decoder now.decoder first.bytes first.copied.passed none) in
        spelled_then first.bytes first.marks second.bytes second.marks (first.strict on none)
        (spelled_alone second.bytes second.marks behind) behind.meant;
  }

  -- After a copy of no element one is due as before.
  pub behind_none : (count before : ℕ) (first old now : Sides R W) → IsBehind source sink count before [] first old
      → CopiesRun source sink 0 old now → IsBehind source sink count before [] first now
  behind_none count before first old now behind none =
      let so_far : CopiesRun source sink before first old = record {
        bytes = behind.bytes;
        marks = behind.marks;
        run = behind.run;
        copied = rw append-nil at behind.copied;
        strict = behind.strict;
      } in
      run_behind source sink count before first now behind.due
      (subst (λ (n : ℕ). CopiesRun source sink n first now) (add-zero before)
      (runs_joined before 0 first old now so_far none))
