-- The fault that a checker names, and the answer of a skip.
use Rattle.std.proofs.Common.{◌≡◌, ℕ, ◌+◌, List, [], ◌++◌, length, take, drop, refl, sym, ap, subst, ◌∙◌, arith}
use Rattle.std.proofs.Common.{append_assoc, append-nil, Result, Ok, Err, Some, IsTrue, ◌<◌, ◌≤◌, ◌^◌, ◌↔◌}
use Rattle.std.proofs.Common.{length-append}
use Rattle.std.proofs.lemmas.Bool.Decides.{nat_tests}
use Rattle.std.proofs.Math.Seq.{take-length, drop-length}
use Rattle.ciborium_ll_grammar.specs.declared.spelling.Spelling.{Spelling}
use Rattle.ciborium_ll_grammar.proofs.ItemLaws.{one_item}
use Rattle.std.proofs.lemmas.List.{take-append-drop}
use Rattle.ciborium_ll_io.specs.declared.io.Read.{Ghosts}
use Rattle.ciborium_ll_grammar.specs.Items.{IsItem, no_items, more_items}
use Rattle.ciborium_ll_decoder.specs.Decoding.{IsFreshAs, offset_limit, spelling_of}
use Rattle.ciborium_ll_decoder.specs.declared.dec.Decoder.{Decoder}
use Rattle.ciborium_ll_decoder.specs.declared.dec.Error.TheVariants as e
use Rattle.cbor_skip.specs.declared.SkipError.{SkipError}
use Rattle.cbor_skip.specs.declared.SkipError.TheVariants as k
use Rattle.cbor_skip.specs.ItemFaults.{BeginsWithItem}
use Rattle.ciborium_ll_decoder.specs.Premises.{CanRead}
use Rattle.ciborium_ll_decoder.proofs.PremiseLaws.{fresh_can_read}
use Rattle.cbor_skip.specs.SkippingTold.{SkipsTold}
use Rattle.cbor_checker.specs.declared.phase.Phase.{Phase}
use Rattle.cbor_checker.specs.declared.phase.Phase.TheVariants as p
use Rattle.cbor_checker.specs.declared.phase.Fault.{Fault}
use Rattle.cbor_checker.specs.declared.progress.Progress.{Progress}
use Rattle.cbor_checker.specs.declared.progress.Progress.TheVariants as r
use Rattle.cbor_checker.specs.Spots.{Spot}
use Rattle.cbor_checker.specs.Steps.{StepIn}
use Rattle.cbor_checker.specs.declared.checker.Checker.{Checker}
use Rattle.cbor_checker.specs.Checking.{Answers, HasRead, spot_of}
use Rattle.cbor_checker.specs.Reading.{IsEnd, IsFault, IsMore, Tells}
use Rattle.cbor_checker.specs.Telling.{progress_in}
use Rattle.cbor_checker_laws.specs.SameFaults.{Names, AnswersFault, BeginsNoItem, FeedTells, SkipTells}
use Rattle.cbor_checker_laws.proofs.Runs.{Runs, faulted, goes, fed_runs, at, behind}
use Rattle.cbor_checker_laws.proofs.TitleRuns.{taken_on}
use Rattle.cbor_checker_laws.proofs.ItemRuns.{completes_on}
use Rattle.cbor_checker_laws.proofs.ReachRuns.{FromStart, start_on}
use Rattle.cbor_checker_laws.proofs.SameFaultLaws.{syntax_named, break_named, deep_named}

-- If the answer at a spot is a fault, the spot stands at this fault.
phase_is : (phase : Phase) (spot : Spot) (fault : Fault) → progress_in phase spot ≡ r.Fault fault
    → phase ≡ p.Faulted fault
phase_is phase spot fault e = grind (arith, nat_tests)

module _ (s : Spelling) (depth : ℕ) (fed more : List ℕ) (fault : Fault) (names : Names s depth fed fault) where
  pub runs_here : FromStart fault s depth (fed ++ more)
  unfolding HasRead Answers
  runs_here =
      let spot : Spot = spot_of names.checker in
      fed_runs fault s depth fed more spot names.has_read
      (faulted (phase_is spot.phase spot fault (sym names.answers)))

  -- ---- no item at the start of the bytes

  ended_none : (spot : Spot) (due : List ℕ) → spot.phase ≡ p.Ended → Runs fault spot due → ⊥
  ended_none spot due is (faulted at) = let both = sym is ∙ at in cc
  ended_none spot due is (goes {next = m} b byte step runs) = subst (λ (z : Phase). StepIn z spot b m) is step

  pub item_none : (item rest : List ℕ) → IsItem s depth item → fed ++ more ≡ item ++ rest → ⊥
  item_none item rest (more_items {title = t} {rest = r} {header = x} q g completes no_items) e =
      let parts : fed ++ more ≡ t ++ (r ++ rest) = e ∙ simp (append-nil, append_assoc) in
      let all = completes_on fault (length (fed ++ more)) s completes [] rest (taken_on x t (r ++ rest) q g
      (start_on fault s depth (fed ++ more) (t ++ (r ++ rest)) parts runs_here)) in
      ended_none (behind s depth [] all.place all.offset) rest refl all.runs

  -- ---- the answers of a skip

  module _ {R E : Type 0} (source : Ghosts R E) (old new : Decoder R) where
    pub skip_answers : (result : Result (Unit {0}) (SkipError E))
        → SkipsTold source s depth (fed ++ more) old result new
        → AnswersFault s depth (fed ++ more) fault old.offset result
    skip_answers (Ok done) told = item_none told.front.item told.front.rest told.front.is_item told.front.is
    skip_answers (Err (k.Break place)) told =
        (length told.fault.before, told.place, break_named fault s depth (fed ++ more) runs_here told.fault)
    skip_answers (Err (k.Deep place)) told =
        (length told.fault.before, told.place, deep_named fault s depth (fed ++ more) runs_here told.fault)
    skip_answers (Err (k.Read (e.Syntax place))) told =
        (told.0, told.1, syntax_named fault s depth (fed ++ more) runs_here told.2.fault told.0 told.2.answered)
    skip_answers (Err (k.Read (e.Io error))) told = tt
    skip_answers (Err (k.Read e.TooLong)) told = told
    skip_answers (Err (k.Read e.Waiting)) told = told

-- ---- both answers to the same bytes

-- A new decoder is ready over a steady reader that tells its bytes.
pub fresh_ready : {R E : Type 0} (source : Ghosts R E) (room : ℕ) (allowed : Spelling) (reader : R)
    (decoder : Decoder R)
    (due : List ℕ) → IsFreshAs allowed reader 0 decoder → IsTrue (source.steady reader) → source.ahead reader ≡ Some due
    → 8 ≤ room → length due + room < offset_limit → CanRead source room decoder due
fresh_ready source room allowed reader decoder due fresh steady ahead wide fits =
    fresh_can_read source room reader decoder due fresh steady ahead (omega (arith, fits, wide)) fits

module _ {R E : Type 0} (source : Ghosts R E) (old new : Decoder R) where
  pub both_answer : (s : Spelling) (depth taken : ℕ) (bytes : List ℕ) (fault : Fault) (progress : Progress)
      (checker : Checker)
      (result : Result (Unit {0}) (SkipError E)) → HasRead s depth (take taken bytes) checker
      → ((progress ≡ r.TooLong → ⊥) → Answers checker progress) → old.offset ≡ 0 → spelling_of old ≡ s
      → SkipsTold source (spelling_of old) depth bytes old result new
      → progress ≡ r.Fault fault → AnswersFault s depth bytes fault 0 result
  both_answer s depth taken bytes fault progress checker result has_read answers start mode told e =
      let answer = subst (Answers checker) e (answers (λ far. let both = sym e ∙ far in cc)) in
      let names : Names s depth (take taken bytes) fault =
      record { checker = checker; has_read = has_read; answers = answer } in
      let all : take taken bytes ++ drop taken bytes ≡ bytes = take-append-drop taken bytes in
      rw (all, start) at (skip_answers s depth (take taken bytes) (drop taken bytes) fault names source old new result
      (rw all (subst (λ (z : Spelling). SkipsTold source z depth bytes old result new) mode told)))

  -- ---- the answer of a skip that began at the offset 0

  pub skip_tells : (s : Spelling) (depth : ℕ) (bytes : List ℕ) (result : Result (Unit {0}) (SkipError E))
      → old.offset ≡ 0
      → SkipsTold source s depth bytes old result new → SkipTells s depth bytes result
  skip_tells s depth bytes (Ok done) start told = told.front
  skip_tells s depth bytes (Err (k.Break at)) start told = (told.fault, omega (arith, told.place, start))
  skip_tells s depth bytes (Err (k.Deep at)) start told = (told.fault, omega (arith, told.place, start))
  skip_tells s depth bytes (Err (k.Read (e.Syntax at))) start told =
      let place : at ≡ told.0 = omega (arith, told.1, start) in (told.2.fault, rw place told.2.answered)
  skip_tells s depth bytes (Err (k.Read (e.Io error))) start told = (told.fault, told.answered)
  skip_tells s depth bytes (Err (k.Read e.TooLong)) start told = told
  skip_tells s depth bytes (Err (k.Read e.Waiting)) start told = told

-- ---- the answers of a checker, in terms of all bytes

module _ (s : Spelling) (depth taken : ℕ) (bytes : List ℕ) (checker : Checker) (room : length bytes + 1 < 2 ^ 64) where
  abbrev fed : List ℕ
  fed = take taken bytes

  all_bytes : fed ++ drop taken bytes ≡ bytes
  all_bytes = take-append-drop taken bytes

  ended_front : IsItem s depth fed → BeginsWithItem s depth bytes
  ended_front item = record { item = fed; rest = drop taken bytes; is_item = item; is = sym all_bytes }

  whole : taken ≡ length bytes → fed ≡ bytes
  whole e = ap (λ (n : ℕ). take n bytes) e ∙ take-length bytes

  none_left : taken ≡ length bytes → drop taken bytes ≡ []
  none_left e = ap (λ (n : ℕ). drop n bytes) e ∙ drop-length bytes

  -- If more bytes are due, the bytes begin with no item.
  more_none : (due : ℕ) → Tells s depth fed (r.More due) → taken ≡ length bytes → BeginsWithItem s depth bytes → ⊥
  more_none due tells e front =
      let more = tells.0.begins.0 in
      let parts : front.item ++ (front.rest ++ more) ≡ (fed ++ more) ++ [] =
      sym (append_assoc front.item front.rest more) ∙ (ap (λ (z : List ℕ). z ++ more) (sym front.is ∙ sym (whole e))
      ∙ sym (append-nil (fed ++ more))) in
      let one = one_item s s depth depth front.item (fed ++ more) (front.rest ++ more) [] front.is_item
      tells.0.begins.1 parts in
      let nothing = ap length one.1 in
      let least = tells.2 more tells.0.begins.1 in
      omega (arith, nothing, least, tells.1, length-append front.rest more)

  -- If more bytes are due, some further bytes complete an item.
  more_begins : (due : ℕ) → Tells s depth fed (r.More due) → taken ≡ length bytes → BeginsNoItem s depth bytes → ⊥
  more_begins due tells e none =
      let more = tells.0.begins.0 in
      none more (record {
        item = fed ++ more;
        rest = [];
        is_item = tells.0.begins.1;
        is = ap (λ (z : List ℕ). z ++ more) (sym (whole e)) ∙ sym (append-nil (fed ++ more));
      })

  -- The number of bytes fed is less than `2 ^ 64 - 1`.
  not_long : length fed + 1 ≡ 2 ^ 64 → ⊥
  not_long long =
      let parts = ap length all_bytes in
      omega (arith, long, room, parts, length-append fed (drop taken bytes))

  fault_none : (fault : Fault) → HasRead s depth fed checker → Answers checker (r.Fault fault)
      → BeginsNoItem s depth bytes
  fault_none fault has_read answers more front =
      let names : Names s depth fed fault =
      record { checker = checker; has_read = has_read; answers = answers } in
      let all : fed ++ (drop taken bytes ++ more) ≡ bytes ++ more =
      sym (append_assoc fed (drop taken bytes) more) ∙ ap (λ (z : List ℕ). z ++ more) all_bytes in
      item_none s depth fed (drop taken bytes ++ more) fault names front.item front.rest front.is_item (all ∙ front.is)

  item_here : BeginsWithItem s depth bytes → BeginsNoItem s depth bytes → ⊥
  item_here front none = none [] (rw append-nil front)

  module _ (has_read : HasRead s depth fed checker) where
    -- The exact answer of the checker.
    abbrev Exact : Progress → Type 0
    Exact progress =
        Answers checker progress × (IsEnd progress ↔ BeginsWithItem s depth bytes)
        × (IsFault progress ↔ BeginsNoItem s depth bytes)

    pub exactly : (progress : Progress) → ((progress ≡ r.TooLong → ⊥) → Answers checker progress)
        → Tells s depth fed progress → (IsMore progress → taken ≡ length bytes) → Exact progress
    exactly (r.More due) answers tells all = (
      answers (λ far. cc),
      (λ is. absurd is, more_none due tells (all tt)),
      (λ is. absurd is, more_begins due tells (all tt)),
    )
    exactly (r.Ended len) answers tells all =
        let front = ended_front tells.0 in (
          answers (λ far. cc),
          (λ is. front, λ front. tt),
          (λ is. absurd is, λ none. item_here front none),
        )
    exactly (r.Fault fault) answers tells all =
        let answer = answers (λ far. cc) in
        let none = fault_none fault has_read answer in
        (answer, (λ is. absurd is, λ front. item_here front none), (λ is. none, λ none. tt))
    exactly r.TooLong answers tells all = absurd (not_long tells.1)

    pub feed_tells : (progress : Progress) → ((progress ≡ r.TooLong → ⊥) → Answers checker progress)
        → Tells s depth fed progress → (IsMore progress → taken ≡ length bytes) → FeedTells s depth bytes progress
    feed_tells progress answers tells all =
        let is = sym all_bytes in
        let none = λ (more : IsMore progress). none_left (all more) in
        let answer = (exactly progress answers tells all).0 in
        record {
          taken = fed;
          rest = _;
          is = is;
          all = none;
          tells = tells;
          checker = checker;
          has_read = has_read;
          answers = answer;
        }
