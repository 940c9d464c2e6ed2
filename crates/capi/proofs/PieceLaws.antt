-- The answers of a copier, by their numbers.
use Rattle.std.proofs.Common.{◌≡◌, ◌+◌, ◌<◌, ◌≤◌, ℕ, ◌↔◌, List, [], ◌++◌, length, take, refl, sym, ap, subst, ◌∙◌}
use Rattle.std.proofs.Common.{Option, Some, None}
use Rattle.std.specs.Prelude.{IfSome}
use Rattle.ciborium_ll_grammar.specs.declared.spelling.Spelling.{Spelling}
use Rattle.cbor_copier.specs.declared.copier.Copier.{Copier}
use Rattle.cbor_copier.specs.declared.progress.Copied.{Copied}
use Rattle.cbor_copier.specs.declared.progress.Progress.{Progress}
use Rattle.cbor_copier.specs.declared.progress.Progress.TheVariants as r
use Rattle.cbor_copier.specs.declared.progress.End.{End}
use Rattle.cbor_copier.specs.declared.progress.End.TheVariants as e
use Rattle.cbor_copier.specs.Copying.{Answers, AnswersEnd, AnswersPiece, HasCopied, Saves, pending}
use Rattle.cbor_copier.specs.Reading.{AreSpelled, Copies, IsLast, IsMore, IsRoom, Tells, TellsEnd}
use Rattle.cbor_copier.proofs.EndLaws.{same_end}
use Rattle.cbor_copier.proofs.ReadLaws.{answers_unless, one_pending, same_answer}
use Rattle.cbor_copier.proofs.SavedLaws.{saved_some}
use Rattle.capi.specs.declared.answer.CllAnswer.{CllAnswer}
use Rattle.capi.specs.declared.answer.CllAnswer.TheVariants as a
use Rattle.capi.specs.declared.answer.CllReport.{CllReport}
use Rattle.capi.specs.declared.copier.CllCopier.{CllCopier}
use Rattle.capi.specs.Answers.{Reports}
use Rattle.capi.specs.Pieces.{EndsCopied, FeedsCopied, IsCopier, IsCopyKept, SaysOf, SaysOfEnd, end_answer}
use Rattle.capi.specs.Pieces.{end_place, progress_answer, progress_place}

-- ---- a piece

says : (progress : Progress) (allowed : Spelling) (count : ℕ) (whole output : List ℕ)
    → Tells allowed count whole output progress
    → SaysOf allowed count whole output (progress_answer progress) (progress_place progress)
says r.Ended allowed count whole output told = (told, refl)
says r.More allowed count whole output told = (told, refl)
says r.Room allowed count whole output told = (told, refl)
says (r.Syntax place) allowed count whole output told = told
says r.TooLong allowed count whole output told = (told, refl)

short_more : (progress : Progress) → progress_answer progress ≡ a.Short → IsMore progress
short_more r.More is = tt
short_more r.Ended is = absurd cc
short_more r.Room is = absurd cc
short_more (r.Syntax place) is = absurd cc
short_more r.TooLong is = absurd cc

long_long : (progress : Progress) → progress_answer progress ≡ a.TooLong → progress ≡ r.TooLong
long_long r.TooLong is = refl
long_long r.Ended is = absurd cc
long_long r.More is = absurd cc
long_long r.Room is = absurd cc
long_long (r.Syntax place) is = absurd cc

room_room : (progress : Progress) → progress_answer progress ≡ a.Room → IsRoom progress
room_room r.Room is = tt
room_room r.Ended is = absurd cc
room_room r.More is = absurd cc
room_room (r.Syntax place) is = absurd cc
room_room r.TooLong is = absurd cc

-- The relation of a feed follows from the answer and the report of the copier.
module _ (allowed : Spelling) (count : ℕ) (read written bytes out output : List ℕ) (copied : Copied) (place : ℕ)
    (answer : CllAnswer)
    (report : CllReport) (old now : Copier) where
  pub feeds : (new : CllCopier) → HasCopied allowed count read written old
      → HasCopied allowed count (read ++ take copied.taken bytes) (written ++ take copied.written output) now
      → Copies allowed count read written bytes (take copied.written output) copied → AnswersPiece now copied.progress
      → (IsRoom copied.progress → copied.written ≡ length out)
      → (pending old ≡ [] → length bytes + 8 ≤ length out → IsRoom copied.progress → ⊥)
      → ((progress : Progress) → Answers old progress → IsLast progress
      → (copied.taken ≡ 0) × (copied.written ≡ 0))
      → IsCopyKept allowed count (read ++ take copied.taken bytes) (written ++ take copied.written output) new
      → answer ≡ progress_answer copied.progress → place ≡ progress_place copied.progress
      → Reports report copied.taken copied.written place
      → FeedsCopied allowed count read written bytes out answer output report new
  feeds new was is so answers full fits stays kept answer_is place_is reports =
      let t = reports.consumed_is in
      let w = reports.written_is in
      let progress = copied.progress in
      let whole = read ++ take report.consumed bytes in
      let made = written ++ take report.written output in
      let told : Tells allowed count whole made progress = rw (t, w) so.tells in
      let at : report.place ≡ progress_place progress = reports.place_is ∙ place_is in
      record {
        goes = λ len less. so.goes len (subst (λ (n : ℕ). len < n) t less);
        all = λ short. t ∙ so.all (short_more progress (sym answer_is ∙ short));
        long = λ far. subst (λ (n : ℕ). n < length bytes) (sym t)
            (so.long (long_long progress (sym answer_is ∙ far)));
        full = λ room. w ∙ full (room_room progress (sym answer_is ∙ room));
        reports = record {
          consumed_is = refl;
          written_is = refl;
          place_is = refl;
          none_counted = reports.none_counted;
          none_whole = reports.none_whole;
          none_spelled = reports.none_spelled;
        };
        says = subst (λ (z : CllAnswer). SaysOf allowed count whole made z report.place) (sym answer_is)
            (subst (λ (n : ℕ). SaysOf allowed count whole made (progress_answer progress) n) (sym at)
            (says progress allowed count whole made told));
        is_kept = rw (t, w) kept;
        fits = λ copier same none enough room.
            fits (one_pending allowed count read written old copier was same ∙ none) enough
            (room_room progress (sym answer_is ∙ room));
        answers = λ some copier same.
            let says = answers_unless now progress answers (λ far. some (answer_is ∙ ap progress_answer far)) in (
              progress,
              same_answer allowed count (read ++ take copied.taken bytes) (written ++ take copied.written output) now
                  copier
                  progress is (rw (t, w) at same) says,
              answer_is,
              at,
            );
        stays = λ copier progress same says last.
            let none = stays progress (same_answer allowed count read written copier old progress same was says) last in
            (t ∙ none.0, w ∙ none.1);
      }

-- ---- an end

says_end : (end : End) (allowed : Spelling) (count : ℕ) (whole output : List ℕ)
    → TellsEnd allowed count whole output end
    → SaysOfEnd allowed count whole output (end_answer end) (end_place end)
says_end e.Ended allowed count whole output told = (told, refl)
says_end e.Short allowed count whole output told = (told, refl)
says_end e.Room allowed count whole output told = (told, refl)
says_end (e.Syntax place) allowed count whole output told = told

ok_ended : (end : End) → end_answer end ≡ a.Ok → end ≡ e.Ended
ok_ended e.Ended is = refl
ok_ended e.Short is = absurd cc
ok_ended e.Room is = absurd cc
ok_ended (e.Syntax place) is = absurd cc

-- The relation of an end follows from the end and the report.
pub ends : (allowed : Spelling) (count : ℕ) (read written : List ℕ) (end : End) (place : ℕ) (answer : CllAnswer)
    (report : CllReport)
    (now : Copier) → HasCopied allowed count read written now → AnswersEnd now end
    → TellsEnd allowed count read written end
    → (end ≡ e.Ended) ↔ AreSpelled allowed count read written
    → answer ≡ end_answer end → place ≡ end_place end → Reports report 0 0 place
    → EndsCopied allowed count read written answer report
ends allowed count read written end place answer report now was is told exact answer_is place_is reports =
    let at : report.place ≡ end_place end = reports.place_is ∙ place_is in
    record {
      says = subst (λ (z : CllAnswer). SaysOfEnd allowed count read written z report.place) (sym answer_is)
          (subst (λ (n : ℕ). SaysOfEnd allowed count read written (end_answer end) n) (sym at)
          (says_end end allowed count read written told));
      exactly = (
        λ ok. exact.0 (ok_ended end (sym answer_is ∙ ok)),
        λ spelled. answer_is ∙ ap end_answer (exact.1 spelled),
      );
      answers = λ copier same. (end, same_end allowed count read written now copier end was same is, answer_is, at);
      reports = record {
        consumed_is = reports.consumed_is;
        written_is = reports.written_is;
        place_is = refl;
        none_counted = reports.none_counted;
        none_whole = reports.none_whole;
        none_spelled = reports.none_spelled;
      };
    }

-- ---- the memory

-- Memory with the mark and the numbers of a copier holds it.
pub is_copier : (memory : CllCopier) (found : Option Copier) → memory.mark ≡ 7308327815843050611
    → IfSome found (λ copier. Saves copier memory.state) → IfSome found (λ copier. IsCopier memory)
is_copier memory None mark saves = tt
is_copier memory (Some copier) mark saves =
    record { mark = mark; state = saved_some copier memory.state saves }
