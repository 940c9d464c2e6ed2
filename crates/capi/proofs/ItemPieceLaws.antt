-- The answers of a copier of items, by their numbers.
use Rattle.std.proofs.Common.{◌≡◌, ◌+◌, ◌<◌, ◌≤◌, ℕ, List, [], ◌++◌, length, take, refl, sym, ap, subst, ◌∙◌}
use Rattle.ciborium_ll_grammar.specs.declared.spelling.Spelling.{Spelling}
use Rattle.cbor_item_copier.specs.declared.copier.ItemCopier.{ItemCopier}
use Rattle.cbor_item_copier.specs.declared.progress.Copied.{Copied}
use Rattle.cbor_item_copier.specs.declared.progress.Progress.{Progress}
use Rattle.cbor_item_copier.specs.declared.progress.Progress.TheVariants as r
use Rattle.cbor_item_copier.specs.declared.progress.End.{End}
use Rattle.cbor_item_copier.specs.declared.progress.End.TheVariants as e
use Rattle.cbor_item_copier.specs.Copying.{Answers, AnswersEnd, AnswersPiece, HasCopied, pending}
use Rattle.cbor_item_copier.specs.Reading.{Copies, IsLast, IsMore, IsRoom, Tells, TellsEnd}
use Rattle.cbor_item_copier.specs.Snapshots.{Saves}
use Rattle.cbor_item_copier.proofs.SavedLaws.{saves_some}
use Rattle.cbor_item_copier.proofs.ReadLaws.{answers_unless, one_pending, same_answer, same_end}
use Rattle.cbor_checker.specs.declared.phase.Fault.TheVariants as f
use Rattle.capi.specs.declared.answer.CllAnswer.{CllAnswer}
use Rattle.capi.specs.declared.answer.CllAnswer.TheVariants as a
use Rattle.capi.specs.declared.answer.CllReport.{CllReport}
use Rattle.capi.specs.declared.item_copier.CllItemCopier.{CllItemCopier}
use Rattle.capi.specs.Answers.{Reports}
use Rattle.capi.specs.ItemPieces.{EndsItem, FeedsItem, IsItemCopier, IsItemCopyKept, SaysOfItem}
use Rattle.capi.specs.ItemPieces.{SaysOfItemEnd, item_answer, item_end_answer, item_end_number, item_number}

-- ---- a piece

says : (progress : Progress) (s : Spelling) (d : ℕ) (whole output : List ℕ) → Tells s d whole output progress
    → SaysOfItem s d whole output (item_answer progress) (item_number progress)
says (r.Ended len) s d whole output told = told
says (r.More due) s d whole output told = told
says r.Room s d whole output told = (told, refl)
says (r.Fault (f.Syntax place)) s d whole output told = told
says (r.Fault (f.Break place)) s d whole output told = told
says (r.Fault (f.Deep place)) s d whole output told = told
says r.TooLong s d whole output told = (told, refl)

short_more : (progress : Progress) → item_answer progress ≡ a.Short → IsMore progress
short_more (r.More due) is = tt
short_more (r.Ended len) is = absurd cc
short_more r.Room is = absurd cc
short_more (r.Fault (f.Syntax place)) is = absurd cc
short_more (r.Fault (f.Break place)) is = absurd cc
short_more (r.Fault (f.Deep place)) is = absurd cc
short_more r.TooLong is = absurd cc

long_long : (progress : Progress) → item_answer progress ≡ a.TooLong → progress ≡ r.TooLong
long_long r.TooLong is = refl
long_long (r.Ended len) is = absurd cc
long_long (r.More due) is = absurd cc
long_long r.Room is = absurd cc
long_long (r.Fault (f.Syntax place)) is = absurd cc
long_long (r.Fault (f.Break place)) is = absurd cc
long_long (r.Fault (f.Deep place)) is = absurd cc

room_room : (progress : Progress) → item_answer progress ≡ a.Room → IsRoom progress
room_room r.Room is = tt
room_room (r.Ended len) is = absurd cc
room_room (r.More due) is = absurd cc
room_room (r.Fault (f.Syntax place)) is = absurd cc
room_room (r.Fault (f.Break place)) is = absurd cc
room_room (r.Fault (f.Deep place)) is = absurd cc
room_room r.TooLong is = absurd cc

-- The relation of a feed follows from the answer and the report of the copier.
module _ (s : Spelling) (d : ℕ) (read written bytes out output : List ℕ) (copied : Copied) (number : ℕ)
    (answer : CllAnswer) (report : CllReport) (old now : ItemCopier) where
  pub feeds : (new : CllItemCopier) → HasCopied s d read written old
      → HasCopied s d (read ++ take copied.taken bytes) (written ++ take copied.written output) now
      → Copies s d read written bytes (take copied.written output) copied → AnswersPiece now copied.progress
      → (IsRoom copied.progress → copied.written ≡ length out)
      → (pending old ≡ [] → length bytes + 8 ≤ length out → IsRoom copied.progress → ⊥)
      → ((progress : Progress) → Answers old progress → IsLast progress
      → (copied.taken ≡ 0) × (copied.written ≡ 0))
      → IsItemCopyKept s d (read ++ take copied.taken bytes) (written ++ take copied.written output) new
      → answer ≡ item_answer copied.progress → number ≡ item_number copied.progress
      → Reports report copied.taken copied.written number
      → FeedsItem s d read written bytes out answer output report new
  feeds new was is so answers full fits stays kept answer_is number_is reports =
      let t = reports.consumed_is in
      let w = reports.written_is in
      let progress = copied.progress in
      let whole = read ++ take report.consumed bytes in
      let made = written ++ take report.written output in
      let told : Tells s d whole made progress = rw (t, w) so.tells in
      let at : report.place ≡ item_number progress = reports.place_is ∙ number_is in
      record {
        goes = λ len less. so.goes len (subst (λ (n : ℕ). len < n) t less);
        all = λ short. t ∙ so.all (short_more progress (sym answer_is ∙ short));
        long = λ far. subst (λ (n : ℕ). n < length bytes) (sym t)
            (so.long (long_long progress (sym answer_is ∙ far)));
        full = λ room. w ∙ full (room_room progress (sym answer_is ∙ room));
        reports = record {
          consumed_is = refl;
          written_is = refl;
          place_is = refl;
          none_counted = reports.none_counted;
          none_whole = reports.none_whole;
          none_spelled = reports.none_spelled;
        };
        says = subst (λ (z : CllAnswer). SaysOfItem s d whole made z report.place) (sym answer_is)
            (subst (λ (n : ℕ). SaysOfItem s d whole made (item_answer progress) n) (sym at)
            (says progress s d whole made told));
        is_kept = rw (t, w) kept;
        fits = λ copier same none enough room.
            fits (one_pending s d read written old copier was same ∙ none) enough
            (room_room progress (sym answer_is ∙ room));
        answers = λ some copier same.
            let says = answers_unless now progress answers (λ far. some (answer_is ∙ ap item_answer far)) in (
              progress,
              same_answer s d (read ++ take copied.taken bytes) (written ++ take copied.written output) now copier
                  progress is (rw (t, w) at same) says,
              answer_is,
              at,
            );
        stays = λ copier progress same says last.
            let none = stays progress (same_answer s d read written copier old progress same was says) last in
            (t ∙ none.0, w ∙ none.1);
      }

-- ---- an end

says_end : (end : End) (s : Spelling) (d : ℕ) (whole output : List ℕ) → TellsEnd s d whole output end
    → SaysOfItemEnd s d whole output (item_end_answer end) (item_end_number end)
says_end e.Between s d whole output told = (told, refl)
says_end (e.Short due) s d whole output told = told
says_end e.Room s d whole output told = (told, refl)
says_end (e.Fault (f.Syntax place)) s d whole output told = told
says_end (e.Fault (f.Break place)) s d whole output told = told
says_end (e.Fault (f.Deep place)) s d whole output told = told

-- The relation of an end follows from the end and the report.
pub ends : (s : Spelling) (d : ℕ) (read written : List ℕ) (end : End) (number : ℕ) (answer : CllAnswer)
    (report : CllReport) (now : ItemCopier) → HasCopied s d read written now → AnswersEnd now end
    → TellsEnd s d read written end → answer ≡ item_end_answer end → number ≡ item_end_number end
    → Reports report 0 0 number → EndsItem s d read written answer report
ends s d read written end number answer report now was is told answer_is number_is reports =
    let at : report.place ≡ item_end_number end = reports.place_is ∙ number_is in
    record {
      says = subst (λ (z : CllAnswer). SaysOfItemEnd s d read written z report.place) (sym answer_is)
          (subst (λ (n : ℕ). SaysOfItemEnd s d read written (item_end_answer end) n) (sym at)
          (says_end end s d read written told));
      answers = λ copier same. (end, same_end s d read written now copier end was same is, answer_is, at);
      reports = record {
        consumed_is = reports.consumed_is;
        written_is = reports.written_is;
        place_is = refl;
        none_counted = reports.none_counted;
        none_whole = reports.none_whole;
        none_spelled = reports.none_spelled;
      };
    }

-- ---- the memory

-- Memory with the mark and the numbers of a copier of items holds it.
pub is_item_copier : (memory : CllItemCopier) (copier : ItemCopier) → memory.mark ≡ 8029466375530767725
    → Saves copier memory.state → IsItemCopier memory
is_item_copier memory copier mark saves = record { mark = mark; state = saves_some copier memory.state saves }
