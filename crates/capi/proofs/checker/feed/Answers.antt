use Rattle.std.proofs.Common.{◌≡◌, ◌∙◌, ◌<◌, ℕ, length, refl, ap, arith, rules, subst, sym}
use Rattle.cbor_checker.specs.declared.phase.Fault.TheVariants as f
use Rattle.cbor_checker.specs.declared.progress.Progress.{Progress}
use Rattle.cbor_checker.specs.declared.progress.Progress.TheVariants as r
use Rattle.capi.specs.declared.answer.CllAnswer.TheVariants as a
use Rattle.capi.specs.Feeding.{progress_answer}
use Rattle.cbor_checker.proofs.ReadLaws.{answers_unless}
use Rattle.capi.proofs.checker.feed.Goals as goal

long_long : (progress : Progress) → progress_answer progress ≡ a.TooLong → progress ≡ r.TooLong
long_long r.TooLong is = refl
long_long (r.Ended len) is = absurd cc
long_long (r.More due) is = absurd cc
long_long (r.Fault (f.Syntax place)) is = absurd cc
long_long (r.Fault (f.Break place)) is = absurd cc
long_long (r.Fault (f.Deep place)) is = absurd cc

pub returns-clause-fed : goal.returns-clause-fed
returns-clause-fed c = λ allowed depth read kept.
    let (keeps, so) = c.in-Some.ensures.read allowed depth read kept.state in
    let told = c.told_progress-told.ensures in
    record {
      taken = search (rules, so.taken);
      goes = λ len less. so.goes len (omega (arith, less, c.say-2.ensures.consumed_is));
      all = search (rules, so.all);
      long = λ is. subst (λ (n : ℕ). n < length c.args.bytes.now) (sym c.say-2.ensures.consumed_is) (so.long
          (long_long c.in-Some.feed.progress (sym told.answer ∙ is)));
      reports = search rules;
      says = search (rules, so.tells);
      is_kept = record { mark = search rules; state = search (rules, keeps) };
      answers = λ some checker has_read.
          let same = rw c.say-2.ensures.consumed_is at has_read in
          let answers = answers_unless checker c.in-Some.feed.progress
          (c.in-Some.ensures.is allowed depth read kept.state checker same)
          (λ far. some (told.answer ∙ ap progress_answer far)) in
          (c.in-Some.feed.progress, answers, told.answer, c.say-2.ensures.place_is ∙ told.number);
    }
