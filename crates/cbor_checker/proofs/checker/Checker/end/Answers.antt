use Rattle.std.proofs.Common.{◌∙◌, sym, subst, inl, inr, arith}
use Rattle.ciborium_ll_text.proofs.Lists.{length_zero}
use Rattle.cbor_checker.specs.declared.progress.Progress.TheVariants as r
use Rattle.cbor_checker.specs.Checking.{Answers, AnswersEnd, HasRead, spot_of}
use Rattle.cbor_checker.specs.Reading.{Tells}
use Rattle.cbor_checker.proofs.EndLaws.{end_none, end_some}
use Rattle.cbor_checker.proofs.TellLaws.{fed_counts}
use Rattle.cbor_checker.proofs.checker.Checker.end.Goals as goal

pub returns-then-self-eq0-clause-tells : goal.returns-then-self-eq0-clause-tells
unfolding HasRead
returns-then-self-eq0-clause-tells c = λ allowed depth read is.
    inl (length_zero read (omega (arith, fed_counts allowed depth read _ is, c.if-self-eq0.true)))

pub returns-in-Ended-clause-tells : goal.returns-in-Ended-clause-tells
returns-in-Ended-clause-tells c = λ allowed depth read is.
    inr (subst (Tells allowed depth read) c.in-Ended.is (c.progress.ensures.tells allowed depth read is)).0

pub returns-in-Fault-clause-tells : goal.returns-in-Fault-clause-tells
returns-in-Fault-clause-tells c = λ allowed depth read is.
    subst (Tells allowed depth read) c.in-Fault.is (c.progress.ensures.tells allowed depth read is)

pub returns-in-More-clause-tells : goal.returns-in-More-clause-tells
unfolding HasRead
returns-in-More-clause-tells c = λ allowed depth read is. (
  omega (arith, fed_counts allowed depth read _ is, c.if-self-eq0.false),
  subst (Tells allowed depth read) c.in-More.is (c.progress.ensures.tells allowed depth read is),
)

pub returns-then-self-eq0-clause-is : goal.returns-then-self-eq0-clause-is
unfolding AnswersEnd
returns-then-self-eq0-clause-is c = end_none (spot_of c.args.self.now) (omega (arith, c.if-self-eq0.true))

pub returns-in-Ended-clause-is : goal.returns-in-Ended-clause-is
unfolding Answers AnswersEnd
returns-in-Ended-clause-is c =
    end_some (spot_of c.args.self.now) (r.Ended c.in-Ended.field-0) (sym c.in-Ended.is ∙ c.progress.ensures.is)
    (λ none. omega (arith, none, c.if-self-eq0.false))

pub returns-in-Fault-clause-is : goal.returns-in-Fault-clause-is
unfolding Answers AnswersEnd
returns-in-Fault-clause-is c =
    end_some (spot_of c.args.self.now) (r.Fault c.in-Fault.fault) (sym c.in-Fault.is ∙ c.progress.ensures.is)
    (λ none. omega (arith, none, c.if-self-eq0.false))

pub returns-in-More-clause-is : goal.returns-in-More-clause-is
unfolding Answers AnswersEnd
returns-in-More-clause-is c =
    end_some (spot_of c.args.self.now) (r.More c.in-More.due) (sym c.in-More.is ∙ c.progress.ensures.is)
    (λ none. omega (arith, none, c.if-self-eq0.false))
