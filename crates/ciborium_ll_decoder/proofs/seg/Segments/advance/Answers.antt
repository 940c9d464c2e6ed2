use Rattle.ciborium_ll_grammar.specs.declared.spelling.Spelling.{Spelling}
use Rattle.std.proofs.Common.{rules, arith, refl, subst, ◌∙◌, Some, Ok, Err}
use Rattle.ciborium_ll_decoder.specs.Segments.{EndsAdvance, string_spelling}
use Rattle.ciborium_ll_decoder.proofs.DecodingLaws.{exit_is, MovesOn-none, MovesOn-then}
use Rattle.ciborium_ll_decoder.proofs.AdvanceLaws.{Reached-start, Reached-step, Reached-ends}
use Rattle.ciborium_ll_decoder.proofs.seg.Segments.advance.Goals as goal

pub titles-init : goal.titles-init
titles-init g c = record {
  same = refl;
  mode = refl;
  reached = Reached-start g.R.Read g.P.Parser.kind (string_spelling c.args.self.now) c.args.self.now.progress
      c.args.self.now.decoder.now c.args.self.now.shallow;
  opens = omega arith;
  moves_on = MovesOn-none g.R.Read c.args.self.now.decoder.now;
}

pub titles-preserved : goal.titles-preserved
titles-preserved g c =
    let kept = c.titles.invariant in
    let step = c.in_ok-body.ensures in
    let reached = rw c.in-Open.is at kept.reached in
    record {
      same = search rules;
      mode = step.mode ∙ kept.mode;
      reached = Reached-step g.R.Read g.P.Parser.kind (string_spelling c.args.self.now) c.args.self.now.progress
          c.in-Open.opens _
          _ _ _ reached
          step.moves_on.steady (rw (c.in_default-2.is, kept.mode) at step.steps);
      opens = let counted = rw c.in-Open.is at kept.opens in omega (arith, counted, step.opens);
      moves_on = MovesOn-then g.R.Read _ _ _ kept.moves_on step.moves_on;
    }

pub returns-in_err-body : goal.returns-in_err-body
returns-in_err-body g c =
    let same = exit_is c.from_residual.result c.in_err-body.field-0.0 c.from_residual.ensures.1 in
    let reached = rw c.in-Open.is at c.titles.invariant.reached in
    let step = subst (λ (allowed : Spelling). EndsAdvance g.R.Read g.P.Parser.kind allowed c.in-Open.opens
    c.titles.self.decoder.now (Err c.in_err-body.field-0.0) c.step.new.self.progress c.step.new.self.decoder.now)
    c.titles.invariant.mode c.in_err-body.ensures.steps in
    record {
      same_reference = search rules;
      advances =
          rw same (Reached-ends g.R.Read g.P.Parser.kind (string_spelling c.args.self.now) c.args.self.now.progress
          c.in-Open.opens _ _ _ (Err c.in_err-body.field-0.0) _ reached step);
      mode = c.in_err-body.ensures.mode ∙ c.titles.invariant.mode;
      opens = let counted =
          rw c.in-Open.is at c.titles.invariant.opens in omega (arith, counted, c.in_err-body.ensures.opens);
      moves_on = MovesOn-then g.R.Read _ _ _ c.titles.invariant.moves_on c.in_err-body.ensures.moves_on;
    }

pub returns-in-Some : goal.returns-in-Some
returns-in-Some g c =
    let reached = rw c.in-Open.is at c.titles.invariant.reached in
    let step = rw c.in-Some.is at c.in_ok-body.ensures.steps in
    record {
      same_reference = search rules;
      advances = Reached-ends g.R.Read g.P.Parser.kind (string_spelling c.args.self.now) c.args.self.now.progress
          c.in-Open.opens _
          _ _ (Ok (Some c.in-Some.body)) _ reached step;
      mode = c.in_ok-body.ensures.mode ∙ c.titles.invariant.mode;
      opens = let counted =
          rw c.in-Open.is at c.titles.invariant.opens in omega (arith, counted, c.in_ok-body.ensures.opens);
      moves_on = MovesOn-then g.R.Read _ _ _ c.titles.invariant.moves_on c.in_ok-body.ensures.moves_on;
    }
