use Rattle.std.proofs.Common.{subst, sym, ◌∙◌, ℕ, ◌+◌, take, arith}
use Rattle.ciborium_ll_text.specs.States.{IsLastEnd}
use Rattle.ciborium_ll_text.specs.declared.state.State.TheVariants as s
use Rattle.ciborium_ll_text.proofs.LastEndLaws.{end_moves, end_stays}
use Rattle.ciborium_ll_text.proofs.StateLaws.{run_on}
use Rattle.ciborium_ll_text.proofs.state.State.last_end.Goals as goal
use Rattle.ciborium_ll_text.proofs.state.State.last_end.Goals.{in-Between, in_default}

pub loop-at-preserved : goal.loop-at-preserved
loop-at-preserved c =
    let inv = c.loop-at.invariant in
    let x = c.args.bytes.now in
    let i = c.loop-at.at in
    let told = run_on s.Between c.loop-at.state c.step-state.result x i c.step-state.ensures inv.1 c.loop-at-test.true
    in
    elim c.match-state.branch [
      | in-Between w ↦ (
        omega arith,
        told,
        subst (λ (z : ℕ). IsLastEnd (take (i + 1) x) z) (sym w.end-is)
            (end_moves x i c.loop-at-test.true (sym told ∙ w.in-Between.is)),
      )
      | in_default w ↦ (
        omega arith,
        told,
        subst (λ (z : ℕ). IsLastEnd (take (i + 1) x) z) (sym w.end-is)
            (end_stays x i c.loop-at.end c.loop-at-test.true inv.2 (λ e. w.in_default.not-Between (told ∙ e))),
      )
    ]
