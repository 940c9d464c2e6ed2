use Rattle.std.proofs.Common.{rules, ◌≡◌, ℕ, Ok, arith, subst}
use Rattle.ciborium_ll.specs.Recoding.{CopiesRun}
use Rattle.ciborium_ll.specs.Sides.{sides}
use Rattle.ciborium_ll_recode.proofs.CopyLaws.{run_behind}
use Rattle.capi.proofs.RunCopies.{behind_none}
use Rattle.capi.proofs.tally.copy_next.Goals as goal

pub returns-in-Err-clause-copied : goal.returns-in-Err-clause-copied
returns-in-Err-clause-copied g c = λ count before first behind.
    let old = sides c.args.decoder.now c.args.writer.now in
    let now = sides c.copy_run.new.decoder c.copy_run.new.writer in
    let none : c.in_ok-copied.copied ≡ 0 = omega (arith, c.if-copied-gt0.false) in
    let run = subst (λ (n : ℕ). CopiesRun g.R.Read g.W.Write n old now) none c.in_ok-copied.ensures.run.1 in
    rw c.copy_run.auto.buffer at c.in-Err.ensures.copied count before first
    (behind_none g.R.Read g.W.Write count before first old now behind run)

pub returns-clause-copied : goal.returns-clause-copied
returns-clause-copied g c =
    let old = sides c.args.decoder.now c.args.writer.now in
    let now = sides c.copy_run.new.decoder c.copy_run.new.writer in
    let none : c.in_ok-copied.copied ≡ 0 = omega (arith, c.if-copied-gt0.false) in
    let run = subst (λ (n : ℕ). CopiesRun g.R.Read g.W.Write n old now) none c.in_ok-copied.ensures.run.1 in
    let is_ok : c.copy_one.result ≡ Ok (tt {0}) = search rules in
    let copied = rw is_ok at c.copy_one.ensures.copied in (
      omega arith,
      omega (arith, c.requires.some),
      copied 1 0 old
          (run_behind g.R.Read g.W.Write 1 0 old now (omega arith) run),
    )
