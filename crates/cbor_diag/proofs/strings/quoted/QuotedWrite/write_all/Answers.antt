use Rattle.std.proofs.Common.{length, List, ℕ, ◌++◌, arith, ap, sym, ◌∙◌}
use Rattle.std.proofs.lemmas.List.{take_all}
use Rattle.cbor_diag.specs.declared.strings.held.Held.TheVariants.{Nothing}
use Rattle.cbor_diag.proofs.PassedLaws.{passed_held-append}
use Rattle.cbor_diag.proofs.QuotedLaws.{quoted_behind, quoted_fails, quoted_more}
use Rattle.cbor_diag.proofs.strings.quoted.QuotedWrite.write_all.Goals as goal

pub invariant_of-self : goal.invariant_of-self
invariant_of-self g c =
    let q = c.args.self.now in
    record {
      counted = q.counted;
      holds = λ sound. absurd (cc);
      quoted = quoted_behind g.W.Write q.began.bytes q.quotes q.failed q.given.bytes c.args.data.now _ q.writer.now
          c.append.ensures q.quoted c.if-self.true;
    }

pub invariant_of-self-in-Ok : goal.invariant_of-self-in-Ok
invariant_of-self-in-Ok g c =
    let q = c.args.self.now in
    let held = q.holds c.if-self.false in
    record {
      counted = q.counted;
      holds = λ sound. rw (c.append.ensures, passed_held-append q.quotes Nothing q.given.bytes c.args.data.now, ← held)
          c.in-Ok.ensures.held;
      quoted = quoted_more g.W.Write q.began.bytes q.quotes q.failed q.given.bytes c.args.data.now _ q.writer.now
          c.append.ensures q.quoted c.show_quoted.new.writer c.if-self.false (rw held at c.in-Ok.ensures.written);
    }

pub invariant_of-self-in-Err : goal.invariant_of-self-in-Err
invariant_of-self-in-Err g c =
    let q = c.args.self.now in
    record {
      counted = Prim.grind (arith, c.raise.ensures, q.counted, c.if-self.false);
      holds = λ failed. absurd (cc);
      quoted = quoted_fails g.W.Write q.began.bytes q.quotes q.failed q.given.bytes c.args.data.now _ q.writer.now
          c.append.ensures q.quoted c.show_quoted.new.writer c.in-Err.fault c.if-self.false
          (rw (q.holds c.if-self.false) at c.in-Err.ensures.written);
    }

pub returns-in-Err-clause-front : goal.returns-in-Err-clause-front
returns-in-Err-clause-front g c =
    let bytes = c.args.data.now in (
      length bytes,
      (
        c.append.ensures ∙ ap (λ (z : List ℕ). c.args.self.now.given.bytes ++ z)
            (sym (take_all (length bytes) bytes (omega arith))),
        tt,
        omega arith,
      ),
    )
