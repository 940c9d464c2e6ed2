use Rattle.std.proofs.Common.{rules, inr, arith, length, []}
use Rattle.ciborium_ll_grammar.specs.declared.spelling.Spelling.TheVariants.{Shortest}
use Rattle.ciborium_ll_recode.proofs.recode.strict.strict_len.Goals as goal

pub returns-in-Err-clause-none : goal.returns-in-Err-clause-none
returns-in-Err-clause-none c = λ front.
    let due = c.args.bytes.now in
    let fresh = c.strict-decoder.ensures in
    let exact = c.recode.ensures.front Shortest due [] (record {
      mode = search rules;
      can_read = record {
        none_waits = λ on. fresh.none_waits;
        steady = search rules;
        told = search rules;
        fits-title = omega (arith, fresh.offset);
        fits-chunk = omega (arith, fresh.offset);
      };
      can_write = record {
        told = search rules;
        room = length due;
        room-told = search rules;
        enough = inr (omega arith);
      };
    }) in
    let held = rw c.in-Err.is at (exact.1 front) in
    absurd cc
