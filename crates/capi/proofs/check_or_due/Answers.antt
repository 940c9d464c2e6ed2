use Rattle.std.proofs.Common.{refl}
use Rattle.ciborium_ll_grammar.specs.declared.spelling.Spelling.TheVariants.{Shortest}
use Rattle.capi.proofs.ElementDue.{elements_lack, none_in_front}
use Rattle.capi.proofs.check_or_due.Goals as goal

pub due_behind-requires-clause-cut : goal.due_behind-requires-clause-cut
due_behind-requires-clause-cut c =
    let counted = c.in-Short.ensures.counted in
    none_in_front Shortest (λ on. c.strict_run.ensures.titles) _ _ c.args.bytes.now counted.front counted.ends
    counted.counts.1

pub returns-in-Short-clause-due : goal.returns-in-Short-clause-due
returns-in-Short-clause-due c = λ same.
    let counted = c.in-Short.ensures.counted in
    elements_lack Shortest (λ on. c.strict_run.ensures.titles) _ c.args.count _ c.due_behind.result c.args.bytes.now
    counted.front counted.ends counted.counts.1 counted.counts.0 c.due_behind.ensures

pub returns-in-Short-clause-checked : goal.returns-in-Short-clause-checked
returns-in-Short-clause-checked c =
    let checked = c.in-Short.ensures.checked in
    (checked.0, checked.1, record { consumed_is = checked.2.consumed_is; written_is = checked.2.written_is; place_is = refl })

pub returns-in-Short-clause-exactly : goal.returns-in-Short-clause-exactly
returns-in-Short-clause-exactly c = c.in-Short.ensures.exactly

pub returns-in-Short-clause-counted : goal.returns-in-Short-clause-counted
returns-in-Short-clause-counted c =
    let counted = c.in-Short.ensures.counted in
    record {
      front = counted.front;
      ends = counted.ends;
      none_spelled = counted.none_spelled;
      counts = counted.counts;
    }
