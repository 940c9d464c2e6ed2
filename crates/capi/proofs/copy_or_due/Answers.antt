use Rattle.ciborium_ll_grammar.specs.declared.spelling.Spelling.TheVariants.{Any}
use Rattle.capi.proofs.ElementShapes.{no_law}
use Rattle.capi.proofs.ElementDue.{elements_lack, none_in_front}
use Rattle.capi.proofs.copy_or_due.Goals as goal

pub due_behind-requires-clause-cut : goal.due_behind-requires-clause-cut
due_behind-requires-clause-cut c =
    let counted = c.in-Short.ensures.counted in
    none_in_front Any no_law _ _ c.args.bytes.now counted.front counted.ends counted.counts.1

pub returns-in-Short-clause-due : goal.returns-in-Short-clause-due
returns-in-Short-clause-due c = λ same.
    let counted = c.in-Short.ensures.counted in
    elements_lack Any no_law _ c.args.count _ c.due_behind.result c.args.bytes.now counted.front counted.ends
    counted.counts.1 counted.counts.0 c.due_behind.ensures
