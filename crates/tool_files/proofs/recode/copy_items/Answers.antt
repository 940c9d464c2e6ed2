use Rattle.tool_files.proofs.RecodeItems.{answers_items}
use Rattle.tool_files.proofs.recode.copy_items.Goals as goal

pub returns-clause-items : goal.returns-clause-items
returns-clause-items g c = λ due written tells all count items.
    answers_items _ _ c.args.options.depth c.args.options.items due written c.copy_most-copied.result _ _
    (c.copy_most-copied.ensures due written tells (rw c.new-writer.ensures.sink all)) count items
