use Rattle.std.proofs.Common.{◌∙◌, sym}
use Rattle.cbor_item_copier.specs.Copying.{Answers, HasCopied, item_spot, pending}
use Rattle.cbor_item_copier.proofs.TellLaws.{never_long}
use Rattle.cbor_item_copier.proofs.copier.ItemCopier.progress.Goals as goal

pub returns-clause-tells : goal.returns-clause-tells
unfolding HasCopied
returns-clause-tells c = c.answer.ensures.tells

pub returns-clause-is : goal.returns-clause-is
unfolding Answers
returns-clause-is c = c.answer.ensures.answers

pub returns-clause-long : goal.returns-clause-long
returns-clause-long c = λ far.
    never_long (pending c.args.self.now) (item_spot c.args.self.now) (sym c.answer.ensures.answers ∙ far)
