use Rattle.std.proofs.Common.{take, sym, ◌∙◌}
use Rattle.cbor_item_copier.specs.Copying.{Answers, HasCopied, item_spot, pending}
use Rattle.cbor_item_copier.proofs.ReadLaws.{answers_piece, copies, last_off, none_pending}
use Rattle.cbor_item_copier.proofs.copier.ItemCopier.feed.Goals as goal

pub returns-clause-read : goal.returns-clause-read
unfolding HasCopied
returns-clause-read c = λ allowed depth read written is.
    let took = c.take.ensures in
    let now = took.copied allowed depth read written is in (
      now,
      copies allowed depth read written c.args.bytes.now (take c.take.result.written c.take.new.out) c.take.result
          (item_spot c.take.new.self) took.taken took.all took.long now.checked
          (took.tells allowed depth read written is),
    )

pub returns-clause-is : goal.returns-clause-is
returns-clause-is c = answers_piece c.take.new.self c.take.result.progress c.take.ensures.answers

pub returns-clause-none : goal.returns-clause-none
returns-clause-none c = none_pending c.take.result.progress _ _ c.take.ensures.answers

pub returns-clause-stays : goal.returns-clause-stays
unfolding Answers
returns-clause-stays c = λ progress is last.
    let off = last_off progress (pending c.args.self.now) (item_spot c.args.self.now) is last in
    let same = c.take.ensures.stays off.0 off.1 in
    (same.0, same.1, same.2, same.3 ∙ sym is)
