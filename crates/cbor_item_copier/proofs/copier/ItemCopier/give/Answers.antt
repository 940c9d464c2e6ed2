use Rattle.std.proofs.Common.{length, take}
use Rattle.ciborium_ll_grammar.specs.declared.spelling.Spelling.TheVariants.{Any}
use Rattle.cbor_item_copier.specs.Copying.{most}
use Rattle.cbor_item_copier.proofs.StepLaws.{given_or_full, only_written}
use Rattle.cbor_item_copier.proofs.copier.ItemCopier.give.Goals as goal

pub returns-clause-full : goal.returns-clause-full
returns-clause-full c =
    given_or_full c.feed.result.progress _ c.feed.result.written (length c.args.out.now) c.feed.ensures.full
    c.feed.ensures.none

pub returns-clause-copied : goal.returns-clause-copied
returns-clause-copied c = λ allowed depth fed given was.
    only_written given (take c.feed.result.written c.feed.new.out) c.feed.result.taken c.args.self.now.copier
    c.feed.new.self (λ read is. (c.feed.ensures.read Any most read given is).0) allowed depth fed _ was
