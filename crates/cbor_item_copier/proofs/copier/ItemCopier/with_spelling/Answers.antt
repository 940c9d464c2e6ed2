use Rattle.cbor_checker.specs.Checking.{HasRead}
use Rattle.cbor_copier.specs.Copying as copy
use Rattle.cbor_item_copier.specs.Copying.{HasCopied}
use Rattle.cbor_item_copier.proofs.StateLaws.{fresh_fed}
use Rattle.cbor_item_copier.proofs.copier.ItemCopier.with_spelling.Goals as goal

pub returns : goal.returns
unfolding HasRead HasCopied copy.HasCopied copy.pending
returns c =
    fresh_fed c.args.spelling c.args.depth _ _ _ c.with_spelling.ensures c.new.ensures
