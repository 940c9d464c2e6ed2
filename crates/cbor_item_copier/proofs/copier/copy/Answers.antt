use Rattle.std.proofs.Common.{length, take}
use Rattle.ciborium_ll_grammar.specs.declared.spelling.Spelling.TheVariants.{Any}
use Rattle.cbor_item_copier.specs.Copying.{most}
use Rattle.cbor_item_copier.proofs.StepLaws.{given_or_full, piece_copied}
use Rattle.cbor_item_copier.proofs.copier.copy.Goals as goal

pub returns-clause-full : goal.returns-clause-full
returns-clause-full c =
    given_or_full c.feed.result.progress _ c.feed.result.written (length c.args.out.now) c.feed.ensures.full
    c.feed.ensures.none

pub returns-clause-copied : goal.returns-clause-copied
returns-clause-copied c = λ fed given goes are counted was.
    let fed_to = c.feed.ensures in
    let (now, so) = fed_to.read Any most fed given was in
    piece_copied fed given c.args.bytes.now (take c.feed.result.written c.feed.new.out) c.feed.result.taken
    (length c.args.out.now) c.feed.result.progress c.args.copier.now c.feed.new.self fed_to.taken are goes counted
    c.requires.fits was c.requires.given now so.tells fed_to.is fed_to.all (fed_to.fits c.requires.given)
