use Rattle.std.proofs.Common.{◌∙◌, sym, rules}
use Rattle.capi.specs.declared.item_copier.CllItemCopier.{CllItemCopier}
use Rattle.capi.proofs.ItemPieceLaws.{feeds}
use Rattle.capi.proofs.item_copier.feed.Goals as goal

pub returns-clause-fed : goal.returns-clause-fed
returns-clause-fed c = λ allowed depth read written kept.
    let new : CllItemCopier = record { mark = c.args.copier.now.mark; state = c.save.new.snapshot } in
    let gives = c.feed-copied.ensures in
    let was = (c.load_into.ensures.kept allowed depth read written kept).1 in
    let (now, so) = gives.read allowed depth read written was in
    feeds allowed depth read written c.args.bytes.now c.args.out.now c.feed-copied.new.out c.feed-copied.result
    c.told_progress-told.result.1 c.told_progress-told.result.0 c.say-2.new.self c.load_into.new.copier
    c.feed-copied.new.self new was now so gives.is gives.full gives.fits
    (λ progress says last. let stays = gives.stays progress says last in (stays.0, stays.1))
    (record { mark = kept.mark; state = c.save.ensures.keeps allowed depth _ _ now })
    c.told_progress-told.ensures.answer c.told_progress-told.ensures.number c.say-2.ensures

pub returns-then-not-load_into-clause-fed : goal.returns-then-not-load_into-clause-fed
returns-then-not-load_into-clause-fed c = λ allowed depth read written kept.
    let loaded = c.load_into.ensures.kept allowed depth read written kept in
    let both = sym c.if-not-load_into.true ∙ loaded.0 in absurd cc

pub returns-clause-argument : goal.returns-clause-argument
returns-clause-argument c = λ none. absurd (none (c.load_into.ensures.some (search rules)))
