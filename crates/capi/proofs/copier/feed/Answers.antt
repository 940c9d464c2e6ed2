use Rattle.std.proofs.Common.{rules}
use Rattle.capi.specs.declared.copier.CllCopier.{CllCopier}
use Rattle.capi.proofs.PieceLaws.{feeds}
use Rattle.capi.proofs.copier.feed.Goals as goal

pub returns-clause-fed : goal.returns-clause-fed
returns-clause-fed c = λ allowed count read written kept.
    let new : CllCopier = record { mark = c.args.copier.now.mark; state = c.save-copier.result } in
    let gives = c.feed-copied.ensures in
    let was = c.in-Some.ensures.kept allowed count read written kept in
    let (now, so) = gives.read allowed count read written was in
    feeds allowed count read written c.args.bytes.now c.args.out.now c.feed-copied.new.out c.feed-copied.result
    c.told_progress-told.result.1 c.told_progress-told.result.0 c.say-2.new.self c.in-Some.restored
    c.feed-copied.new.self new was now so gives.is gives.full gives.fits
    (λ progress says last. let stays = gives.stays progress says last in (stays.0, stays.1))
    (record { mark = kept.mark; state = c.save-copier.ensures.keeps allowed count _ _ now })
    c.told_progress-told.ensures.answer c.told_progress-told.ensures.place c.say-2.ensures

pub returns-clause-argument : goal.returns-clause-argument
returns-clause-argument c = λ none. absurd (none c.in-Some.ensures.some)

pub returns-clause-within : goal.returns-clause-within
returns-clause-within c = search rules
