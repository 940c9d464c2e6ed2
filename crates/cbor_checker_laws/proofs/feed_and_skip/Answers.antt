use Rattle.std.proofs.Common.{◌↔◌, [], subst, arith, refl, IsOk}
use Rattle.ciborium_ll_grammar.specs.declared.spelling.Spelling.{Spelling}
use Rattle.cbor_skip.specs.ItemFaults.{BeginsWithItem}
use Rattle.cbor_checker_laws.proofs.AnswerLaws.{both_answer, exactly, fresh_ready, feed_tells, skip_tells}
use Rattle.cbor_checker_laws.specs.SameFaults.{SkipTells}
use Rattle.cbor_checker.proofs.ReadLaws.{answers_unless}
use Rattle.cbor_checker_laws.proofs.feed_and_skip.Goals as goal

pub returns-clause-feed_told : goal.returns-clause-feed_told
returns-clause-feed_told c =
    let start = c.with_spelling-checker.ensures in
    let read = c.feed-fed.ensures.read c.args.spelling c.args.depth [] start in
    feed_tells _ _ _ _ _ (omega (arith, c.requires.room)) read.0 _ (answers_unless _ _ c.feed-fed.ensures.is) read.1.tells read.1.all

pub returns-clause-skip_told : goal.returns-clause-skip_told
returns-clause-skip_told c =
    let fresh = c.with_spelling-decoder.ensures in
    let told = c.skip_item-skipped.ensures.told c.args.bytes.now
    (fresh_ready _ _ _ _ _ _ fresh refl c.new.ensures.ahead (omega arith) (omega (arith, c.requires.room))) in
    subst (λ (z : Spelling). SkipTells z c.args.depth c.args.bytes.now c.skip_item-skipped.result) fresh.mode
    (skip_tells _ _ _ _ _ _ _ fresh.offset told)

pub returns-clause-ended : goal.returns-clause-ended
returns-clause-ended c =
    let start = c.with_spelling-checker.ensures in
    let read = c.feed-fed.ensures.read c.args.spelling c.args.depth [] start in
    (exactly _ _ _ _ _ (omega (arith, c.requires.room)) read.0 _ (answers_unless _ _ c.feed-fed.ensures.is) read.1.tells read.1.all).1

pub returns-clause-faulted : goal.returns-clause-faulted
returns-clause-faulted c =
    let start = c.with_spelling-checker.ensures in
    let read = c.feed-fed.ensures.read c.args.spelling c.args.depth [] start in
    (exactly _ _ _ _ _ (omega (arith, c.requires.room)) read.0 _ (answers_unless _ _ c.feed-fed.ensures.is) read.1.tells read.1.all).2

pub returns-clause-skipped : goal.returns-clause-skipped
returns-clause-skipped c =
    let fresh = c.with_spelling-decoder.ensures in
    let exact = c.skip_item-skipped.ensures.exactly c.args.bytes.now
    (fresh_ready _ _ _ _ _ _ fresh refl c.new.ensures.ahead (omega arith) (omega (arith, c.requires.room))) in
    subst (λ (z : Spelling). IsOk c.skip_item-skipped.result ↔ BeginsWithItem z c.args.depth c.args.bytes.now)
    fresh.mode exact

pub returns-clause-same : goal.returns-clause-same
returns-clause-same c = λ fault e.
    let start = c.with_spelling-checker.ensures in
    let fresh = c.with_spelling-decoder.ensures in
    let told = c.skip_item-skipped.ensures.told c.args.bytes.now
    (fresh_ready _ _ _ _ _ _ fresh refl c.new.ensures.ahead (omega arith) (omega (arith, c.requires.room))) in
    let read = c.feed-fed.ensures.read c.args.spelling c.args.depth [] start in
    both_answer _ _ _ _ _ _ _ fault _ _ _ read.0 (answers_unless _ _ c.feed-fed.ensures.is) fresh.offset fresh.mode told e
