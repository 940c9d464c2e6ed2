use Rattle.std.proofs.Common.{arith}
use Rattle.cbor_checker.specs.Checking.{HasRead, spot_of}
use Rattle.cbor_item_copier.proofs.StepLaws.{none_taken}
use Rattle.cbor_item_copier.proofs.copier.check.Goals as goal

pub returns-clause-taken : goal.returns-clause-taken
unfolding HasRead
returns-clause-taken c = λ allowed depth fed was.
    let read = c.feed.ensures.read allowed depth fed was in (read.0, omega (arith, read.1.fits))

pub returns-clause-none : goal.returns-clause-none
unfolding HasRead
returns-clause-none c = λ allowed depth fed was none.
    let read = c.feed.ensures.read allowed depth fed was in
    none_taken allowed depth fed c.args.bytes.now c.feed.result (spot_of c.args.checker.now) (spot_of c.feed.new.self)
    c.requires.some none c.requires.due was read.0 read.1
