use Rattle.std.proofs.Common.{refl, rules}
use Rattle.cbor_parser.proofs.ParseLaws.{enters_of}
use Rattle.cbor_parser.proofs.parser.Parser.enter.Goals as goal

pub returns-clause-entered : goal.returns-clause-entered
returns-clause-entered c =
    rw c.title_event-event.ensures
    (enters_of c.args.self.now.spelling c.args.self.now.within c.in-Some-after.within c.args.title.now c.args.start
    c.args.self.now.offset c.in-Some.header _
    (record { is_title = c.in-Some.ensures.title; taken = c.in-Some.ensures.taken; stands = search rules })
    (rw (c.after-self.ensures.is, c.requires.fresh) refl))
