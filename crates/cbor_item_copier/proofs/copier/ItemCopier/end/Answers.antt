use Rattle.std.proofs.Common.{rules, subst}
use Rattle.cbor_checker.specs.Checking as check
use Rattle.cbor_checker.specs.declared.progress.End.TheVariants as g
use Rattle.cbor_item_copier.specs.declared.progress.End.TheVariants as e
use Rattle.cbor_item_copier.specs.Copying.{AnswersEnd, HasCopied}
use Rattle.cbor_item_copier.proofs.TellLaws.{checker_ends, copier_ends}
use Rattle.cbor_item_copier.proofs.copier.ItemCopier.end.Goals as goal

pub returns-then-lacks_room-clause-is : goal.returns-then-lacks_room-clause-is
unfolding AnswersEnd
returns-then-lacks_room-clause-is c = search rules

pub returns-then-lacks_room-clause-tells : goal.returns-then-lacks_room-clause-tells
unfolding AnswersEnd HasCopied
returns-then-lacks_room-clause-tells c = copier_ends c.args.self.now e.Room (returns-then-lacks_room-clause-is c)

pub returns-in-Between-clause-is : goal.returns-in-Between-clause-is
unfolding AnswersEnd
returns-in-Between-clause-is c =
    checker_ends c.args.self.now g.Between (c.lacks_room.ensures.no c.if-lacks_room.false)
    (subst (check.AnswersEnd c.args.self.now.checker) c.in-Between.is c.end.ensures.is)

pub returns-in-Between-clause-tells : goal.returns-in-Between-clause-tells
unfolding AnswersEnd HasCopied
returns-in-Between-clause-tells c = copier_ends c.args.self.now e.Between (returns-in-Between-clause-is c)

pub returns-in-Short-clause-is : goal.returns-in-Short-clause-is
unfolding AnswersEnd
returns-in-Short-clause-is c =
    checker_ends c.args.self.now (g.Short c.in-Short.due) (c.lacks_room.ensures.no c.if-lacks_room.false)
    (subst (check.AnswersEnd c.args.self.now.checker) c.in-Short.is c.end.ensures.is)

pub returns-in-Short-clause-tells : goal.returns-in-Short-clause-tells
unfolding AnswersEnd HasCopied
returns-in-Short-clause-tells c = copier_ends c.args.self.now (e.Short c.in-Short.due) (returns-in-Short-clause-is c)

pub returns-in-Fault-clause-is : goal.returns-in-Fault-clause-is
unfolding AnswersEnd
returns-in-Fault-clause-is c =
    checker_ends c.args.self.now (g.Fault c.in-Fault.fault) (c.lacks_room.ensures.no c.if-lacks_room.false)
    (subst (check.AnswersEnd c.args.self.now.checker) c.in-Fault.is c.end.ensures.is)

pub returns-in-Fault-clause-tells : goal.returns-in-Fault-clause-tells
unfolding AnswersEnd HasCopied
returns-in-Fault-clause-tells c = copier_ends c.args.self.now (e.Fault c.in-Fault.fault) (returns-in-Fault-clause-is c)
