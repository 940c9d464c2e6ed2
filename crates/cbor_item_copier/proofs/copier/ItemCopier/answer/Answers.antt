use Rattle.std.proofs.Common.{rules, subst}
use Rattle.cbor_checker.specs.Checking.{Answers}
use Rattle.cbor_checker.specs.declared.progress.Progress.TheVariants as f
use Rattle.cbor_item_copier.specs.declared.progress.Progress.TheVariants as r
use Rattle.cbor_item_copier.proofs.TellLaws.{checker_answers, copier_tells}
use Rattle.cbor_item_copier.proofs.copier.ItemCopier.answer.Goals as goal

pub returns-then-lacks_room-clause-tells : goal.returns-then-lacks_room-clause-tells
returns-then-lacks_room-clause-tells c = copier_tells c.args.self.now r.Room (search rules)

pub returns-in-More-clause-answers : goal.returns-in-More-clause-answers
returns-in-More-clause-answers c =
    checker_answers c.args.self.now (f.More c.in-More.due) (c.lacks_room.ensures.no c.if-lacks_room.false)
    (subst (Answers c.args.self.now.checker) c.in-More.is c.progress.ensures.is)

pub returns-in-More-clause-tells : goal.returns-in-More-clause-tells
returns-in-More-clause-tells c = copier_tells c.args.self.now (r.More c.in-More.due) (returns-in-More-clause-answers c)

pub returns-in-Ended-clause-answers : goal.returns-in-Ended-clause-answers
returns-in-Ended-clause-answers c =
    checker_answers c.args.self.now (f.Ended c.in-Ended.len) (c.lacks_room.ensures.no c.if-lacks_room.false)
    (subst (Answers c.args.self.now.checker) c.in-Ended.is c.progress.ensures.is)

pub returns-in-Ended-clause-tells : goal.returns-in-Ended-clause-tells
returns-in-Ended-clause-tells c = copier_tells c.args.self.now (r.Ended c.in-Ended.len) (returns-in-Ended-clause-answers c)

pub returns-in-Fault-clause-answers : goal.returns-in-Fault-clause-answers
returns-in-Fault-clause-answers c =
    checker_answers c.args.self.now (f.Fault c.in-Fault.fault) (c.lacks_room.ensures.no c.if-lacks_room.false)
    (subst (Answers c.args.self.now.checker) c.in-Fault.is c.progress.ensures.is)

pub returns-in-Fault-clause-tells : goal.returns-in-Fault-clause-tells
returns-in-Fault-clause-tells c = copier_tells c.args.self.now (r.Fault c.in-Fault.fault) (returns-in-Fault-clause-answers c)
