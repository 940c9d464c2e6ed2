use Rattle.std.proofs.Common.{rules}
use Rattle.cbor_copier.specs.declared.progress.End.TheVariants as e
use Rattle.cbor_copier.specs.Copying.{AnswersEnd}
use Rattle.cbor_copier.proofs.EndLaws.{end_exact, end_none, end_some, end_told}
use Rattle.cbor_copier.proofs.copier.Copier.end.Goals as goal

pub returns-then-not-is_empty-clause-is : goal.returns-then-not-is_empty-clause-is
unfolding AnswersEnd
returns-then-not-is_empty-clause-is c = search rules

pub returns-then-not-is_empty-clause-exactly : goal.returns-then-not-is_empty-clause-exactly
returns-then-not-is_empty-clause-exactly c = end_exact c.args.self.now e.Room (returns-then-not-is_empty-clause-is c)

pub returns-then-not-is_empty-clause-tells : goal.returns-then-not-is_empty-clause-tells
returns-then-not-is_empty-clause-tells c = end_told c.args.self.now e.Room (returns-then-not-is_empty-clause-is c)

pub returns-then-not-is_empty-clause-room : goal.returns-then-not-is_empty-clause-room
returns-then-not-is_empty-clause-room c = end_some c.args.self.now e.Room (returns-then-not-is_empty-clause-is c)

pub returns-then-not-is_empty-clause-none : goal.returns-then-not-is_empty-clause-none
returns-then-not-is_empty-clause-none c = end_none c.args.self.now e.Room (returns-then-not-is_empty-clause-is c)

pub returns-in-Ended-clause-is : goal.returns-in-Ended-clause-is
unfolding AnswersEnd
returns-in-Ended-clause-is c = search rules

pub returns-in-Ended-clause-exactly : goal.returns-in-Ended-clause-exactly
returns-in-Ended-clause-exactly c = end_exact c.args.self.now e.Ended (returns-in-Ended-clause-is c)

pub returns-in-Ended-clause-tells : goal.returns-in-Ended-clause-tells
returns-in-Ended-clause-tells c = end_told c.args.self.now e.Ended (returns-in-Ended-clause-is c)

pub returns-in-Ended-clause-room : goal.returns-in-Ended-clause-room
returns-in-Ended-clause-room c = end_some c.args.self.now e.Ended (returns-in-Ended-clause-is c)

pub returns-in-Ended-clause-none : goal.returns-in-Ended-clause-none
returns-in-Ended-clause-none c = end_none c.args.self.now e.Ended (returns-in-Ended-clause-is c)

pub returns-in-Faulted-clause-is : goal.returns-in-Faulted-clause-is
unfolding AnswersEnd
returns-in-Faulted-clause-is c = search rules

pub returns-in-Faulted-clause-exactly : goal.returns-in-Faulted-clause-exactly
returns-in-Faulted-clause-exactly c = end_exact c.args.self.now (e.Syntax c.in-Faulted.place) (returns-in-Faulted-clause-is c)

pub returns-in-Faulted-clause-tells : goal.returns-in-Faulted-clause-tells
returns-in-Faulted-clause-tells c = end_told c.args.self.now (e.Syntax c.in-Faulted.place) (returns-in-Faulted-clause-is c)

pub returns-in-Faulted-clause-room : goal.returns-in-Faulted-clause-room
returns-in-Faulted-clause-room c = end_some c.args.self.now (e.Syntax c.in-Faulted.place) (returns-in-Faulted-clause-is c)

pub returns-in-Faulted-clause-none : goal.returns-in-Faulted-clause-none
returns-in-Faulted-clause-none c = end_none c.args.self.now (e.Syntax c.in-Faulted.place) (returns-in-Faulted-clause-is c)

pub returns-in-Title-clause-is : goal.returns-in-Title-clause-is
unfolding AnswersEnd
returns-in-Title-clause-is c = search rules

pub returns-in-Title-clause-exactly : goal.returns-in-Title-clause-exactly
returns-in-Title-clause-exactly c = end_exact c.args.self.now e.Short (returns-in-Title-clause-is c)

pub returns-in-Title-clause-tells : goal.returns-in-Title-clause-tells
returns-in-Title-clause-tells c = end_told c.args.self.now e.Short (returns-in-Title-clause-is c)

pub returns-in-Title-clause-room : goal.returns-in-Title-clause-room
returns-in-Title-clause-room c = end_some c.args.self.now e.Short (returns-in-Title-clause-is c)

pub returns-in-Title-clause-none : goal.returns-in-Title-clause-none
returns-in-Title-clause-none c = end_none c.args.self.now e.Short (returns-in-Title-clause-is c)
