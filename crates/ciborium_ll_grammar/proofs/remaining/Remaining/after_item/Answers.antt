use Rattle.std.proofs.Common.{rules}
use Rattle.ciborium_ll_grammar.proofs.RemainingLaws.{next_remains}
use Rattle.ciborium_ll_grammar.proofs.remaining.Remaining.after_item.Goals as goal

pub returns : goal.returns
returns c = λ header count is. next_remains header count c.args.self c.in-Some.after (search rules) is
