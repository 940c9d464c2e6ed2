use Rattle.cbor_skip.proofs.DueLaws.{no_item_fault, no_early_break, no_deep_nest}
use Rattle.cbor_skip.proofs.laws.no_item_fault.Goals as goal

pub returns : goal.returns
returns c = record { fault = no_item_fault; early = no_early_break; deep = no_deep_nest }
