use Rattle.std.proofs.Common.{rules}
use Rattle.cbor_diag.proofs.strings.quotes.Quotes.none.Goals as goal

pub returns-in-Text : goal.returns-in-Text
returns-in-Text c = search rules
