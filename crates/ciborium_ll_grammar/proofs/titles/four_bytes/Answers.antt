use Rattle.std.proofs.lemmas.Nat.{be_bytes_4}
use Rattle.ciborium_ll_grammar.proofs.titles.four_bytes.Goals as goal

pub returns : goal.returns
returns c = be_bytes_4 c.args.bytes.now _ c.requires (λ i. (c.type_inv.bytes i).fits) c.from_be_bytes.ensures
