use Rattle.std.proofs.Common.{[]}
use Rattle.cbor_encode.proofs.ItemLaws.{completed_always, scalar_completes}
use Rattle.cbor_encode.proofs.items.put_scalar.Goals as goal

pub returns-clause-wrote : goal.returns-clause-wrote
returns-clause-wrote c =
    completed_always _ c.args.number.header [] c.args.out.now.items c.put_whole.new.out.items
    c.put_whole.result c.put_whole.ensures.wrote
    (λ depth. scalar_completes _ depth c.args.number.header c.args.number.mark c.requires.scalar)
