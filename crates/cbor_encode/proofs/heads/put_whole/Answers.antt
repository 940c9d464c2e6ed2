use Rattle.cbor_encode.proofs.ItemLaws.{whole_added}
use Rattle.cbor_encode.proofs.heads.put_whole.Goals as goal

pub returns-clause-wrote : goal.returns-clause-wrote
returns-clause-wrote c =
    whole_added _ c.args.header c.args.body.now c.args.out.now.items c.put_chunk.new.out.items
    c.put_chunk.result c.put_chunk.ensures.wrote
