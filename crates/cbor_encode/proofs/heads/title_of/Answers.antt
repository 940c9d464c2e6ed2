use Rattle.std.proofs.Common.{rules, ◌≡◌, None}
use Rattle.cbor_encode.proofs.HeadLaws.{shortest_head}
use Rattle.cbor_encode.proofs.heads.title_of.Goals as goal

pub returns-in_default-clause-head : goal.returns-in_default-clause-head
returns-in_default-clause-head c =
    let none : c.args.mark ≡ None = search rules in
    shortest_head _ c.args.header _ (rw none at c.requires.meant) c.shortest.ensures.range c.shortest.ensures.bytes
