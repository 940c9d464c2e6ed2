use Rattle.std.proofs.Common.{arith}
use Rattle.cbor_deterministic.proofs.OrderLaws.{bytes_rank, length_rank}
use Rattle.cbor_deterministic.proofs.items.compare_keys.Goals as goal

pub returns-in-Bytewise : goal.returns-in-Bytewise
returns-in-Bytewise c =
    rw c.in-Bytewise.is (bytes_rank c.args.key.now c.args.other.now c.cmp.result c.cmp.ensures)

pub returns-else-key-other-2 : goal.returns-else-key-other-2
returns-else-key-other-2 c =
    rw c.in-LengthFirst.is (length_rank c.args.key.now c.args.other.now c.cmp-else-key-other-2.result
    (omega (arith, c.if-key-other.false, c.if-key-other-2.false)) c.cmp-else-key-other-2.ensures)
