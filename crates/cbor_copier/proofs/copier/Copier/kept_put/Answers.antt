use Rattle.std.proofs.Common.{length, arith, rules}
use Rattle.cbor_copier.proofs.PendingLaws.{behind_put}
use Rattle.cbor_copier.proofs.copier.Copier.kept_put.Goals as goal

pub returns-clause-rest : goal.returns-clause-rest
returns-clause-rest c =
    behind_put c.args.at (length c.args.bytes.now) c.args.out.now c.copy_from_slice.new.self
    (omega (arith, c.requires.room)) (search rules)
