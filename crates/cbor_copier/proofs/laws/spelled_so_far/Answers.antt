use Rattle.cbor_copier.proofs.ReadLaws.{read_spelled}
use Rattle.cbor_copier.proofs.laws.spelled_so_far.Goals as goal

pub returns : goal.returns
returns c = read_spelled
