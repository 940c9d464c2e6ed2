use Rattle.cbor_deterministic.proofs.OneFault.{one_place}
use Rattle.cbor_deterministic.proofs.laws.one_refusal.Goals as goal

pub returns : goal.returns
returns c = one_place
