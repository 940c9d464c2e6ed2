use Rattle.cbor_canonical.proofs.kept.flat_len.Goals as goal

pub returns-in-Ok : goal.returns-in-Ok
returns-in-Ok c = (c.deterministic_len.ensures.exactly c.in-Ok.len).0 c.in-Ok.is
