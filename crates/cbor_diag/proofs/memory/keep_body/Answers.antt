use Rattle.cbor_diag.proofs.MemoryLaws.{kept_all}
use Rattle.cbor_diag.proofs.memory.keep_body.Goals as goal

pub returns-in-Ok-clause-kept : goal.returns-in-Ok-clause-kept
returns-in-Ok-clause-kept g c =
    let copied = c.in-Ok.ensures.copied in
    (copied.ends, kept_all copied.written c.requires.empty)
