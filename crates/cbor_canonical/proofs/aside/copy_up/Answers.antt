use Rattle.cbor_canonical.proofs.AsideRuns.{back_adds}
use Rattle.cbor_canonical.proofs.aside.copy_up.Goals as goal

pub returns-clause-copied : goal.returns-clause-copied
returns-clause-copied c =
    let parts = c.split_at_mut-front.ensures in
    back_adds _ c.split_at_mut-front.result.0.now c.split_at_mut-front.result.1.now c.put_bytes.new.out c.args.out.now
    c.args.at c.in_ok-len.len parts.front parts.front_len
    (rw (c.part.ensures, parts.front) at c.in_ok-len.ensures.written)
