use Rattle.std.proofs.Common.{rules}
use Rattle.std.proofs.lemmas.List.{take_rest}
use Rattle.std.proofs.lemmas.Result.{err_from_is_err_and}
use Rattle.cbor_canonical.proofs.CanonicalLaws.{unwritten_more}
use Rattle.cbor_canonical.proofs.KeptLaws.{begins, copied}
use Rattle.cbor_canonical.proofs.canonical.Goals as goal

pub returns : goal.returns
returns c =
    unwritten_more c.args.depth c.args.bytes.now c.in_ok-item.item.now c.in_ok-item.rest.now c.in-Err.error
    c.in_ok-item.ensures.0 c.in_ok-item.ensures.1 c.in-Err.ensures.written

pub returns-in_err-extend_from_slice : goal.returns-in_err-extend_from_slice
returns-in_err-extend_from_slice c =
    let p = err_from_is_err_and c.from_residual.result c.from_residual.ensures.1 in
    let has = (c.deterministic_len.ensures.exactly c.in-Ok.len).0 c.in-Ok.is in
    rw (p.1, p.2) (begins c.args.order c.args.depth c.in-Ok.len c.args.bytes.now has)

pub returns-in-Ok : goal.returns-in-Ok
returns-in-Ok c =
    let has = (c.deterministic_len.ensures.exactly c.in-Ok.len).0 c.in-Ok.is in
    rw take_rest (copied c.args.order c.args.depth c.in-Ok.len c.args.bytes.now c.extend_from_slice.new.self.items has
    (search rules))
