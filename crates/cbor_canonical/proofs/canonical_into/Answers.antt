use Rattle.std.proofs.lemmas.Result.{err_from_is_err_and}
use Rattle.std.proofs.Common.{◌≡◌, ◌<◌, ℕ, ap, Err, length, refl, rules, take}
use Rattle.cbor_deterministic.specs.Deterministic.{HasDeterministic}
use Rattle.cbor_canonical.specs.declared.CanonicalError.TheVariants.{Memory}
use Rattle.std.proofs.lemmas.List.{take_rest}
use Rattle.cbor_canonical.proofs.CanonicalLaws.{first_written, lacks_memory, unwritten_more}
use Rattle.cbor_canonical.proofs.KeptLaws.{copied}
use Rattle.cbor_canonical.proofs.canonical_into.Goals as goal

pub returns-in_err-end-clause-written : goal.returns-in_err-end-clause-written
returns-in_err-end-clause-written c =
    let p = err_from_is_err_and c.from_residual-in_err-end.result c.from_residual-in_err-end.ensures.1 in
    rw (p.1, p.2) (unwritten_more c.args.depth c.args.bytes.now c.in_ok-item.item.now c.in_ok-item.rest.now _
    c.in_ok-item.ensures.0 c.in_ok-item.ensures.1 c.in_err-end.ensures.written)

pub returns-in_err-end-clause-room : goal.returns-in_err-end-clause-room
returns-in_err-end-clause-room c = λ memory.
    let p = err_from_is_err_and c.from_residual-in_err-end.result c.from_residual-in_err-end.ensures.1 in
    let same : c.in_err-end.field-0.0 ≡ Memory = cc in
    let long : length c.rewrite_item.new.out ≡ length c.args.out.now = search rules in
    let many : length c.rewrite_item.new.spans ≡ length c.args.spans.now = search rules in
    let kept : (len : ℕ) → HasDeterministic c.args.order c.args.depth c.args.bytes.now len
    → length c.args.out.now < len = search rules in
    rw (long, many) at (lacks_memory c.args.order c.args.depth _ _ c.args.bytes.now c.in_ok-item.item.now
    c.in_ok-item.rest.now c.in_ok-item.ensures.0 c.in_ok-item.ensures.1 (c.in_err-end.ensures.room (ap Err same))
    (rw long kept))

pub returns-in-Some-clause-written : goal.returns-in-Some-clause-written
returns-in-Some-clause-written c =
    rw take_rest (copied c.args.order c.args.depth c.in-Some.len c.args.bytes.now (take c.in-Some.len c.copy_item.new.out)
    c.in-Some.ensures.copied.0 c.in-Some.ensures.copied.2)

pub returns-in-Ok-clause-written : goal.returns-in-Ok-clause-written
returns-in-Ok-clause-written c =
    first_written c.args.order c.args.depth c.args.bytes.now c.in-Ok.rest.now (take 0 c.copy_item.new.out)
    (take c.in-Ok.end c.rewrite_item.new.out) refl c.in-Ok.ensures.written.is
