use Rattle.std.proofs.Common.{arith, inl, inr, rules}
use Rattle.cbor_deterministic.proofs.FlatLaws.{long_string}
use Rattle.cbor_deterministic.proofs.TitleRuns.{told}
use Rattle.cbor_deterministic.proofs.flat.string_len.Goals as goal

pub returns-in-88-clause-flat : goal.returns-in-88-clause-flat
returns-in-88-clause-flat c = λ more.
    rw c.from-len.ensures (long_string c.args.bytes.now c.one_byte-body.result (omega (arith, c.if-bytes-lt2.false))
    (inl c.in-88.is) (search rules) (omega (arith, c.if-body-lt24.false))
    (omega (arith, c.if-len-bytes.false, c.from-len.ensures)) c.one_byte-body.ensures)

pub returns-in-120-clause-flat : goal.returns-in-120-clause-flat
returns-in-120-clause-flat c = λ more.
    let text = rw c.from-len.ensures at (told c.is_text.result c.if-is_text.true c.is_text.ensures) in
    rw c.from-len.ensures (long_string c.args.bytes.now c.one_byte-body.result (omega (arith, c.if-bytes-lt2.false))
    (inr (c.in-120.is, text)) (search rules) (omega (arith, c.if-body-lt24.false))
    (omega (arith, c.if-len-bytes.false, c.from-len.ensures)) c.one_byte-body.ensures)
