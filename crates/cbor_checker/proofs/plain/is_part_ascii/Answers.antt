use Rattle.std.proofs.Common.{arith, eqb-true}
use Rattle.cbor_checker.proofs.HighBits.{none_set, part_ascii}
use Rattle.cbor_checker.proofs.plain.is_part_ascii.Goals as goal

pub returns : goal.returns
returns c = λ yes.
    let both = none_set c.high_bits-first.result c.high_bits-second.result (eqb-true _ 0 yes) in
    part_ascii c.args.bytes.now c.args.start c.args.before c.args.len (omega (arith, c.requires.there, c.requires.short))
    c.requires.short (c.high_bits-first.ensures both.0) (c.high_bits-second.ensures both.1)
