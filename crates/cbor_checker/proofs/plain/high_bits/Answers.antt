use Rattle.std.proofs.Common.{arith, refl}
use Rattle.std.proofs.lemmas.Nat.{le_bytes_8}
use Rattle.cbor_checker.proofs.HighBits.{eight, eight_bytes, low_in}
use Rattle.cbor_checker.proofs.plain.high_bits.Goals as goal

pub returns : goal.returns
returns c = λ none.
    let xs = c.args.bytes.now in
    let at = c.args.at in
    low_in c.from_le_bytes-word.result _ _ c.args.from c.args.until xs at none refl refl
    (omega (arith, c.requires.from)) (omega (arith, c.requires.until))
    (le_bytes_8 (eight xs at) c.from_le_bytes-word.result refl
    (eight_bytes xs at (λ i. (c.type_inv.bytes i).fits)) c.from_le_bytes-word.ensures)
