use Rattle.std.proofs.Common.{◌≡◌, ◌*◌, ◌+◌, ◌-◌, ◌∙◌, arith, take, drop}
use Rattle.cbor_dump.specs.declared.rows.TheConstants.{DIGITS}
use Rattle.cbor_dump.proofs.TableLaws.{cut_digits, digits_alone}
use Rattle.cbor_dump.proofs.rows.digits_of.Goals as goal

pub range-requires-clause-start_boundary : goal.range-requires-clause-start_boundary
range-requires-clause-start_boundary c = λ some.
    cut_digits (3 * c.from.result + 1) (omega (arith, c.ranges.byte, c.from.ensures))

pub range-requires-clause-end_boundary : goal.range-requires-clause-end_boundary
range-requires-clause-end_boundary c =
    cut_digits (3 * c.from.result + 1 + 2) (omega (arith, c.ranges.byte, c.from.ensures))

pub returns : goal.returns
returns c =
    let at = 3 * c.from.result + 1 in
    let two : at + 2 - at ≡ 2 = omega arith in
    let cut : c.range.result.now ≡ take (at + 2 - at) (drop at DIGITS.now) = c.range.ensures.value in
    cut ∙ rw (two, c.from.ensures) (digits_alone c.args.byte (omega (arith, c.ranges.byte)))
