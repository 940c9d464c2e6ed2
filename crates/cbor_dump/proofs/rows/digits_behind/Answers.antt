use Rattle.std.proofs.Common.{◌≡◌, ◌*◌, ◌+◌, ◌-◌, ◌∙◌, arith, take, drop}
use Rattle.cbor_dump.specs.declared.rows.TheConstants.{DIGITS}
use Rattle.cbor_dump.proofs.TableLaws.{cut_digits, digits_behind}
use Rattle.cbor_dump.proofs.rows.digits_behind.Goals as goal

pub range-requires-clause-start_boundary : goal.range-requires-clause-start_boundary
range-requires-clause-start_boundary c = λ some.
    cut_digits (3 * c.from-at.result) (omega (arith, c.ranges.byte, c.from-at.ensures))

pub range-requires-clause-end_boundary : goal.range-requires-clause-end_boundary
range-requires-clause-end_boundary c =
    cut_digits (3 * c.from-at.result + 3) (omega (arith, c.ranges.byte, c.from-at.ensures))

pub returns : goal.returns
returns c =
    let at = c.from-at.result in
    let three : 3 * at + 3 - 3 * at ≡ 3 = omega arith in
    let cut : c.range.result.now ≡ take (3 * at + 3 - 3 * at) (drop (3 * at) DIGITS.now) = c.range.ensures.value in
    cut ∙ rw (three, c.from-at.ensures) (digits_behind c.args.byte (omega (arith, c.ranges.byte)))
