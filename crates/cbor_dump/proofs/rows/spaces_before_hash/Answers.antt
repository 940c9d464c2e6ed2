use Rattle.std.proofs.Common.{◌≤◌, ◌-◌, ◌∙◌, arith}
use Rattle.cbor_dump.proofs.TableLaws.{cut_margin, margin_ends}
use Rattle.cbor_dump.proofs.rows.spaces_before_hash.Goals as goal

pub range_from-requires : goal.range_from-requires
range_from-requires c = let less : 36 - c.args.count ≤ 36 = omega arith in λ _. cut_margin (36 - c.args.count) less

pub returns : goal.returns
returns c = c.range_from.ensures.value ∙ margin_ends c.args.count c.requires
