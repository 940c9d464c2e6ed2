use Rattle.std.proofs.Common.{◌≡◌, ◌-◌, ◌^◌, length, min}
use Rattle.cbor_dump.specs.RowTexts.{characters_text}
use Rattle.cbor_dump.proofs.rows.has_columns.Given as goal

abbrev pub invariant-characters : goal.invariant-characters
invariant-characters l = l.len ≡ min (length (characters_text l.yielded)) (2 ^ 64 - 1)
