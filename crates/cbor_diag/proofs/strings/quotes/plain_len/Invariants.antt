use Rattle.std.proofs.Common.{◌≤◌, ◌-◌, length, take}
use Rattle.cbor_diag.proofs.PassedLaws.{StandAlone}
use Rattle.cbor_diag.proofs.strings.quotes.plain_len.Given as goal

abbrev pub invariant-bytes : goal.invariant-bytes
invariant-bytes l = record { within : l.len ≤ length l.bytes; alone : StandAlone (take l.len l.bytes) }

abbrev pub decreases-bytes : goal.decreases-bytes
decreases-bytes l = length l.bytes - l.len
