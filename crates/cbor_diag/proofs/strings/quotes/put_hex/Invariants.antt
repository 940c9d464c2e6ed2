use Rattle.std.proofs.Common.{◌≤◌, ◌-◌, drop, length}
use Rattle.cbor_diag.specs.Notation.{bytes_notation}
use Rattle.cbor_diag.proofs.QuoteLaws.{GoesOn}
use Rattle.cbor_diag.proofs.strings.quotes.put_hex.Given as goal

abbrev pub invariant-bytes : goal.invariant-bytes
invariant-bytes g l =
    record {
      within : l.at ≤ length l.bytes;
      text : GoesOn g.W.Write (bytes_notation l.bytes) (bytes_notation (drop l.at l.bytes)) l.fn.writer l.writer;
    }

abbrev pub decreases-bytes : goal.decreases-bytes
decreases-bytes g l = length l.bytes - l.at
