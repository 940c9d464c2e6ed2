use Rattle.std.proofs.Common.{◌≡◌, ◌≤◌, ◌-◌, drop, length}
use Rattle.cbor_diag.specs.Passing.{passed_held, passed_text}
use Rattle.cbor_diag.proofs.QuoteLaws.{GoesOn}
use Rattle.cbor_diag.proofs.strings.quotes.show_quoted.Given as goal

abbrev pub invariant-bytes : goal.invariant-bytes
invariant-bytes g l =
    record {
      within : l.at ≤ length l.bytes;
      text : GoesOn g.W.Write (passed_text l.quotes l.fn.held l.bytes)
          (passed_text l.quotes l.held (drop l.at l.bytes)) l.fn.writer l.writer;
      held : passed_held l.quotes l.held (drop l.at l.bytes)
          ≡ passed_held l.quotes l.fn.held l.bytes;
    }

abbrev pub decreases-bytes : goal.decreases-bytes
decreases-bytes g l = length l.bytes - l.at
