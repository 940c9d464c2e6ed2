use Rattle.std.proofs.Common.{◌≡◌, ◌%◌, take}
use Rattle.ciborium_ll_text.specs.Rows.{shift_of}
use Rattle.ciborium_ll_text.specs.States.{after}
use Rattle.ciborium_ll_text.proofs.state.State.run_rows.Given as goal

abbrev pub invariant-loop-byte : goal.invariant-loop-byte
invariant-loop-byte l = l.row % 64 ≡ shift_of (after l.fn.self (take l.byte-index l.bytes))
