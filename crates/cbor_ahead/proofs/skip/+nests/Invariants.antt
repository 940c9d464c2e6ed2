use Rattle.std.proofs.Common.{◌≡◌, ◌+◌, ◌-◌, ◌*◌, ◌%◌, ◌^◌, ℕ}
use Rattle.cbor_skip.specs.Skipping.{ReadsCounted}
use Rattle.ciborium_ll_buffers.specs.contracts.buffered.BufferedReaderRead.TheImpl.{ghosts}
use Rattle.cbor_ahead.proofs.skip.+nests.Given as goal

-- The contents of a nest are in one nest more.
abbrev pub decreases-skip_items : goal.decreases-skip_items
decreases-skip_items g l = 3 * l.nests + 2

abbrev pub decreases-skip_one : goal.decreases-skip_one
decreases-skip_one g l = 3 * l.nests + 1

abbrev pub decreases-skip_open : goal.decreases-skip_open
decreases-skip_open g l = 3 * l.nests + 1

abbrev pub decreases-skip_rest : goal.decreases-skip_rest
decreases-skip_rest g l = 3 * l.nests

abbrev pub invariant-skip_items-items : goal.invariant-skip_items-items
invariant-skip_items-items g l = record {
  done : ℕ;
  counted : done + l.left ≡ l.fn.count;
  reads : ReadsCounted (ghosts g.row.T g.T.Read g.T.Read-dict) done l.depth l.fn.decoder l.decoder;
  same : done ≡ 0 → l.decoder ≡ l.fn.decoder;
}

abbrev pub decreases-skip_items-items : goal.decreases-skip_items-items
decreases-skip_items-items g l = l.left

abbrev pub invariant-skip_open-items : goal.invariant-skip_open-items
invariant-skip_open-items g l = record {
  done : ℕ;
  parity : done % 2 ≡ l.parity;
  reads : ReadsCounted (ghosts g.row.T g.T.Read g.T.Read-dict) done l.depth l.fn.decoder l.decoder;
}

abbrev pub decreases-skip_open-items : goal.decreases-skip_open-items
decreases-skip_open-items g l = 2 ^ 64 - l.decoder.offset
