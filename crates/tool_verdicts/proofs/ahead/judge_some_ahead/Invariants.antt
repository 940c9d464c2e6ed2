use Rattle.std.proofs.Common.{◌≡◌, ◌-◌, ◌^◌, length}
use Rattle.cbor_skip.specs.Skipping.{ReadsCounted}
use Rattle.ciborium_ll_buffers.specs.contracts.buffered.BufferedReaderRead.TheImpl.{ghosts}
use Rattle.tool_verdicts.specs.Parts.{IsAtMost}
use Rattle.tool_verdicts.proofs.ahead.judge_some_ahead.Given as goal

abbrev pub invariant-items : goal.invariant-items
invariant-items g l = record {
  few : IsAtMost l.most l.items;
  reads : ReadsCounted (ghosts g.row.T g.T.Read g.T.Read-dict) l.items l.depth l.fn.decoder l.decoder;
  start : l.start ≡ l.fn.decoder.offset;
  buffer : length l.buffer ≡ 512;
}

-- Each item takes at least one byte.
abbrev pub decreases-items : goal.decreases-items
decreases-items g l = 2 ^ 64 - l.decoder.offset
