-- The parts of the adapters over std's readers and writers that contracts speak of.
use Rattle.std.specs.Prelude.{ℕ}
use Rattle.ciborium_ll_streams.specs.declared.streams.StdReader.{StdReader}
use Rattle.ciborium_ll_streams.specs.declared.streams.StdWriter.{StdWriter}

module _ {T : Type 0} where
  -- The inner reader. After a read of `01` from `01 02` it has `02` left.
  abbrev pub stream_source : StdReader T → T
  stream_source r = r.source

  -- The number of reads that failed so far: 1 after one read past the end.
  abbrev pub stream_read_failures : StdReader T → ℕ
  stream_read_failures r = r.failures.count

  -- The inner writer. After writes of `01` and `02` it has `01 02`.
  abbrev pub stream_sink : StdWriter T → T
  stream_sink w = w.sink

  -- The number of writes and flushes that failed so far: 1 after one write that failed.
  abbrev pub stream_write_failures : StdWriter T → ℕ
  stream_write_failures w = w.failures.count
