-- The bytes that readers and a writer with a lent slice hold, the facts that they tell, and the fault that they keep.
use Rattle.std.specs.Prelude.{◌≡◌, ℕ, ◌+◌, ◌-◌, ◌<◌, ◌≤◌, Bool, false, List, [], ◌++◌, None, length, slice_range}
use Rattle.std.specs.declared.option.Option.{Option}
use Rattle.std.specs.Io.KnownBytes.{Consumes, append_known, prepend_known}
use Rattle.ciborium_ll_buffers.specs.declared.buffered.BufferedReader.{BufferedReader}
use Rattle.ciborium_ll_buffers.specs.declared.buffered.BufferedWriter.{BufferedWriter}
use Rattle.ciborium_ll_buffers.specs.declared.keeping.KeepingReader.{KeepingReader}
use Rattle.ciborium_ll_streams.specs.declared.streams.ReadFault.{ReadFault}
use Rattle.ciborium_ll_streams.specs.declared.streams.WriteFault.{WriteFault}
use Rattle.ciborium_ll_buffers.specs.declared.window.Window.{Window}

-- The bytes that wait in a part of a lent slice: `01 02` if the slice is `00 01 02 00` and the part is from 1 up to 3.
abbrev pub held : Window → List ℕ
held w = slice_range w.space.now w.start w.end

-- The number of bytes of the lent slice: 4 if it is `00 01 02 00`.
abbrev pub window_capacity : Window → ℕ
window_capacity w = length w.space.now

-- The number of bytes that fit after the bytes that wait: 1 if the slice has 4 bytes and they end at 3.
abbrev pub window_room : Window → ℕ
window_room w = length w.space.now - w.end

module _ {T : Type 0} where
  -- The inner reader. If `01` of `01 02 03` was read ahead, it has `02 03` left.
  abbrev pub buffered_source : BufferedReader T → T
  buffered_source r = r.source

  -- The bytes that were read ahead and that no caller got: `02` if `01 02` was read and a caller got `01`.
  abbrev pub buffered_read_ahead : BufferedReader T → List ℕ
  buffered_read_ahead r = held r.window

  -- The number of bytes of a reader's lent slice: 4 for `00 01 02 00`.
  abbrev pub buffered_read_capacity : BufferedReader T → ℕ
  buffered_read_capacity r = window_capacity r.window

  -- The bytes to come, if the inner reader tells its bytes: those read ahead, and then its own. `01` ahead and `02 03`
  -- in the inner reader are `01 02 03`.
  abbrev pub buffered_ahead : (T → Option (List ℕ)) → BufferedReader T → Option (List ℕ)
  buffered_ahead remaining r = prepend_known (held r.window) (remaining r.source)

  -- The fault of the last read that failed, if the reader keeps it: `End` if the inner reader gave 0 bytes.
  abbrev pub buffered_read_fault : BufferedReader T → Option ReadFault
  buffered_read_fault r = r.fault

  -- The reader is never steady: the answer is `false`.
  abbrev pub buffered_steady : BufferedReader T → Bool
  buffered_steady r = false

  -- The number of reads that failed so far: 2 after two reads past the end.
  abbrev pub buffered_read_failures : BufferedReader T → ℕ
  buffered_read_failures r = r.failures.count

  -- The inner reader, in its present state. If it gave `01 02` of `01 02 03`, it has `03` left.
  abbrev pub keeping_source : KeepingReader T → T
  keeping_source r = r.source

  -- The bytes that came and that no caller got: `02` if `01 02` came and a caller got `01`.
  abbrev pub keeping_held : KeepingReader T → List ℕ
  keeping_held r = held r.window

  -- The number of bytes of the lent slice: 4 for `00 01 02 00`.
  abbrev pub keeping_capacity : KeepingReader T → ℕ
  keeping_capacity r = window_capacity r.window

  -- The bytes to come, if the inner reader tells its bytes: those that are held, and then its own. `02` held and `03` in
  -- the inner reader are `02 03`.
  abbrev pub keeping_ahead : (T → Option (List ℕ)) → KeepingReader T → Option (List ℕ)
  keeping_ahead remaining r = prepend_known (held r.window) (remaining r.source)

  -- Why the inner reader failed, if it did: `End` after a call that gave 0 bytes.
  abbrev pub keeping_fault : KeepingReader T → Option ReadFault
  keeping_fault r = r.fault

  -- The reader is never steady: the answer is `false`.
  abbrev pub keeping_steady : KeepingReader T → Bool
  keeping_steady r = false

  -- The number of reads that failed so far: 1 after a read of three bytes from `01 02`.
  abbrev pub keeping_failures : KeepingReader T → ℕ
  keeping_failures r = r.failures.count

  -- These bytes came after those that are held, and the inner reader consumed them. If `01` was held and `02` came,
  -- `01 02` is held.
  pub record HoldsMore (remaining : T → Option (List ℕ)) (old new : KeepingReader T) : Type 0 where
    pub bytes : List ℕ
    pub held : keeping_held new ≡ keeping_held old ++ bytes
    pub consumed : Consumes (remaining (keeping_source old)) (remaining (keeping_source new)) bytes

  -- The inner writer. If `03` of `01 02 03` is kept back, it has `01 02`.
  abbrev pub buffered_sink : BufferedWriter T → T
  buffered_sink w = w.sink

  -- The bytes that were kept back and not passed on: `02` if `01` of `01 02` was passed on.
  abbrev pub buffered_kept_back : BufferedWriter T → List ℕ
  buffered_kept_back w = held w.window

  -- The number of bytes of a writer's lent slice: 4 for `00 00 00 00`.
  abbrev pub buffered_capacity : BufferedWriter T → ℕ
  buffered_capacity w = window_capacity w.window

  -- The number of bytes that fit after the bytes kept back: 2 if the slice has 4 bytes and they end at 2.
  abbrev pub buffered_space : BufferedWriter T → ℕ
  buffered_space w = window_room w.window

  -- The bytes so far, if the inner writer tells its bytes: those, and then the bytes kept back. `01 02` in the inner
  -- writer and `03` kept back are `01 02 03`.
  abbrev pub buffered_written : (T → Option (List ℕ)) → BufferedWriter T → Option (List ℕ)
  buffered_written contents w = append_known (contents w.sink) (held w.window)

  -- The fault of the last write or flush that failed, if the writer keeps it: `Zero` if the inner writer took 0 bytes.
  abbrev pub buffered_write_fault : BufferedWriter T → Option WriteFault
  buffered_write_fault w = w.fault

  -- The writer tells no room: the answer is `None`.
  abbrev pub buffered_room : BufferedWriter T → Option ℕ
  buffered_room w = None

  -- The number of writes and flushes that failed so far: 2 after a write and a flush that failed.
  abbrev pub buffered_write_failures : BufferedWriter T → ℕ
  buffered_write_failures w = w.failures.count

  -- The bytes were kept back after the bytes kept back before, and took their length of the space. The inner writer is
  -- as it was. With `01` kept back, a write of `02` makes this `01 02`.
  pub record KeepsBack (old : BufferedWriter T) (bytes : List ℕ) (new : BufferedWriter T) : Type 0 where
    pub sink : buffered_sink new ≡ buffered_sink old
    pub kept_back : buffered_kept_back new ≡ buffered_kept_back old ++ bytes
    pub space : buffered_space old ≡ buffered_space new + length bytes

  -- Only these bytes are kept back if the whole slice has room for them, and no bytes otherwise. The rest of the slice
  -- is space. A slice of 4 bytes keeps 3 bytes back, and none of 5.
  pub record KeepsAlone (bytes : List ℕ) (new : BufferedWriter T) : Type 0 where
    pub within : length bytes ≤ buffered_capacity new → buffered_kept_back new ≡ bytes
    pub beyond : buffered_capacity new < length bytes → buffered_kept_back new ≡ []
    pub space : buffered_capacity new ≡ buffered_space new + length (buffered_kept_back new)

  -- A front of the bytes kept back is gone, and the rest is still kept back. There is no less space. A failed flush of
  -- `01 02 03` may leave `03`.
  pub record KeepsRest (old new : BufferedWriter T) : Type 0 where
    pub rest : (front : List ℕ) × (buffered_kept_back old ≡ front ++ buffered_kept_back new)
    pub space : buffered_space old ≤ buffered_space new
