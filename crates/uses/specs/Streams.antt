-- The effect of a copy of a stream to its shortest spelling.
use Rattle.std.specs.Prelude.{◌≡◌, ℕ, ◌+◌, ◌≤◌, ◌⊎◌, List, ◌++◌, length, drop, IsSome, Some}
use Rattle.std.specs.Prelude.{Result, Ok, Err, OnOk, OnErr}
use Rattle.ciborium_ll_grammar.specs.declared.spelling.Spelling.TheVariants.{Any}
use Rattle.ciborium_ll.specs.Types.Read.{Ghosts as Reader}
use Rattle.ciborium_ll.specs.Types.Write.{Ghosts as Writer}
use Rattle.ciborium_ll.specs.Types.Decoder.{Decoder}
use Rattle.ciborium_ll.specs.Types.Error.TheVariants as e
use Rattle.ciborium_ll.specs.Types.RecodeError.{RecodeError}
use Rattle.ciborium_ll.specs.Types.RecodeError.TheVariants as r
use Rattle.ciborium_ll.specs.Decoding.{IsFresh, offset_limit, reader_of}
use Rattle.ciborium_ll.specs.Elements.{spelling}
use Rattle.ciborium_ll.specs.Faults.{Answer, Short, Syntax, HasFault, BeginsWithElements}
use Rattle.ciborium_ll.specs.Premises.{CanRead, CanWrite}
use Rattle.ciborium_ll.specs.Recoding.{Recodes}
use Rattle.ciborium_ll.specs.RecodingTold.{HasRoom, StopInReading, StopInWriting}
use Rattle.ciborium_ll.specs.Sides.{sides}

-- The length of the buffer through which bodies go, in bytes. A byte string of 65 bytes takes two chunks.
abbrev pub buffer_size : ℕ
buffer_size = 64

-- ---- over any reader and writer

module _ {W F : Type 0} (sink : Writer W F) where
  -- The writer was flushed, with this answer. A writer that tells its room keeps its bytes. After 2 failures, an error
  -- makes 3.
  pub record Flushes (old : W) (result : Result (Unit {0}) F) (new : W) : Type 0 where
    pub flushed : OnOk result (sink.flushed old new)
    pub ok : OnOk result (sink.failures new ≡ sink.failures old)
    pub err : OnErr result (sink.failures new ≡ sink.failures old + 1)
    pub bytes : IsSome (sink.room old) → sink.written new ≡ sink.written old
    pub room : IsSome (sink.room old) → sink.room new ≡ sink.room old
    pub target : sink.target new ≡ sink.target old

  -- The writer was flushed, and an error is the error of the flush. If the writer tells its room and has `01 02`, it
  -- keeps them after an error.
  abbrev pub FlushesSo : {E : Type 0} → W → Result (Unit {0}) (RecodeError E F) → W → Type 0
  FlushesSo old (Ok done) new = Flushes old (Ok done) new
  FlushesSo old (Err (r.Write fault)) new = Flushes old (Err fault) new
  FlushesSo old (Err (r.Read error)) new = ⊥

module _ {R E W F : Type 0} (source : Reader R E) (sink : Writer W F) where
  -- `recode` copied `count` elements to the writer, with this answer, by a new decoder over the reader and through a
  -- buffer of `buffer_size` bytes. The reader is as that decoder left it. After `Ok` for one element of `01 05`, it has
  -- `05` left.
  pub record RecodesFrom (count : ℕ) (reader : R) (writer : W) (result : Result (Unit {0}) (RecodeError E F))
      (reader' : R) (writer' : W) : Type 0 where
    pub decoder : Decoder R
    pub fresh : IsFresh reader 0 decoder
    pub behind : Decoder R
    pub recodes : Recodes source sink count buffer_size (sides decoder writer) result (sides behind writer')
    pub left : reader' ≡ reader_of behind

  -- All elements were copied, and then the writer was flushed, with this answer. For one element of `01 05`, `01` was
  -- copied.
  pub record FlushesBehind (count : ℕ) (reader : R) (writer : W) (result : Result (Unit {0}) F) (reader' : R)
      (writer' : W) : Type 0 where
    pub between : W
    pub copies : RecodesFrom count reader writer (Ok tt) reader' between
    pub flushes : Flushes sink between result writer'

  -- The effect of `normalise`, by its answer: a copy and then a flush, or a copy that failed. For one element of `1c`,
  -- the copy failed, and no flush came.
  abbrev pub CopiesAndFlushes : ℕ → R → W → Result (Unit {0}) (RecodeError E F) → R → W → Type 0
  CopiesAndFlushes count reader writer (Ok done) reader' writer' =
      FlushesBehind count reader writer (Ok done) reader' writer'
  CopiesAndFlushes count reader writer (Err (r.Read error)) reader' writer' =
      RecodesFrom count reader writer (Err (r.Read error)) reader' writer'
  CopiesAndFlushes count reader writer (Err (r.Write fault)) reader' writer' =
      RecodesFrom count reader writer (Err (r.Write fault)) reader' writer' ⊎
      FlushesBehind count reader writer (Err fault) reader' writer'

  -- ---- the premises over bytes that are told

  -- The reader tells its bytes, and the writer tells the bytes written: `02`, for example, and `01`.
  pub record TellBytes (reader : R) (writer : W) (due written : List ℕ) : Type 0 where
    pub ahead : source.ahead reader ≡ Some due
    pub output : sink.written writer ≡ Some written

  -- A fresh decoder can read from the reader, and the writer has room for the copy. For one element of `18 17 05`, a
  -- room of 1 byte is enough.
  pub record AreReady (count : ℕ) (reader : R) (writer : W) (due written : List ℕ) : Type 0 where
    pub can_read : (decoder : Decoder R) → IsFresh reader 0 decoder → CanRead source buffer_size decoder due
    pub can_write : CanWrite sink (HasRoom count due) writer written

  -- ---- the copy

  -- The bytes began with `count` elements. Their shortest spelling was appended, and exactly the bytes after them are
  -- left. Over `18 17 05` with a count of 1, `17` is appended and `05` is left.
  pub record CopiesSo (count : ℕ) (due written : List ℕ) (reader : R) (writer : W) : Type 0 where
    pub front : BeginsWithElements Any count due
    pub output : sink.written writer ≡ Some (written ++ spelling front.marks)
    pub left : source.ahead reader ≡ Some front.rest

  -- The bytes began with fewer elements, and the first fault stopped the copy. The writer has everything written before
  -- the fault, and the reader the bytes after those that the fault consumes. Over `01 1c 05` with a count of 2, `01` is
  -- appended and `05` is left.
  pub record StopsAtFault (count : ℕ) (due written : List ℕ) (answer : Answer) (reader : R) (writer : W) : Type 0 where
    pub fault : HasFault Any count due
    pub answered : fault.answer ≡ answer
    pub fewer : BeginsWithElements Any count due → ⊥
    pub output : sink.written writer ≡ Some (written ++ fault.written)
    pub left : source.ahead reader ≡ Some (drop fault.consumed fault.ahead)

  -- The reader failed, or the offset is full. A part of the elements was read, and written but for the kept bytes. For
  -- one element of `43 01 02`, `43 01` may be written.
  pub record FailsToRead (count : ℕ) (due written : List ℕ) (writer : W) : Type 0 where
    pub stop : StopInReading count due
    pub output : sink.written writer ≡ Some (written ++ stop.written)

  -- A write failed. The elements or a part of them were read, and a beginning of their spelling was written. For one
  -- element of `43 01 02 03 05`, `43 01` may be written and `05` left.
  pub record FailsToWrite (count : ℕ) (due written : List ℕ) (reader : R) (writer : W) : Type 0 where
    pub stop : StopInWriting count buffer_size due
    pub output : sink.written writer ≡ Some (written ++ stop.written)
    pub left : source.ahead reader ≡ Some stop.rest

  -- ---- the flush after the copy

  -- All elements were copied, and their writer was flushed: with `17`, for one element of `18 17`.
  pub record Normalises (count : ℕ) (due written : List ℕ) (reader : R) (writer : W) : Type 0 where
    pub copied : W
    pub copies : CopiesSo count due written reader copied
    pub flushed : sink.flushed copied writer

  -- All elements were copied, and the flush failed. A writer that tells its room still has them. After one element of
  -- `18 17` it has `17`.
  pub record FailsToFlush (count : ℕ) (due written : List ℕ) (reader : R) (writer : W) : Type 0 where
    pub copied : W
    pub copies : CopiesSo count due written reader copied
    pub kept : IsSome (sink.room copied) → sink.written writer ≡ sink.written copied

  -- ---- the copy and the flush, by the answer

  -- The effect of `normalise` if all is ready. An error `Read` names the first fault, and an error `Write` is the error
  -- of the flush. For two elements of `01 1c` the answer is `Syntax(1)`.
  abbrev pub IsNormalised : ℕ → List ℕ → List ℕ → Result (Unit {0}) (RecodeError E F) → R → W → Type 0
  IsNormalised count due written (Ok done) reader writer = Normalises count due written reader writer
  IsNormalised count due written (Err (r.Read (e.Io fault))) reader writer =
      StopsAtFault count due written Short reader writer
  IsNormalised count due written (Err (r.Read (e.Syntax place))) reader writer =
      StopsAtFault count due written (Syntax place) reader writer
  IsNormalised count due written (Err (r.Read e.TooLong)) reader writer = ⊥
  IsNormalised count due written (Err (r.Read e.Waiting)) reader writer = ⊥
  IsNormalised count due written (Err (r.Write fault)) reader writer = CopiesSo count due written reader writer

  -- The effect of `normalise` if any call may fail. After `Ok` for one element of `18 17`, `17` was written.
  abbrev pub NormalisesAnyhow : ℕ → List ℕ → List ℕ → Result (Unit {0}) (RecodeError E F) → R → W → Type 0
  NormalisesAnyhow count due written (Ok done) reader writer = Normalises count due written reader writer
  NormalisesAnyhow count due written (Err (r.Read (e.Io fault))) reader writer = FailsToRead count due written writer
  NormalisesAnyhow count due written (Err (r.Read (e.Syntax place))) reader writer =
      StopsAtFault count due written (Syntax place) reader writer
  NormalisesAnyhow count due written (Err (r.Read e.TooLong)) reader writer =
      (stops : FailsToRead count due written writer)
      × (offset_limit ≤ length stops.stop.before + stops.stop.consumed + buffer_size)
  NormalisesAnyhow count due written (Err (r.Read e.Waiting)) reader writer = ⊥
  NormalisesAnyhow count due written (Err (r.Write fault)) reader writer =
      FailsToWrite count due written reader writer ⊎ FailsToFlush count due written reader writer
