-- The results of a copy of elements from a reader to a writer, if both tell their bytes.
--
-- `left reader bytes` says that the reader still has these bytes, and `got writer bytes` that the writer has these
-- bytes.
use Rattle.std.specs.Prelude.{◌≡◌, ℕ, ◌+◌, ◌≤◌, ◌⊎◌, List, ◌++◌, length, drop, Option, Some, Result, Ok, Err}
use Rattle.ciborium_ll_decoder.specs.declared.dec.Error.TheVariants as e
use Rattle.ciborium_ll_decoder.specs.declared.copy.RecodeError.{RecodeError}
use Rattle.ciborium_ll_decoder.specs.declared.copy.RecodeError.TheVariants as r
use Rattle.ciborium_ll_grammar.specs.declared.spelling.Spelling.TheVariants.{Any}
use Rattle.ciborium_ll_grammar.specs.Elements.{spelling}
use Rattle.ciborium_ll_grammar.specs.Faults.{Syntax, BeginsWithElements, HasFault}
use Rattle.ciborium_ll_decoder.specs.Decoding.{offset_limit}
use Rattle.tool_lines.specs.declared.raw.TheConstants.{BUFFER_SIZE}
use Rattle.ciborium_ll_recode.specs.RecodingTold.{StopInReading, StopInWriting}

-- The bytes are told, and are exactly these. If `01 02` are these, `01 02` is told.
abbrev pub Tells : {T : Type 0} → (T → Option (List ℕ)) → T → List ℕ → Type 0
Tells told value bytes = told value ≡ Some bytes

-- The bytes are told, and are these without the first ones, at most `most`, which were read ahead. If `01 02` are these
-- and `01` was read ahead, `02` is told.
abbrev pub TellsBehind : {T : Type 0} → (T → Option (List ℕ)) → ℕ → T → List ℕ → Type 0
TellsBehind told most value bytes = (lost : List ℕ) × (rest : List ℕ) × (told value ≡ Some rest)
    × (bytes ≡ lost ++ rest) × (length lost ≤ most)

-- The bytes are told, and are these without some at the end. If `01 02` are these, `01` can be told.
abbrev pub TellsFront : {T : Type 0} → (T → Option (List ℕ)) → T → List ℕ → Type 0
TellsFront told value bytes = (front : List ℕ) × (lost : List ℕ) × (told value ≡ Some front) × (bytes ≡ front ++ lost)

-- The bytes are told, and are exactly these. If the flush after them failed, they may lack some at the end. If `01 02`
-- are these, `01` can be told only after a failed flush.
abbrev pub TellsFlushed : {T F : Type 0} → (T → Option (List ℕ)) → Result (Unit {0}) F → T → List ℕ → Type 0
TellsFlushed told (Ok done) value bytes = Tells told value bytes
TellsFlushed told (Err fault) value bytes = TellsFront told value bytes

-- A copy ended with the flush after it: with its own error, otherwise with that of the flush. If it failed at `1c`,
-- that error is the outcome even if the flush failed.
abbrev pub flushed_outcome : {E F : Type 0} → Result (Unit {0}) (RecodeError E F) → Result (Unit {0}) F
    → Result (Unit {0}) (RecodeError E F)
flushed_outcome (Ok done) (Ok sent) = Ok done
flushed_outcome (Ok done) (Err fault) = Err (r.Write fault)
flushed_outcome (Err error) flushed = Err error

module _ {W : Type 0} (got : W → List ℕ → Type 0) where
  -- The reader failed, or the offset was full. The writer got the spelling of a part of the elements. For one element
  -- of `43 01 02`, it may have got `43 01`.
  pub record ReadsShort (count : ℕ) (due written : List ℕ) (writer : W) : Type 0 where
    pub stop : StopInReading count due
    pub output : got writer (written ++ stop.written)

module _ {R W : Type 0} (left : R → List ℕ → Type 0) (got : W → List ℕ → Type 0) where
  -- The writer failed. It got a beginning of the spelling of all elements, or of a part of them. The bytes that were
  -- not read are left. For one element of `43 01 02 03`, it may have got `43 01`.
  pub record WritesShort (count : ℕ) (due written : List ℕ) (reader : R) (writer : W) : Type 0 where
    pub stop : StopInWriting count BUFFER_SIZE due
    pub output : got writer (written ++ stop.written)
    pub rest : left reader stop.rest

  -- A syntax stopped the copy. The writer got the bytes that a copy writes before that fault, and the bytes after the
  -- fault are left. For two elements of `82 1c 05`, it got `82`, and `05` is left.
  pub record MeetsSyntax (count place : ℕ) (due written : List ℕ) (reader : R) (writer : W) : Type 0 where
    pub fault : HasFault Any count due
    pub answered : fault.answer ≡ Syntax place
    pub output : got writer (written ++ fault.written)
    pub rest : left reader (drop fault.consumed fault.ahead)

  -- All elements were copied. The writer got their shortest spelling, and the bytes after them are left. For one
  -- element of `18 17 05`, it got `17`, and `05` is left.
  pub record CopiesCount (count : ℕ) (due written : List ℕ) (reader : R) (writer : W) : Type 0 where
    pub front : BeginsWithElements Any count due
    pub output : got writer (written ++ spelling front.marks)
    pub rest : left reader front.rest

module _ {R W E F : Type 0} (left : R → List ℕ → Type 0) (got : W → List ℕ → Type 0) where
  -- The result of a copy of `count` elements through a buffer of 64 bytes, by its answer. After `Io` and `TooLong`
  -- nothing is said of the bytes that are left. After `Ok` for one element of `01 05`, `05` is left.
  abbrev pub CopiesRaw : ℕ → List ℕ → List ℕ → Result (Unit {0}) (RecodeError E F) → R → W → Type 0
  CopiesRaw count due written (Ok done) reader writer = CopiesCount left got count due written reader writer
  CopiesRaw count due written (Err (r.Read (e.Io fault))) reader writer = ReadsShort got count due written writer
  CopiesRaw count due written (Err (r.Read (e.Syntax place))) reader writer =
      MeetsSyntax left got count place due written reader writer
  CopiesRaw count due written (Err (r.Read e.TooLong)) reader writer =
      (short : ReadsShort got count due written writer) ×
      (offset_limit ≤ length short.stop.before + short.stop.consumed + BUFFER_SIZE)
  CopiesRaw count due written (Err (r.Read e.Waiting)) reader writer = ⊥
  CopiesRaw count due written (Err (r.Write fault)) reader writer =
      WritesShort left got count due written reader writer

  -- The result of a copy and the flush after it, by one answer. `Write` may also be the flush's, after a whole copy.
  -- For one element of `01 05`, after `Ok` the writer got `01`.
  abbrev pub CopiesFlushed : ℕ → List ℕ → List ℕ → Result (Unit {0}) (RecodeError E F) → R → W → Type 0
  CopiesFlushed count due written (Ok done) reader writer = CopiesCount left got count due written reader writer
  CopiesFlushed count due written (Err (r.Read error)) reader writer =
      CopiesRaw count due written (Err (r.Read error)) reader writer
  CopiesFlushed count due written (Err (r.Write fault)) reader writer =
      WritesShort left got count due written reader writer ⊎ CopiesCount left got count due written reader writer
