-- The bytes of a row: exactly those that were consumed for it.
use Rattle.std.specs.Prelude.{◌≡◌, ℕ, ◌+◌, ◌-◌, ◌%◌, ◌<◌, ◌≤◌, min, List, [], ◌∷◌, ◌++◌, length, take}
use Rattle.std.specs.Prelude.{Option, None}
use Rattle.std.specs.Prelude.{Some, Result, Ok, Err, OnOk, ◌⊎◌}
use Rattle.std.specs.Io.KnownBytes.{Consumes}
use Rattle.ciborium_ll_grammar.specs.declared.spelling.Spelling.{Spelling}
use Rattle.ciborium_ll_grammar.specs.declared.spelling.Spelling.TheVariants.{Shortest}
use Rattle.ciborium_ll.specs.Types.Read.{Ghosts}
use Rattle.ciborium_ll.specs.Types.Decoder.{Decoder}
use Rattle.ciborium_ll.specs.Types.Error.{Error}
use Rattle.ciborium_ll.specs.Types.Error.TheVariants as e
use Rattle.ciborium_ll.specs.Types.Header.{Header}
use Rattle.ciborium_ll.specs.Title.{IsTitle, IsStrictTitle, IsRefused, affix_len}
use Rattle.ciborium_ll.specs.Decoding.{failures_of, refusals_of, view, IsSteady, IsUntouched, MovesOn, DecoderPullAnswer}
use Rattle.ciborium_ll.specs.Decoding.{PullsTitle, Reads, spelling_of}
use Rattle.cbor_dump.specs.declared.taken.Taken.{Taken}

-- The bytes that were read for a row. If its length is 2, they are the first 2 of its 16.
abbrev pub taken_bytes : Taken → List ℕ
taken_bytes taken = take taken.len taken.bytes

-- The most bytes that a row has. The body of a byte string of 17 bytes takes 2 rows.
abbrev pub most_bytes : ℕ
most_bytes = 16

-- The relation holds for some room of a buffer, at most a row's 16 bytes. One that holds for 8 is such a relation, and
-- one that holds for 17 alone is none.
pub record ThroughSomeRoom (Holds : ℕ → Type 0) : Type 0 where
  pub room : ℕ
  pub held : room ≤ most_bytes
  pub holds : Holds room

-- The most bytes of a text that are read at once. The rest of a character follows them: after seven `61` and a `f0`
-- three more bytes.
abbrev pub most_text : ℕ
most_text = 8

-- The most bytes of a row of a text: seven of a byte each, and a character of four bytes.
abbrev pub widest_text : ℕ
widest_text = 11

-- The answer of a decoder, strict or not, about a first byte and as many bytes as it announces (RFC 7049, 2.1 to 2.3).
-- They are a title of the header, which is strict if the decoder is (3.9). Or they are none, as `1c`, or as `18 17` for
-- a strict decoder.
abbrev pub AnswersTitle : Spelling → List ℕ → Option Header → Type 0
AnswersTitle allowed bytes (Some header) = IsTitle bytes header × (allowed ≡ Shortest → IsStrictTitle bytes header)
AnswersTitle allowed bytes None = ((byte : ℕ) × IsRefused byte × (bytes ≡ byte ∷ []))
    ⊎ (allowed ≡ Shortest × ((header : Header) × IsTitle bytes header × (IsStrictTitle bytes header → ⊥)))

-- The first byte of a title that was cut: it announces more (RFC 7049, 2.1), as `19` does.
abbrev pub IsFirstByte : List ℕ → Type 0
IsFirstByte bytes = (byte : ℕ) × (bytes ≡ byte ∷ []) × (0 < affix_len (byte % 32))

-- The bytes that were read of a title if the read stopped with this error: all of a refused title, or nothing, or its
-- first byte. For `Syntax` they can be `1c`, and for another error `19`.
abbrev pub IsTitleRow : {E : Type 0} → Spelling → Error E → List ℕ → Type 0
IsTitleRow allowed (e.Syntax at) bytes = AnswersTitle allowed bytes None
IsTitleRow allowed error bytes = (bytes ≡ []) ⊎ IsFirstByte bytes

-- How many bytes are left after those of a row at fault, if the bytes end too early. After no byte they are fewer than
-- a row has. After a first byte they are fewer than it announces (RFC 7049, 2.1): after `19` at most one. After the
-- first bytes of a text none is left.
abbrev pub Leaves : List ℕ → List ℕ → Type 0
Leaves [] left = length left < most_bytes
Leaves (byte ∷ []) left = length left < affix_len (byte % 32)
Leaves bytes left = left ≡ []

-- How many bytes are left if the reader failed: after `1b` at most 7. For any other error nothing is said.
abbrev pub LeavesBehind : {E : Type 0} → Error E → List ℕ → List ℕ → Type 0
LeavesBehind (e.Io fault) bytes left = Leaves bytes left
LeavesBehind error bytes left = Unit {0}

-- No header waits, and the decoder is as strict: for `true` it refuses `18 01`, and for `false` it takes it.
pub record IsInMode {R : Type 0} (allowed : Spelling) (decoder : Decoder R) : Type 0 where
  pub none_waits : decoder.waiting ≡ None
  pub mode : spelling_of decoder ≡ allowed

-- A read was refused, since a header waits. Only the count of refusals changed, as from 0 to 1.
pub record RefusesRead {R : Type 0} (old new : Decoder R) : Type 0 where
  pub untouched : IsUntouched old new
  pub counted : refusals_of new ≡ refusals_of old + 1

module _ {R E : Type 0} (source : Ghosts R E) where
  -- No read failed: the decoder moved on, and the reader did not fail. It is so after the title `82` was read.
  pub record ReadsOn (old new : Decoder R) : Type 0 where
    pub moves_on : MovesOn source old new
    pub failures : failures_of source new ≡ failures_of source old

  -- The reader failed once, at the last read. It is so if the bytes end after `19`.
  pub record FailsLast (old new : Decoder R) : Type 0 where
    pub moves_on : MovesOn source old new
    pub failures : failures_of source new ≡ failures_of source old + 1

  -- The decoder refused the last read. It does so if the header of `82` was pushed back.
  pub record RefusesLast (old new : Decoder R) : Type 0 where
    pub between : Decoder R
    pub reads : ReadsOn old between
    pub refuses : RefusesRead between new

  -- The reads ended with this error: the reader failed, the decoder refused a read, or the bytes that were read are at
  -- fault. For `1c` the bytes are at fault, and for a cut `19` the reader failed.
  abbrev pub StopsBy : Error E → Decoder R → Decoder R → Type 0
  StopsBy (e.Io fault) old new = FailsLast old new
  StopsBy (e.Syntax at) old new = ReadsOn old new
  StopsBy e.TooLong old new = RefusesLast old new
  StopsBy e.Waiting old new = RefusesLast old new

  -- The reads, by their answer. For the title `82` it is `Ok`, and no read failed.
  abbrev pub ReadsBy : {T : Type 0} → Result T (Error E) → Decoder R → Decoder R → Type 0
  ReadsBy (Ok done) old new = ReadsOn old new
  ReadsBy (Err error) old new = StopsBy error old new

  -- `count` bytes were read after those before, or as many as there was room for. After 14 bytes a read of 4 bytes
  -- reads 2.
  pub record ReadsMore (count : ℕ) (before after : List ℕ) (old : Decoder R) (result : Result (Unit {0}) (Error E))
      (new : Decoder R) : Type 0 where
    pub bytes : List ℕ
    pub counted : length bytes ≡ min count (most_bytes - length before)
    pub reads : Reads source old result bytes new
    pub behind : OnOk result (after ≡ before ++ bytes)

  -- A read of one more byte failed, as at the end of `01 02`.
  pub record FailsNext (old new : Decoder R) : Type 0 where
    pub error : Error E
    pub byte : ℕ
    pub fails : Reads source old (Err error) (byte ∷ []) new

  -- No more is read for a row of this many bytes: it is full, or a read of one more byte failed. A row of 16 bytes is
  -- full, and after 15 bytes a read failed.
  abbrev pub EndsRow : ℕ → Decoder R → Decoder R → Type 0
  EndsRow count old new = ((count ≡ most_bytes) × (new ≡ old)) ⊎ ((count < most_bytes) × FailsNext old new)

  -- A title was read as `pull` reads it, by the answer. For `18 64` it is the header of 100, and for `1c` an error.
  abbrev pub PullsRow : Decoder R → Result Header (Error E) → Decoder R → Type 0
  PullsRow old (Ok header) new = PullsTitle source old header new × (IsSteady source old → IsSteady source new)
  PullsRow old (Err error) new = DecoderPullAnswer source old (Err error) new

  -- The reader fails only if bytes are missing, and no header waits. If 2 bytes are left, the reader does not fail at a
  -- read of 2.
  pub record IsSteadyNoneWaiting (decoder : Decoder R) : Type 0 where
    pub steady : IsSteady source decoder
    pub none_waits : decoder.waiting ≡ None

  -- These bytes were read: the offset rose by their number, and an idle decoder consumed exactly these bytes. For
  -- `82 01` the offset rose by 2.
  pub record TakesBytes (old : Decoder R) (bytes : List ℕ) (new : Decoder R) : Type 0 where
    pub offset : new.offset ≡ old.offset + length bytes
    pub consumed : IsSteadyNoneWaiting old → Consumes (view source old) (view source new) bytes × IsSteadyNoneWaiting new

  -- The bytes of a row grew by bytes that were read. The bytes `19` grew by `01 00` to `19 01 00`.
  pub record Keeps (before after : List ℕ) (old new : Decoder R) : Type 0 where
    pub bytes : List ℕ
    pub appended : after ≡ before ++ bytes
    pub takes : TakesBytes old bytes new
