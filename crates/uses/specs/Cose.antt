-- A signed message, COSE_Sign1 (RFC 9052, 4.2): its parts, their places, and the reasons that a call read none.
use Rattle.std.specs.Prelude.{◌≡◌, ℕ, ◌+◌, ◌-◌, ◌<◌, ◌≤◌, ◌⊎◌, List, [], ◌∷◌, ◌++◌, length, Option, Some, None}
use Rattle.std.specs.Prelude.{Bool, true, Result, Ok, Err}
use Rattle.std.specs.Io.KnownBytes.{Consumes}
use Rattle.ciborium_ll_grammar.specs.declared.spelling.Spelling.TheVariants.{Shortest}
use Rattle.ciborium_ll.specs.Types.Read.{Ghosts}
use Rattle.ciborium_ll.specs.Types.Header.{Header}
use Rattle.ciborium_ll.specs.Types.Header.TheVariants as h
use Rattle.ciborium_ll.specs.Types.Decoder.{Decoder}
use Rattle.ciborium_ll.specs.Types.Error.{Error}
use Rattle.ciborium_ll.specs.Title.{shortest_title}
use Rattle.ciborium_ll.specs.Items.{IsItem}
use Rattle.ciborium_ll.specs.Decoding.{view, IsSteady, ReadsPast, DecoderPullAnswer, PullsTitle, ReadsBytes}
use Rattle.ciborium_ll.specs.Decoding.{spelling_of}
use Rattle.ciborium_ll.specs.Segments.{PullsOther}
use Rattle.cbor_skip.specs.declared.SkipError.{SkipError}
use Rattle.cbor_skip.specs.declared.SkipError.TheVariants as s
use Rattle.cbor_skip.specs.Skipping.{SkipsWithin}
use Rattle.uses.specs.declared.cose.CoseError.{CoseError}
use Rattle.uses.specs.declared.cose.CoseError.TheVariants as c
use Rattle.uses.specs.declared.cose.Span.{Span}
use Rattle.uses.specs.declared.cose.Sign1.{Sign1}
use Rattle.uses.specs.declared.cose.TheConstants.{MAP_DEPTH}

-- ---- the parts

-- The bytes are a byte string with its shortest title, which begins at this offset. The span is the span of its body.
-- At offset 2, `42 01 02` has the span from 3 up to 5.
pub record IsByteString (bytes : List ℕ) (at : ℕ) (span : Span) : Type 0 where
  pub body : List ℕ
  pub is : bytes ≡ shortest_title (h.Bytes (Some (length body))) ++ body
  pub ends : span.end ≡ at + length bytes
  pub starts : span.start + length body ≡ span.end

-- The bytes are a map in its shortest spelling (RFC 7049, 3.9), nested at most `MAP_DEPTH` deep, which begins at this
-- offset. The span is the span of the whole map. At offset 3, `a0` has the span from 3 up to 4.
pub record IsMap (bytes : List ℕ) (at : ℕ) (span : Span) : Type 0 where
  pub is_item : IsItem Shortest MAP_DEPTH bytes
  pub len : Option ℕ
  pub rest : List ℕ
  pub is : bytes ≡ shortest_title (h.Map len) ++ rest
  pub starts : span.start ≡ at
  pub ends : span.end ≡ at + length bytes

-- The bytes are a payload: null (`f6`) if it is detached, or a byte string.
abbrev pub IsPayload : List ℕ → ℕ → Option Span → Type 0
IsPayload bytes at None = bytes ≡ 0xf6 ∷ []
IsPayload bytes at (Some span) = IsByteString bytes at span

-- The bytes begin with a tagged COSE_Sign1: tag 18, an array of four, and its parts at these places (RFC 9052, 4.2).
-- The bytes `d2 84 40 a0 f6 40` are one whose parts are empty and whose payload is detached.
pub record BeginsSign1 (bytes : List ℕ) (parts : Sign1) : Type 0 where
  pub protected : List ℕ
  pub unprotected : List ℕ
  pub payload : List ℕ
  pub signature : List ℕ
  pub rest : List ℕ
  pub is : bytes ≡ (((((0xd2 ∷ 0x84 ∷ []) ++ protected) ++ unprotected) ++ payload) ++ signature) ++ rest
  pub is_protected : IsByteString protected 2 parts.protected
  pub is_unprotected : IsMap unprotected (2 + length protected) parts.unprotected
  pub is_payload : IsPayload payload (2 + length protected + length unprotected) parts.payload
  pub is_signature : IsByteString signature (2 + length protected + length unprotected + length payload)
      parts.signature

-- ---- the part that a read reaches

-- The header of a byte string of a definite length: of `42`, but not of `5f`.
abbrev pub BeginsBytes : Header → Type 0
BeginsBytes header = (len : ℕ) × (header ≡ h.Bytes (Some len))

-- The header of a payload: null, or a byte string of a definite length (RFC 9052, 4.2), as of `f6` or `42`.
abbrev pub BeginsPayload : Header → Type 0
BeginsPayload header = (header ≡ h.Simple 22) ⊎ BeginsBytes header

-- The header of a map: of `a1` or `bf`.
abbrev pub BeginsMap : Header → Type 0
BeginsMap header = (len : Option ℕ) × (header ≡ h.Map len)

-- The part that is due next: `TagDue` at first, and `ArrayDue` after `d2`.
pub data Due : Type 0 where
  TagDue : Due
  ArrayDue : Due
  ProtectedDue : Due
  UnprotectedDue : Due
  PayloadDue : Due
  SignatureDue : Due

-- The header may stand there if this part is due: first the header of `d2`, and then that of `84`.
abbrev pub IsAllowed : Due → Header → Type 0
IsAllowed TagDue header = header ≡ h.Tag 18
IsAllowed ArrayDue header = header ≡ h.Array (Some 4)
IsAllowed ProtectedDue header = BeginsBytes header
IsAllowed UnprotectedDue header = BeginsMap header
IsAllowed PayloadDue header = BeginsPayload header
IsAllowed SignatureDue header = BeginsBytes header

-- `ReachesPart bytes due`: the bytes are a beginning of a tagged COSE_Sign1, after which this part is due (RFC 9052,
-- 4.2). After `d2 84 40` the unprotected map is due.
pub data ReachesPart : List ℕ → Due → Type 0 where
  to_tag : ReachesPart [] TagDue
  to_array : ReachesPart (0xd2 ∷ []) ArrayDue
  to_protected : ReachesPart (0xd2 ∷ 0x84 ∷ []) ProtectedDue
  to_unprotected : (before bytes : List ℕ) (span : Span) → ReachesPart before ProtectedDue
      → IsByteString bytes (length before) span → ReachesPart (before ++ bytes) UnprotectedDue
  to_payload : (before bytes : List ℕ) (span : Span) → ReachesPart before UnprotectedDue
      → IsMap bytes (length before) span → ReachesPart (before ++ bytes) PayloadDue
  to_signature : (before bytes : List ℕ) (span : Option Span) → ReachesPart before PayloadDue
      → IsPayload bytes (length before) span → ReachesPart (before ++ bytes) SignatureDue

-- The meaning of the error of a map's item that begins at the place. A break there ends the map, if it may (RFC 7049,
-- 2.2.1). At the place 5, `Break(5)` ends a map that may be closed, and `Break(6)` is an error.
abbrev pub EndsPairs : {E : Type 0} → Bool → ℕ → SkipError E → Result (Unit {0}) (SkipError E) → Type 0
EndsPairs closes place error (Ok done) = (closes ≡ true) × (error ≡ s.Break place)
EndsPairs closes place error (Err other) = (other ≡ error) × (closes ≡ true → error ≡ s.Break place → ⊥)

module _ {R E : Type 0} (source : Ghosts R E) where
  -- ---- what was read

  -- These bytes were taken, and no header waits. With `42 01 02` the offset rose by 3.
  pub record Took (old : Decoder R) (bytes : List ℕ) (new : Decoder R) : Type 0 where
    pub consumed : Consumes (view source old) (view source new) bytes
    pub offset : new.offset ≡ old.offset + length bytes
    pub none_waits : new.waiting ≡ None
    pub mode : spelling_of new ≡ spelling_of old

  -- A body of this length was taken. At the offset 3, `01 02` has the span from 3 up to 5.
  pub record TookBody (len : ℕ) (old : Decoder R) (span : Span) (new : Decoder R) : Type 0 where
    pub body : List ℕ
    pub all : length body ≡ len
    pub took : Took old body new
    pub starts : span.start ≡ old.offset
    pub ends : span.end ≡ new.offset

  -- A byte string was taken. At the offset 0, `41 0b` has the span from 1 up to 2.
  pub record TookString (old : Decoder R) (span : Span) (new : Decoder R) : Type 0 where
    pub bytes : List ℕ
    pub is_string : IsByteString bytes old.offset span
    pub took : Took old bytes new

  -- A payload was taken: `f6`, for example, which has no span.
  pub record TookPayload (old : Decoder R) (span : Option Span) (new : Decoder R) : Type 0 where
    pub bytes : List ℕ
    pub is_payload : IsPayload bytes old.offset span
    pub took : Took old bytes new

  -- A map was taken. At the offset 4, `a0` has the span from 4 up to 5.
  pub record TookMap (old : Decoder R) (span : Span) (new : Decoder R) : Type 0 where
    pub bytes : List ℕ
    pub is_map : IsMap bytes old.offset span
    pub took : Took old bytes new

  -- ---- the reasons that a read stops

  -- A beginning of a body of this length was read, and the read of at most 64 further bytes failed. In a body of 100
  -- bytes, this may be the read of the last 36.
  pub record BodyFails (len : ℕ) (old : Decoder R) (error : Error E) (new : Decoder R) : Type 0 where
    pub read : List ℕ
    pub asked : List ℕ
    pub between : Decoder R
    pub passed : ReadsPast source old read between
    pub some : 0 < length asked
    pub within : length read + length asked ≤ len
    pub held : length asked ≤ 64
    pub fails : ReadsBytes source between (Err error) asked new

  -- The effect of the read of a map after its title, by its answer: the rest of the map was read, or the read stopped
  -- after a beginning of its items. If the decoder is strict and no header waits, both are in the shortest spelling
  -- (RFC 7049, 3.9). After `a1` the rest may be `01 02`.
  abbrev pub SkipsPairs : Option ℕ → Decoder R → Result (Unit {0}) (SkipError E) → Decoder R → Type 0
  SkipsPairs len old result new = SkipsWithin source (h.Map len) (MAP_DEPTH - 1) 64 old result new

  module _ (IsDue : Header → Type 0) where
    -- The title of a byte string came that may stand here, and the read of its body failed: after `42`, if only `42 01`
    -- is due.
    pub record StopsInBytes (old : Decoder R) (error : Error E) (new : Decoder R) : Type 0 where
      pub len : ℕ
      pub titled : Decoder R
      pub allowed : IsDue (h.Bytes (Some len))
      pub pulled : PullsTitle source old (h.Bytes (Some len)) titled
      pub fails : BodyFails len titled error new

    -- The title of a map came that may stand here, and the read of its items failed: in `a1 01 1c`, for example, at
    -- `1c`.
    pub record StopsInMap (old : Decoder R) (error : SkipError E) (new : Decoder R) : Type 0 where
      pub len : Option ℕ
      pub titled : Decoder R
      pub allowed : IsDue (h.Map len)
      pub pulled : PullsTitle source old (h.Map len) titled
      pub fails : SkipsPairs len titled (Err error) new

    -- The reason that a part was not read if `IsDue` says which header is due: no title came, another title came, or
    -- the part is cut or broken after its title. If a map is due, `80` is another title.
    abbrev pub StopsAtPart : Decoder R → CoseError E → Decoder R → Type 0
    StopsAtPart old (c.Read error) new = DecoderPullAnswer source old (Err error) new ⊎ StopsInBytes old error new
    StopsAtPart old (c.Skip error) new = StopsInMap old error new
    StopsAtPart old (c.Unexpected at) new = PullsOther source (λ header. IsDue header → ⊥) old at new

  -- The reason that no COSE_Sign1 was read. The bytes begin as a COSE_Sign1 does, and a strict decoder failed at the
  -- part that is due after them. The decoder has consumed exactly these bytes, and its reader fails only if bytes are
  -- missing. In `d2 84 40 80` the decoder failed at `80`, because a map is due there.
  pub record StopsSign1 (bytes : List ℕ) (error : CoseError E) : Type 0 where
    pub before : List ℕ
    pub rest : List ℕ
    pub is : bytes ≡ before ++ rest
    pub due : Due
    pub reached : ReachesPart before due
    pub decoder : Decoder R
    pub told : view source decoder ≡ Some rest
    pub place : decoder.offset ≡ length before
    pub none_waits : decoder.waiting ≡ None
    pub strict : spelling_of decoder ≡ Shortest
    pub steady : IsSteady source decoder
    pub ended : Decoder R
    pub stops : StopsAtPart (IsAllowed due) decoder error ended
