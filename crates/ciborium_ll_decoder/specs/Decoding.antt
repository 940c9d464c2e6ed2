-- The calls of a decoder: one relation for each call, by its answer.
--
-- A relation speaks of bytes if the reader tells them: `Consumes` says nothing about bytes that are not told. All the
-- rest holds over any reader.
use Rattle.std.specs.Prelude.{◌≡◌, ℕ, ◌+◌, ◌<◌, ◌≤◌, ◌^◌, List, [], ◌∷◌, ◌++◌, length, take, true, false}
use Rattle.std.specs.Prelude.{Option, Some, None, Result, Ok, Err, ◌⊎◌, IfSome, IsSome, IsTrue, ◌%◌, ◌/◌, ◌-◌}
use Rattle.std.specs.Prelude.{IfOk, IsErrOf, MatchResult}
use Rattle.std.specs.Io.KnownBytes.{Consumes, prepend_known}
use Rattle.ciborium_ll_io.specs.declared.io.Read.{Ghosts}
use Rattle.ciborium_ll_grammar.specs.declared.hdr.Header.{Header}
use Rattle.ciborium_ll_grammar.specs.declared.hdr.Minor.{Minor}
use Rattle.ciborium_ll_grammar.specs.declared.hdr.Title.{Title}
use Rattle.ciborium_ll_decoder.specs.declared.dec.Decoder.{Decoder}
use Rattle.ciborium_ll_decoder.specs.declared.dec.Error.{Error}
use Rattle.ciborium_ll_decoder.specs.declared.dec.Error.TheVariants as e
use Rattle.ciborium_ll_grammar.specs.Title.{IsTitle, IsStrictTitle, IsRefused, IsReserved, IsCutTitle, affix_len}
use Rattle.ciborium_ll_grammar.specs.Title.{shortest_title, title_len}
use Rattle.ciborium_ll_grammar.specs.Parts.{IsMinor, IsParts, refused_when_strict, minor_code, minor_affix}
use Rattle.ciborium_ll_grammar.specs.Parts.{title_bytes}
use Rattle.ciborium_ll_grammar.specs.declared.spelling.Spelling.{Spelling}
use Rattle.ciborium_ll_grammar.specs.declared.spelling.Spelling.TheVariants.{Any, Shortest}

-- Every offset is below this number, so it is at most 2^64 - 1, which is `usize::MAX`.
abbrev pub offset_limit : ℕ
offset_limit = 2 ^ 64

-- The shortest title of a waiting header, and then the bytes ahead. If the header of `82` waits before `01 02`, these
-- are `82 01 02`.
abbrev pub behind_waiting : Option Header → Option (List ℕ) → Option (List ℕ)
behind_waiting None ahead = ahead
behind_waiting (Some header) ahead = prepend_known (shortest_title header) ahead

-- As a reader, a decoder tells its bytes only while no header waits: `01 02`, or nothing if the header of `82` waits
-- before them.
abbrev pub told_unless_waiting : Option Header → Option (List ℕ) → Option (List ℕ)
told_unless_waiting None ahead = ahead
told_unless_waiting (Some header) ahead = None

-- ---- what a decoder is to its callers

module _ {R : Type 0} where
  -- The reader that the decoder reads. After a `pull` over `82 01` it has `01` left.
  abbrev pub reader_of : Decoder R → R
  reader_of d = d.reader

  -- The offset at the decoder's start plus the number of bytes of titles and bodies that were consumed. From the offset
  -- 5 on, `19 01 00` leads to 8.
  abbrev pub offset_of : Decoder R → ℕ
  offset_of d = d.offset

  -- The header that waits, if one does: that of `82` after a `push` of it.
  abbrev pub waiting_of : Decoder R → Option Header
  waiting_of d = d.waiting

  -- A header waits: it does after a `push` of the header of `82`, and not after the next `pull`.
  abbrev pub IsWaiting : Decoder R → Type 0
  IsWaiting d = IsSome d.waiting

  -- Whether the decoder takes strict titles alone: `01`, but not `18 01`.
  abbrev pub spelling_of : Decoder R → Spelling
  spelling_of d = d.spelling

  -- `Holds` is true if the decoder is strict and no header waits. If the header of `82` waits, nothing is said of
  -- `Holds`.
  abbrev pub Strictly : Decoder R → Type 0 → Type 0
  Strictly d Holds = spelling_of d ≡ Shortest → d.waiting ≡ None → Holds

  -- How many reads the decoder refused by itself: 1 after a `read_exact` while a header waited.
  abbrev pub refusals_of : Decoder R → ℕ
  refusals_of d = d.refusals.count

  -- The reader, the offset, the waiting header and the strictness are as they were. The count of refusals may differ.
  -- From the offset 3 on, the decoder is still at 3.
  pub record IsUntouched (old new : Decoder R) : Type 0 where
    pub reader : new.reader ≡ old.reader
    pub offset : new.offset ≡ old.offset
    pub waiting : new.waiting ≡ old.waiting
    pub mode : spelling_of new ≡ spelling_of old

  -- The decoder is strict or not, as given, and nothing was pulled yet. If the start is 5, its offset is 5.
  pub record IsFreshAs (allowed : Spelling) (r : R) (start : ℕ) (d : Decoder R) : Type 0 where
    pub mode : spelling_of d ≡ allowed
    pub reader : d.reader ≡ r
    pub offset : d.offset ≡ start
    pub none_waits : d.waiting ≡ None
    pub refusals : d.refusals.count ≡ 0

  -- Nothing was pulled yet, and the decoder isn't strict: it takes `18 01`, too.
  abbrev pub IsFresh : R → ℕ → Decoder R → Type 0
  IsFresh r start d = IsFreshAs Any r start d

module _ {E : Type 0} where
  -- A decoder refuses a read by `Waiting` and `TooLong`. It counts these errors, and no others. After 2 refusals,
  -- `TooLong` makes 3, and `Syntax(0)` leaves 2.
  abbrev pub CountsRefusal : Error E → ℕ → ℕ → Type 0
  CountsRefusal e.Waiting old new = new ≡ old + 1
  CountsRefusal e.TooLong old new = new ≡ old + 1
  CountsRefusal (e.Io fault) old new = new ≡ old
  CountsRefusal (e.Syntax place) old new = new ≡ old

-- How many bytes a pull asks for after the bytes that it read: one, or the affix that the first byte announces. After
-- `19` it asks for two bytes.
abbrev pub next_read : List ℕ → ℕ
next_read [] = 1
next_read (byte ∷ more) = affix_len (byte % 32)

-- The list begins with these bytes. `82 01 02` begins with `82 01`.
abbrev pub Begins : List ℕ → List ℕ → Type 0
Begins front all = (rest : List ℕ) × (all ≡ front ++ rest)

module _ {R E : Type 0} (source : Ghosts R E) where
  -- The bytes that are due: the shortest title of a waiting header, and then the bytes that the reader has ahead. If
  -- the header of `18 17` waits before `02`, these are `17 02`.
  abbrev pub view : Decoder R → Option (List ℕ)
  view d = behind_waiting d.waiting (source.ahead d.reader)

  -- How often the decoder's reader failed: 1 after a `pull` over `19 01` alone.
  abbrev pub failures_of : Decoder R → ℕ
  failures_of d = source.failures d.reader

  -- The decoder's reader fails only if bytes are missing: over `01 02 03`, a read of 2 bytes succeeds.
  abbrev pub IsSteady : Decoder R → Type 0
  IsSteady d = IsTrue (source.steady d.reader)

  -- A call that reads keeps a steady reader steady, and the decoder as strict as it was, whatever it answers. The
  -- decoder refused nothing by itself, and its offset never falls. From the offset 3 it may lead to 5, and not to 2.
  pub record MovesOn (old new : Decoder R) : Type 0 where
    pub steady : IsSteady old → IsSteady new
    pub mode : spelling_of new ≡ spelling_of old
    pub refusals : refusals_of new ≡ refusals_of old
    pub rises : offset_of old ≤ offset_of new

  -- ---- pull

  -- `pull` gave a header. The view began with a title of it, which is consumed, and the offset rose by the title's
  -- length. If the decoder is not strict, the title `18 17` gives the header of the number 23.
  pub record PullsTitle (old : Decoder R) (header : Header) (new : Decoder R) : Type 0 where
    pub title : List ℕ
    pub is_title : IsTitle title header
    pub bytes : Consumes (view old) (view new) title
    pub offset : new.offset ≡ old.offset + length title
    pub none_waits : new.waiting ≡ None
    pub failures : failures_of new ≡ failures_of old
    -- The call gave a header that waited, and read nothing.
    pub waited : IfSome old.waiting (λ kept. (kept ≡ header) × (title ≡ shortest_title header)
        × (new.reader ≡ old.reader))
    pub mode : spelling_of new ≡ spelling_of old
    -- A strict decoder takes a strict title alone. It gives a header that waited as it was pushed.
    pub strict : spelling_of old ≡ Shortest → old.waiting ≡ None → IsStrictTitle title header

  -- `pull` refused a first byte, for example `1c`, and consumed it. The place is the offset of the title's start.
  pub record RefusesTitle (old : Decoder R) (at : ℕ) (new : Decoder R) : Type 0 where
    pub byte : ℕ
    pub refused : IsRefused byte
    pub place : at ≡ old.offset
    pub bytes : Consumes (view old) (view new) (byte ∷ [])
    pub offset : new.offset ≡ old.offset + 1
    pub none_waited : old.waiting ≡ None
    pub none_waits : new.waiting ≡ None
    pub failures : failures_of new ≡ failures_of old

  -- A strict decoder refused a whole title, for example `18 05`, and consumed it. The place is the offset of its start.
  pub record RefusesTitleWhole (old : Decoder R) (at : ℕ) (new : Decoder R) : Type 0 where
    pub strict : spelling_of old ≡ Shortest
    pub header : Header
    pub title : List ℕ
    pub is_title : IsTitle title header
    pub not_strict : IsStrictTitle title header → ⊥
    pub place : at ≡ old.offset
    pub bytes : Consumes (view old) (view new) title
    pub offset : new.offset ≡ old.offset + length title
    pub none_waited : old.waiting ≡ None
    pub none_waits : new.waiting ≡ None
    pub failures : failures_of new ≡ failures_of old

  -- The reader failed after the bytes `read`, which are none or a first byte. If a steady reader has only `19 01`, then
  -- `19` was read.
  pub record FailsAtTitle (old new : Decoder R) : Type 0 where
    pub read : List ℕ
    pub within_first : length read ≤ 1
    pub began : IfSome (view old) (Begins read)
    pub offset : new.offset ≡ old.offset + length read
    pub fitted : new.offset + next_read read < offset_limit
    pub none_waited : old.waiting ≡ None
    pub none_waits : new.waiting ≡ None
    pub failures : failures_of new ≡ failures_of old + 1
    -- A steady reader fails only inside a title. The first byte of the title was read if the reader had it.
    pub steady : IsSteady old → Consumes (view old) (view new) read
        × IfSome (view old) (λ due. IsCutTitle due × (read ≡ take 1 due))

  -- The offset can't take the read after the bytes `read`, which are none or a first byte. At the offset 2^64 - 2 the
  -- byte `19` is read, and its affix of two bytes no longer fits.
  pub record PassesOffset (old new : Decoder R) : Type 0 where
    pub read : List ℕ
    pub within_first : length read ≤ 1
    pub bytes : Consumes (view old) (view new) read
    pub offset : new.offset ≡ old.offset + length read
    pub full : offset_limit ≤ new.offset + next_read read
    pub untouched : read ≡ [] → new.reader ≡ old.reader
    pub none_waited : old.waiting ≡ None
    pub none_waits : new.waiting ≡ None
    pub failures : failures_of new ≡ failures_of old

  -- `pull`, by its answer. Over `83` it gives the header of an array of three, and over `1c` the error `Syntax`.
  abbrev pub DecoderPullAnswer : Decoder R → Result Header (Error E) → Decoder R → Type 0
  DecoderPullAnswer old (Ok header) new = PullsTitle old header new
  DecoderPullAnswer old (Err (e.Io fault)) new = FailsAtTitle old new
  DecoderPullAnswer old (Err (e.Syntax place)) new = RefusesTitle old place new ⊎ RefusesTitleWhole old place new
  DecoderPullAnswer old (Err e.TooLong) new = PassesOffset old new
  DecoderPullAnswer old (Err e.Waiting) new = ⊥

  -- `pull`, and the facts that it keeps. Over `19 01 00` from the offset 0 on, it leads to the offset 3.
  pub record DecoderPull (old : Decoder R) (result : Result Header (Error E)) (new : Decoder R) : Type 0 where
    pub header : DecoderPullAnswer old result new
    -- The caller may push the header back.
    pub covered : IfOk result (λ header. title_len header ≤ new.offset)
    -- If the offset can't rise, nothing is read.
    pub full : old.waiting ≡ None → old.offset ≡ offset_limit - 1 → IsErrOf result e.TooLong
    pub moves_on : MovesOn old new

  -- `pull_title` answers as `pull` does, with a title of the header in its parts: over `f9 3c 00`, with the major type
  -- 7 and `Two 15360`.
  pub record DecoderPullTitle (old : Decoder R) (result : Result (Header × Title) (Error E)) (new : Decoder R) : Type 0 where
    pub header : MatchResult result (λ pulled. PullsTitle old pulled.0 new) (λ error. DecoderPullAnswer old (Err error) new)
    pub parts : IfOk result (λ pulled. IsParts pulled.1)
    pub title : IfOk result (λ pulled. IsTitle (title_bytes pulled.1) pulled.0)
    pub moves_on : MovesOn old new

  -- Calls that all succeeded consumed these bytes. Pulls over `82 01` raise the offset by 2.
  pub record ReadsPast (old : Decoder R) (bytes : List ℕ) (new : Decoder R) : Type 0 where
    pub consumed : Consumes (view old) (view new) bytes
    pub offset : new.offset ≡ old.offset + length bytes
    -- Without a call nothing changed. After a call no header waits.
    pub waiting : ((bytes ≡ []) × (new ≡ old)) ⊎ (new.waiting ≡ None)
    -- The title of a header that waited went first.
    pub waited : IfSome old.waiting (λ header. (new ≡ old) ⊎ Begins (shortest_title header) bytes)
    pub failures : failures_of new ≡ failures_of old
    pub steady : IsSteady old → IsSteady new
    pub mode : spelling_of new ≡ spelling_of old

  -- ---- push

  -- `push` of a header: it waits before the bytes that were due, and the offset fell by the length of its shortest
  -- title. After `18 17` was pulled from the offset 0, a push leaves the offset at 1: the shortest title of 23 is `17`.
  pub record TakesBack (old : Decoder R) (header : Header) (new : Decoder R) : Type 0 where
    pub waits : new.waiting ≡ Some header
    pub due : view new ≡ prepend_known (shortest_title header) (view old)
    pub offset : new.offset + title_len header ≡ old.offset
    pub reader : new.reader ≡ old.reader
    pub mode : spelling_of new ≡ spelling_of old
    pub refusals : refusals_of new ≡ refusals_of old

  -- ---- pull, push of what it gave, and pull again

  -- `pull`, `push` of the header that it gave, and `pull` again, one after the other. Over `18 18` both pulls give the
  -- number 24.
  pub record PullsTwice (old : Decoder R) (header : Header) (new : Decoder R) : Type 0 where
    pub pulled : Decoder R
    pub pushed : Decoder R
    pub first : PullsTitle old header pulled
    pub back : TakesBack pulled header pushed
    pub second : PullsTitle pushed header new
    -- The second pull undid the push.
    pub reader : new.reader ≡ pulled.reader
    pub offset : new.offset ≡ pulled.offset
    pub none_waits : new.waiting ≡ None

  -- `pull`, `push` of the header that it gave, and `pull` again, by the last answer. Over `1c` the first `pull` fails,
  -- and is the last.
  abbrev pub PullsAgain : Decoder R → Result Header (Error E) → Decoder R → Type 0
  PullsAgain old (Ok header) new = PullsTwice old header new
  PullsAgain old (Err error) new = DecoderPullAnswer old (Err error) new

  -- `pull_again`, and the facts that it keeps. Over `82` from the offset 0 on, `Ok` leads to the offset 1.
  pub record PullsBack (old : Decoder R) (result : Result Header (Error E)) (new : Decoder R) : Type 0 where
    pub again : PullsAgain old result new
    pub moves_on : MovesOn old new

  -- ---- read_exact

  -- The decoder read all bytes that the caller asked for. A read of 3 bytes raises the offset by 3.
  pub record ReadsAll (old : Decoder R) (read : List ℕ) (new : Decoder R) : Type 0 where
    pub bytes : Consumes (source.ahead old.reader) (source.ahead new.reader) read
    pub offset : new.offset ≡ old.offset + length read
    pub none_waited : old.waiting ≡ None
    pub none_waits : new.waiting ≡ None
    pub failures : failures_of new ≡ failures_of old
    pub mode : spelling_of new ≡ spelling_of old

  -- The reader failed: at a read of 3 bytes, for example, if it has only `01 02`.
  pub record ReadFails (old : Decoder R) (count : ℕ) (new : Decoder R) : Type 0 where
    pub offset : new.offset ≡ old.offset
    pub fitted : old.offset + count < offset_limit
    pub none_waited : old.waiting ≡ None
    pub none_waits : new.waiting ≡ None
    pub failures : failures_of new ≡ failures_of old + 1
    -- A steady reader fails only if bytes are missing, and keeps the bytes that there are.
    pub steady : IsSteady old → (source.ahead new.reader ≡ source.ahead old.reader)
        × IfSome (source.ahead old.reader) (λ bytes. length bytes < count)

  -- `read_exact`, by its answer: a read of as many bytes as the list has. If the answer is `Ok`, the list holds the
  -- bytes. Otherwise the reader failed, or a refusal left the decoder untouched. Over `01 02 03`, a read of 2 bytes may
  -- give `01 02`.
  abbrev pub ReadsBytes : Decoder R → Result (Unit {0}) (Error E) → List ℕ → Decoder R → Type 0
  ReadsBytes old (Ok done) bytes new = ReadsAll old bytes new
  ReadsBytes old (Err (e.Io fault)) bytes new = ReadFails old (length bytes) new
  ReadsBytes old (Err e.Waiting) bytes new = IsWaiting old × IsUntouched old new
  ReadsBytes old (Err e.TooLong) bytes new = (old.waiting ≡ None) × (offset_limit ≤ old.offset + length bytes)
      × IsUntouched old new
  ReadsBytes old (Err (e.Syntax place)) bytes new = ⊥

  -- `read_exact`, and the facts that it keeps. The decoder counts a refusal: 1 more, if a header waits.
  pub record Reads (old : Decoder R) (result : Result (Unit {0}) (Error E)) (bytes : List ℕ) (new : Decoder R) :
      Type 0 where
    pub read : ReadsBytes old result bytes new
    pub steady : IsSteady old → IsSteady new
    pub mode : spelling_of new ≡ spelling_of old
    pub refusals : MatchResult result (λ done. refusals_of new ≡ refusals_of old)
        (λ error. CountsRefusal error (refusals_of old) (refusals_of new))

  -- ---- the affix of a title, inside `pull`

  -- The decoder read the affix that a first byte announces, and it is the affix of this minor. After the first byte
  -- `19` the affix `01 00` holds 256.
  pub record HoldsAffix (first : ℕ) (old : Decoder R) (read : Minor) (new : Decoder R) : Type 0 where
    pub is_minor : IsMinor read
    pub code : first % 32 ≡ minor_code read
    pub all : ReadsAll old (minor_affix read) new

  -- The decoder read the affix. If the decoder is strict, it takes the number: after `18` it takes 24, but not 23.
  pub record ReadsAffix (first : ℕ) (old : Decoder R) (read : Minor) (new : Decoder R) : Type 0 where
    pub holds : HoldsAffix first old read new
    pub taken : spelling_of old ≡ Shortest → refused_when_strict (first / 32) read ≡ false

  -- The decoder read the affix, is strict, and refused its number. After the first byte `18` it refuses the affix `05`.
  pub record RefusesAffix (first : ℕ) (old new : Decoder R) : Type 0 where
    pub read : Minor
    pub holds : HoldsAffix first old read new
    pub strict : spelling_of old ≡ Shortest
    pub longer : refused_when_strict (first / 32) read ≡ true

  -- The read of an affix, by its answer. After `19` and over `01 00` it gives `Two 256`.
  abbrev pub ReadsMinor : ℕ → Decoder R → Result (Option Minor) (Error E) → Decoder R → Type 0
  ReadsMinor first old (Ok (Some read)) new = ReadsAffix first old read new
  ReadsMinor first old (Ok None) new = (IsReserved (first % 32) × (new ≡ old)) ⊎ RefusesAffix first old new
  ReadsMinor first old (Err (e.Io fault)) new = ReadFails old (affix_len (first % 32)) new
  ReadsMinor first old (Err e.TooLong) new = (offset_limit ≤ old.offset + affix_len (first % 32)) × (new ≡ old)
  ReadsMinor first old (Err e.Waiting) new = ⊥
  ReadsMinor first old (Err (e.Syntax place)) new = ⊥
