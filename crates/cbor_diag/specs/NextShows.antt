-- The show of one title of a string of the indefinite form, and of what it begins or ends.
use Rattle.std.specs.Prelude.{◌≡◌, ℕ, ◌+◌, ◌-◌, Bool, true, false, length, Some, None, Result, Ok, Err}
use Rattle.ciborium_ll_grammar.specs.declared.spelling.Spelling.{Spelling}
use Rattle.ciborium_ll_grammar.specs.declared.spelling.Spelling.TheVariants.{Any}
use Rattle.ciborium_ll.specs.Types.Read.{Ghosts as Reader}
use Rattle.ciborium_ll.specs.Types.Write.{Ghosts as Writer}
use Rattle.ciborium_ll.specs.Types.Decoder.{Decoder}
use Rattle.ciborium_ll.specs.Types.Header.{Header}
use Rattle.ciborium_ll.specs.Types.Header.TheVariants as h
use Rattle.ciborium_ll.specs.Types.Error.TheVariants as e
use Rattle.ciborium_ll.specs.Types.Error.{Error}
use Rattle.ciborium_ll.specs.Strings.{Kind, kind_header}
use Rattle.ciborium_ll.specs.Faults.{IsRefusedIn}
use Rattle.ciborium_ll.specs.Decoding.{DecoderPullAnswer, IsSteady, PullsTitle, spelling_of}
use Rattle.ciborium_ll.specs.Encoding.{WritesAll, WritesFront}
use Rattle.ciborium_ll.specs.Segments.{PullsOther}
use Rattle.ciborium_ll.specs.Sides.{Sides, sides}
use Rattle.cbor_skip.specs.declared.SkipError.TheVariants as s
use Rattle.cbor_diag.specs.declared.DiagError.{DiagError}
use Rattle.cbor_diag.specs.declared.DiagError.TheVariants as d
use Rattle.cbor_diag.specs.declared.strings.chunks.Far.{Far}
use Rattle.cbor_diag.specs.declared.strings.chunks.Next.{Next}
use Rattle.cbor_diag.specs.declared.strings.chunks.Next.TheVariants as n
use Rattle.cbor_diag.specs.OpenShows.{ShowsChunk, body_mark, open_end}
use Rattle.cbor_diag.specs.StringShows.{lead_text}

-- What a title of this header begins or ends within a string of the kind (RFC 7049, 2.2.2). A strict decoder takes no
-- open there. Within `5f` the title `42` begins a string of 2 bytes, and `61` may not stand.
abbrev pub IsNext : Kind → Spelling → Header → Next → Type 0
IsNext kind allowed header (n.String len) = header ≡ kind_header kind (Some len)
IsNext kind allowed header n.Open = (header ≡ kind_header kind None) × (allowed ≡ Any)
IsNext kind allowed header n.Break = header ≡ h.Break
IsNext kind allowed header n.Other = IsRefusedIn allowed kind header

-- `ShowsNext opens first old result new`: in a string of the indefinite form the next title was pulled, and what it
-- begins or ends was shown. `opens` opens are not closed, and `first` says that no string follows the last one. After
-- `5f` the title `41` and its body `01` are shown as `(_ h'01'`.
pub data ShowsNext {R E W F : Type 0} (source : Reader R E) (sink : Writer W F) (kind : Kind) (room opens : ℕ)
    (first : Bool) (old : Sides R W) : Result Far (DiagError E F) → Sides R W → Type 0 where
  -- A string of a definite length was shown.
  string : (len : ℕ) {titled : Decoder R} {after : Far} {new : Sides R W}
      → (pulled : PullsTitle source old.decoder (kind_header kind (Some len)) titled)
      → (IsSteady source old.decoder → IsSteady source titled)
      → ShowsChunk source sink kind len room old.decoder.offset first (body_mark kind len (length pulled.title))
      (sides titled old.writer) (Ok (tt {0})) new
      → after.opens ≡ opens → after.is_first ≡ false → ShowsNext source sink kind room opens first old (Ok after) new
  -- Its show ended with the error.
  string_stops : (len : ℕ) {titled : Decoder R} {error : DiagError E F} {new : Sides R W}
      → (pulled : PullsTitle source old.decoder (kind_header kind (Some len)) titled)
      → (IsSteady source old.decoder → IsSteady source titled)
      → ShowsChunk source sink kind len room old.decoder.offset first (body_mark kind len (length pulled.title))
      (sides titled old.writer) (Err error) new
      → ShowsNext source sink kind room opens first old (Err error) new
  -- An open came, and the text before it was written.
  deepens : {titled : Decoder R} {after : Far} {new : W}
      → PullsTitle source old.decoder (kind_header kind None) titled
      → (IsSteady source old.decoder → IsSteady source titled) → spelling_of old.decoder ≡ Any
      → WritesAll sink old.writer (lead_text true first) new → after.opens ≡ opens + 1 → after.is_first ≡ true
      → ShowsNext source sink kind room opens first old (Ok after) (sides titled new)
  deepens_stops : {titled : Decoder R} {fault : F} {new : W}
      → PullsTitle source old.decoder (kind_header kind None) titled
      → WritesFront sink old.writer (lead_text true first) new
      → ShowsNext source sink kind room opens first old (Err (d.Write fault)) (sides titled new)
  -- A break came, and closed the last open.
  closes : {titled : Decoder R} {after : Far} {new : W} → PullsTitle source old.decoder h.Break titled
      → (IsSteady source old.decoder → IsSteady source titled) → WritesAll sink old.writer (open_end kind first) new
      → after.opens ≡ opens - 1 → after.is_first ≡ false
      → ShowsNext source sink kind room opens first old (Ok after) (sides titled new)
  closes_stops : {titled : Decoder R} {fault : F} {new : W} → PullsTitle source old.decoder h.Break titled
      → WritesFront sink old.writer (open_end kind first) new
      → ShowsNext source sink kind room opens first old (Err (d.Write fault)) (sides titled new)
  -- No title came.
  none : {error : Error E} {new : Decoder R} → DecoderPullAnswer source old.decoder (Err error) new
      → ShowsNext source sink kind room opens first old (Err (d.Read (s.Read error))) (sides new old.writer)
  -- A title came that may not stand within the string.
  other : {place : ℕ} {new : Decoder R}
      → PullsOther source (IsRefusedIn (spelling_of old.decoder) kind) old.decoder place new
      → ShowsNext source sink kind room opens first old (Err (d.Read (s.Read (e.Syntax place))))
      (sides new old.writer)
