-- How much memory the rewriting of a string takes.
use Rattle.std.proofs.Common.{◌≡◌, ℕ, ◌+◌, ◌*◌, ◌<◌, ◌≤◌, List, length, Some, ◌∙◌, ap}
use Rattle.std.proofs.Common.{arith, length-append}
use Rattle.ciborium_ll_grammar.specs.Title.{IsTitle, ByteString, TextString, title_len}
use Rattle.ciborium_ll_grammar.specs.Strings.{Kind, Bytes, Text, kind_header}
use Rattle.ciborium_ll_grammar.specs.Elements.{body_spelling}
use Rattle.ciborium_ll_grammar.proofs.AloneLaws.{title_some}
use Rattle.cbor_deterministic.specs.Fronts.{InFront}
use Rattle.cbor_canonical.specs.Room.{Grows}
use Rattle.cbor_canonical.specs.Strings.{IsBody, IsChunk}
use Rattle.cbor_canonical.specs.Writing.{Adds}
use Rattle.cbor_canonical.proofs.RoomRuns.{title_grows, grows_told}
use Rattle.cbor_canonical.proofs.WriteRuns.{adds_reach}

-- The title of a string's length takes at most a byte more than two for 256 bytes of its body.
pub string_title : (k : Kind) (n : ℕ) → 256 * title_len (kind_header k (Some n)) ≤ 512 + n
string_title Bytes n = title_grows ByteString n
string_title Text n = title_grows TextString n

-- Less is left after a front.
pub less_left : (P : List ℕ → Type 0) (rest after : List ℕ) → InFront P rest after → length after ≤ length rest
less_left P rest after f = omega (arith, ap (length {A = ℕ}) f.whole, length-append f.front after)

-- A string has a byte or more before its body.
pub chunk_left : (k : Kind) (body rest after : List ℕ) → InFront (IsChunk k body) rest after
    → length body + length after < length rest
chunk_left k body rest after f =
    omega (
      arith,
      ap (length {A = ℕ}) f.whole,
      length-append f.front after,
      ap (length {A = ℕ}) f.is.whole,
      length-append f.is.title body,
      title_some f.is.title _ f.is.is_title,
    )

module _ (k : Kind) (len : ℕ) (bytes body rest : List ℕ) (b : IsBody k len bytes body rest) (t : List ℕ)
    (p : IsTitle t (kind_header k (Some len))) where
  told_whole : length bytes ≡ length body + length rest
  told_whole = ap (length {A = ℕ}) b.whole ∙ length-append body rest

  told_length : length (body_spelling k body) ≡ title_len (kind_header k (Some len)) + length body
  told_length =
      length-append _ body ∙ ap (λ (n : ℕ). title_len (kind_header k (Some n)) + length body) b.is

  pub told_grows : (at end : ℕ) (old new : List ℕ) → at ≤ length old → Adds (body_spelling k body) at end old new
      → Grows 1 (length t + length bytes) (length rest) at end
  told_grows at end old new l w =
      grows_told t _ p (length bytes) (length rest) at end (length body) told_whole
      (adds_reach (body_spelling k body) at end old new l w ∙ ap (λ (n : ℕ). at + n) told_length)
