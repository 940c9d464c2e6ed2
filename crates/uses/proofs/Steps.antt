-- Steps of the callers, in the words of the contracts of the calls that they make. By these lemmas the check finds the
-- clauses of a function that makes these calls, whatever the form of its body.
use Rattle.std.proofs.Common.{◌≡◌, ℕ, ℤ, List, ◌++◌, Option, None, Result, Ok, Err, IsErr}
use Rattle.ciborium_ll.specs.Types.Read.{Ghosts as Reader}
use Rattle.ciborium_ll.specs.Types.Write.{Ghosts as Writer}
use Rattle.ciborium_ll.specs.Types.Decoder.{Decoder}
use Rattle.ciborium_ll.specs.Types.Header.{Header}
use Rattle.ciborium_ll.specs.Types.Header.TheVariants as h
use Rattle.ciborium_ll.specs.Strings.{Text}
use Rattle.ciborium_ll.specs.Elements.{body_spelling}
use Rattle.ciborium_ll.specs.Decoding.{PullsTitle}
use Rattle.ciborium_ll.specs.Encoding.{WritesBytes, WritesValue}
use Rattle.ciborium_ll.proofs.EncodingLaws.{WritesBytes-stopped, WritesBytes-then, text_bytes}
pub use Rattle.ciborium_ll.proofs.EncodingLaws.{writes}
use Rattle.uses.specs.Sums.{SumsOrStops, SumsBehind}
use Rattle.uses.specs.declared.sums.SumError.{SumError}
use Rattle.uses.proofs.SumLaws.{opens_array}

module _ {R E : Type 0} (source : Reader R E) where
  -- If the header of an array was pulled and its integers were added, the array was summed or stopped.
  pub array_sums : (len : Option ℕ) (old asked opened new : Decoder R) (header : Header) (result : Result ℤ (SumError E))
      → asked ≡ old → header ≡ h.Array len → PullsTitle source asked header opened
      → SumsBehind source (h.Array len) opened result new → SumsOrStops source old result new
  array_sums len old asked opened new header result same array pulled sums =
      opens_array source len old opened new result (rw (same, array) at pulled) sums

module _ {W F : Type 0} (sink : Writer W F) where
  -- A write of a text and then a write of another text, which may fail, make one write of both.
  pub texts_written : {T : Type 0} (first second : List ℕ) (old mid new : W) (done : T) (result : Result T F)
      → WritesValue sink {T = T} Text None first old (Ok done) mid → WritesValue sink Text None second mid result new
      → WritesBytes sink old result (body_spelling Text first ++ body_spelling Text second) new
  texts_written first second old mid new done result wrote next =
      WritesBytes-then sink old mid new result (body_spelling Text first) (body_spelling Text second)
      (text_bytes sink first old (Ok done) mid wrote) (text_bytes sink second mid result new next)

  -- A failed write of the first text is a failed write of both.
  pub text_unwritten : {T : Type 0} (first : List ℕ) (more : List ℕ) (old new : W) (fault : F) (result : Result T F)
      → IsErr result → WritesValue sink {T = T} Text None first old (Err fault) new
      → WritesBytes sink old result (body_spelling Text first ++ more) new
  text_unwritten {T} first more old new fault result fails wrote =
      WritesBytes-stopped sink old new result (body_spelling Text first) more fails
      (text_bytes sink {T = T} first old (Err fault) new wrote)
