-- The verdict of `check --deterministic` on an input (RFC 8949, 4.2).
use Rattle.std.specs.Prelude.{◌≢◌, ℕ, Bool, List, Option}
use Rattle.std.specs.IoError.{error_kind}
use Rattle.std.specs.declared.io.Error.{Error}
use Rattle.std.specs.declared.io.ErrorKind.TheVariants as k
use Rattle.cbor_deterministic.specs.declared.Order.{Order}
use Rattle.tool_verdicts.specs.Deterministic.{FindsDeterministic}
use Rattle.tool_verdicts.specs.declared.verdict.Verdict.{Verdict}
use Rattle.tool_verdicts.specs.declared.verdict.Verdict.TheVariants as v
use Rattle.tool_files.specs.Given.{IsWhole}

-- The verdict is the one on the bytes of the reader, or it says that a read failed. A read that was interrupted is made
-- again, and is no failure. A reader of `01 80` has 2 items in 2 bytes.
pub data ChecksDeterministic (one : Bool) (order : Order) (depth : ℕ) (input : Option (List ℕ)) : Verdict → Type 0 where
  failed : {error : Error} → error_kind error ≢ k.Interrupted
      → ChecksDeterministic one order depth input (v.Failed error)
  found : {verdict : Verdict} (bytes : List ℕ) → IsWhole input bytes → FindsDeterministic one order depth bytes verdict
      → ChecksDeterministic one order depth input verdict
