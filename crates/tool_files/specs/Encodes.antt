-- What is written of notation.
use Rattle.std.specs.Prelude.{◌≡◌, ◌≢◌, ℕ, Bool, false, List, Option, Result, Ok, Err}
use Rattle.std.specs.Io.KnownBytes.{Appends, Keeps}
use Rattle.std.specs.IoError.{error_kind}
use Rattle.std.specs.declared.io.ErrorKind.TheVariants as k
use Rattle.ciborium_ll_grammar.specs.declared.spelling.Spelling.TheVariants.{Any, Shortest}
use Rattle.ciborium_ll_text.specs.Text.{IsCharacters}
use Rattle.cbor_encode.specs.Places.{IsFaultIn}
use Rattle.cbor_encode.specs.Sequences.{has_underscore}
use Rattle.tool_verdicts.specs.Checking.{IsWanted}
use Rattle.tool_files.specs.Given.{AppendsSome, IsWhole}
use Rattle.tool_files.specs.declared.encode.EncodeFault.{EncodeFault}
use Rattle.tool_files.specs.declared.encode.EncodeFault.TheVariants as e

-- The text is UTF-8, and the bytes are as wanted: one item, or a sequence of items (RFC 8742, 2). If the text has no
-- underscore, and so no mark, all titles are the shortest. From `1` come `01`, and from `1_0` come `18 01`.
pub record AreEncoded (one : Bool) (depth : ℕ) (text bytes : List ℕ) : Type 0 where
  pub is_text : IsCharacters text
  pub wanted : IsWanted one Any depth bytes
  pub shortest : has_underscore text ≡ false → IsWanted one Shortest depth bytes

-- `Ok`: the writer got the bytes of what is wanted. A fault of the notation has its place, line and column in the text
-- of the reader. After it, and after a failed read, the writer has what it had. A read that was interrupted is made
-- again, and is no failure. If the writer failed, it got a beginning of the bytes of what is wanted, or all of them. Of
-- the text `[1]` it gets `81 01`, and of `[1` nothing: the fault is in line 1 and column 3.
abbrev pub WritesNotation : {W : Type 0} → (W → Option (List ℕ)) → Bool → ℕ → Option (List ℕ) → W
    → Result (Unit {0}) EncodeFault → W → Type 0
WritesNotation told one depth input old (Ok done) new = (text bytes : List ℕ) × IsWhole input text
    × AreEncoded one depth text bytes × Appends (told old) (told new) bytes
WritesNotation told one depth input old (Err (e.Notation fault)) new = (text : List ℕ) × IsWhole input text
    × IsFaultIn text fault × Keeps (told old) (told new)
WritesNotation told one depth input old (Err (e.Input error)) new = Keeps (told old) (told new)
    × (error_kind error ≢ k.Interrupted)
WritesNotation told one depth input old (Err (e.Output error)) new = (text bytes : List ℕ) × IsWhole input text
    × AreEncoded one depth text bytes × AppendsSome (told old) (told new) bytes
