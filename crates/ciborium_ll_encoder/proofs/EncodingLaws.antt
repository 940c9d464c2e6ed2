-- A write after a write, and a value that is written as one string. This file re-exports the lemmas of writers.
use Rattle.std.proofs.Common.{ℕ, List, None, Result}
use Rattle.ciborium_ll_io.specs.declared.io.Write.{Ghosts}
use Rattle.ciborium_ll_grammar.specs.Strings.{Kind, Bytes, Text}
use Rattle.ciborium_ll_grammar.specs.Elements.{body_spelling}
use Rattle.ciborium_ll_encoder.specs.Encoding.{WritesBytes, WritesValue}
pub use Rattle.ciborium_ll_grammar.proofs.ItemJoins.{whole_spelling}
pub use Rattle.ciborium_ll_io.proofs.WriteLaws.{Shrinks-trans, AppendsFront-longer, AppendsFront-after}
pub use Rattle.ciborium_ll_io.proofs.WriteLaws.{WritesBytes-stopped, WritesBytes-then, WritesBytes-of}

module _ {W F : Type 0} (sink : Ghosts W F) where
  value_bytes : {T : Type 0} (kind : Kind) (value : List ℕ) (old : W) (result : Result T F) (new : W)
      → WritesValue sink kind None value old result new → WritesBytes sink old result (body_spelling kind value) new
  value_bytes kind value old result new wrote = rw (whole_spelling kind value wrote.marks wrote.written) at wrote.bytes

  -- A write of a text without a limit writes its shortest title and the text.
  pub text_bytes : {T : Type 0} (text : List ℕ) (old : W) (result : Result T F) (new : W)
      → WritesValue sink Text None text old result new → WritesBytes sink old result (body_spelling Text text) new
  text_bytes text old result new wrote = value_bytes Text text old result new wrote

  -- A write of bytes without a limit writes their shortest title and the bytes.
  pub bytes_bytes : {T : Type 0} (bytes : List ℕ) (old : W) (result : Result T F) (new : W)
      → WritesValue sink Bytes None bytes old result new → WritesBytes sink old result (body_spelling Bytes bytes) new
  bytes_bytes bytes old result new wrote = value_bytes Bytes bytes old result new wrote

-- The lemmas on a chain of writes, which a caller names in `using`.
pub ruleset writes = (WritesBytes-stopped, WritesBytes-then)
