-- The words of the laws.
use Rattle.std.specs.Prelude.{ℕ, List}
use Rattle.ciborium_ll_grammar.specs.Elements.{Mark, IsStrictRun}
use Rattle.cbor_deterministic.specs.Values.{Value}
use Rattle.cbor_deterministic.specs.Spellings.{Encodes}

-- The bytes are a spelling of some value (RFC 8949, 3). `81 01` and `9f 01 ff` are spellings of [1].
pub record IsSpelling (bytes : List ℕ) : Type 0 where
  pub value : Value
  pub encodes : Encodes value bytes

-- The bytes are some number of elements in their shortest spelling, as `strict_len` takes them. A copy of the elements
-- writes `spelling marks`, which are the same bytes. `82 01 02` are three elements.
pub record HasStrictRun (bytes : List ℕ) : Type 0 where
  pub count : ℕ
  pub marks : List Mark
  pub strict : IsStrictRun count bytes marks
