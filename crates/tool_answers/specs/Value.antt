-- The spellings of values.
use Rattle.std.specs.Prelude.{◌≡◌, ℕ, List, Option}
use Rattle.ciborium_ll_grammar.specs.Elements.{Mark, spelling}
use Rattle.ciborium_ll_grammar.specs.Strings.{Kind}
use Rattle.ciborium_ll_grammar.specs.Values.{IsWritten, value_limit}

-- The bytes are a string of the kind that holds the value, in segments of at most `value_limit` bytes. For the limit 2,
-- the byte string `01 02 03` is `5f 42 01 02 41 03 ff`.
pub record IsValueSpelling (kind : Kind) (limit : Option ℕ) (value bytes : List ℕ) : Type 0 where
  pub marks : List Mark
  pub written : IsWritten kind (value_limit kind limit value) value marks
  pub whole : bytes ≡ spelling marks
