-- Sequences of items (RFC 8742), and texts without marks.
use Rattle.std.specs.Prelude.{ℕ, ◌==◌, Bool, List}
use Rattle.std.specs.List.{list_any}
use Rattle.ciborium_ll_grammar.specs.declared.spelling.Spelling.{Spelling}
use Rattle.ciborium_ll_grammar.specs.Items.{AreItems}

-- The bytes are items, joined, each with tags, arrays and maps nested at most `depth` deep. If `allowed` is `Shortest`,
-- all items are in their shortest spelling (RFC 8949, 4.1). To a depth of 1 `01 82 02 03` are two items.
pub record AreSequence (allowed : Spelling) (depth : ℕ) (bytes : List ℕ) : Type 0 where
  pub count : ℕ
  pub are : AreItems allowed depth count bytes

-- The result is true if the text has an underscore, which is 95. Each mark begins with one.
abbrev pub has_underscore : List ℕ → Bool
has_underscore text = list_any (λ byte. byte == 95) text
