-- Lines of an input.
use Rattle.std.specs.Prelude.{◌≢◌, ℕ, List}
use Rattle.std.specs.List.{All}

-- The byte that ends a line: `0a`.
abbrev pub line_feed : ℕ
line_feed = 10

-- The bytes lie within one line: `61 62` do, and `61 0a 62` do not.
abbrev pub IsOneLine : List ℕ → Type 0
IsOneLine bytes = All (λ byte. byte ≢ line_feed) bytes
