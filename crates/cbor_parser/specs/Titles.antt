-- Titles that are taken, and beginnings of titles (RFC 7049, 2.1 and 3.9).
use Rattle.std.specs.Prelude.{◌≡◌, ℕ, ◌⊎◌, List, ◌++◌}
use Rattle.ciborium_ll_grammar.specs.declared.spelling.Spelling.{Spelling}
use Rattle.ciborium_ll_grammar.specs.declared.hdr.Header.{Header}
use Rattle.ciborium_ll_grammar.specs.Title.{BeginsRefused, IsTitle}
use Rattle.ciborium_ll_grammar.specs.Items.{IsTakenTitle}

-- The bytes are no title that is taken: none begins so, or it is one that only a reader of any spelling takes (RFC
-- 7049, 2.1 and 3.9). So it is with `1c`, and for `Shortest` with `18 01`.
abbrev pub IsNoTakenTitle : Spelling → List ℕ → Type 0
IsNoTakenTitle allowed title =
    BeginsRefused title ⊎ ((header : Header) × IsTitle title header × (IsTakenTitle allowed title header → ⊥))

-- A title that begins with these bytes is taken, as `19 01 00` for `19` (RFC 7049, 2.1 and 3.9).
abbrev pub SomeTaken : Spelling → List ℕ → Type 0
SomeTaken allowed front =
    (more : List ℕ) × (header : Header) × IsTitle (front ++ more) header × IsTakenTitle allowed (front ++ more) header

-- Nothing that begins with these bytes begins with a title that is taken (RFC 7049, 2.1 and 3.9). So it is with `1c`,
-- and for `Shortest` with `19 00`. A whole title that is not taken is such a beginning.
abbrev pub NoneTaken : Spelling → List ℕ → Type 0
NoneTaken allowed front =
    (more title rest : List ℕ) (header : Header) → IsTitle title header → IsTakenTitle allowed title header
    → front ++ more ≡ title ++ rest → ⊥
