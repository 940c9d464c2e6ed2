-- The beginning of some bytes, and the rest.
use Rattle.std.specs.Prelude.{◌≡◌, List, ℕ, ◌++◌, length}
use Rattle.ciborium_ll_text.specs.Text.{IsCharacters}

-- The bytes begin with a front for which P holds, and this rest follows it. If P holds for `01`, `01 02` has the rest
-- `02`.
pub record InFront (P : List ℕ → Type 0) (bytes rest : List ℕ) : Type 0 where
  pub front : List ℕ
  pub is : P front
  pub whole : bytes ≡ front ++ rest

-- The bytes begin with no front for which P holds. If P holds for `01` alone, `02 01` begins with none.
abbrev pub NoneInFront : (List ℕ → Type 0) → List ℕ → Type 0
NoneInFront P bytes = (rest : List ℕ) → InFront P bytes rest → ⊥

-- The body has this many bytes: two in `01 02`.
pub record IsOfLength (len : ℕ) (body : List ℕ) : Type 0 where
  pub is : length body ≡ len

-- The body has this many bytes, and is UTF-8 (Unicode, Table 3-7). `c3 a4` is such a body of two bytes, and `c3 c3` is
-- none.
pub record IsTextOfLength (len : ℕ) (body : List ℕ) : Type 0 where
  pub is : length body ≡ len
  pub text : IsCharacters body
