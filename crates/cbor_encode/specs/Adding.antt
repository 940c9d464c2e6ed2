-- The bytes that a call adds to the end of others, and the titles that it adds.
use Rattle.std.specs.Prelude.{◌≡◌, ℕ, List, ◌++◌}
use Rattle.ciborium_ll_grammar.specs.declared.spelling.Spelling.{Spelling}
use Rattle.ciborium_ll_grammar.specs.declared.hdr.Header.{Header}
use Rattle.ciborium_ll_grammar.specs.Title.{IsTitle, Major, major_code, Size, numbered_header}
use Rattle.ciborium_ll_grammar.specs.Items.{IsTakenTitle}

-- The bytes after a call are the bytes before it, and then bytes for which P holds. If they are `81` before and `81 01`
-- after, P holds for `01`.
pub record Adds (P : List ℕ → Type 0) (before after : List ℕ) : Type 0 where
  pub added : List ℕ
  pub parts : after ≡ before ++ added
  pub is : P added

-- The bytes are a title of the header. If `allowed` is `Shortest`, they are its shortest title, and no simple value
-- from 24 to 31 (RFC 8949, 3, 3.3 and 4.1). `17` and `18 17` are titles of 23, and `17` is the shortest.
pub record IsHead (allowed : Spelling) (header : Header) (bytes : List ℕ) : Type 0 where
  pub title : IsTitle bytes header
  pub taken : IsTakenTitle allowed bytes header

-- The bytes are a title of the header, and then the body. `42 01 02` has the body `01 02`.
pub record HasBody (allowed : Spelling) (header : Header) (body bytes : List ℕ) : Type 0 where
  pub title : List ℕ
  pub head : IsHead allowed header title
  pub parts : bytes ≡ title ++ body

-- The header has this major type and this number, in each size of its title (RFC 8949, 3). The header of `18 64` has
-- the major type 0 and the number 100.
pub record HasNumber (header : Header) (code number : ℕ) : Type 0 where
  pub major : Major
  pub same : major_code major ≡ code
  pub reads : (size : Size) → numbered_header major size number ≡ header
