-- Strings (RFC 7049, 2.1 and 2.2.2). `5f 41 01 5f 41 02 ff ff` is a string: strings of indefinite length may contain
-- strings of indefinite length, to any depth. RFC 7049, 2.2.2, allows only definite lengths there.
use Rattle.std.specs.Prelude.{ℕ, List, [], ◌∷◌, ◌++◌, length, Option, Some, None}
use Rattle.ciborium_ll_grammar.specs.declared.hdr.Header.{Header}
use Rattle.ciborium_ll_grammar.specs.declared.hdr.Header.TheVariants as h
use Rattle.ciborium_ll_grammar.specs.Title.{IsTitle}
use Rattle.ciborium_ll_text.specs.Text.{IsCharacters}

-- The two kinds of string (RFC 7049, 2.1): byte strings as `41 61`, and text strings as `61 61`.
pub data Kind : Type 0 where
  Bytes Text : Kind

-- The header of a string of this length, or of the indefinite form for `None` (RFC 7049, 2.1). `43` is a title of a
-- byte string of three bytes.
abbrev pub kind_header : Kind → Option ℕ → Header
kind_header Bytes len = h.Bytes len
kind_header Text len = h.Text len

mutual
  -- `IsString kind bytes bodies`: the bytes are a title and the one body that it announces. Or they are an open,
  -- strings of the same kind and a break (RFC 7049, 2.1 and 2.2.2). The bodies are then those of these strings, in
  -- order. `5f 41 01 42 02 03 ff` has the bodies `01` and `02 03`.
  pub data IsString (kind : Kind) : List ℕ → List (List ℕ) → Type 0 where
    definite : {title body : List ℕ} → IsTitle title (kind_header kind (Some (length body)))
        → IsString kind (title ++ body) (body ∷ [])
    indefinite : {title strings : List ℕ} {bodies : List (List ℕ)} → IsTitle title (kind_header kind None)
        → AreStrings kind strings bodies
        → IsString kind (title ++ (strings ++ 0xff ∷ [])) bodies

  -- Any number of strings, joined, and their bodies. Inside a string they may have indefinite lengths too, unlike in
  -- RFC 7049, 2.2.2. `41 01 5f 41 02 ff` has the bodies `01` and `02`.
  pub data AreStrings (kind : Kind) : List ℕ → List (List ℕ) → Type 0 where
    none : AreStrings kind [] []
    more : {first rest : List ℕ} {bodies others : List (List ℕ)} → IsString kind first bodies
        → AreStrings kind rest others
        → AreStrings kind (first ++ rest) (bodies ++ others)

-- The header may not stand within a string of the kind: it is neither of the kind nor a break (RFC 7049, 2.2.2). After
-- `5f`, the header of `61` is misplaced.
abbrev pub IsMisplaced : Kind → Header → Type 0
IsMisplaced Bytes (h.Bytes len) = ⊥
IsMisplaced Text (h.Text len) = ⊥
IsMisplaced kind h.Break = ⊥
IsMisplaced kind header = Unit {0}

-- A copy may write these bytes of a body, whole or cut: any bytes of a byte string, whole characters of a text. It may
-- write `c3` of a byte string, but not of a text.
abbrev pub IsWritable : Kind → List ℕ → Type 0
IsWritable Bytes front = Unit {0}
IsWritable Text front = IsCharacters front

-- A copy may consume this many more bytes of a body than it writes: none of a byte string, and up to 3 of a text, as
-- `f0 9f 98` of `f0 9f 98 80`.
abbrev pub most_kept : Kind → ℕ
most_kept Bytes = 0
most_kept Text = 3
