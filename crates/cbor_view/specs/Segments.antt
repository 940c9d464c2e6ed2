-- The segments of a string, and the bytes of the string after some of them.
use Rattle.std.specs.Prelude.{◌≡◌, ℕ, List, [], ◌∷◌, ◌++◌, length, Some, None}
use Rattle.std.specs.List.{concat}
use Rattle.ciborium_ll_grammar.specs.Title.{IsTitle}
use Rattle.ciborium_ll_grammar.specs.Strings.{Kind, Text, kind_header, IsString}
use Rattle.ciborium_ll_grammar.specs.Elements.{AreWritable}

-- `AreSegments kind bytes bodies`: the bytes are a string of the kind, or the bytes after one of its segments, and the
-- segments in them have these bodies. A segment is a string of definite length. Opens and breaks stand between segments
-- (RFC 7049, 2.2.2). The bytes `61 62 ff` are left after the first segment of `7f 61 61 61 62 ff`.
pub data AreSegments (kind : Kind) : List ℕ → List (List ℕ) → Type 0 where
  ended : AreSegments kind [] []
  segment : {title body rest : List ℕ} {others : List (List ℕ)} → IsTitle title (kind_header kind (Some (length body)))
      → AreSegments kind rest others → AreSegments kind (title ++ (body ++ rest)) (body ∷ others)
  opened : {title rest : List ℕ} {bodies : List (List ℕ)} → IsTitle title (kind_header kind None)
      → AreSegments kind rest bodies → AreSegments kind (title ++ rest) bodies
  closed : {rest : List ℕ} {bodies : List (List ℕ)} → AreSegments kind rest bodies
      → AreSegments kind (0xff ∷ rest) bodies

-- The bytes are the segments of a string that are left, as `41 02 ff` after the first of `5f 41 01 41 02 ff`.
pub record HasSegments (bytes : List ℕ) : Type 0 where
  pub kind : Kind
  pub bodies : List (List ℕ)
  pub are : AreSegments kind bytes bodies

-- The bytes are the segments of a text string that are left, and each body is UTF-8 by itself (RFC 7049, 2.2.2).
-- `61 61 ff` are such segments. `61 c3 61 a4 ff` are none, though the bodies `c3` and `a4`, joined, are UTF-8.
pub record HasTexts (bytes : List ℕ) : Type 0 where
  pub bodies : List (List ℕ)
  pub are : AreSegments Text bytes bodies
  pub texts : AreWritable Text bodies

-- This body is the first of them, and this rest has the others. The first body of `61 61 61 62 ff` is `61`, and the
-- rest is `61 62 ff`.
pub record IsFirstSegment (kind : Kind) (bodies : List (List ℕ)) (body rest : List ℕ) : Type 0 where
  pub others : List (List ℕ)
  pub is : bodies ≡ body ∷ others
  pub are : AreSegments kind rest others

-- The bytes are a string of the kind with some bodies, and each body of a text is UTF-8 by itself. `5f 41 01 ff` is a
-- byte string, and `61 ff` is no text string.
pub record IsStringItem (kind : Kind) (bytes : List ℕ) : Type 0 where
  pub bodies : List (List ℕ)
  pub is : IsString kind bytes bodies
  pub written : AreWritable kind bodies

-- The bytes are a string of the kind, and the segments that are left are all of its segments (RFC 7049, 2.2.2). All
-- segments of `5f 41 01 ff` are left in `41 01 ff`, and none is left in `ff`.
pub record IsSegmented (kind : Kind) (bytes rest : List ℕ) : Type 0 where
  pub is_string : ∥ IsStringItem kind bytes ∥₁
  pub same : (bodies : List (List ℕ)) → IsString kind bytes bodies → AreSegments kind rest bodies

-- The bytes are a text string of definite or indefinite length whose bodies, joined, are this text (RFC 7049, 2.1 and
-- 2.2.2). `7f 61 61 61 62 ff` and `62 61 62` spell "ab".
pub record SpellsText (bytes text : List ℕ) : Type 0 where
  pub bodies : List (List ℕ)
  pub is : IsString Text bytes bodies
  pub joined : concat bodies ≡ text
