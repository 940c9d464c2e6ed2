-- A text cut into members of limited length, each a text, as the pieces of a string (RFC 7049, 2.2.2).
use Rattle.std.specs.Prelude.{◌≡◌, ℕ, ◌+◌, ◌<◌, ◌≤◌, List, [], ◌∷◌, ◌++◌, length}
use Rattle.std.specs.List.{AllByRecursion}
use Rattle.ciborium_ll_text.specs.Text.{IsCharacter, joined, IsCharacters}

-- The member is a text of at most `limit` bytes. `c3 a4` is a member for the limit 4.
abbrev pub IsMember : ℕ → List ℕ → Type 0
IsMember limit member = IsCharacters member × (length member ≤ limit)

-- The list has an element: `61` has one, and the empty list has none.
abbrev pub IsNonempty : List ℕ → Type 0
IsNonempty member = 0 < length member

-- The members joined are the text, and each is a text of at most `limit` bytes (RFC 7049, 2.2.2). For the limit 2, `61`
-- and `62 63` are a cut of `61 62 63`.
pub record IsCut (text : List ℕ) (limit : ℕ) (members : List (List ℕ)) : Type 0 where
  pub whole : text ≡ joined members
  pub each : AllByRecursion (IsMember limit) members

-- The member has no room within the limit for the first character of the next. For the limit 4, `61 62 63` is filled
-- before `c3 a4`.
abbrev pub IsFilled : ℕ → List ℕ → List ℕ → Type 0
IsFilled limit member following = (character rest : List ℕ) → IsCharacter character → following ≡ character ++ rest
    → limit < length member + length character

-- Each member but the last is filled. For the limit 2, this holds of `61 62` and `63`, but not of `61` and `62`.
abbrev pub AreFilled : ℕ → List (List ℕ) → Type 0
AreFilled limit [] = Unit {0}
AreFilled limit (member ∷ []) = Unit {0}
AreFilled limit (member ∷ following ∷ members) = IsFilled limit member following × AreFilled limit (following ∷ members)

-- A cut into members that are not empty. Each but the last is filled: it has no room for the next character. For the
-- limit 4, `61 62 63` and `c3 a4` are the full cut of `61 62 63 c3 a4`.
pub record IsFullCut (text : List ℕ) (limit : ℕ) (members : List (List ℕ)) : Type 0 where
  pub cut : IsCut text limit members
  pub nonempty : AllByRecursion IsNonempty members
  pub filled : AreFilled limit members
