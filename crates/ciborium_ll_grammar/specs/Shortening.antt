-- The bytes that a copy takes and writes, on whole lists. Each title becomes its shortest title. A string of indefinite
-- length inside another loses its open and break. `IsCharacters`, which defines UTF-8, is the only other definition
-- used here. Major types are numbers from 0 to 7, as in a first byte (RFC 7049, 2.1). By the law `shortened_run`, these
-- are the runs of elements and their spelling.
use Rattle.ciborium_ll_grammar.specs.declared.spelling.Spelling.{Spelling}
use Rattle.ciborium_ll_grammar.specs.declared.spelling.Spelling.TheVariants.{Any, Shortest}
use Rattle.std.specs.Prelude.{◌≡◌, ℕ, zero, suc, ◌+◌, ◌*◌, ◌<◌, ◌≤◌, ◌^◌, ◌⊎◌, List, [], ◌∷◌, ◌++◌}
use Rattle.std.specs.Prelude.{length}
use Rattle.std.specs.Int.{to_be_bytes, w8, w16, w32, w64}
use Rattle.ciborium_ll_text.specs.Text.{IsCharacters}

-- The number that the lower five bits of a first byte and the affix give (RFC 7049, 2.1). The minor 24 and the affix
-- `c8` give 200.
pub data SaysNumber : ℕ → List ℕ → ℕ → Type 0 where
  small : {n : ℕ} → n < 24 → SaysNumber n [] n
  one : {n : ℕ} → n < 2 ^ 8 → SaysNumber 24 (to_be_bytes w8 n) n
  two : {n : ℕ} → n < 2 ^ 16 → SaysNumber 25 (to_be_bytes w16 n) n
  four : {n : ℕ} → n < 2 ^ 32 → SaysNumber 26 (to_be_bytes w32 n) n
  eight : {n : ℕ} → n < 2 ^ 64 → SaysNumber 27 (to_be_bytes w64 n) n

-- The bytes are a title of the major type with the number. If `shortest` is true, no title of the two has fewer bytes
-- (RFC 7049, 2.1 and 3.9). `17` and `18 17` are titles of the integer 23, and `17` is the shortest.
pub record IsNumberTitle (allowed : Spelling) (major n : ℕ) (title : List ℕ) : Type 0 where
  pub minor : ℕ
  pub affix : List ℕ
  pub says : SaysNumber minor affix n
  pub is : title ≡ (32 * major + minor) ∷ affix
  pub fewest : allowed ≡ Shortest → (minor : ℕ) (other : List ℕ) → SaysNumber minor other n
      → length affix ≤ length other

-- The body of a string may be these bytes: any bytes, or UTF-8 for a text (RFC 7049, 2.1). `c3` is a body of a byte
-- string, but not of a text.
pub data IsBody : ℕ → List ℕ → Type 0 where
  bytes : {body : List ℕ} → IsBody 2 body
  text : {body : List ℕ} → IsCharacters body → IsBody 3 body

-- A string of a definite length, and the same body after its shortest title. A strict decoder takes this title alone
-- (RFC 7049, 2.1 and 3.9). `58 01 05` becomes `41 05`.
pub data ShortensString (allowed : Spelling) (major : ℕ) : List ℕ → List ℕ → Type 0 where
  titled : {title shortest body : List ℕ} → IsNumberTitle allowed major (length body) title
      → IsNumberTitle Shortest major (length body) shortest → IsBody major body
      → ShortensString allowed major (title ++ body) (shortest ++ body)

-- Strings within an open, joined, and the copy of them. The copy of a string of indefinite length is the copy of the
-- strings within it. A strict decoder refuses it (RFC 7049, 2.2.2). `41 01 5f 41 02 ff` becomes `41 01 41 02`.
pub data ShortensStrings (allowed : Spelling) (major : ℕ) : List ℕ → List ℕ → Type 0 where
  no_more : ShortensStrings allowed major [] []
  definite_more : {first rest written more : List ℕ} → ShortensString allowed major first written
      → ShortensStrings allowed major rest more → ShortensStrings allowed major (first ++ rest) (written ++ more)
  open_more : {within rest written more : List ℕ} → allowed ≡ Any → ShortensStrings allowed major within written
      → ShortensStrings allowed major rest more
      → ShortensStrings allowed major (((32 * major + 31) ∷ (within ++ 0xff ∷ [])) ++ rest) (written ++ more)

-- An element, and its copy (RFC 7049, 2.1 to 2.3). The element is the title of an integer, array, map or tag, a simple
-- value (a strict decoder refuses 24 to 31), or a float. Or it is an open array, an open map or a break. Or it is a
-- string of a definite or an indefinite length. `19 00 05` becomes `05`.
pub data ShortensElement (allowed : Spelling) : List ℕ → List ℕ → Type 0 where
  number : {major n : ℕ} {title shortest : List ℕ} → (major < 2) ⊎ ((3 < major) × (major < 7))
      → IsNumberTitle allowed major n title → IsNumberTitle Shortest major n shortest
      → ShortensElement allowed title shortest
  simple : {n : ℕ} {title shortest : List ℕ} → length title ≤ 2 → (allowed ≡ Shortest → (n < 24) ⊎ (32 ≤ n))
      → IsNumberTitle allowed 7 n title → IsNumberTitle Shortest 7 n shortest → ShortensElement allowed title shortest
  float : {bits : ℕ} {title : List ℕ} → 2 < length title → IsNumberTitle Any 7 bits title
      → ShortensElement allowed title title
  alone : {byte : ℕ} → (byte ≡ 0x9f) ⊎ (byte ≡ 0xbf) ⊎ (byte ≡ 0xff)
      → ShortensElement allowed (byte ∷ []) (byte ∷ [])
  whole : {major : ℕ} {string written : List ℕ} → ShortensString allowed major string written
      → ShortensElement allowed string written
  parts : {major : ℕ} {strings written : List ℕ} → IsBody major [] → ShortensStrings allowed major strings written
      → ShortensElement allowed ((32 * major + 31) ∷ (strings ++ 0xff ∷ []))
      ((32 * major + 31) ∷ (written ++ 0xff ∷ []))

-- `Shortens allowed count bytes written rest`: the bytes begin with `count` elements, whose copy is `written`, and then
-- have `rest`. If `count` is 1, `18 05 06` has the copy `05` and the rest `06`.
pub data Shortens (allowed : Spelling) : ℕ → List ℕ → List ℕ → List ℕ → Type 0 where
  done : {rest : List ℕ} → Shortens allowed zero rest [] rest
  next : {count : ℕ} {element bytes written more rest : List ℕ} → ShortensElement allowed element written
      → Shortens allowed count bytes more rest → Shortens allowed (suc count) (element ++ bytes) (written ++ more) rest
