-- Bytes as titles and the bodies of strings (RFC 7049, 2.1 to 2.4), and where some bytes have come to.
use Rattle.std.specs.Prelude.{◌≡◌, ℕ, ◌+◌, ◌-◌, ◌%◌, ◌<◌, ◌⊎◌, List, [], ◌∷◌, ◌++◌, length, Some, None}
use Rattle.ciborium_ll_grammar.specs.declared.spelling.Spelling.{Spelling}
use Rattle.ciborium_ll_grammar.specs.declared.hdr.Header.{Header}
use Rattle.ciborium_ll_grammar.specs.declared.hdr.Header.TheVariants as h
use Rattle.ciborium_ll_grammar.specs.Title.{IsTitle, IsCutTitle, affix_len}
use Rattle.ciborium_ll_grammar.specs.Items.{IsTakenTitle}
use Rattle.ciborium_ll_text.specs.Text.{IsCharacters, IsStuck}
use Rattle.cbor_parser.specs.Phases.{text_place}
use Rattle.cbor_parser.specs.Strings.{within_after}
use Rattle.cbor_parser.specs.Titles.{IsNoTakenTitle}
use Rattle.cbor_parser.specs.declared.phase.Phase.{Phase}
use Rattle.cbor_parser.specs.declared.phase.Phase.TheVariants as p
use Rattle.cbor_parser.specs.declared.strings.Within.{Within}
use Rattle.cbor_parser.specs.declared.strings.Within.TheVariants as w
use Rattle.cbor_parser.specs.declared.parser.Parser.{Parser}

-- ---- titles and bodies

-- A header, and the body after its title. For `42 01 02` it is `Bytes(Some(2))` with the body `01 02`, and for `82` the
-- body is empty. While a body comes, it is the part that came.
pub record Token : Type 0 where
  pub header : Header
  pub body : List ℕ

-- A header with a body: `Bytes(Some(1))` and `05` for `41 05`.
abbrev pub token : Header → List ℕ → Token
token header body = record { header = header; body = body }

-- How many bytes of a body follow a title of this header (RFC 7049, 2.1): two after `42`, and none after `82`.
abbrev pub body_len : Header → ℕ
body_len (h.Bytes (Some len)) = len
body_len (h.Text (Some len)) = len
body_len header = 0

-- A body of this header may have these bytes: any, and characters if it is a text (RFC 7049, 2.1). The body of `61` is
-- not `ff`.
abbrev pub IsBody : Header → List ℕ → Type 0
IsBody (h.Text len) body = IsCharacters body
IsBody header body = Unit {0}

-- The bytes are a title of this header, it is taken, and it may stand within the strings `before`. After it `after` are
-- open (RFC 7049, 2.2.2 and 3.9). Within `5f`, the title `41` is such a title.
pub record IsTitleIn (allowed : Spelling) (before : Within) (title : List ℕ) (header : Header) (after : Within) :
    Type 0 where
  pub is_title : IsTitle title header
  pub taken : IsTakenTitle allowed title header
  pub stands : within_after allowed before header ≡ Some after

-- The bytes are whole titles, each with its body, and these are their tokens, the last one first. The strings `within`
-- are open after them (RFC 7049, 2.1). `82 41 05` are the tokens `Bytes(Some(1))` with the body `05`, and
-- `Array(Some(2))`.
pub data AreTokens (allowed : Spelling) : List ℕ → List Token → Within → Type 0 where
  none : AreTokens allowed [] [] w.Nothing
  more : {before title body : List ℕ} {header : Header} {tokens : List Token} {within after : Within}
      → AreTokens allowed before tokens within → IsTitleIn allowed within title header after
      → length body ≡ body_len header → IsBody header body
      → AreTokens allowed (before ++ (title ++ body)) (token header body ∷ tokens) after

-- ---- faults

-- The bytes are no title that may stand within these strings: none that is taken, or one of another kind (RFC 7049,
-- 2.2.2). So it is with `1c`, and within `5f` with `61`.
abbrev pub IsNoTitleIn : Spelling → Within → List ℕ → Type 0
IsNoTitleIn allowed within title =
    IsNoTakenTitle allowed title
    ⊎ ((header : Header) × IsTitle title header × (within_after allowed within header ≡ None))

-- This many more bytes may end a text that begins so. One more byte may end `c3`, and none may end `c3` or `ff`.
abbrev pub CanEnd : List ℕ → ℕ → Type 0
CanEnd bytes left = (more : List ℕ) × (length more ≡ left) × IsCharacters (bytes ++ more)

-- ---- where bytes have come to

-- Where some bytes have come to. `AtTitle` has the bytes of a title that is not whole, as `19 01`, or none. `InBytes`
-- and `InText` have the number of bytes that a body lacks. `InText` has the bytes of a character that is not whole, as
-- `e2 82`, and the place that a fault would have. `AtFault` has the place of a fault.
pub data Point : Type 0 where
  AtTitle : Within → List ℕ → Point
  InBytes : Within → ℕ → Point
  InText : Within → List ℕ → ℕ → ℕ → Point
  AtFault : ℕ → Point

-- How many bytes the title or the body lacks (RFC 7049, 2.1): 2 after `19`, 1 after `42 05`, and 1 before a title.
abbrev pub due_of : Point → ℕ
due_of (AtTitle within []) = 1
due_of (AtTitle within (byte ∷ bytes)) = affix_len (byte % 32) - length bytes
due_of (InBytes within left) = left
due_of (InText within carried left place) = left
due_of (AtFault place) = 0

-- How many bytes a body lacks: 1 after `42 05`, and 0 if none is due.
abbrev pub left_of : Point → ℕ
left_of (InBytes within left) = left
left_of (InText within carried left place) = left
left_of point = 0

-- `IsPart within place header bytes body point`: after a title of the header, the bytes are a part of its body and lead
-- to the point (RFC 7049, 2.1). Of a text `body` are the whole characters. After `63`, `61 c3` has the body `61`, and
-- `InText` has `c3`.
pub data IsPart (within : Within) (place : ℕ) : Header → List ℕ → List ℕ → Point → Type 0 where
  bytes : {len left : ℕ} {body : List ℕ} → length body + left ≡ len → 0 < left
      → IsPart within place (h.Bytes (Some len)) body body (InBytes within left)
  text : {len left : ℕ} {body carried : List ℕ} → IsCharacters body → IsStuck carried → CanEnd carried left
      → length body + (length carried + left) ≡ len → 0 < left
      → IsPart within place (h.Text (Some len)) (body ++ carried) body (InText within carried left place)
  no_text : {len left : ℕ} {body carried : List ℕ} → IsCharacters body → IsStuck carried → (CanEnd carried left → ⊥)
      → length body + (length carried + left) ≡ len
      → IsPart within place (h.Text (Some len)) (body ++ carried) body (AtFault place)

-- `IsParsed allowed bytes tokens point`: the bytes are these tokens, the last one first, and lead to the point. The
-- last token may have a part of its body (RFC 7049, 2.1 to 2.4). `82 42 05` are `Bytes(Some(2))` with the part `05` of
-- a body, and `Array(Some(2))`, and a byte is due.
pub data IsParsed (allowed : Spelling) (bytes : List ℕ) : List Token → Point → Type 0 where
  -- A title is due, or goes on, as after `82 19`.
  at_title : {done title : List ℕ} {tokens : List Token} {within : Within} → AreTokens allowed done tokens within
      → IsCutTitle title → bytes ≡ done ++ title → IsParsed allowed bytes tokens (AtTitle within title)
  -- No title that is taken, or that may stand there, comes after the tokens, as in `82 1c`.
  no_title : {done title : List ℕ} {tokens : List Token} {within : Within} → AreTokens allowed done tokens within
      → IsNoTitleIn allowed within title → bytes ≡ done ++ title → IsParsed allowed bytes tokens (AtFault (length done))
  -- A body goes on, as after `82 42 05`. Or it is no text, as in `61 ff`.
  in_body : {done title part body : List ℕ} {header : Header} {tokens : List Token} {before within : Within}
      {point : Point} → AreTokens allowed done tokens before → IsTitleIn allowed before title header within
      → IsPart within (text_place before (length done) (length (done ++ title)) header) header part body point
      → bytes ≡ done ++ (title ++ part)
      → IsParsed allowed bytes (token header body ∷ tokens) point

-- The point of a phase, with the strings that are open and the bytes that are kept: for `Title` and `19` it is
-- `AtTitle` with `19`.
abbrev pub point_at : Phase → Within → List ℕ → Point
point_at p.Title within front = AtTitle within front
point_at (p.Bytes left) within front = InBytes within left
point_at (p.Text left place) within front = InText within front left place
point_at (p.Faulted place) within front = AtFault place

-- The point that a parser has come to: after `42 05`, `InBytes` with one byte.
abbrev pub point_of : Parser → Point
point_of parser = point_at parser.phase parser.within parser.front
