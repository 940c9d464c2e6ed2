-- The result of `cll_utf8`.
use Rattle.std.specs.Prelude.{◌≢◌, ℕ, List, [], ◌++◌, length}
use Rattle.ciborium_ll_text.specs.Text.{IsCharacter, IsCharacters, IsFront, BeginsNoText}
use Rattle.capi.specs.declared.answer.CllAnswer.{CllAnswer}
use Rattle.capi.specs.declared.answer.CllAnswer.TheVariants as a
use Rattle.capi.specs.declared.answer.CllReport.{CllReport}
use Rattle.capi.specs.Answers.{Reports}

-- The longest text that the bytes begin with, and the bytes after it (RFC 3629, 4). It is `61` for `61 c3`.
pub record TextInFront (bytes : List ℕ) : Type 0 where
  pub text : List ℕ
  pub rest : List ℕ
  pub is_front : IsFront bytes text rest

-- The bytes are the beginning of one character, and more of it is due (RFC 3629, 4). `c3` is one, since `c3 bc` is a
-- character.
pub record IsCutCharacter (bytes : List ℕ) : Type 0 where
  pub more : List ℕ
  pub is_character : IsCharacter (bytes ++ more)
  pub begins : bytes ≢ []
  pub goes_on : more ≢ []

-- The result of `cll_utf8`, by its answer: all bytes are text, or a character is cut off after the text, or no text
-- begins there. Nothing is written. `61 c3` is `Short`, and 1 byte is consumed.
abbrev pub FindsText : List ℕ → CllAnswer → CllReport → Type 0
FindsText bytes a.Ok report = IsCharacters bytes × Reports report (length bytes) 0 0
FindsText bytes a.Short report =
    (front : TextInFront bytes) × IsCutCharacter front.rest × Reports report (length front.text) 0 0
FindsText bytes a.Syntax report =
    (front : TextInFront bytes) × BeginsNoText front.rest
    × Reports report (length front.text) 0 (length front.text)
FindsText bytes answer report = ⊥
