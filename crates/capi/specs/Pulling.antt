-- The result of `cll_pull`.
use Rattle.std.specs.Prelude.{◌≡◌, ℕ, min, List, ◌++◌, length}
use Rattle.ciborium_ll.specs.Types.Header.{Header}
use Rattle.ciborium_ll.specs.Title.{IsTitle, IsCutTitle, BeginsRefused}
use Rattle.capi.specs.declared.answer.CllAnswer.{CllAnswer}
use Rattle.capi.specs.declared.answer.CllAnswer.TheVariants as a
use Rattle.capi.specs.declared.header.CllHeader.{CllHeader}
use Rattle.capi.specs.Headers.{Says}

-- The bytes begin with a title (RFC 7049, 2.1 to 2.3). `19 01 00 ff` begins with `19 01 00`.
pub record BeginsWithTitle (bytes : List ℕ) : Type 0 where
  pub title : List ℕ
  pub header : Header
  pub rest : List ℕ
  pub is_title : IsTitle title header
  pub is : bytes ≡ title ++ rest

-- The result of `cll_pull`, by its answer. The call gives the parts of the header of the first title, and consumes the
-- title. If the bytes begin with no title, the parts are as they were, and a first byte was consumed, if there is one.
-- `19 01 00` gives kind 0 and value 256, and 3 bytes are consumed.
abbrev pub CllPull : List ℕ → CllAnswer → CllHeader → CllHeader → ℕ → Type 0
CllPull bytes a.Ok old new consumed = (front : BeginsWithTitle bytes) × Says new front.header
    × (consumed ≡ length front.title)
CllPull bytes a.Short old new consumed = IsCutTitle bytes × (new ≡ old) × (consumed ≡ min 1 (length bytes))
CllPull bytes a.Syntax old new consumed = BeginsRefused bytes × (new ≡ old) × (consumed ≡ 1)
CllPull bytes answer old new consumed = ⊥
