-- The result of `cll_push`.
use Rattle.std.specs.Prelude.{◌≡◌, ℕ, ◌<◌, List, ◌++◌, length, drop}
use Rattle.ciborium_ll.specs.Types.Header.{Header}
use Rattle.ciborium_ll.specs.Title.{IsInRange, shortest_title, title_len}
use Rattle.capi.specs.declared.answer.CllAnswer.{CllAnswer}
use Rattle.capi.specs.declared.answer.CllAnswer.TheVariants as a
use Rattle.capi.specs.declared.answer.CllReport.{CllReport}
use Rattle.capi.specs.declared.header.CllHeader.{CllHeader}
use Rattle.capi.specs.Answers.{Reports}
use Rattle.capi.specs.Headers.{IsNoHeader, Says}

-- The output begins with the bytes, or they do not fit and the output is as it was, by the answer. With `18 18` the
-- output `00 00 00` becomes `18 18 00`, and `00` stays as it was.
abbrev pub Puts : List ℕ → List ℕ → CllAnswer → List ℕ → CllReport → Type 0
Puts bytes old a.Ok new report = (new ≡ bytes ++ drop (length bytes) old) × Reports report 0 (length bytes) 0
Puts bytes old a.Room new report = (length old < length bytes) × (new ≡ old) × Reports report 0 0 0
Puts bytes old answer new report = ⊥

-- The result of `cll_push`, by its answer. The output begins with the shortest title of the header that has the parts.
-- If the title does not fit, or no header has the parts, the output is as it was. Kind 0 and value 256 give `19 01 00`.
abbrev pub CllPush : CllHeader → List ℕ → CllAnswer → List ℕ → CllReport → Type 0
CllPush parts old a.Ok new report =
    (header : Header) × Says parts header × IsInRange header
    × (new ≡ shortest_title header ++ drop (title_len header) old) × Reports report 0 (title_len header) 0
CllPush parts old a.Room new report =
    (header : Header) × Says parts header × IsInRange header × (length old < title_len header) × (new ≡ old)
    × Reports report 0 0 0
CllPush parts old a.Argument new report = IsNoHeader parts × (new ≡ old) × Reports report 0 0 0
CllPush parts old answer new report = ⊥
