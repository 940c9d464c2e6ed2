-- The result of `cll_push_wide`.
use Rattle.std.specs.Prelude.{◌≡◌, ℕ, suc, ◌≤◌, ◌^◌, Bool, true, false, List, ◌++◌, length, drop, Option, Some, None}
use Rattle.std.specs.Prelude.{if◌then◌else◌, nat_lt, ◌==◌}
use Rattle.ciborium_ll.specs.Types.Header.{Header}
use Rattle.ciborium_ll.specs.Types.Header.TheVariants as h
use Rattle.ciborium_ll.specs.Types.Float.TheVariants as f
use Rattle.ciborium_ll.specs.Title.{IsTitle}
use Rattle.ciborium_ll_grammar.specs.declared.hdr.Minor.{Minor}
use Rattle.ciborium_ll_grammar.specs.declared.hdr.Minor.TheVariants as m
use Rattle.ciborium_ll_grammar.specs.declared.hdr.Title.{Title}
use Rattle.ciborium_ll_grammar.specs.Parts.{IsParts, title_bytes}
use Rattle.capi.specs.declared.answer.CllAnswer.{CllAnswer}
use Rattle.capi.specs.declared.answer.CllAnswer.TheVariants as a
use Rattle.capi.specs.declared.answer.CllReport.{CllReport}
use Rattle.capi.specs.declared.header.CllHeader.{CllHeader}
use Rattle.capi.specs.Answers.{Reports}
use Rattle.capi.specs.Headers.{Says}

-- A title of the header that has `width` bytes after its first one (RFC 7049, 2.1). `19 00 17` is the title of 23 with
-- a width of 2.
pub record WideTitle (header : Header) (width : ℕ) : Type 0 where
  pub title : List ℕ
  pub is_title : IsTitle title header
  pub wide : length title ≡ suc width

-- The title has this width, or the header has no title of this width. The number 300 has `19 01 2c` in a width of 2,
-- and none in a width of 1.
abbrev pub Wide : Header → ℕ → Option Title → Type 0
Wide header width (Some title) =
    IsParts title × IsTitle (title_bytes title) header × (length (title_bytes title) ≡ suc width)
Wide header width None = WideTitle header width → ⊥

-- The title has this width and a header with the parts of C, or no such header has a title of this width. Kind 4, value
-- 3 and form 0 have `98 03` in a width of 1.
abbrev pub WideOf : CllHeader → ℕ → Option Title → Type 0
WideOf parts width (Some title) = (header : Header) × Says parts header × Wide header width (Some title)
WideOf parts width None = (header : Header) → Says parts header → WideTitle header width → ⊥

-- The result of `cll_push_wide`, by its answer. The output begins with the title of that width. If the title does not
-- fit, or no header with the parts has a title of that width, the output is as it was. The title of 23 in a width of 2
-- is `19 00 17`.
abbrev pub PushesWide : CllHeader → ℕ → List ℕ → CllAnswer → List ℕ → CllReport → Type 0
PushesWide parts width old a.Ok new report =
    (header : Header) × Says parts header × (front : WideTitle header width)
    × (new ≡ front.title ++ drop (suc width) old) × Reports report 0 (suc width) 0
PushesWide parts width old a.Room new report =
    (header : Header) × Says parts header × WideTitle header width × (length old ≤ width) × (new ≡ old)
    × Reports report 0 0 0
PushesWide parts width old a.Argument new report =
    ((header : Header) → Says parts header → WideTitle header width → ⊥) × (new ≡ old) × Reports report 0 0 0
PushesWide parts width old answer new report = ⊥

-- ---- the title that the code makes

-- The minor if it holds its number, as the truth value says. With `false`, `Small 24` gives none.
abbrev pub minor_where : Bool → Minor → Option Minor
minor_where true minor = Some minor
minor_where false minor = None

-- A number in `width` bytes after the first one, if it fits them. A width of 0 fits 23, and not 24.
abbrev pub minor_in : ℕ → ℕ → Option Minor
minor_in width n =
    if width == 0 then minor_where (nat_lt n 24) (m.Small n) else
    (if width == 1 then minor_where (nat_lt n (2 ^ 8)) (m.One n) else
    (if width == 2 then minor_where (nat_lt n (2 ^ 16)) (m.Two n) else
    (if width == 4 then minor_where (nat_lt n (2 ^ 32)) (m.Four n) else
    (if width == 8 then Some (m.Eight n) else None))))

-- A minor under a major type. The major type 4 and `Small 3` make `83`.
abbrev pub with_major : ℕ → Option Minor → Option Title
with_major major (Some minor) = Some (record { major = major; minor = minor })
with_major major None = None

-- A title of a number under a major type, if the number fits the width. Under the major type 1, 24 has `38 18` in a
-- width of 1, and none in 0.
abbrev pub numbered_in : ℕ → ℕ → ℕ → Option Title
numbered_in major width n = with_major major (minor_in width n)

-- The title of the minor 31 under a major type, which has no bytes after its first one. Under the major type 4 it is
-- `9f`.
abbrev pub open_in : ℕ → ℕ → Option Title
open_in major width = if width == 0 then Some (record { major = major; minor = m.Open }) else None

-- A title of a length, or of the indefinite form, which has no bytes after its first one. Under the major type 2 and in
-- a width of 0, the length 3 has `43`, and the indefinite form has `5f`.
abbrev pub length_in : ℕ → ℕ → Option ℕ → Option Title
length_in major width (Some len) = numbered_in major width len
length_in major width None = open_in major width

-- The title of a header in its parts (RFC 7049, 2.1 to 2.3). The title of 23 in a width of 1 is `18 17`, and there is
-- none in a width of 3.
abbrev pub title_in : Header → ℕ → Option Title
title_in (h.Positive n) width = numbered_in 0 width n
title_in (h.Negative n) width = numbered_in 1 width n
title_in (h.Bytes len) width = length_in 2 width len
title_in (h.Text len) width = length_in 3 width len
title_in (h.Array len) width = length_in 4 width len
title_in (h.Map len) width = length_in 5 width len
title_in (h.Tag n) width = numbered_in 6 width n
title_in (h.Simple n) width = if nat_lt width 2 then numbered_in 7 width n else None
title_in (h.Float (f.Half bits)) width = if width == 2 then numbered_in 7 width bits else None
title_in (h.Float (f.Single bits)) width = if width == 4 then numbered_in 7 width bits else None
title_in (h.Float (f.Double bits)) width = if width == 8 then numbered_in 7 width bits else None
title_in h.Break width = open_in 7 width
