-- The table agrees with the definition of titles on each first byte.
use Rattle.std.proofs.Common.{◌≡◌, ℕ, ◌+◌, ◌/◌, ◌%◌, ◌<◌, Bool, true, not, ◌&&◌, ◌||◌, eqb, ltb, leb, get_or, refl, arith, if◌then◌else◌}
use Rattle.std.proofs.lemmas.Bool.{agree_below_at, and_parts}
use Rattle.ciborium_ll_grammar.specs.declared.hdr.table.Row.{Row}
use Rattle.ciborium_ll_grammar.specs.declared.hdr.table.TitleKind.{TitleKind}
use Rattle.ciborium_ll_grammar.specs.declared.hdr.table.TitleKind.TheVariants as k
use Rattle.ciborium_ll_grammar.specs.declared.hdr.table.Affix.{Affix}
use Rattle.ciborium_ll_grammar.specs.declared.hdr.table.Affix.TheVariants as a
use Rattle.ciborium_ll_grammar.specs.declared.hdr.table.TheConstants.{FORMS, ROWS, POSITIVE}
use Rattle.ciborium_ll_grammar.specs.TitleRows.{IsAffix, IsTitleKind, IsRow}
use Rattle.std.proofs.lemmas.Bool.Decides.{nat_tests}

-- The definitions as tests.

abbrev reserved_test : ℕ → Bool
reserved_test minor = leb 28 minor && leb minor 30

abbrev never_open_test : ℕ → Bool
never_open_test major = eqb major 0 || (eqb major 1 || eqb major 6)

abbrev no_title_test : ℕ → ℕ → Bool
no_title_test major minor = reserved_test minor || (eqb minor 31 && never_open_test major)

abbrev title_test : ℕ → ℕ → ℕ → Bool
title_test code major minor = eqb major code && not (no_title_test major minor)

abbrev kind_test : TitleKind → ℕ → ℕ → Bool
kind_test k.Positive major minor = title_test 0 major minor
kind_test k.Negative major minor = title_test 1 major minor
kind_test k.Bytes major minor = title_test 2 major minor
kind_test k.Text major minor = title_test 3 major minor
kind_test k.Array major minor = title_test 4 major minor
kind_test k.Map major minor = title_test 5 major minor
kind_test k.Tag major minor = title_test 6 major minor
kind_test k.Other major minor = title_test 7 major minor
kind_test k.Refused major minor = no_title_test major minor

abbrev affix_test : Affix → ℕ → Bool
affix_test a.Within minor = ltb minor 24
affix_test a.One minor = eqb minor 24
affix_test a.Two minor = eqb minor 25
affix_test a.Four minor = eqb minor 26
affix_test a.Eight minor = eqb minor 27
affix_test a.Open minor = eqb minor 31
affix_test a.Reserved minor = reserved_test minor

abbrev row_test : ℕ → Row → Bool
row_test first row = kind_test row.kind (first / 32) (first % 32) && affix_test row.affix (first % 32)

-- A definition holds if its test succeeds.

affix_tells : (affix : Affix) (minor : ℕ) → affix_test affix minor ≡ true → IsAffix affix minor
affix_tells affix minor e = grind (arith, nat_tests)

kind_tells : (kind : TitleKind) (major minor : ℕ) → kind_test kind major minor ≡ true → IsTitleKind kind major minor
kind_tells kind major minor e = grind (arith, nat_tests)

-- If a row passes its test, it is right for the byte.
row_tells : (first : ℕ) (row : Row) → row_test first row ≡ true → IsRow first row
row_tells first row e =
    let parts = and_parts (kind_test row.kind (first / 32) (first % 32)) (affix_test row.affix (first % 32)) e in
    record {
      kind = kind_tells row.kind (first / 32) (first % 32) parts.0;
      affix = affix_tells row.affix (first % 32) parts.1;
    }

-- Each of the 256 rows is right for its byte.
pub row_says : (first : ℕ) → first < 256 → IsRow first (get_or ROWS first POSITIVE)
row_says first l =
    row_tells first (get_or ROWS first POSITIVE) (agree_below_at (λ (b : ℕ). row_test b (get_or ROWS b POSITIVE))
    (λ (b : ℕ). true) 256 first refl l)

eqb_tells : (m n : ℕ) → eqb m n ≡ true → m ≡ n
eqb_tells m n e = grind (arith, nat_tests)

-- The shift of an affix as a function of the minor.
abbrev shift_by : ℕ → ℕ
shift_by minor =
    if ltb 27 minor then 64 else (if eqb minor 24 then 56 else (if eqb minor 25 then 48 else (if eqb minor 26 then 32
    else 0)))

-- The shift is right for each minor.
pub shifts_say : (minor : ℕ) → minor < 32 → get_or FORMS (32 + minor) 0 ≡ shift_by minor
shifts_say minor l =
    eqb_tells _ _ (agree_below_at (λ (b : ℕ). eqb (get_or FORMS (32 + b) 0) (shift_by b)) (λ (b : ℕ). true) 32 minor
    refl l)
