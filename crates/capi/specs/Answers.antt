-- The answer of a call for C, and its report.
use Rattle.std.specs.Prelude.{◌≡◌, ℕ, ◌+◌, ◌*◌}
use Rattle.capi.specs.declared.answer.CllAnswer.{CllAnswer}
use Rattle.capi.specs.declared.answer.CllAnswer.TheVariants as a
use Rattle.capi.specs.declared.answer.CllReport.{CllReport}

-- The number of an answer, as the C header has it. `BreakDue` has 5.
abbrev pub code : CllAnswer → ℕ
code a.Ok = 0
code a.Short = 1
code a.Syntax = 2
code a.Room = 3
code a.TooLong = 4
code a.BreakDue = 5
code a.TooDeep = 6
code a.Argument = 7
code a.NotShortest = 8
code a.Indefinite = 9
code a.KeyOrder = 10
code a.DuplicateKey = 11
code a.Absent = 12

-- The number is that of an answer: one from 0 to 12.
abbrev pub IsCode : ℕ → Type 0
IsCode number = (answer : CllAnswer) × (number ≡ code answer)

-- The number of a version, as the C header has it: 0.1.0 is 256.
abbrev pub version_code : ℕ → ℕ → ℕ → ℕ
version_code major minor patch = 65536 * major + 256 * minor + patch

-- The report says how many bytes were consumed and written, and names this place. It counts no elements. For a push of
-- `18 18` the numbers are 0, 2 and 0.
pub record Reports (report : CllReport) (consumed written place : ℕ) : Type 0 where
  pub consumed_is : report.consumed ≡ consumed
  pub written_is : report.written ≡ written
  pub place_is : report.place ≡ place
  pub none_counted : report.elements ≡ 0
  pub none_whole : report.whole ≡ 0
  pub none_spelled : report.spelled ≡ 0

-- The report names the bytes consumed and written, and a place, of a copy or a check that also counts elements. For a
-- copy of `18 17` they are 2, 1 and 0.
pub record ReportsCopy (report : CllReport) (consumed written place : ℕ) : Type 0 where
  pub consumed_is : report.consumed ≡ consumed
  pub written_is : report.written ≡ written
  pub place_is : report.place ≡ place

-- The report says how many elements were done, at which offset the last of them ends, and how many bytes of them were
-- written. For a copy of `18 17` these are 1, 2 and 1.
pub record ReportsElements (report : CllReport) (elements whole spelled : ℕ) : Type 0 where
  pub elements_is : report.elements ≡ elements
  pub whole_is : report.whole ≡ whole
  pub spelled_is : report.spelled ≡ spelled
