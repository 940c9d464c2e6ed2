-- The table's row for each first byte: the kind of its titles, and the place of their number (RFC 7049, 2.1 to 2.3).
-- `Decoder::pull` looks up first bytes in the 256 rows. The contract of `row_of` says that each row is right.
use Rattle.std.specs.Prelude.{◌≡◌, ℕ, ◌/◌, ◌%◌, ◌<◌, ◌^◌}
use Rattle.ciborium_ll_grammar.specs.declared.hdr.table.Row.{Row}
use Rattle.ciborium_ll_grammar.specs.declared.hdr.table.TitleKind.{TitleKind}
use Rattle.ciborium_ll_grammar.specs.declared.hdr.table.TitleKind.TheVariants as k
use Rattle.ciborium_ll_grammar.specs.declared.hdr.table.Affix.{Affix}
use Rattle.ciborium_ll_grammar.specs.declared.hdr.table.Affix.TheVariants as a
use Rattle.ciborium_ll_grammar.specs.Title.{IsReserved, NamesNoTitle}

-- The major type is `code`, and some title has this major type and minor (RFC 7049, 2.1 and 2.2). `83` has the major
-- type 4 and the minor 3.
abbrev pub NamesTitle : ℕ → ℕ → ℕ → Type 0
NamesTitle code major minor = (major ≡ code) × ¬ (NamesNoTitle major minor)

-- The kind of the titles with this major type and minor, or `Refused` exactly if there are none (RFC 7049, 2.1 and
-- 2.2). `83` is of the kind `Array`, and `9c` is `Refused`.
abbrev pub IsTitleKind : TitleKind → ℕ → ℕ → Type 0
IsTitleKind k.Positive major minor = NamesTitle 0 major minor
IsTitleKind k.Negative major minor = NamesTitle 1 major minor
IsTitleKind k.Bytes major minor = NamesTitle 2 major minor
IsTitleKind k.Text major minor = NamesTitle 3 major minor
IsTitleKind k.Array major minor = NamesTitle 4 major minor
IsTitleKind k.Map major minor = NamesTitle 5 major minor
IsTitleKind k.Tag major minor = NamesTitle 6 major minor
IsTitleKind k.Other major minor = NamesTitle 7 major minor
IsTitleKind k.Refused major minor = NamesNoTitle major minor

-- The place of the number of titles with this minor: the minor itself (below 24), or an affix of 1, 2, 4 or 8 bytes (24
-- to 27). The minor 31 has no number, and 28 to 30 are reserved (RFC 7049, 2.1). `19` has the minor 25 and the place
-- `Two`.
abbrev pub IsAffix : Affix → ℕ → Type 0
IsAffix a.Within minor = minor < 24
IsAffix a.One minor = minor ≡ 24
IsAffix a.Two minor = minor ≡ 25
IsAffix a.Four minor = minor ≡ 26
IsAffix a.Eight minor = minor ≡ 27
IsAffix a.Open minor = minor ≡ 31
IsAffix a.Reserved minor = IsReserved minor

-- The row is right for the first byte, by its major type and its minor (RFC 7049, 2.1). The row of `83` has `Array` and
-- `Within`.
pub record IsRow (first : ℕ) (row : Row) : Type 0 where
  pub kind : IsTitleKind row.kind (first / 32) (first % 32)
  pub affix : IsAffix row.affix (first % 32)

-- The least number in a title with this first byte that is the shortest of its header (RFC 7049, 2.3 and 3.9). It is 24
-- after `18`, and 32 after `f8`. It is 0 for a title of one byte, and for a float.
pub record IsLeast (first least : ℕ) : Type 0 where
  pub small : first % 32 < 24 → least ≡ 0
  pub one : first % 32 ≡ 24 → first / 32 < 7 → least ≡ 24
  pub two : first % 32 ≡ 25 → first / 32 < 7 → least ≡ 2 ^ 8
  pub four : first % 32 ≡ 26 → first / 32 < 7 → least ≡ 2 ^ 16
  pub eight : first % 32 ≡ 27 → first / 32 < 7 → least ≡ 2 ^ 32
  pub simple : first % 32 ≡ 24 → first / 32 ≡ 7 → least ≡ 32
  pub float : 24 < first % 32 → first / 32 ≡ 7 → least ≡ 0
