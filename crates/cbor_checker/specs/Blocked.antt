-- Titles that may not stand at the place, by the kind of their first byte.
use Rattle.std.specs.Prelude.{ℕ, zero, Bool, true, false, if◌then◌else◌, Option, Some, None}
use Rattle.ciborium_ll_grammar.specs.declared.hdr.table.TitleKind.{TitleKind}
use Rattle.ciborium_ll_grammar.specs.declared.hdr.table.TitleKind.TheVariants as k
use Rattle.cbor_checker.specs.declared.phase.Fault.{Fault}
use Rattle.cbor_checker.specs.declared.phase.Fault.TheVariants as f
use Rattle.cbor_parser.specs.declared.strings.Within.{Within}
use Rattle.cbor_parser.specs.declared.strings.Within.TheVariants as w
use Rattle.cbor_parser.specs.Strings.{blocks}

-- The fault of a title of this kind at the place if this many levels are left: a nest needs one, as `98 01` (RFC 7049,
-- 2.1 and 2.4).
abbrev pub too_deep : ℕ → ℕ → TitleKind → Option Fault
too_deep zero place k.Array = Some (f.Deep place)
too_deep zero place k.Map = Some (f.Deep place)
too_deep zero place k.Tag = Some (f.Deep place)
too_deep depth place kind = None

-- The fault of a title of this kind, of two or more bytes, that may not stand at the place (RFC 7049, 2.2.2). The title
-- is that of a nest without a level left, or of another kind within a string, as `78 01` after `5f`.
abbrev pub blocked : Within → ℕ → ℕ → TitleKind → Option Fault
blocked w.Nothing depth place kind = too_deep depth place kind
blocked (w.Open string more) depth place kind =
    if blocks (w.Open string more) kind then Some (f.Syntax place) else None

-- A title of this kind that has a number is an item by itself (RFC 7049, 2.1 and 2.3): a number as `19 01 00`, a float
-- as `f9 3c 00`, or a simple value as `f4`.
abbrev pub is_single : TitleKind → Bool
is_single k.Positive = true
is_single k.Negative = true
is_single k.Other = true
is_single kind = false
