-- The strings of indefinite length that are open (RFC 7049, 2.2.2), and which titles may stand within them.
use Rattle.std.specs.Prelude.{ℕ, zero, suc, ◌==◌, if◌then◌else◌, Bool, true, false, Option, Some, None}
use Rattle.ciborium_ll_grammar.specs.declared.spelling.Spelling.{Spelling}
use Rattle.ciborium_ll_grammar.specs.declared.spelling.Spelling.TheVariants.{Any, Shortest}
use Rattle.ciborium_ll_grammar.specs.declared.hdr.Header.{Header}
use Rattle.ciborium_ll_grammar.specs.declared.hdr.Header.TheVariants as h
use Rattle.ciborium_ll_grammar.specs.declared.hdr.table.TitleKind.{TitleKind}
use Rattle.ciborium_ll_grammar.specs.declared.hdr.table.TitleKind.TheVariants as t
use Rattle.ciborium_ll_grammar.specs.Strings.{Kind, Bytes, Text}
use Rattle.cbor_parser.specs.declared.strings.StringKind.{StringKind}
use Rattle.cbor_parser.specs.declared.strings.StringKind.TheVariants as k
use Rattle.cbor_parser.specs.declared.strings.Within.{Within}
use Rattle.cbor_parser.specs.declared.strings.Within.TheVariants as w

-- The kind of string, in the words of the grammar (RFC 7049, 2.1): `Bytes` for `Bytes`.
abbrev pub kind_of : StringKind → Kind
kind_of k.Bytes = Bytes
kind_of k.Text = Text

-- How many strings are open (RFC 7049, 2.2.2): two after `5f 5f`.
abbrev pub open_count : Within → ℕ
open_count w.Nothing = 0
open_count (w.Open kind more) = suc more

-- The strings that are open after the break of the innermost one: after `5f 5f ff` it is one, and after `5f ff` there
-- is none.
abbrev pub closed : StringKind → ℕ → Within
closed kind zero = w.Nothing
closed kind (suc more) = w.Open kind more

-- The strings that are open after the title of a string of this length, within strings of its kind. If only the
-- shortest spelling is taken, no string of indefinite length stands within another one (RFC 7049, 2.2.2): then `5f 5f`
-- is refused.
abbrev pub piece_within : Spelling → StringKind → ℕ → Option ℕ → Option Within
piece_within allowed kind more (Some len) = Some (w.Open kind more)
piece_within Shortest kind more None = None
piece_within Any kind more None = Some (w.Open kind (suc more))

-- The strings that are open after a title of this header within strings of a kind, if it may stand there (RFC 7049,
-- 2.2.2). After `5f`, the titles `41` and `ff` may stand there, and `61` may not.
abbrev pub within_open : Spelling → StringKind → ℕ → Header → Option Within
within_open allowed k.Bytes more (h.Bytes len) = piece_within allowed k.Bytes more len
within_open allowed k.Text more (h.Text len) = piece_within allowed k.Text more len
within_open allowed kind more h.Break = Some (closed kind more)
within_open allowed kind more header = None

-- The strings that are open after a title of this header, if none is open before it. `5f` and `7f` open one.
abbrev pub opened : Header → Within
opened (h.Bytes None) = w.Open k.Bytes 0
opened (h.Text None) = w.Open k.Text 0
opened header = w.Nothing

-- The strings that are open after a title of this header, if it may stand here (RFC 7049, 2.2.2). After `5f 5f`, a
-- break leaves one open.
abbrev pub within_after : Spelling → Within → Header → Option Within
within_after allowed w.Nothing header = Some (opened header)
within_after allowed (w.Open kind more) header = within_open allowed kind more header

-- No title of this kind, of two or more bytes, may stand here. Within a string it is of another kind (RFC 7049, 2.2.2),
-- as `78 01` after `5f`.
abbrev pub blocks : Within → TitleKind → Bool
blocks w.Nothing title = false
blocks (w.Open k.Bytes more) t.Bytes = false
blocks (w.Open k.Text more) t.Text = false
blocks (w.Open kind more) title = true

-- The strings that are open, by the number of their kind and how many there are within the first. Kind 1 with the
-- number 1 is two open byte strings, as after `5f 5f`.
abbrev pub within_in : ℕ → ℕ → Option Within
within_in kind more =
    if kind == 0 then Some w.Nothing else
    (if kind == 1 then Some (w.Open k.Bytes more) else
    (if kind == 2 then Some (w.Open k.Text more) else None))
