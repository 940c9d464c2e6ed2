-- Headers that are whole items, and the headers of strings.
use Rattle.std.specs.Prelude.{Bool, true, false, Option, IsSome}
use Rattle.ciborium_ll_grammar.specs.declared.hdr.Header.{Header}
use Rattle.ciborium_ll_grammar.specs.declared.hdr.Header.TheVariants as h
use Rattle.ciborium_ll_grammar.specs.Title.{IsSmallSimple}
use Rattle.ciborium_ll_grammar.specs.Strings.{Kind, Bytes, Text}
use Rattle.cbor_encode.specs.declared.heads.Mark.{Mark}

-- The header may be encoded with this mark, or without one if there is none: a simple value from 24 to 31 has no
-- meaning (RFC 8949, 3.3), and only a mark gives it a title. `simple(24_0)` is the title `f8 18`.
abbrev pub IsMeant : Header → Option Mark → Type 0
IsMeant header mark = IsSmallSimple header → IsSome mark

-- The header is an integer, a float or a simple value, which may have this mark. `01`, `f5` and `f9 3c 00` are such
-- headers, and `f8 18` is one with a mark.
abbrev pub IsScalar : Header → Option Mark → Type 0
IsScalar (h.Positive number) mark = Unit {0}
IsScalar (h.Negative number) mark = Unit {0}
IsScalar (h.Float float) mark = Unit {0}
IsScalar (h.Simple number) mark = IsMeant (h.Simple number) mark
IsScalar header mark = ⊥

-- The kind of a string, by whether it is a text: `61 61` is one, and `41 61` is a byte string.
abbrev pub kind_of : Bool → Kind
kind_of true = Text
kind_of false = Bytes
