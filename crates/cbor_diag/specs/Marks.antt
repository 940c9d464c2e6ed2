-- The marks of the widths of titles (RFC 8949, 8.1), in exact notation.
use Rattle.std.specs.Prelude.{◌≡◌, ℕ, ◌==◌, nat_lt, Bool, true, false, ◌&&◌, List, [], codes, length, if◌then◌else◌}
use Rattle.ciborium_ll.specs.Types.Read.{Ghosts}
use Rattle.ciborium_ll.specs.Types.Decoder.{Decoder}
use Rattle.ciborium_ll.specs.Types.Header.{Header}
use Rattle.ciborium_ll.specs.Types.Header.TheVariants as h
use Rattle.ciborium_ll.specs.Title.{title_len}
use Rattle.ciborium_ll.specs.Decoding.{PullsTitle}
use Rattle.cbor_diag.specs.declared.marks.Mark.{Mark}
use Rattle.cbor_diag.specs.declared.marks.Mark.TheVariants as m
use Rattle.cbor_diag.specs.declared.marks.Marked.{Marked}

-- Whether a title of this length is longer than its header needs (RFC 8949, 3 and 3.3): longer than the shortest, or a
-- simple value below 32 in two bytes. `18 17` is longer than 23 needs, and `f8 18` is a simple value in two bytes.
abbrev pub is_long : Header → ℕ → Bool
is_long (h.Simple number) len = nat_lt number 32 && nat_lt 1 len
is_long header len = nat_lt (title_len header) len

-- The mark of a title that has this many bytes, and so an argument of one byte less. `19 00 17` has 3 bytes, and the
-- mark `_1`.
abbrev pub width_mark : ℕ → Mark
width_mark len =
    if len == 2 then m.One else (if len == 3 then m.Two else (if len == 5 then m.Four else m.Eight))

-- The mark of a title of this length: in exact notation each title that is longer than need be has one. In that
-- notation `18 17` has the mark `_0`, and `17` has none.
abbrev pub title_mark : Bool → Header → ℕ → Mark
title_mark exact header len = if exact && is_long header len then width_mark len else m.Absent

-- The text of a mark: `_0`, `_1`, `_2` or `_3` for 1, 2, 4 or 8 bytes of an argument.
abbrev pub mark_text : Mark → List ℕ
mark_text m.Absent = []
mark_text m.One = codes "_0"
mark_text m.Two = codes "_1"
mark_text m.Four = codes "_2"
mark_text m.Eight = codes "_3"

-- Whether there is a mark. The mark `_0` is one.
abbrev pub is_marked : Mark → Bool
is_marked m.Absent = false
is_marked mark = true

-- A header was pulled, with the mark of its title. From `18 17` in exact notation these are the header of 23, and `_0`.
pub record PullsMarked {R E : Type 0} (source : Ghosts R E) (exact : Bool) (old : Decoder R) (marked : Marked)
    (new : Decoder R) : Type 0 where
  pub pulled : PullsTitle source old marked.header new
  pub mark : marked.mark ≡ title_mark exact marked.header (length pulled.title)
