-- Titles of the minor 31, which have one byte.
use Rattle.std.specs.Prelude.{is_none}
use Rattle.std.proofs.Common.{◌≡◌, ℕ, ◌<◌, Bool, true, false, List, length, None, arith}
use Rattle.ciborium_ll_grammar.specs.declared.hdr.Header.{Header}
use Rattle.ciborium_ll_grammar.specs.declared.hdr.Header.TheVariants as h
use Rattle.ciborium_ll_grammar.specs.Title.{Major, Size, IsTitle, numbered_header, shortest_title, IsInRange}
use Rattle.ciborium_ll_grammar.specs.Strings.{Kind, kind_header}
use Rattle.ciborium_ll_grammar.proofs.TitleLaws.{shortest_or_longer, shortest_some}
use Rattle.ciborium_ll_grammar.proofs.AffixLaws.{announced}

-- The minor 31 means this header.
abbrev pub is_alone : Header → Bool
is_alone h.Break = true
is_alone (h.Bytes len) = is_none len
is_alone (h.Text len) = is_none len
is_alone (h.Array len) = is_none len
is_alone (h.Map len) = is_none len
is_alone header = false

not_alone : (m : Major) (s : Size) (n : ℕ) → is_alone (numbered_header m s n) ≡ false
not_alone m s n = grind arith

-- A title has at least one byte.
pub title_some : (w : List ℕ) (x : Header) → IsTitle w x → 0 < length w
title_some w x t = grind (arith, announced w x t)

-- A header of the minor 31 has one title.
pub alone_bytes : (w : List ℕ) (x : Header) → IsTitle w x → is_alone x ≡ true → w ≡ shortest_title x
alone_bytes w x t e = grind (arith, not_alone, shortest_or_longer x w t, shortest_some x)

pub open_alone : (k : Kind) → is_alone (kind_header k None) ≡ true
open_alone k = grind arith

pub open_length : (k : Kind) → length (shortest_title (kind_header k None)) ≡ 1
open_length k = grind arith

-- The header of an open is in range.
pub open_in_range : (k : Kind) → IsInRange (kind_header k None)
open_in_range k = grind arith
