use Rattle.std.proofs.Common.{◌≡◌, ℕ, ◌+◌, ◌-◌, ◌^◌, ◌<◌, ◌≤◌, List, ◌++◌, length, None}
use Rattle.ciborium_ll.specs.Title.{IsTitle}
use Rattle.ciborium_ll.specs.Strings.{kind_header}
use Rattle.cbor_dump.specs.Levels.{Nest, StandsWithin}
use Rattle.cbor_dump.specs.StringRows.{kind_of}
use Rattle.cbor_dump.specs.Takings.{ReadsOn}
use Rattle.cbor_dump.proofs.PieceLaws.{Within}
use Rattle.cbor_dump.proofs.strings.pieces.Given as goal

abbrev pub invariant-parts : goal.invariant-parts
invariant-parts g l = record {
  within : (depth start : ℕ) (nests : List Nest) (items title : List ℕ) → StandsWithin depth nests items
      → IsTitle title (kind_header (kind_of l.kind) None) → l.level ≡ length nests
      → l.fn.decoder.offset ≡ start + length (items ++ title)
      → Within g.R.Read l.spelling depth start (g.S.Rows.drawn l.fn.rows) (g.S.Rows.drawn l.rows) nests
      items title
      (kind_of l.kind) l.inner l.fn.decoder l.decoder;
  moves : ReadsOn g.R.Read l.fn.decoder l.decoder;
  above : l.level < l.inner;
  below : l.inner ≤ l.decoder.offset;
}

-- Each title takes at least one byte.
abbrev pub decreases-parts : goal.decreases-parts
decreases-parts g l = 2 ^ 64 - l.decoder.offset
