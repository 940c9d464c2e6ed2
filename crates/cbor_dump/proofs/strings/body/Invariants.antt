use Rattle.std.proofs.Common.{◌≡◌, ◌≤◌, ◌+◌, ℕ, List, ◌++◌, length, Some}
use Rattle.ciborium_ll.specs.Title.{IsTitle}
use Rattle.ciborium_ll.specs.Strings.{kind_header}
use Rattle.cbor_dump.specs.Levels.{Nest, TitleDue}
use Rattle.cbor_dump.specs.StringRows.{kind_of}
use Rattle.cbor_dump.specs.Takings.{ReadsOn}
use Rattle.cbor_dump.proofs.StringLaws.{KeptSoFar}
use Rattle.cbor_dump.proofs.strings.body.Given as goal

abbrev pub invariant-rows : goal.invariant-rows
invariant-rows g l = record {
  so_far : (depth start opens : ℕ) (nests : List Nest) (outer title : List ℕ) → TitleDue depth nests opens outer
      → IsTitle title (kind_header (kind_of l.kind) (Some l.len)) → l.level ≡ length nests + opens + 1
      → l.fn.decoder.offset ≡ start + length (outer ++ title)
      → KeptSoFar g.R.Read depth start (g.S.Rows.drawn l.fn.rows) (g.S.Rows.drawn l.rows) (outer ++ title) (kind_of l.kind)
      l.len l.left l.kept l.fn.decoder l.decoder;
  rises : l.fn.decoder.offset ≤ l.decoder.offset;
  moves : ReadsOn g.R.Read l.fn.decoder l.decoder;
}

-- Each row takes at least one byte of the body.
abbrev pub decreases-rows : goal.decreases-rows
decreases-rows g l = l.left
