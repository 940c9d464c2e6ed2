use Rattle.std.proofs.Common.{◌-◌, ◌≡◌, ℕ, List, Some, length}
use Rattle.tool_files.specs.Recodes.{IsAfter}
use Rattle.tool_files.proofs.RecodeRuns.{Held}
use Rattle.tool_files.proofs.recode.copy_pieces.Given as goal

abbrev pub invariant-pieces : goal.invariant-pieces
invariant-pieces g l = record {
  piece : length l.piece ≡ 8192;
  out : length l.out ≡ 8208;
  depth : l.copy.depth ≡ l.depth;
  after : IsAfter l.depth l.copy.left l.copy.start l.read l.copy.copier;
  held : (due written : List ℕ) → g.R.Read.remaining l.fn.reader ≡ Some due
      → g.W.Write.contents l.fn.writer.sink ≡ Some written
      → Held g.R.Read.remaining g.W.Write.contents l.depth l.fn.most due written l.copy.left l.copy.start l.read l.copy.copier l.reader
      l.writer.sink;
}

abbrev pub decreases-pieces : goal.decreases-pieces
decreases-pieces g l = 18446744073709551615 - l.read
