use Rattle.std.proofs.Common.{◌-◌, ◌≡◌, ◌≤◌, ℕ, List, [], Some, length, take}
use Rattle.cbor_copier.specs.Copying.{pending}
use Rattle.tool_lines.proofs.PromptLaws.{Held}
use Rattle.tool_lines.proofs.prompt.copy_pieces.Given as goal

abbrev pub invariant-pieces : goal.invariant-pieces
invariant-pieces g l = record {
  whole : length l.piece ≡ 8192;
  room : length l.out ≡ 8200;
  few : l.given ≤ 8192;
  none : pending l.copier ≡ [];
  held : (due written : List ℕ) → g.R.Read.remaining l.initial.reader ≡ Some due
      → g.W.Write.contents l.initial.writer.sink ≡ Some written
      → Held g.R.Read.remaining g.W.Write.contents l.count due written (take l.given l.piece) l.copier l.pieces l.reader
      l.writer.sink;
}

abbrev pub decreases-pieces : goal.decreases-pieces
decreases-pieces g l = 18446744073709551615 - l.pieces
