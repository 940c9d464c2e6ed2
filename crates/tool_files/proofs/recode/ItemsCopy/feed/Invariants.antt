use Rattle.std.proofs.Common.{◌≡◌, ◌≤◌, ◌+◌, ◌-◌, ◌++◌, ℕ, List, Option, length, take}
use Rattle.cbor_item_copier.specs.Copying.{held}
use Rattle.tool_files.specs.Recodes.{Stands}
use Rattle.tool_files.proofs.recode.ItemsCopy.feed.Given as goal

abbrev pub invariant-items : goal.invariant-items
invariant-items l = record {
  within : l.at ≤ length l.piece;
  room : l.written + held l.self.copier ≤ l.at + 8;
  long : length l.out ≡ length l.fn.out;
  depth : l.self.depth ≡ l.fn.self.depth;
  stands : (most : Option ℕ) (fed given : List ℕ)
      → Stands l.fn.self.depth most l.fn.self.left l.fn.self.start fed given l.fn.self.copier → length fed ≡ l.read
      → Stands l.fn.self.depth most l.self.left l.self.start (fed ++ take l.at l.piece)
      (given ++ take l.written l.out) l.self.copier;
}

abbrev pub decreases-items : goal.decreases-items
decreases-items l = length l.piece - l.at
