use Rattle.std.proofs.Common.{◌≡◌, ◌≤◌, ◌++◌, ℕ, List, length, take}
use Rattle.tool_files.specs.Fences.{IsFenced}
use Rattle.tool_files.proofs.fence.Fence.pass.Given as goal

abbrev pub invariant-items : goal.invariant-items
invariant-items g l = record {
  within : l.at ≤ length l.bytes;
  depth : l.self.depth ≡ l.fn.self.depth;
  source : l.self.source ≡ l.fn.self.source;
  failures : l.self.failures ≡ l.fn.self.failures;
  fenced : (items : ℕ) (given : List ℕ) → IsFenced items given l.fn.self
      → IsFenced items (given ++ take l.at l.bytes) l.self;
}

abbrev pub decreases-items : goal.decreases-items
decreases-items g l = l.self.left
