use Rattle.std.proofs.Common.{refl}
use Rattle.tool_files.proofs.FenceLaws.{fence_first}
use Rattle.tool_files.proofs.fence.Fence.new.Goals as goal

pub returns-clause-fenced : goal.returns-clause-fenced
returns-clause-fenced g c = fence_first c.args.items _ c.new.ensures refl
