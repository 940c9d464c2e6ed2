use Rattle.std.proofs.Common.{refl}
use Rattle.tool_files.proofs.FenceLaws.{fence_same}
use Rattle.tool_files.proofs.fence.FenceRead.read_exact.Goals as goal

pub returns-clause-fenced : goal.returns-clause-fenced
returns-clause-fenced g c = λ items given was.
    c.pass.ensures.fenced items given (fence_same items given c.args.self.now _ refl refl refl was)
