-- Memory that holds a checker.
use Rattle.std.proofs.Common.{◌≡◌}
use Rattle.cbor_checker.specs.declared.checker.Checker.{Checker}
use Rattle.cbor_checker.specs.Checking.{HoldsSome, Saves, spot_of}
use Rattle.capi.specs.declared.checker.CllChecker.{CllChecker}
use Rattle.capi.specs.Feeding.{IsChecker}

-- Memory with the mark and the numbers of a checker holds it.
pub is_checker : (memory : CllChecker) (checker : Checker) → memory.mark ≡ 7163364913109890413
    → Saves checker memory.state → IsChecker memory
unfolding HoldsSome Saves
is_checker memory checker mark saves = record { mark = mark; state = (spot_of checker, saves) }
