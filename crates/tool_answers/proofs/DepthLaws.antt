use Rattle.std.proofs.Common.{List, ℕ, rules}
use Rattle.tool_requests.specs.Request.{Asks}
use Rattle.tool_requests.specs.declared.request.Request.{Request}
use Rattle.tool_requests.specs.declared.request.Request.TheVariants.{Bytes, Chunks, Heads, Recode, Skip}
use Rattle.tool_requests.specs.declared.request.Request.TheVariants.{Strict, Text}
use Rattle.tool_answers.specs.Depth.{IsWithinDepth}

-- The number of a skip is at most the greatest depth that a line may ask for.
pub within_depth : (line : List ℕ) (request : Request) → Asks line request → IsWithinDepth request
within_depth line (Heads bytes) asks = tt
within_depth line (Chunks asked) asks = tt
within_depth line (Bytes asked) asks = tt
within_depth line (Text asked) asks = tt
within_depth line (Recode asked) asks = tt
within_depth line (Strict asked) asks = tt
within_depth line (Skip asked) asks = search rules
