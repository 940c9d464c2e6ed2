-- How deep a skip may go.
use Rattle.std.specs.Prelude.{◌≤◌}
use Rattle.ciborium_ll_grammar.specs.declared.limits.TheConstants.{MOST_LEVELS}
use Rattle.tool_requests.specs.declared.request.Request.{Request}
use Rattle.tool_requests.specs.declared.request.Request.TheVariants.{Bytes, Chunks, Heads, Recode, Skip}
use Rattle.tool_requests.specs.declared.request.Request.TheVariants.{Strict, Text}

-- If the request asks for a skip, its depth is one that a skip takes: `skip 256 80` is within it, and a depth of 257 is
-- not.
abbrev pub IsWithinDepth : Request → Type 0
IsWithinDepth (Heads bytes) = Unit {0}
IsWithinDepth (Chunks asked) = Unit {0}
IsWithinDepth (Bytes asked) = Unit {0}
IsWithinDepth (Text asked) = Unit {0}
IsWithinDepth (Recode asked) = Unit {0}
IsWithinDepth (Strict asked) = Unit {0}
IsWithinDepth (Skip asked) = asked.number ≤ MOST_LEVELS
