use Rattle.std.proofs.Common.{◌≡◌, ◌≤◌, ◌+◌, ◌++◌, length, map}
use Rattle.std.specs.Prelude.{string_bytes, vec_capacity, vec_len}
use Rattle.tool_files.specs.Arguments.{texts}
use Rattle.tool_files.proofs.arguments.add_all.Given as goal

-- The files and the remaining words are all that was there.
abbrev pub invariant-words : goal.invariant-words
invariant-words l = record {
  room : vec_len l.files + length l.behind ≤ vec_capacity l.files;
  all : texts l.files.items ++ map string_bytes l.behind ≡ texts l.fn.files.items ++ map string_bytes l.words;
}

abbrev pub decreases-words : goal.decreases-words
decreases-words l = length l.behind
