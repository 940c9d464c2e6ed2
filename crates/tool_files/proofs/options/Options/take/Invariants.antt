use Rattle.std.proofs.Common.{◌≤◌, ◌+◌, length}
use Rattle.std.specs.Prelude.{vec_capacity, vec_len}
use Rattle.tool_files.specs.Arguments.{AsksWith, Wish, choices_of, texts}
use Rattle.tool_files.proofs.ArgumentLaws.{with_files}
use Rattle.tool_files.proofs.options.Options.take.Given as goal

-- The remaining words ask for a wish over the options so far. All the words then ask for this wish over the first
-- options.
abbrev pub invariant-words : goal.invariant-words
invariant-words l = record {
  room : vec_len l.files + length l.behind ≤ vec_capacity l.files;
  back : (wish : Wish) → AsksWith l.word (choices_of l.self) l.behind wish
      → AsksWith l.word (choices_of l.fn.self) l.words (with_files (texts l.files.items) wish);
  on : (wish : Wish) → AsksWith l.word (choices_of l.fn.self) l.words wish
      → (left : Wish) × AsksWith l.word (choices_of l.self) l.behind left;
}

abbrev pub decreases-words : goal.decreases-words
decreases-words l = length l.behind
