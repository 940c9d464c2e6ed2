-- A parser as plain numbers, which a caller keeps in its own memory.
use Rattle.std.specs.Prelude.{◌≡◌, ◌==◌, ◌≤◌, ℕ, true, List, Option, Some, None, if◌then◌else◌, length}
use Rattle.std.specs.Prelude.{take}
use Rattle.ciborium_ll_grammar.specs.declared.spelling.Spelling.{Spelling}
use Rattle.ciborium_ll_grammar.specs.declared.spelling.Spelling.TheVariants.{Any, Shortest}
use Rattle.ciborium_ll_grammar.specs.declared.limits.TheConstants.{LONGEST_TITLE}
use Rattle.ciborium_ll_text.specs.Text.{IsStuck}
use Rattle.cbor_parser.specs.declared.parser.Parser.{Parser}
use Rattle.cbor_parser.specs.declared.phase.Phase.{Phase}
use Rattle.cbor_parser.specs.declared.phase.Phase.TheVariants as p
use Rattle.cbor_parser.specs.declared.strings.Within.{Within}
use Rattle.cbor_parser.specs.declared.saved.Saved.{Saved}
use Rattle.cbor_parser.specs.Phases.{carried_of, has_left, most_front}
use Rattle.cbor_parser.specs.Strings.{open_count, within_in}
use Rattle.cbor_parser.specs.Parsing.{Token}
use Rattle.cbor_parser.specs.Pushing.{HasPushed}

-- The phase with these numbers. `number` counts the bytes due of a body, or is the place of a fault. Kind 2 with the
-- number 7 is seven bytes of a byte string, and 4 with 7 is a fault at 7. 0 is no kind.
abbrev pub phase_in : ℕ → ℕ → ℕ → Option Phase
phase_in kind number place =
    if kind == 1 then Some p.Title else
    (if kind == 2 then Some (p.Bytes number) else
    (if kind == 3 then Some (p.Text number place) else
    (if kind == 4 then Some (p.Faulted number) else None)))

-- The spelling that is taken, by a number: 0 is any, 1 is the shortest alone, and 2 is neither.
abbrev pub spelling_in : ℕ → Option Spelling
spelling_in number = if number == 0 then Some Any else (if number == 1 then Some Shortest else None)

-- A parser can have this phase, these bytes of a title or of a character, these open strings and this offset. So it is
-- with a title that is due, `19 01`, no string and 2, and not with `19 01 00`.
pub record IsState (phase : Phase) (front : List ℕ) (within : Within) (offset : ℕ) : Type 0 where
  pub left : has_left phase ≡ true
  pub fits : length front ≤ most_front phase front
  pub stuck : IsStuck (carried_of phase front)
  pub counted : open_count within ≤ offset

-- The plain numbers are those of this parser. After `42 05` they are, among others, the phase 2 with the number 1, and
-- the offset 2.
pub record Holds (saved : Saved) (parser : Parser) : Type 0 where
  pub phase : phase_in saved.phase saved.number saved.place ≡ Some parser.phase
  pub strict : spelling_in saved.strict ≡ Some parser.spelling
  pub kept : take saved.kept_len saved.kept ≡ parser.front
  pub few : saved.kept_len ≤ LONGEST_TITLE
  pub within : within_in saved.strings saved.more ≡ Some parser.within
  pub offset : saved.offset ≡ parser.offset

-- The plain numbers are those of a parser to which these bytes were pushed, and which found these tokens (RFC 7049, 2.1
-- to 2.4). Numbers that a parser saved after `82 19` keep `82 19` and the token `Array(Some(2))`.
pub record Keeps (allowed : Spelling) (bytes : List ℕ) (tokens : List Token) (saved : Saved) : Type 0 where
  pub parser : Parser
  pub holds : Holds saved parser
  pub pushed : HasPushed allowed bytes tokens parser
