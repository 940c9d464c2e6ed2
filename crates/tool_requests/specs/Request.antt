-- The requests that lines spell.
use Rattle.std.specs.Prelude.{◌≡◌, ℕ, List, ◌++◌, ◌∷◌, codes, Some}
use Rattle.tool_requests.specs.Number.{IsLimit, IsNumberUpTo, most_depth, most_number, most_size}
use Rattle.tool_requests.specs.Word.{bytes_of_word}
use Rattle.tool_requests.specs.declared.request.Command.{Command}
use Rattle.tool_requests.specs.declared.request.Command.TheVariants as command
use Rattle.tool_requests.specs.declared.request.Limited.{Limited}
use Rattle.tool_requests.specs.declared.request.Request.{Request}
use Rattle.tool_requests.specs.declared.request.Request.TheVariants.{Bytes, Chunks, Heads, Recode, Skip}
use Rattle.tool_requests.specs.declared.request.Request.TheVariants.{Strict, Text}
use Rattle.tool_requests.specs.declared.request.Numbered.{Numbered}

-- The byte between two words: `20`.
abbrev pub space : ℕ
space = 32

-- The words are a number of at most `most`, and bytes. `4 8101` has the number 4 and the bytes `81 01`.
abbrev pub SpellsNumbered : ℕ → List ℕ → Numbered → Type 0
SpellsNumbered most words asked = (first : List ℕ) × (word : List ℕ) × (words ≡ first ++ (space ∷ word))
    × IsNumberUpTo most first asked.number × (bytes_of_word word ≡ Some asked.bytes.items)

-- The words are a limit and bytes. `* 0102` has no limit and the bytes `01 02`.
abbrev pub SpellsLimited : List ℕ → Limited → Type 0
SpellsLimited words asked = (first : List ℕ) × (word : List ℕ) × (words ≡ first ++ (space ∷ word))
    × IsLimit first asked.limit × (bytes_of_word word ≡ Some asked.bytes.items)

-- The first word of a line with this command: `heads` for `Heads`.
abbrev pub name_of : Command → List ℕ
name_of command.Heads = codes "heads"
name_of command.Chunks = codes "chunks"
name_of command.Bytes = codes "bytes"
name_of command.Text = codes "text"
name_of command.Recode = codes "recode"
name_of command.Strict = codes "strict"
name_of command.Skip = codes "skip"

-- The command of a request: `Text` for the request of `text 2 6162`.
abbrev pub command_of : Request → Command
command_of (Heads bytes) = command.Heads
command_of (Chunks asked) = command.Chunks
command_of (Bytes asked) = command.Bytes
command_of (Text asked) = command.Text
command_of (Recode asked) = command.Recode
command_of (Strict asked) = command.Strict
command_of (Skip asked) = command.Skip

-- The words after the first word of this request: `2 8101` for a copy of two elements of `81 01`.
abbrev pub Spells : List ℕ → Request → Type 0
Spells words (Heads bytes) = bytes_of_word words ≡ Some bytes.items
Spells words (Chunks asked) = SpellsNumbered most_size words asked
Spells words (Bytes asked) = SpellsLimited words asked
Spells words (Text asked) = SpellsLimited words asked
Spells words (Recode asked) = SpellsNumbered most_number words asked
Spells words (Strict asked) = SpellsNumbered most_number words asked
Spells words (Skip asked) = SpellsNumbered most_depth words asked

-- The line is this request, spelled out. `skip 4 8101` asks for a skip of `81 01` to the depth 4.
abbrev pub Asks : List ℕ → Request → Type 0
Asks line request = (words : List ℕ) × (line ≡ name_of (command_of request) ++ (space ∷ words)) × Spells words request
