-- The requests that the program's arguments spell.
use Rattle.std.specs.Prelude.{◌≡◌, ℕ, ◌<◌, ◌≤◌, ◌^◌, Bool, true, false, List, [], ◌∷◌, ◌++◌, ◌⊎◌, codes, map, String}
use Rattle.std.specs.Prelude.{string_bytes, length, slice_index, Option, None, Some, IsSome}
use Rattle.std.specs.Str.Parse.{IsNumeral, digits_value}
use Rattle.std.specs.Borrow.{Bor}
use Rattle.std.specs.declared.alloc.Global.{Global}
use Rattle.tool_requests.specs.Number.{IsNumberUpTo, most_depth}
use Rattle.ciborium_ll.specs.Spellings.{is_shortest}
use Rattle.tool_files.specs.Orders.{order_name}
use Rattle.cbor_deterministic.specs.declared.Order.{Order}
use Rattle.tool_files.specs.declared.options.Colors.{Colors}
use Rattle.tool_files.specs.declared.options.Colors.TheVariants as c
use Rattle.cbor_diag.specs.declared.layout.Layout.{Layout}
use Rattle.cbor_diag.specs.declared.layout.Layout.TheVariants as l
use Rattle.cbor_embedded.specs.declared.Embedded.{Embedded}
use Rattle.cbor_embedded.specs.declared.Embedded.TheVariants as b
use Rattle.cbor_json.specs.declared.role.Mode.{Mode}
use Rattle.cbor_json.specs.declared.role.Mode.TheVariants as m
use Rattle.tool_files.specs.declared.options.Options.{Options}
use Rattle.tool_files.specs.declared.arguments.Setting.{Setting}
use Rattle.tool_files.specs.declared.arguments.Setting.TheVariants as s
use Rattle.tool_files.specs.declared.options.View.TheVariants as v
use Rattle.tool_files.specs.declared.request.Request.{Request}
use Rattle.tool_files.specs.declared.request.Request.TheVariants as r
use Rattle.tool_files.specs.declared.request.Topic.{Topic}
use Rattle.tool_files.specs.declared.request.Topic.TheVariants as t
use Rattle.tool_files.specs.declared.options.Word.{Word}
use Rattle.tool_files.specs.declared.options.Word.TheVariants as w

-- The name of a first word: `dump` for the word that shows titles.
abbrev pub word_name : Word → List ℕ
word_name w.Check = codes "check"
word_name (w.Show v.Titles) = codes "dump"
word_name (w.Show v.Notation) = codes "diag"
word_name (w.Show v.Json) = codes "json"
word_name w.Encode = codes "encode"
word_name w.Canon = codes "canon"
word_name w.Recode = codes "recode"

-- The name of an option, without its value: `--depth` for a depth of 3. `--embedded=tagged` is a name as a whole.
abbrev pub setting_name : Setting → List ℕ
setting_name s.Strict = codes "--strict"
setting_name s.Deterministic = codes "--deterministic"
setting_name (s.Order order) = codes "--order"
setting_name s.One = codes "--one"
setting_name (s.Skip count) = codes "--skip"
setting_name (s.Items count) = codes "--items"
setting_name s.Index = codes "--index"
setting_name (s.Max rows) = codes "--max"
setting_name s.Names = codes "--names"
setting_name s.Hex = codes "--hex"
setting_name s.Offsets = codes "--offsets"
setting_name (s.Colors colors) = codes "--color"
setting_name s.Pretty = codes "--pretty"
setting_name s.Exact = codes "--exact"
setting_name s.Embedded = codes "--embedded"
setting_name s.Tagged = codes "--embedded=tagged"
setting_name s.Lossy = codes "--lossy"
setting_name (s.Depth depth) = codes "--depth"

-- Whether the option takes a value. A depth, as `--depth 3`, takes one, and `--strict` takes none.
abbrev pub has_value : Setting → Bool
has_value (s.Depth depth) = true
has_value (s.Colors colors) = true
has_value (s.Order order) = true
has_value (s.Skip count) = true
has_value (s.Items count) = true
has_value (s.Max rows) = true
has_value s.Deterministic = false
has_value s.Strict = false
has_value s.One = false
has_value s.Index = false
has_value s.Names = false
has_value s.Hex = false
has_value s.Offsets = false
has_value s.Pretty = false
has_value s.Exact = false
has_value s.Embedded = false
has_value s.Tagged = false
has_value s.Lossy = false

-- The names of the options that take a value. `--depth` is one, and `--depth=3` is none.
abbrev pub TakesValue : List ℕ → Type 0
TakesValue name = (name ≡ codes "--depth") ⊎ ((name ≡ codes "--color") ⊎ ((name ≡ codes "--order")
    ⊎ ((name ≡ codes "--skip") ⊎ ((name ≡ codes "--items") ⊎ (name ≡ codes "--max")))))

-- The first word has this option. `dump` has `--offsets`, and `check` does not.
abbrev pub IsKnown : Word → Setting → Type 0
IsKnown word (s.Depth depth) = Unit {0}
IsKnown w.Check s.Strict = Unit {0}
IsKnown (w.Show view) s.Strict = Unit {0}
IsKnown w.Encode s.Strict = ⊥
IsKnown w.Canon s.Strict = ⊥
IsKnown w.Recode s.Strict = ⊥
IsKnown w.Check s.Deterministic = Unit {0}
IsKnown (w.Show view) s.Deterministic = ⊥
IsKnown w.Encode s.Deterministic = ⊥
IsKnown w.Canon s.Deterministic = ⊥
IsKnown w.Recode s.Deterministic = ⊥
IsKnown w.Check (s.Order order) = Unit {0}
IsKnown (w.Show view) (s.Order order) = ⊥
IsKnown w.Encode (s.Order order) = ⊥
IsKnown w.Canon (s.Order order) = Unit {0}
IsKnown w.Recode (s.Order order) = ⊥
IsKnown w.Check s.Hex = Unit {0}
IsKnown (w.Show view) s.Hex = Unit {0}
IsKnown w.Encode s.Hex = ⊥
IsKnown w.Canon s.Hex = ⊥
IsKnown w.Recode s.Hex = ⊥
IsKnown w.Check s.One = Unit {0}
IsKnown (w.Show v.Titles) s.One = ⊥
IsKnown (w.Show v.Notation) s.One = ⊥
IsKnown (w.Show v.Json) s.One = Unit {0}
IsKnown w.Encode s.One = Unit {0}
IsKnown w.Canon s.One = ⊥
IsKnown w.Recode s.One = ⊥
IsKnown w.Check (s.Skip count) = Unit {0}
IsKnown (w.Show view) (s.Skip count) = Unit {0}
IsKnown w.Encode (s.Skip count) = ⊥
IsKnown w.Canon (s.Skip count) = ⊥
IsKnown w.Recode (s.Skip count) = Unit {0}
IsKnown w.Check (s.Items count) = Unit {0}
IsKnown (w.Show view) (s.Items count) = Unit {0}
IsKnown w.Encode (s.Items count) = ⊥
IsKnown w.Canon (s.Items count) = ⊥
IsKnown w.Recode (s.Items count) = Unit {0}
IsKnown w.Check s.Index = Unit {0}
IsKnown (w.Show view) s.Index = ⊥
IsKnown w.Encode s.Index = ⊥
IsKnown w.Canon s.Index = ⊥
IsKnown w.Recode s.Index = ⊥
IsKnown w.Check (s.Max rows) = ⊥
IsKnown (w.Show v.Titles) (s.Max rows) = Unit {0}
IsKnown (w.Show v.Notation) (s.Max rows) = ⊥
IsKnown (w.Show v.Json) (s.Max rows) = ⊥
IsKnown w.Encode (s.Max rows) = ⊥
IsKnown w.Canon (s.Max rows) = ⊥
IsKnown w.Recode (s.Max rows) = ⊥
IsKnown w.Check s.Names = Unit {0}
IsKnown (w.Show view) s.Names = ⊥
IsKnown w.Encode s.Names = ⊥
IsKnown w.Canon s.Names = ⊥
IsKnown w.Recode s.Names = ⊥
IsKnown w.Check s.Offsets = ⊥
IsKnown (w.Show v.Titles) s.Offsets = Unit {0}
IsKnown (w.Show v.Notation) s.Offsets = ⊥
IsKnown (w.Show v.Json) s.Offsets = ⊥
IsKnown w.Encode s.Offsets = ⊥
IsKnown w.Canon s.Offsets = ⊥
IsKnown w.Recode s.Offsets = ⊥
IsKnown w.Check (s.Colors colors) = ⊥
IsKnown (w.Show v.Titles) (s.Colors colors) = Unit {0}
IsKnown (w.Show v.Notation) (s.Colors colors) = ⊥
IsKnown (w.Show v.Json) (s.Colors colors) = ⊥
IsKnown w.Encode (s.Colors colors) = ⊥
IsKnown w.Canon (s.Colors colors) = ⊥
IsKnown w.Recode (s.Colors colors) = ⊥
IsKnown w.Check s.Pretty = ⊥
IsKnown (w.Show v.Titles) s.Pretty = ⊥
IsKnown (w.Show v.Notation) s.Pretty = Unit {0}
IsKnown (w.Show v.Json) s.Pretty = ⊥
IsKnown w.Encode s.Pretty = ⊥
IsKnown w.Canon s.Pretty = ⊥
IsKnown w.Recode s.Pretty = ⊥
IsKnown w.Check s.Exact = ⊥
IsKnown (w.Show v.Titles) s.Exact = ⊥
IsKnown (w.Show v.Notation) s.Exact = Unit {0}
IsKnown (w.Show v.Json) s.Exact = ⊥
IsKnown w.Encode s.Exact = ⊥
IsKnown w.Canon s.Exact = ⊥
IsKnown w.Recode s.Exact = ⊥
IsKnown w.Check s.Embedded = ⊥
IsKnown (w.Show v.Titles) s.Embedded = Unit {0}
IsKnown (w.Show v.Notation) s.Embedded = Unit {0}
IsKnown (w.Show v.Json) s.Embedded = ⊥
IsKnown w.Encode s.Embedded = ⊥
IsKnown w.Canon s.Embedded = ⊥
IsKnown w.Recode s.Embedded = ⊥
IsKnown w.Check s.Tagged = ⊥
IsKnown (w.Show v.Titles) s.Tagged = Unit {0}
IsKnown (w.Show v.Notation) s.Tagged = Unit {0}
IsKnown (w.Show v.Json) s.Tagged = ⊥
IsKnown w.Encode s.Tagged = ⊥
IsKnown w.Canon s.Tagged = ⊥
IsKnown w.Recode s.Tagged = ⊥
IsKnown w.Check s.Lossy = ⊥
IsKnown (w.Show v.Titles) s.Lossy = ⊥
IsKnown (w.Show v.Notation) s.Lossy = ⊥
IsKnown (w.Show v.Json) s.Lossy = Unit {0}
IsKnown w.Encode s.Lossy = ⊥
IsKnown w.Canon s.Lossy = ⊥
IsKnown w.Recode s.Lossy = ⊥

-- If the option is a depth, it is at most the greatest depth that the program takes. 256 is, and 257 is not.
abbrev pub IsShallow : Setting → Type 0
IsShallow (s.Depth depth) = depth ≤ most_depth
IsShallow setting = Unit {0}

-- The name of colors, as `auto` in `--color=auto`.
abbrev pub colors_name : Colors → List ℕ
colors_name c.Auto = codes "auto"
colors_name c.Always = codes "always"
colors_name c.Never = codes "never"

-- The word is a count of items or of lines: digits, whose value is less than 2^64. The first digit is a zero only in
-- the word `0`. So `10` is a count, and `01` is none.
pub record IsCount (word : List ℕ) (n : ℕ) : Type 0 where
  pub numeral : IsNumeral 10 word
  pub shortest : slice_index word 0 ≡ 48 → length word ≡ 1
  pub value : n ≡ digits_value 10 word
  pub most : n < 2 ^ 64

-- The option takes a value, and this text spells it. A depth is a number that is at most the greatest: `3`, but not
-- `03` or `257`.
abbrev pub SpellsValue : Setting → List ℕ → Type 0
SpellsValue (s.Depth depth) value = IsNumberUpTo most_depth value depth
SpellsValue (s.Colors colors) value = value ≡ colors_name colors
SpellsValue (s.Order order) value = value ≡ order_name order
SpellsValue (s.Skip count) value = IsCount value count
SpellsValue (s.Items count) value = IsCount value count
SpellsValue (s.Max rows) value = IsCount value rows
SpellsValue setting value = ⊥

-- The word has the name of the option, and its value after a `=`, as `--depth=3`.
abbrev pub JoinsValue : Setting → List ℕ → Type 0
JoinsValue setting word = (value : List ℕ) × (word ≡ setting_name setting ++ (61 ∷ value)) × SpellsValue setting value

-- `SpellsSetting setting name words behind`: this word, and the words after it, begin with the option, and `behind` has
-- the words after the option. The value follows a `=`, as in `--depth=3`, or it is the next word, as in `--depth 3`.
pub data SpellsSetting (setting : Setting) (name : List ℕ) (words behind : List (String Global)) : Type 0 where
  alone : has_value setting ≡ false → name ≡ setting_name setting → words ≡ behind
      → SpellsSetting setting name words behind
  joined : JoinsValue setting name → words ≡ behind → SpellsSetting setting name words behind
  apart : (value : String Global) → name ≡ setting_name setting → words ≡ value ∷ behind
      → SpellsValue setting (string_bytes value) → SpellsSetting setting name words behind

-- A hyphen and more: the word is an option, as `--depth=3`. A hyphen alone is a file.
abbrev pub IsOption : List ℕ → Type 0
IsOption word = (behind : List ℕ) × (word ≡ 45 ∷ behind) × (behind ≡ [] → ⊥)

-- The option asks for help. `--help` and `-h` do, and `help` does not.
abbrev pub IsHelp : List ℕ → Type 0
IsHelp word = (word ≡ codes "--help") ⊎ (word ≡ codes "-h")

-- The choices that options set. `--depth 3 --pretty` sets the depth 3 and the indented layout.
pub record Choices : Type 0 where
  pub strict : Bool
  pub deterministic : Bool
  pub order : Option Order
  pub one : Bool
  pub skip : ℕ
  pub items : Option ℕ
  pub index : Bool
  pub names : Bool
  pub hex : Bool
  pub offsets : Bool
  pub max : Option ℕ
  pub colors : Colors
  pub layout : Layout
  pub exact : Bool
  pub embedded : Embedded
  pub mode : Mode
  pub depth : ℕ

-- The choices without options: each item on one line, an item without JSON is a fault, and a depth of 256.
abbrev pub default_choices : Choices
default_choices = record {
  strict = false;
  deterministic = false;
  order = None;
  one = false;
  skip = 0;
  items = None;
  index = false;
  names = false;
  hex = false;
  offsets = false;
  max = None;
  colors = c.Auto;
  layout = l.OneLine;
  exact = false;
  embedded = b.Nowhere;
  mode = m.Strict;
  depth = most_depth;
}

-- The choices with one option more. It changes only its own choice. After `--depth 3`, `--depth 4` sets the depth 4.
abbrev pub with_setting : Setting → Choices → Choices
with_setting s.Strict choices = record choices { strict = true }
with_setting s.Deterministic choices = record choices { deterministic = true }
with_setting (s.Order order) choices = record choices { order = Some order }
with_setting s.One choices = record choices { one = true }
with_setting (s.Skip count) choices = record choices { skip = count }
with_setting (s.Items count) choices = record choices { items = Some count }
with_setting s.Index choices = record choices { index = true }
with_setting (s.Max rows) choices = record choices { max = Some rows }
with_setting s.Names choices = record choices { names = true }
with_setting s.Hex choices = record choices { hex = true }
with_setting s.Offsets choices = record choices { offsets = true }
with_setting (s.Colors colors) choices = record choices { colors = colors }
with_setting s.Pretty choices = record choices { layout = l.Indented }
with_setting s.Exact choices = record choices { exact = true }
with_setting s.Embedded choices = record choices { embedded = b.Everywhere }
with_setting s.Tagged choices = record choices { embedded = b.Tagged }
with_setting s.Lossy choices = record choices { mode = m.Lossy }
with_setting (s.Depth depth) choices = record choices { depth = depth }

-- The choices that the options hold, as the depth 3 that `--depth 3` set.
abbrev pub choices_of : Options → Choices
choices_of options = record {
  strict = is_shortest options.spelling;
  deterministic = options.deterministic;
  order = options.order;
  one = options.one;
  skip = options.skip;
  items = options.items;
  index = options.index;
  names = options.names;
  hex = options.hex;
  offsets = options.offsets;
  max = options.max;
  colors = options.colors;
  layout = options.layout;
  exact = options.exact;
  embedded = options.embedded;
  mode = options.mode;
  depth = options.depth;
}

-- The texts of words that name files, in bytes. The words `a` and `-` have `61` and `2d`.
abbrev pub texts : List (Bor (List ℕ)) → List (List ℕ)
texts files = map (λ file. file.now) files

-- The wish of the words after the first word: a look at these files with these choices, or help. `--depth 3 f` is a
-- look at `f` to the depth 3, and `-h` is help.
pub data Wish : Type 0 where
  look : Choices → List (List ℕ) → Wish
  help : Wish

-- The same wish, by whether it is help. `false` and the file `f` are a look at `f`.
abbrev pub wish_of : Bool → Choices → List (List ℕ) → Wish
wish_of true choices files = help
wish_of false choices files = look choices files

-- The wish with one more file, which precedes the others. With `a`, a look at `b` is one at `a` and `b`, and help stays
-- help.
abbrev pub with_file : List ℕ → Wish → Wish
with_file file (look choices files) = look choices (file ∷ files)
with_file file help = help

-- The words after the first word ask for this, from these choices on. They are options and files in any order. If two
-- options say different things, the last option holds. After `--` each word is a file. The words after an option that
-- asks for help are free. `--depth 3 f --depth 4` asks for the depth 4 and the file `f`.
pub data AsksWith (word : Word) : Choices → List (String Global) → Wish → Type 0 where
  ended : {choices : Choices} {words : List (String Global)} {wish : Wish} → words ≡ [] → wish ≡ look choices []
      → AsksWith word choices words wish
  option : {choices : Choices} {words : List (String Global)} {wish : Wish} (name : String Global)
      (rest behind : List (String Global)) (setting : Setting) → words ≡ name ∷ rest → IsOption (string_bytes name)
      → IsKnown word setting → SpellsSetting setting (string_bytes name) rest behind
      → AsksWith word (with_setting setting choices) behind wish → AsksWith word choices words wish
  file : {choices : Choices} {words : List (String Global)} {wish : Wish} (name : String Global)
      (rest : List (String Global)) (others : Wish) → words ≡ name ∷ rest → (IsOption (string_bytes name) → ⊥)
      → AsksWith word choices rest others → wish ≡ with_file (string_bytes name) others
      → AsksWith word choices words wish
  hyphens : {choices : Choices} {words : List (String Global)} {wish : Wish} (name : String Global)
      (rest : List (String Global)) → words ≡ name ∷ rest → string_bytes name ≡ codes "--"
      → wish ≡ look choices (map string_bytes rest) → AsksWith word choices words wish
  helps : {choices : Choices} {words : List (String Global)} {wish : Wish} (name : String Global)
      (rest : List (String Global)) → words ≡ name ∷ rest → IsHelp (string_bytes name) → wish ≡ help
      → AsksWith word choices words wish

-- The request of a command line. `check f` wants a look at `f`, and `help` wants the text on the program.
pub data Wanted : Type 0 where
  looks : Word → Choices → List (List ℕ) → Wanted
  helps_with : Topic → Wanted
  says_version : Wanted

-- The request in the code, with these files. With the file `f`, a `Look` is one at `f`, and `Version` has no file.
abbrev pub wanted_by : Request → List (List ℕ) → Wanted
wanted_by (r.Look word options) files = looks word (choices_of options) files
wanted_by (r.Help topic) files = helps_with topic
wanted_by r.Version files = says_version

-- The request of a wish after this first word. After `dump`, help is the text on `dump`.
abbrev pub wanted_with : Word → Wish → Wanted
wanted_with word (look choices files) = looks word choices files
wanted_with word help = helps_with (t.Word word)

-- An order of keys was given to a check that doesn't look at it, since it doesn't ask for the deterministic encoding:
-- `check --order bytewise`.
abbrev pub HasNeedlessOrder : Word → Choices → Type 0
HasNeedlessOrder w.Check choices = IsSome choices.order × (choices.deterministic ≡ false)
HasNeedlessOrder word choices = ⊥

-- Options that exclude each other were given. An index and a number of items are no check of one item: `check --one
-- --items 2`. A check of the deterministic encoding is one of the whole input: `check --deterministic --skip 1`.
abbrev pub HasClash : Choices → Type 0
HasClash choices = ((choices.one ≡ true) × (IsSome choices.items ⊎ (choices.index ≡ true)))
    ⊎ ((choices.deterministic ≡ true) × ((IsSome choices.items ⊎ (choices.index ≡ true)) ⊎ (0 < choices.skip)))

-- The program takes the wish: no order of keys is needless, and no options exclude each other. A wish for help is
-- taken, as that of `check --order bytewise --help`.
abbrev pub IsTaken : Word → Wish → Type 0
IsTaken word (look choices files) = (HasNeedlessOrder word choices → ⊥) × (HasClash choices → ⊥)
IsTaken word help = Unit {0}

-- The words after the first word ask for this, from the choices without options on. After `check`, `f` asks for a look
-- at `f` to the depth 256.
abbrev pub AsksOf : Word → List (String Global) → Wanted → Type 0
AsksOf word words wanted = (wish : Wish) × AsksWith word default_choices words wish × IsTaken word wish
    × (wanted ≡ wanted_with word wish)

-- The name of a topic. The program itself has the name `help`.
abbrev pub topic_name : Topic → List ℕ
topic_name t.Program = codes "help"
topic_name (t.Word word) = word_name word
topic_name t.Recode = codes "recode"

-- The words after a word that asks for help name this topic. Without a word it is the program. `recode` names a topic,
-- and the two words `dump diag` name none.
abbrev pub NamesTopic : List (String Global) → Topic → Type 0
NamesTopic words about = ((words ≡ []) × (about ≡ t.Program))
    ⊎ ((name : String Global) × (words ≡ name ∷ []) × (string_bytes name ≡ topic_name about))

-- The first word asks for help. `help` and `-h` do, and `--version` does not.
abbrev pub IsHelpWord : List ℕ → Type 0
IsHelpWord word = (word ≡ codes "help") ⊎ IsHelp word

-- A first word that is no word for a look at files asks for this: for the version, or for a text of help. `help dump`
-- asks for the text on `dump`, and `--version dump` for nothing.
pub data AsksAbout (first : List ℕ) (words : List (String Global)) (wanted : Wanted) : Type 0 where
  version : first ≡ codes "--version" → words ≡ [] → wanted ≡ says_version → AsksAbout first words wanted
  topic : (about : Topic) → IsHelpWord first → NamesTopic words about
      → wanted ≡ helps_with about → AsksAbout first words wanted

-- The words ask for this. `check f` asks for a look at `f`, and `f` alone for nothing.
pub data AsksFor (words : List (String Global)) (wanted : Wanted) : Type 0 where
  of : (name : String Global) (rest : List (String Global)) (word : Word) → words ≡ name ∷ rest
      → string_bytes name ≡ word_name word → AsksOf word rest wanted → AsksFor words wanted
  about : (name : String Global) (rest : List (String Global)) → words ≡ name ∷ rest
      → AsksAbout (string_bytes name) rest wanted → AsksFor words wanted
