-- The requests of a command line, word by word.
use Rattle.std.proofs.Common.{◌≡◌, ◌⊎◌, ℕ, false, List, [], ◌∷◌, ◌++◌, inl, inr}
use Rattle.std.proofs.Common.{codes, refl, ap, sym, subst, ◌∙◌, arith, append_assoc, map}
use Rattle.std.proofs.Common.{◌≤◌, length, Bor, Result, Ok, Err, IfOk, IfErr}
use Rattle.std.proofs.lemmas.List.{map-append}
use Rattle.std.specs.Prelude.{String, string_bytes}
use Rattle.std.specs.declared.alloc.Global.{Global}
use Rattle.tool_files.specs.Arguments.{AsksWith, Choices, IsHelp, IsKnown, IsOption, IsShallow, JoinsValue}
use Rattle.tool_files.specs.Arguments.{SpellsSetting, SpellsValue, TakesValue, Wish, alone, apart, ended, file}
use Rattle.tool_files.specs.Arguments.{has_value, help, helps, hyphens}
use Rattle.tool_files.specs.Arguments.{joined, look, option, setting_name, with_file, with_setting}
use Rattle.tool_files.specs.Arguments.{AsksAbout, AsksFor, AsksOf, HasClash, HasNeedlessOrder, IsTaken, NamesTopic, Wanted}
use Rattle.tool_files.specs.Arguments.{about, default_choices, of, texts}
use Rattle.tool_files.specs.Arguments.{topic, version, word_name}
use Rattle.tool_files.specs.declared.arguments.Setting.{Setting}
use Rattle.tool_files.specs.declared.arguments.Setting.TheVariants as s
use Rattle.tool_files.specs.declared.options.View.TheVariants as v
use Rattle.tool_files.specs.declared.options.Word.{Word}
use Rattle.tool_files.specs.declared.options.Word.TheVariants as w
use Rattle.tool_files.specs.declared.request.Topic.{Topic}

-- The request with more files, which precede its own.
abbrev pub with_files : List (List ℕ) → Wish → Wish
with_files front (look choices files) = look choices (front ++ files)
with_files front help = help

-- Two options of one name and one value are the same.
pub same_valued : (a b : Setting) (value : List ℕ) → setting_name a ≡ setting_name b → SpellsValue a value
    → SpellsValue b value → a ≡ b
same_valued a b value same spelled-a spelled-b = grind arith

-- Two options of one name without values are the same.
pub same_plain : (a b : Setting) → setting_name a ≡ setting_name b → has_value a ≡ false → has_value b ≡ false → a ≡ b
same_plain a b same plain-a plain-b = grind arith

-- An option that takes a value has another name than an option without a value.
pub other_name : (a b : Setting) (value : List ℕ) → has_value a ≡ false → SpellsValue b value
    → setting_name a ≡ setting_name b → ⊥
other_name a b value plain spelled same = grind arith

-- An option without a value has another name than an option with a joined value.
pub other_joined : (a b : Setting) (value : List ℕ) → SpellsValue b value
    → setting_name a ≡ setting_name b ++ (61 ∷ value) → ⊥
other_joined a b value spelled same = grind arith

-- A word joins the value of one option only.
pub same_joined : (a b : Setting) (name : List ℕ) → JoinsValue a name → JoinsValue b name → a ≡ b
same_joined a b name (left, is-a, spelled-a) (right, is-b, spelled-b) =
    grind (arith, is-a, is-b, spelled-a, spelled-b)

-- A name and the words after it spell one option, and leave the same words after it.
pub same_setting : (a b : Setting) (name : List ℕ) (words behind-a behind-b : List (String Global))
    → SpellsSetting a name words behind-a → SpellsSetting b name words behind-b → (a ≡ b) × (behind-a ≡ behind-b)
same_setting a b name words behind-a behind-b (alone plain-a is-a at-a) (alone plain-b is-b at-b) =
    (same_plain a b (sym is-a ∙ is-b) plain-a plain-b, sym at-a ∙ at-b)
same_setting a b name words behind-a behind-b (alone plain-a is-a at-a) (joined (value, is-b, spelled-b) at-b) =
    absurd (other_joined a b value spelled-b (sym is-a ∙ is-b))
same_setting a b name words behind-a behind-b (alone plain-a is-a at-a) (apart value is-b at-b spelled-b) =
    absurd (other_name a b (string_bytes value) plain-a spelled-b (sym is-a ∙ is-b))
same_setting a b name words behind-a behind-b (joined (value, is-a, spelled-a) at-a) (alone plain-b is-b at-b) =
    absurd (other_joined b a value spelled-a (sym is-b ∙ is-a))
same_setting a b name words behind-a behind-b (joined value-a at-a) (joined value-b at-b) =
    (same_joined a b name value-a value-b, sym at-a ∙ at-b)
same_setting a b name words behind-a behind-b (joined (value, is-a, spelled-a) at-a) (apart next is-b at-b spelled-b) =
    absurd (other_joined b a value spelled-a (sym is-b ∙ is-a))
same_setting a b name words behind-a behind-b (apart next is-a at-a spelled-a) (alone plain-b is-b at-b) =
    absurd (other_name b a (string_bytes next) plain-b spelled-a (sym is-b ∙ is-a))
same_setting a b name words behind-a behind-b (apart next is-a at-a spelled-a) (joined (value, is-b, spelled-b) at-b) =
    absurd (other_joined a b value spelled-b (sym is-a ∙ is-b))
same_setting a b name words behind-a behind-b (apart next-a is-a at-a spelled-a) (apart next-b is-b at-b spelled-b) =
    let whole : next-a ∷ behind-a ≡ next-b ∷ behind-b = sym at-a ∙ at-b in
    let same : next-a ≡ next-b = grind (arith, whole) in
    (same_valued a b (string_bytes next-b) (sym is-a ∙ is-b) (rw same at spelled-a) spelled-b, grind (arith, whole))

-- No option has the name of two hyphens.
pub no_hyphens : (a : Setting) (name : List ℕ) (words behind : List (String Global))
    → SpellsSetting a name words behind → name ≡ codes "--" → ⊥
no_hyphens a name words behind (alone plain is at) same = grind (arith, is, same)
no_hyphens a name words behind (joined (value, is, spelled) at) same = grind (arith, is, same, spelled)
no_hyphens a name words behind (apart value is at spelled) same = grind (arith, is, same)

-- An option with a value is at most as deep as the greatest depth.
pub shallow_valued : (a : Setting) (value : List ℕ) → SpellsValue a value → IsShallow a
shallow_valued (s.Depth depth) value spelled = spelled.1
shallow_valued (s.Colors colors) value spelled = tt
shallow_valued (s.Order order) value spelled = tt
shallow_valued (s.Skip count) value spelled = tt
shallow_valued (s.Items count) value spelled = tt
shallow_valued (s.Max rows) value spelled = tt
shallow_valued s.Index value spelled = absurd spelled
shallow_valued s.Deterministic value spelled = absurd spelled
shallow_valued s.Strict value spelled = absurd spelled
shallow_valued s.One value spelled = absurd spelled
shallow_valued s.Names value spelled = absurd spelled
shallow_valued s.Hex value spelled = absurd spelled
shallow_valued s.Offsets value spelled = absurd spelled
shallow_valued s.Pretty value spelled = absurd spelled
shallow_valued s.Exact value spelled = absurd spelled
shallow_valued s.Embedded value spelled = absurd spelled
shallow_valued s.Tagged value spelled = absurd spelled
shallow_valued s.Lossy value spelled = absurd spelled

takes : (a : Setting) (name value : List ℕ) → name ≡ setting_name a → SpellsValue a value → TakesValue name
takes (s.Depth depth) name value is spelled = inl is
takes (s.Colors colors) name value is spelled = inr (inl is)
takes (s.Order order) name value is spelled = inr (inr (inl is))
takes (s.Skip count) name value is spelled = inr (inr (inr (inl is)))
takes (s.Items count) name value is spelled = inr (inr (inr (inr (inl is))))
takes (s.Max rows) name value is spelled = inr (inr (inr (inr (inr is))))
takes s.Index name value is spelled = absurd spelled
takes s.Deterministic name value is spelled = absurd spelled
takes s.Strict name value is spelled = absurd spelled
takes s.One name value is spelled = absurd spelled
takes s.Names name value is spelled = absurd spelled
takes s.Hex name value is spelled = absurd spelled
takes s.Offsets name value is spelled = absurd spelled
takes s.Pretty name value is spelled = absurd spelled
takes s.Exact name value is spelled = absurd spelled
takes s.Embedded name value is spelled = absurd spelled
takes s.Tagged name value is spelled = absurd spelled
takes s.Lossy name value is spelled = absurd spelled

-- If a name is that of no option, it spells no option.
pub spells_none : (name : List ℕ) (words : List (String Global)) → (TakesValue name → ⊥)
    → ((a : Setting) → has_value a ≡ false → name ≡ setting_name a → ⊥) → ((a : Setting) → JoinsValue a name → ⊥)
    → (a : Setting) (behind : List (String Global)) → SpellsSetting a name words behind → ⊥
spells_none name words no_value no_plain no_joined a behind (alone plain is at) = no_plain a plain is
spells_none name words no_value no_plain no_joined a behind (joined value at) = no_joined a value
spells_none name words no_value no_plain no_joined a behind (apart value is at spelled) =
    no_value (takes a name (string_bytes value) is spelled)

-- Two hyphens ask for no help.
pub hyphens_no_help : (name : List ℕ) → name ≡ codes "--" → IsHelp name → ⊥
hyphens_no_help name same (inl is) = grind (arith, same, is)
hyphens_no_help name same (inr is) = grind (arith, same, is)

-- No option has a name that asks for help.
pub no_help : (a : Setting) (name : List ℕ) (words behind : List (String Global))
    → SpellsSetting a name words behind → IsHelp name → ⊥
no_help a name words behind (alone plain is at) (inl same) = grind (arith, is, same)
no_help a name words behind (alone plain is at) (inr same) = grind (arith, is, same)
no_help a name words behind (joined (value, is, spelled) at) (inl same) = grind (arith, is, same, spelled)
no_help a name words behind (joined (value, is, spelled) at) (inr same) = grind (arith, is, same, spelled)
no_help a name words behind (apart value is at spelled) (inl same) = grind (arith, is, same)
no_help a name words behind (apart value is at spelled) (inr same) = grind (arith, is, same)

-- Two hyphens are an option.
pub hyphens_option : (name : List ℕ) → name ≡ codes "--" → IsOption name
hyphens_option name same = (45 ∷ [], same, λ none. grind (arith, none))

pub help_option : (name : List ℕ) → IsHelp name → IsOption name
help_option name (inl same) = (codes "-help", same, λ none. grind (arith, none))
help_option name (inr same) = (codes "h", same, λ none. grind (arith, none))

same_first : (a b : String Global) (left right : List (String Global)) → a ∷ left ≡ b ∷ right → (b ≡ a) × (right ≡ left)
same_first a b left right same = (grind (arith, same), grind (arith, same))

-- A further file joins the end of the files that precede a wish.
pub with_files_more : (front : List (List ℕ)) (name : List ℕ) (wish : Wish)
    → with_files front (with_file name wish) ≡ with_files (front ++ (name ∷ [])) wish
with_files_more front name (look choices files) = ap (look choices) (sym (append_assoc front (name ∷ []) files))
with_files_more front name help = refl

-- One more file adds its text to the texts of the files.
pub texts_pushed : (items new : List (Bor (List ℕ))) (value : Bor (List ℕ)) (text : List ℕ)
    → new ≡ items ++ (value ∷ []) → value.now ≡ text → texts new ≡ texts items ++ (text ∷ [])
texts_pushed items new value text is same =
    ap texts is ∙ (map-append (λ x. x.now) items (value ∷ []) ∙ ap (λ x. texts items ++ (x ∷ [])) same)

-- At most as many words follow an option as follow its name.
pub no_longer : (a : Setting) (name : List ℕ) (words behind : List (String Global))
    → SpellsSetting a name words behind → length behind ≤ length words
no_longer a name words behind (alone plain is at) = grind (arith, at)
no_longer a name words behind (joined value at) = grind (arith, at)
no_longer a name words behind (apart value is at spelled) = grind (arith, at)

module _ (word : Word) (old : Choices) (name : String Global) (words rest : List (String Global))
    (is : words ≡ name ∷ rest) where
  -- If an option precedes the words, the words after it ask for the same over the changed choices.
  pub asks_behind : (wish : Wish) (setting : Setting) (behind : List (String Global)) → IsOption (string_bytes name)
      → SpellsSetting setting (string_bytes name) rest behind → AsksWith word old words wish
      → AsksWith word (with_setting setting old) behind wish
  asks_behind wish setting behind opt spelled (ended none same) = absurd (grind (arith, is, none))
  asks_behind wish setting behind opt spelled (option first after left other at is-o known given asks) =
      let firsts = same_first name first rest after (sym is ∙ at) in
      let given' : SpellsSetting other (string_bytes name) rest left = rw (firsts.0, firsts.1) at given in
      let same = same_setting other setting (string_bytes name) rest left behind given' spelled in
      rw (same.0, same.1) at asks
  asks_behind wish setting behind opt spelled (file first after others at none asks same) =
      let firsts = same_first name first rest after (sym is ∙ at) in
      absurd (none (rw firsts.0 opt))
  asks_behind wish setting behind opt spelled (hyphens first after at same shown) =
      let firsts = same_first name first rest after (sym is ∙ at) in
      absurd (no_hyphens setting (string_bytes name) rest behind spelled (rw firsts.0 at same))
  asks_behind wish setting behind opt spelled (helps first after at is-help shown) =
      let firsts = same_first name first rest after (sym is ∙ at) in
      absurd (no_help setting (string_bytes name) rest behind spelled (rw firsts.0 at is-help))

  -- If a file precedes the words, the words after it ask for the rest of the wish.
  asks_file : (wish : Wish) → (IsOption (string_bytes name) → ⊥) → AsksWith word old words wish
      → (left : Wish) × AsksWith word old rest left × (wish ≡ with_file (string_bytes name) left)
  asks_file wish no_option (ended none same) = absurd (grind (arith, is, none))
  asks_file wish no_option (option first after left other at is-o known given asks) =
      let firsts = same_first name first rest after (sym is ∙ at) in
      absurd (no_option (rw firsts.0 at is-o))
  asks_file wish no_option (file first after others at none asks same) =
      let firsts = same_first name first rest after (sym is ∙ at) in
      (others, rw firsts.1 at asks, rw firsts.0 at same)
  asks_file wish no_option (hyphens first after at same shown) =
      let firsts = same_first name first rest after (sym is ∙ at) in
      absurd (no_option (hyphens_option (string_bytes name) (rw firsts.0 at same)))
  asks_file wish no_option (helps first after at is-help shown) =
      let firsts = same_first name first rest after (sym is ∙ at) in
      absurd (no_option (help_option (string_bytes name) (rw firsts.0 at is-help)))

  -- If a file precedes the words, the words after it ask for the rest.
  pub asks_after : (wish : Wish) → (IsOption (string_bytes name) → ⊥) → AsksWith word old words wish
      → (left : Wish) × AsksWith word old rest left
  asks_after wish no_option asks = let left = asks_file wish no_option asks in (left.0, left.1)

  -- If two hyphens precede the words, the words after them are files.
  asks_hyphens : (wish : Wish) → string_bytes name ≡ codes "--" → AsksWith word old words wish
      → wish ≡ look old (map string_bytes rest)
  asks_hyphens wish two (ended none same) = absurd (grind (arith, is, none))
  asks_hyphens wish two (option first after left other at is-o known given asks) =
      let firsts = same_first name first rest after (sym is ∙ at) in
      absurd (no_hyphens other (string_bytes name) after left (rw firsts.0 at given) two)
  asks_hyphens wish two (file first after others at none asks same) =
      let firsts = same_first name first rest after (sym is ∙ at) in
      absurd (none (rw firsts.0 (hyphens_option (string_bytes name) two)))
  asks_hyphens wish two (hyphens first after at same shown) =
      let firsts = same_first name first rest after (sym is ∙ at) in
      rw firsts.1 at shown
  asks_hyphens wish two (helps first after at is-help shown) =
      let firsts = same_first name first rest after (sym is ∙ at) in
      absurd (hyphens_no_help (string_bytes name) two (rw firsts.0 at is-help))

  -- If an option that asks for help precedes the words, they ask for help.
  asks_help : (wish : Wish) → IsHelp (string_bytes name) → AsksWith word old words wish → wish ≡ help
  asks_help wish is-help (ended none same) = absurd (grind (arith, is, none))
  asks_help wish is-help (option first after left other at is-o known given asks) =
      let firsts = same_first name first rest after (sym is ∙ at) in
      absurd (no_help other (string_bytes name) after left (rw firsts.0 at given) is-help)
  asks_help wish is-help (file first after others at none asks same) =
      let firsts = same_first name first rest after (sym is ∙ at) in
      absurd (none (rw firsts.0 (help_option (string_bytes name) is-help)))
  asks_help wish is-help (hyphens first after at same shown) =
      let firsts = same_first name first rest after (sym is ∙ at) in
      absurd (hyphens_no_help (string_bytes name) (rw firsts.0 at same) is-help)
  asks_help wish is-help (helps first after at other shown) = shown

  -- If an option that the word doesn't know precedes the words, they ask for nothing.
  pub asks_nothing : (wish : Wish) → IsOption (string_bytes name) → (string_bytes name ≡ codes "--" → ⊥)
      → (IsHelp (string_bytes name) → ⊥)
      → ((setting : Setting) (behind : List (String Global)) → IsKnown word setting
      → SpellsSetting setting (string_bytes name) rest behind → ⊥)
      → AsksWith word old words wish → ⊥
  asks_nothing wish opt no_hyphen no_helps unknown (ended none same) = absurd (grind (arith, is, none))
  asks_nothing wish opt no_hyphen no_helps unknown (option first after left other at is-o known given asks) =
      let firsts = same_first name first rest after (sym is ∙ at) in
      unknown other left known (rw (firsts.0, firsts.1) at given)
  asks_nothing wish opt no_hyphen no_helps unknown (file first after others at none asks same) =
      let firsts = same_first name first rest after (sym is ∙ at) in
      none (rw firsts.0 opt)
  asks_nothing wish opt no_hyphen no_helps unknown (hyphens first after at same shown) =
      let firsts = same_first name first rest after (sym is ∙ at) in
      no_hyphen (rw firsts.0 at same)
  asks_nothing wish opt no_hyphen no_helps unknown (helps first after at is-help shown) =
      let firsts = same_first name first rest after (sym is ∙ at) in
      no_helps (rw firsts.0 at is-help)

-- No words ask for no file, with the same choices.
asks_none : (word : Word) (old : Choices) (words : List (String Global)) (wish : Wish) → words ≡ []
    → AsksWith word old words wish → wish ≡ look old []
asks_none word old words wish none (ended other same) = same
asks_none word old words wish none (option first after left other at is-o known given asks) =
    absurd (grind (arith, none, at))
asks_none word old words wish none (file first after others at other asks same) = absurd (grind (arith, none, at))
asks_none word old words wish none (hyphens first after at same shown) = absurd (grind (arith, none, at))
asks_none word old words wish none (helps first after at is-help shown) = absurd (grind (arith, none, at))

-- The words after a word for a look at files ask for one thing.
pub asks_once : (word : Word) (old : Choices) (words : List (String Global)) (a b : Wish) → AsksWith word old words a
    → AsksWith word old words b → a ≡ b
asks_once word old words a b (ended none same) other = same ∙ sym (asks_none word old words b none other)
asks_once word old words a b (option name rest behind setting is opt known spelled asks) other =
    asks_once word (with_setting setting old) behind a b asks
    (asks_behind word old name words rest is b setting behind opt spelled other)
asks_once word old words a b (file name rest others is none asks same) other =
    let left = asks_file word old name words rest is b none other in
    same ∙ ap (with_file (string_bytes name)) (asks_once word old rest others left.0 asks left.1) ∙ sym left.2
asks_once word old words a b (hyphens name rest is two shown) other =
    shown ∙ sym (asks_hyphens word old name words rest is b two other)
asks_once word old words a b (helps name rest is is-help shown) other =
    shown ∙ sym (asks_help word old name words rest is b is-help other)

-- Words with a needless order, or with options that exclude each other, ask for nothing.
pub refused_asks_nothing : (word : Word) (words : List (String Global)) (choices : Choices) (files : List (List ℕ))
    → AsksWith word default_choices words (look choices files) → HasNeedlessOrder word choices ⊎ HasClash choices
    → (wanted : Wanted) → AsksOf word words wanted → ⊥
refused_asks_nothing word words choices files asks refused wanted (wish, other, taken, is) =
    let same = asks_once word default_choices words wish (look choices files) other asks in
    let none : IsTaken word (look choices files) = subst (λ (z : Wish). IsTaken word z) same taken in
    either none.0 none.1 refused
  where
    either : {A B : Type 0} → (A → ⊥) → (B → ⊥) → A ⊎ B → ⊥
    either first second (inl a) = first a
    either first second (inr b) = second b

pub empty_of : (words : List (String Global)) → length words ≡ 0 → words ≡ []
empty_of [] none = refl
empty_of (word ∷ words) none = absurd (grind (arith, none))

-- Words that name no topic ask for no help.
pub no_topic : (first : List ℕ) (words : List (String Global)) (wanted : Wanted)
    → (first ≡ codes "--version" → ⊥) → ((about : Topic) → NamesTopic words about → ⊥)
    → AsksAbout first words wanted → ⊥
no_topic first words wanted no_version none (version is empty same) = no_version is
no_topic first words wanted no_version none (topic which is names same) = none which names

-- Two words of one name are the same.
same_word : (a b : Word) → word_name a ≡ word_name b → a ≡ b
same_word a b same = grind arith

-- The name of a word for a look at files asks for no version and for no help.
about_no_word : (word : Word) (first : List ℕ) (words : List (String Global)) (wanted : Wanted)
    → first ≡ word_name word → AsksAbout first words wanted → ⊥
about_no_word w.Check first words wanted named (version is none same) = grind (arith, named, is)
about_no_word (w.Show v.Titles) first words wanted named (version is none same) = grind (arith, named, is)
about_no_word (w.Show v.Notation) first words wanted named (version is none same) = grind (arith, named, is)
about_no_word (w.Show v.Json) first words wanted named (version is none same) = grind (arith, named, is)
about_no_word w.Encode first words wanted named (version is none same) = grind (arith, named, is)
about_no_word w.Canon first words wanted named (version is none same) = grind (arith, named, is)
about_no_word w.Recode first words wanted named (version is none same) = grind (arith, named, is)
about_no_word w.Check first words wanted named (topic which is names same) = grind (arith, named, is)
about_no_word (w.Show v.Titles) first words wanted named (topic which is names same) = grind (arith, named, is)
about_no_word (w.Show v.Notation) first words wanted named (topic which is names same) = grind (arith, named, is)
about_no_word (w.Show v.Json) first words wanted named (topic which is names same) = grind (arith, named, is)
about_no_word w.Encode first words wanted named (topic which is names same) = grind (arith, named, is)
about_no_word w.Canon first words wanted named (topic which is names same) = grind (arith, named, is)
about_no_word w.Recode first words wanted named (topic which is names same) = grind (arith, named, is)

module _ (name : String Global) (words rest : List (String Global)) (is : words ≡ name ∷ rest) where
  -- If the first word is a word for a look at files, the words ask for a look or its help.
  pub asks_of : (word : Word) (wanted : Wanted) → string_bytes name ≡ word_name word → AsksFor words wanted
      → AsksOf word rest wanted
  asks_of word wanted named (of first after other at called asks) =
      let firsts = same_first name first rest after (sym is ∙ at) in
      let called' : string_bytes name ≡ word_name other = rw firsts.0 at called in
      rw (same_word other word (sym called' ∙ named), firsts.1) at asks
  asks_of word wanted named (about first after at asks) =
      let firsts = same_first name first rest after (sym is ∙ at) in
      absurd (about_no_word word (string_bytes name) after wanted named (rw firsts.0 at asks))

  -- If the first word is another word, the words ask for the version or for help.
  pub asks_about : (wanted : Wanted) → ((word : Word) → string_bytes name ≡ word_name word → ⊥) → AsksFor words wanted
      → AsksAbout (string_bytes name) rest wanted
  asks_about wanted no_word (of first after other at called asks) =
      let firsts = same_first name first rest after (sym is ∙ at) in
      absurd (no_word other (rw firsts.0 at called))
  asks_about wanted no_word (about first after at asks) =
      let firsts = same_first name first rest after (sym is ∙ at) in
      rw (firsts.0, firsts.1) at asks

pub map_ok : {T E : Type 0} {P Q : T → Type 0} (r : Result T E) → ((x : T) → P x → Q x) → IfOk r P → IfOk r Q
map_ok (Ok x) f p = f x p
map_ok (Err e) f p = tt

pub map_err : {T E : Type 0} {P Q : E → Type 0} (r : Result T E) → ((x : E) → P x → Q x) → IfErr r P → IfErr r Q
map_err (Ok x) f p = tt
map_err (Err e) f p = f e p
