-- A request is spelled in ASCII, and the program cuts it at the ends of its words.
use Rattle.std.proofs.Common.{if◌then◌else◌, ◌*◌, ◌+◌, ◌∙◌, sym, ap, IfOk, IfSome, Result, Ok, Err}
use Rattle.std.proofs.Common.{◌≡◌, ◌≢◌, ◌<◌, ◌==◌, ℕ, suc, zero, List, [], ◌∷◌, ◌++◌, length, get_or, Option, Some}
use Rattle.std.proofs.Common.{None, MatchOption, IfNone, Result, Ok, Err, Bool, true, not}
use Rattle.std.proofs.Common.{nat_lt, codes, refl, arith, IsUtf8, Bor}
use Rattle.std.specs.List.{AllPass, list_all}
use Rattle.std.specs.Str.{IsAscii}
use Rattle.std.proofs.lemmas.Str.{IsAscii-append, IsUtf8-from_ascii}
use Rattle.std.proofs.lemmas.Str.Pattern.{IsSplitOnceResult, split_after}
use Rattle.std.proofs.lemmas.Fmt.{IsAscii-from_digits}
use Rattle.std.proofs.lemmas.Str.Ascii.{IsAscii-cons, IsAscii-from_all, IsAscii-nil}
use Rattle.hex.specs.Hex.{decode_of, is_hex_digit}
use Rattle.hex.specs.declared.error.FromHexError.{FromHexError}
use Rattle.hex.proofs.HexLemmas.{decode_of-ok}
use Rattle.tool_requests.specs.Number.{IsLimit, IsNumber, IsNumberUpTo, most_depth, most_number, most_size}
use Rattle.tool_requests.specs.Request.{Asks, Spells, SpellsLimited, SpellsNumbered, command_of, space, name_of}
use Rattle.tool_requests.specs.declared.request.Command.{Command}
use Rattle.tool_requests.specs.declared.request.Command.TheVariants as command
use Rattle.tool_requests.specs.declared.request.Limited.{Limited}
use Rattle.tool_requests.specs.declared.request.Numbered.{Numbered}
use Rattle.tool_requests.specs.Word.{bytes_of_word, decoded}
use Rattle.tool_requests.specs.declared.request.Request.{Request}
use Rattle.tool_requests.specs.declared.request.Request.TheVariants.{Bytes, Chunks, Heads, Recode, Skip}
use Rattle.tool_requests.specs.declared.request.Request.TheVariants.{Strict, Text}
use Rattle.tool_requests.proofs.NumberLaws.{limit_has_no_space, number_has_no_space}

-- If a word decodes to bytes, the decoder's answer is `Ok`.
decoded-some : (r : Result (List ℕ) FromHexError) (bytes : List ℕ) → decoded r ≡ Some bytes → r ≡ Ok bytes
decoded-some (Ok found) bytes h = cc h
decoded-some (Err e) bytes h = cc h

-- A hexadecimal digit is ASCII.
is_hex_digit-below : (c : ℕ) → is_hex_digit c ≡ true → c < 128
is_hex_digit-below c h = grind (arith)

-- A word of hexadecimal digits is ASCII.
IsAscii-digits : (word : List ℕ) → AllPass is_hex_digit word → IsAscii word
IsAscii-digits word h = IsAscii-from_all word (λ k d below. is_hex_digit-below _ (h k d below))

-- A word that has bytes is ASCII.
IsAscii-word : (word bytes : List ℕ) → bytes_of_word word ≡ Some bytes → IsAscii word
IsAscii-word [] bytes h = cc h
IsAscii-word (digit ∷ []) bytes h =
    let dash : digit ≡ 45 = grind (arith) in IsAscii-cons digit [] (omega arith) IsAscii-nil
IsAscii-word (high ∷ low ∷ rest) bytes h =
    let digits = decode_of-ok (high ∷ low ∷ rest) bytes (decoded-some (decode_of (high ∷ low ∷ rest)) bytes h) in
    IsAscii-digits (high ∷ low ∷ rest) digits.1

-- A text is ASCII if a test of each byte says so.
IsAscii-from_test : (text : List ℕ) → list_all (λ byte. nat_lt byte 128) text ≡ true → IsAscii text
IsAscii-from_test [] h = IsAscii-nil
IsAscii-from_test (byte ∷ rest) h =
    IsAscii-cons byte rest (grind (arith)) (IsAscii-from_test rest (grind (arith)))

-- The word of a number is ASCII.
IsAscii-number : (word : List ℕ) (n : ℕ) → IsNumber word n → IsAscii word
IsAscii-number word n is = IsAscii-from_digits word is.numeral.1

-- The word of a limit is ASCII.
IsAscii-limit : (word : List ℕ) (limit : Option ℕ) → IsLimit word limit → IsAscii word
IsAscii-limit word None is = rw is (IsAscii-from_test (codes "*") refl)
IsAscii-limit word (Some n) is = IsAscii-number word n is

-- Two ASCII words with a space between them are ASCII.
IsAscii-two : (first word : List ℕ) → IsAscii first → IsAscii word → IsAscii (first ++ (space ∷ word))
IsAscii-two first word left right =
    IsAscii-append first (space ∷ word) left (IsAscii-cons space word (omega arith) right)

-- A number and bytes are ASCII.
IsAscii-numbered : (most : ℕ) (words : List ℕ) (asked : Numbered) → SpellsNumbered most words asked → IsAscii words
IsAscii-numbered most words asked (first, word, parts, number, has) =
    rw parts (IsAscii-two first word (IsAscii-number first asked.number number.0)
    (IsAscii-word word asked.bytes.items has))

-- A limit and bytes are ASCII.
IsAscii-limited : (words : List ℕ) (asked : Limited) → SpellsLimited words asked → IsAscii words
IsAscii-limited words asked (first, word, parts, limit, has) =
    rw parts (IsAscii-two first word (IsAscii-limit first asked.limit limit) (IsAscii-word word asked.bytes.items has))

-- The words of a request are ASCII.
IsAscii-words : (words : List ℕ) (request : Request) → Spells words request → IsAscii words
IsAscii-words words (Heads bytes) has = IsAscii-word words bytes.items has
IsAscii-words words (Chunks asked) spelled = IsAscii-numbered most_size words asked spelled
IsAscii-words words (Bytes asked) spelled = IsAscii-limited words asked spelled
IsAscii-words words (Text asked) spelled = IsAscii-limited words asked spelled
IsAscii-words words (Recode asked) spelled = IsAscii-numbered most_number words asked spelled
IsAscii-words words (Strict asked) spelled = IsAscii-numbered most_number words asked spelled
IsAscii-words words (Skip asked) spelled = IsAscii-numbered most_depth words asked spelled

-- The first word of a line is ASCII.
IsAscii-first : (asks : Command) → IsAscii (name_of asks)
IsAscii-first command.Heads = IsAscii-from_test (codes "heads") refl
IsAscii-first command.Chunks = IsAscii-from_test (codes "chunks") refl
IsAscii-first command.Bytes = IsAscii-from_test (codes "bytes") refl
IsAscii-first command.Text = IsAscii-from_test (codes "text") refl
IsAscii-first command.Recode = IsAscii-from_test (codes "recode") refl
IsAscii-first command.Strict = IsAscii-from_test (codes "strict") refl
IsAscii-first command.Skip = IsAscii-from_test (codes "skip") refl

-- A request is UTF-8.
pub IsUtf8-request : (line : List ℕ) (request : Request) → Asks line request → IsUtf8 line
IsUtf8-request line request (words, parts, spelled) =
    rw parts (IsUtf8-from_ascii _ (IsAscii-two (name_of (command_of request)) words (IsAscii-first (command_of request))
    (IsAscii-words words request spelled)))

-- ---- cuts of a line

-- A test of each byte says whether a list holds no space.
abbrev has_no_space : List ℕ → Bool
has_no_space bytes = list_all (λ byte. not (byte == space)) bytes

no_space_at : (bytes : List ℕ) → has_no_space bytes ≡ true → (i : ℕ) → i < length bytes → get_or bytes i 0 ≢ space
no_space_at [] h i within = absurd (omega (arith, within))
no_space_at (byte ∷ rest) h zero within = λ same. absurd (grind (arith))
no_space_at (byte ∷ rest) h (suc i) within = no_space_at rest (grind (arith)) i (omega (arith, within))

-- No first word holds a space.
first_has_no_space : (asks : Command) → (i : ℕ) → i < length (name_of asks) → get_or (name_of asks) i 0 ≢ space
first_has_no_space command.Heads = no_space_at (codes "heads") refl
first_has_no_space command.Chunks = no_space_at (codes "chunks") refl
first_has_no_space command.Bytes = no_space_at (codes "bytes") refl
first_has_no_space command.Text = no_space_at (codes "text") refl
first_has_no_space command.Recode = no_space_at (codes "recode") refl
first_has_no_space command.Strict = no_space_at (codes "strict") refl
first_has_no_space command.Skip = no_space_at (codes "skip") refl

-- The first space of a request follows its first word.
pub cut_behind_first : (line : List ℕ) (r : Option (Bor (List ℕ) × Bor (List ℕ))) → IsSplitOnceResult space line r
    → (request : Request) → Asks line request → MatchOption r ⊥
    (λ x. (x.0.now ≡ name_of (command_of request)) × Spells x.1.now request)
cut_behind_first line None cut request (words, parts, spelled) =
    split_after space line (name_of (command_of request)) words None cut (omega arith) parts
    (first_has_no_space (command_of request))
cut_behind_first line (Some x) cut request (words, parts, spelled) =
    let same = split_after space line (name_of (command_of request)) words (Some x) cut (omega arith) parts
    (first_has_no_space (command_of request)) in
    (same.0, rw same.1 spelled)

-- The command by a number that the first two bytes of its word give.
abbrev command_at : ℕ → Command
command_at initials =
    if initials == 26725 then command.Heads else
    if initials == 25448 then command.Chunks else
    if initials == 25209 then command.Bytes else
    if initials == 29797 then command.Text else
    if initials == 29285 then command.Recode else
    if initials == 29556 then command.Strict else
    command.Skip

abbrev initials : List ℕ → ℕ
initials [] = 0
initials (first ∷ []) = first
initials (first ∷ second ∷ bytes) = 256 * first + second

command_at-first : (asks : Command) → command_at (initials (name_of asks)) ≡ asks
command_at-first command.Heads = refl
command_at-first command.Chunks = refl
command_at-first command.Bytes = refl
command_at-first command.Text = refl
command_at-first command.Recode = refl
command_at-first command.Strict = refl
command_at-first command.Skip = refl

-- A first word belongs to one command only.
same_command : (one other : Command) → name_of one ≡ name_of other → one ≡ other
same_command one other same =
    sym (command_at-first one) ∙ (ap (λ word. command_at (initials word)) same ∙ command_at-first other)

-- A line whose words spell no request of its command is no request.
pub none_of_line : {E : Type 0} (line name words : List ℕ) (asks : Command)
    (result : Result (Option Request) E)
    → name ≡ name_of asks
    → ((request : Request) → Asks line request → (name ≡ name_of (command_of request)) × Spells words request)
    → IfOk result (λ found. IfNone found ((request : Request) → command_of request ≡ asks → Spells words request → ⊥))
    → IfOk result (λ found. IfNone found ((request : Request) → Asks line request → ⊥))
none_of_line line name words asks (Err e) is cut refused = _
none_of_line line name words asks (Ok (Some found)) is cut refused = _
none_of_line line name words asks (Ok None) is cut refused = λ request asked.
    let parts = cut request asked in
    refused request (same_command _ _ (sym parts.0 ∙ is)) parts.1

-- A line whose words spell a request of its command is that request.
pub some_of_line : {E : Type 0} (line name words : List ℕ) (asks : Command)
    (result : Result (Option Request) E)
    → name ≡ name_of asks → line ≡ name ++ (space ∷ words)
    → IfOk result (λ found. IfSome found (λ request. (command_of request ≡ asks) × Spells words request))
    → IfOk result (λ found. IfSome found (Asks line))
some_of_line line name words asks (Err e) is parts spelled = _
some_of_line line name words asks (Ok None) is parts spelled = _
some_of_line line name words asks (Ok (Some request)) is parts spelled =
    (words, parts ∙ ap (λ first. first ++ (space ∷ words)) (is ∙ ap name_of (sym spelled.0)), spelled.1)

-- The first space of a number and bytes follows the number.
pub cut_behind_number : (most : ℕ) (words : List ℕ) (r : Option (Bor (List ℕ) × Bor (List ℕ)))
    → IsSplitOnceResult space words r → (asked : Numbered) → SpellsNumbered most words asked
    → MatchOption r ⊥ (λ x. IsNumberUpTo most x.0.now asked.number × (bytes_of_word x.1.now ≡ Some asked.bytes.items))
cut_behind_number most words None cut asked (first, word, parts, number, has) =
    split_after space words first word None cut (omega arith) parts (number_has_no_space first asked.number number.0)
cut_behind_number most words (Some x) cut asked (first, word, parts, number, has) =
    let same = split_after space words first word (Some x) cut (omega arith) parts
    (number_has_no_space first asked.number number.0) in
    (rw same.0 number, rw same.1 has)

-- The first space of a limit and bytes follows the limit.
pub cut_behind_limit : (words : List ℕ) (r : Option (Bor (List ℕ) × Bor (List ℕ))) → IsSplitOnceResult space words r
    → (asked : Limited) → SpellsLimited words asked
    → MatchOption r ⊥ (λ x. IsLimit x.0.now asked.limit × (bytes_of_word x.1.now ≡ Some asked.bytes.items))
cut_behind_limit words None cut asked (first, word, parts, limit, has) =
    split_after space words first word None cut (omega arith) parts (limit_has_no_space first asked.limit limit)
cut_behind_limit words (Some x) cut asked (first, word, parts, limit, has) =
    let same = split_after space words first word (Some x) cut (omega arith) parts
    (limit_has_no_space first asked.limit limit) in
    (rw same.0 limit, rw same.1 has)

-- ---- words that are refused are no request of the command

pub none_of_chunks : (asks : Command) → asks ≡ command.Chunks → (words : List ℕ) → ((asked : Numbered) → SpellsNumbered most_size words asked → ⊥)
    → (request : Request) → command_of request ≡ asks → Spells words request → ⊥
none_of_chunks asks is words refused (Heads bytes) same spelled = cc (is, same)
none_of_chunks asks is words refused (Chunks asked) same spelled = refused asked spelled
none_of_chunks asks is words refused (Bytes asked) same spelled = cc (is, same)
none_of_chunks asks is words refused (Text asked) same spelled = cc (is, same)
none_of_chunks asks is words refused (Recode asked) same spelled = cc (is, same)
none_of_chunks asks is words refused (Strict asked) same spelled = cc (is, same)
none_of_chunks asks is words refused (Skip asked) same spelled = cc (is, same)

pub none_of_bytes : (asks : Command) → asks ≡ command.Bytes → (words : List ℕ) → ((asked : Limited) → SpellsLimited words asked → ⊥)
    → (request : Request) → command_of request ≡ asks → Spells words request → ⊥
none_of_bytes asks is words refused (Heads bytes) same spelled = cc (is, same)
none_of_bytes asks is words refused (Chunks asked) same spelled = cc (is, same)
none_of_bytes asks is words refused (Bytes asked) same spelled = refused asked spelled
none_of_bytes asks is words refused (Text asked) same spelled = cc (is, same)
none_of_bytes asks is words refused (Recode asked) same spelled = cc (is, same)
none_of_bytes asks is words refused (Strict asked) same spelled = cc (is, same)
none_of_bytes asks is words refused (Skip asked) same spelled = cc (is, same)

pub none_of_text : (asks : Command) → asks ≡ command.Text → (words : List ℕ) → ((asked : Limited) → SpellsLimited words asked → ⊥)
    → (request : Request) → command_of request ≡ asks → Spells words request → ⊥
none_of_text asks is words refused (Heads bytes) same spelled = cc (is, same)
none_of_text asks is words refused (Chunks asked) same spelled = cc (is, same)
none_of_text asks is words refused (Bytes asked) same spelled = cc (is, same)
none_of_text asks is words refused (Text asked) same spelled = refused asked spelled
none_of_text asks is words refused (Recode asked) same spelled = cc (is, same)
none_of_text asks is words refused (Strict asked) same spelled = cc (is, same)
none_of_text asks is words refused (Skip asked) same spelled = cc (is, same)

pub none_of_recode : (asks : Command) → asks ≡ command.Recode → (words : List ℕ) → ((asked : Numbered) → SpellsNumbered most_number words asked → ⊥)
    → (request : Request) → command_of request ≡ asks → Spells words request → ⊥
none_of_recode asks is words refused (Heads bytes) same spelled = cc (is, same)
none_of_recode asks is words refused (Chunks asked) same spelled = cc (is, same)
none_of_recode asks is words refused (Bytes asked) same spelled = cc (is, same)
none_of_recode asks is words refused (Text asked) same spelled = cc (is, same)
none_of_recode asks is words refused (Recode asked) same spelled = refused asked spelled
none_of_recode asks is words refused (Strict asked) same spelled = cc (is, same)
none_of_recode asks is words refused (Skip asked) same spelled = cc (is, same)

pub none_of_strict : (asks : Command) → asks ≡ command.Strict → (words : List ℕ) → ((asked : Numbered) → SpellsNumbered most_number words asked → ⊥)
    → (request : Request) → command_of request ≡ asks → Spells words request → ⊥
none_of_strict asks is words refused (Heads bytes) same spelled = cc (is, same)
none_of_strict asks is words refused (Chunks asked) same spelled = cc (is, same)
none_of_strict asks is words refused (Bytes asked) same spelled = cc (is, same)
none_of_strict asks is words refused (Text asked) same spelled = cc (is, same)
none_of_strict asks is words refused (Recode asked) same spelled = cc (is, same)
none_of_strict asks is words refused (Strict asked) same spelled = refused asked spelled
none_of_strict asks is words refused (Skip asked) same spelled = cc (is, same)

pub none_of_skip : (asks : Command) → asks ≡ command.Skip → (words : List ℕ) → ((asked : Numbered) → SpellsNumbered most_depth words asked → ⊥)
    → (request : Request) → command_of request ≡ asks → Spells words request → ⊥
none_of_skip asks is words refused (Heads bytes) same spelled = cc (is, same)
none_of_skip asks is words refused (Chunks asked) same spelled = cc (is, same)
none_of_skip asks is words refused (Bytes asked) same spelled = cc (is, same)
none_of_skip asks is words refused (Text asked) same spelled = cc (is, same)
none_of_skip asks is words refused (Recode asked) same spelled = cc (is, same)
none_of_skip asks is words refused (Strict asked) same spelled = cc (is, same)
none_of_skip asks is words refused (Skip asked) same spelled = refused asked spelled
