-- The text of a body as its bytes pass is the text of its characters.
use Rattle.std.proofs.Common.{◌≡◌, ◌∙◌, ℕ, ◌+◌, ◌/◌, ◌%◌, ◌<◌, ◌≤◌, ◌==◌, Bool, true, false, if◌then◌else◌, List, []}
use Rattle.std.proofs.Common.{◌∷◌, ◌++◌, append_assoc, append-nil, ap, arith, drop, drop-drop, inl, inr, nat_lt}
use Rattle.std.proofs.Common.{length, length-drop, refl, subst, sym, take, take-append-drop}
use Rattle.std.specs.Array.{IsFirstChunk}
use Rattle.std.specs.Prelude.{Err, IfOk, Ok, Result}
use Rattle.std.proofs.lemmas.Bool.{cases_lt}
use Rattle.std.proofs.lemmas.Bool.Decides.{nat_tests}
use Rattle.std.proofs.lemmas.Str.{chars-encodes, encode_ascii}
use Rattle.std.proofs.Math.Utf8.{encode, encodes}
use Rattle.std.specs.Str.{chars}
use Rattle.base64.specs.Rfc4648.{encode_symbols}
use Rattle.ciborium_ll.specs.Strings.{Bytes, IsWritable, Kind, Text}
use Rattle.ciborium_ll_text.proofs.Utf8Laws.{to_std}
use Rattle.cbor_escapes.specs.Escapes.{AreUnescaped, IsUnescaped, escape_text, is_acted_on}
use Rattle.cbor_escapes.proofs.UnescapedLaws.{rest_unescaped}
use Rattle.cbor_diag.specs.declared.strings.held.Held.{Held}
use Rattle.cbor_diag.specs.declared.strings.held.Held.TheVariants as h
use Rattle.cbor_diag.specs.declared.strings.quotes.Quotes.{Quotes}
use Rattle.cbor_diag.specs.declared.strings.quotes.Quotes.TheVariants as q
use Rattle.cbor_diag.specs.StringShows.{kind_quotes}
use Rattle.cbor_diag.specs.Notation.{body_text, bytes_notation, character_notation, characters_notation}
use Rattle.cbor_diag.specs.Passing.{byte_held, byte_notation, is_lead, passed_held, passed_text, shown_character}
use Rattle.cbor_diag.specs.Passing.{three_code, two_code}

-- The text of bytes and of the bytes after them is the text of both.
pub passed_text-append : (quotes : Quotes) (held : Held) (xs ys : List ℕ)
    → passed_text quotes held (xs ++ ys)
    ≡ passed_text quotes held xs ++ passed_text quotes (passed_held quotes held xs) ys
passed_text-append quotes held [] ys = refl
passed_text-append quotes held (x ∷ xs) ys =
    rw (passed_text-append quotes (byte_held quotes held x) xs ys, append_assoc)

-- After bytes and the bytes after them the same is held as after both.
pub passed_held-append : (quotes : Quotes) (held : Held) (xs ys : List ℕ)
    → passed_held quotes held (xs ++ ys) ≡ passed_held quotes (passed_held quotes held xs) ys
passed_held-append quotes held [] ys = refl
passed_held-append quotes held (x ∷ xs) ys = passed_held-append quotes (byte_held quotes held x) xs ys

-- If the first bytes from an index on stand for themselves, the text of the bytes from there on begins with them.
pub passed_front : (quotes : Quotes) (held : Held) (at len : ℕ) (xs : List ℕ)
    → passed_text quotes held (take len (drop at xs)) ≡ take len (drop at xs)
    → passed_held quotes held (take len (drop at xs)) ≡ held
    → (passed_text quotes held (drop at xs)
    ≡ take len (drop at xs) ++ passed_text quotes held (drop (at + len) xs))
    × (passed_held quotes held (drop at xs) ≡ passed_held quotes held (drop (at + len) xs))
passed_front quotes held at len xs text stays =
    let front = take len (drop at xs) in
    let behind = drop len (drop at xs) in
    let whole : drop at xs ≡ front ++ behind = sym (take-append-drop len (drop at xs)) in
    let far : behind ≡ drop (at + len) xs = drop-drop len at xs in (
      ap (passed_text quotes held) whole
          ∙ (passed_text-append quotes held front behind ∙ rw (text, stays, far) refl),
      ap (passed_held quotes held) whole
          ∙ (passed_held-append quotes held front behind ∙ rw (stays, far) refl),
    )

-- ---- one character

on : {A : Type 0} (test : Bool) (x y : A) → test ≡ true → (if test then x else y) ≡ x
on true x y is = refl
on false x y is = absurd (cc)

off : {A : Type 0} (test : Bool) (x y : A) → test ≡ false → (if test then x else y) ≡ y
off true x y is = absurd (cc)
off false x y is = refl

-- The bytes that passed have this text, and none is held.
record IsShownAs (bytes text : List ℕ) : Type 0 where
  pub text_is : passed_text q.Text h.Nothing bytes ≡ text
  pub none : passed_held q.Text h.Nothing bytes ≡ h.Nothing

-- A byte that begins no character of two or three bytes is followed by the text of the bytes after it.
alone : (byte : ℕ) (bytes text : List ℕ) → is_lead byte ≡ false → IsShownAs bytes text
    → IsShownAs (byte ∷ bytes) (byte_notation byte ++ text)
alone byte bytes text is rest = record {
  text_is = rw (
    off (is_lead byte) [] (byte_notation byte) is,
    off (is_lead byte) (h.One byte) h.Nothing is,
    rest.text_is,
  ) refl;
  none = rw (off (is_lead byte) (h.One byte) h.Nothing is) rest.none;
}

nothing : IsShownAs [] []
nothing = record { text_is = refl; none = refl }

-- A byte that is no ASCII stands for itself.
itself : (byte : ℕ) → 128 ≤ byte → byte_notation byte ≡ byte ∷ []
itself byte high = off (nat_lt byte 128) (character_notation byte) (byte ∷ []) (grind (arith, nat_tests))

-- Only the tests of single characters come before the test of `is_acted_on`.
behind_ascii : (c : ℕ) (acted : Bool) (one other : List ℕ) → 128 ≤ c
    → (if c == 34 then 92 ∷ 34 ∷ []
    else (if c == 92 then 92 ∷ 92 ∷ []
    else (if c == 8 then 92 ∷ 98 ∷ []
    else (if c == 9 then 92 ∷ 116 ∷ []
    else (if c == 10 then 92 ∷ 110 ∷ []
    else (if c == 12 then 92 ∷ 102 ∷ []
    else (if c == 13 then 92 ∷ 114 ∷ []
    else (if acted then one else other))))))))
    ≡ (if acted then one else other)
behind_ascii c acted one other high = grind (arith, nat_tests)

-- A character after ASCII is shown as its bytes or its escape.
high_notation : (c : ℕ) → 128 ≤ c → character_notation c ≡ shown_character c (encode c)
high_notation c high = behind_ascii c (is_acted_on c) (escape_text c) (encode c) high

one_byte : (c : ℕ) → c < 128 → IsShownAs (c ∷ []) (character_notation c)
one_byte c low =
    let shown = alone c [] [] (grind (arith, nat_tests)) nothing in
    subst (λ (z : List ℕ). IsShownAs (c ∷ []) z)
    (append-nil (byte_notation c) ∙ on (nat_lt c 128) (character_notation c) (c ∷ []) (grind (arith, nat_tests))) shown

two_bytes : (a b : ℕ) → is_lead a ≡ true → a < 0xe0
    → IsShownAs (a ∷ b ∷ []) (shown_character (two_code a b) (a ∷ b ∷ []))
two_bytes a b lead low =
    let two : nat_lt a 0xe0 ≡ true = grind (arith, nat_tests) in
    let shown = shown_character (two_code a b) (a ∷ b ∷ []) in
    record {
      text_is = rw (
        on (is_lead a) [] (byte_notation a) lead,
        on (is_lead a) (h.One a) h.Nothing lead,
        on (nat_lt a 0xe0) shown [] two,
      ) (append-nil shown);
      none = rw (on (is_lead a) (h.One a) h.Nothing lead, on (nat_lt a 0xe0) h.Nothing (h.Two a b) two) refl;
    }

three_bytes : (a b c : ℕ) → is_lead a ≡ true → 0xe0 ≤ a
    → IsShownAs (a ∷ b ∷ c ∷ []) (shown_character (three_code a b c) (a ∷ b ∷ c ∷ []))
three_bytes a b c lead high =
    let three : nat_lt a 0xe0 ≡ false = grind (arith, nat_tests) in
    let two = shown_character (two_code a b) (a ∷ b ∷ []) in
    record {
      text_is = rw (
        on (is_lead a) [] (byte_notation a) lead,
        on (is_lead a) (h.One a) h.Nothing lead,
        off (nat_lt a 0xe0) two [] three,
        off (nat_lt a 0xe0) h.Nothing (h.Two a b) three,
      )
          (append-nil (shown_character (three_code a b c) (a ∷ b ∷ c ∷ [])));
      none = rw (on (is_lead a) (h.One a) h.Nothing lead, off (nat_lt a 0xe0) h.Nothing (h.Two a b) three) refl;
    }

itself_first : (byte : ℕ) (bytes : List ℕ) → 128 ≤ byte → is_lead byte ≡ false → IsShownAs bytes bytes
    → IsShownAs (byte ∷ bytes) (byte ∷ bytes)
itself_first byte bytes high is rest =
    subst (λ (z : List ℕ). IsShownAs (byte ∷ bytes) (z ++ bytes)) (itself byte high) (alone byte bytes bytes is rest)

-- Bytes of a character of this code that are shown as its bytes or its escape are shown as the character.
settled : (c code : ℕ) (bytes : List ℕ) → 128 ≤ c → encode c ≡ bytes → code ≡ c
    → IsShownAs bytes (shown_character code bytes) → IsShownAs (encode c) (character_notation c)
settled c code bytes high is same shown =
    subst (λ (z : List ℕ). IsShownAs (encode c) z) (sym (high_notation c high))
    (subst (λ (z : List ℕ). IsShownAs z (shown_character c z)) (sym is)
    (subst (λ (z : ℕ). IsShownAs bytes (shown_character z bytes)) same shown))

encode_two : (c : ℕ) → 128 ≤ c → c < 2048 → encode c ≡ (192 + c / 64) ∷ (128 + c % 64) ∷ []
unfolding encode
encode_two c high low = grind (arith, nat_tests)

encode_three : (c : ℕ) → 2048 ≤ c → c < 65536
    → encode c ≡ (224 + c / 4096) ∷ (128 + (c / 64) % 64) ∷ (128 + c % 64) ∷ []
unfolding encode
encode_three c high low = grind (arith, nat_tests)

encode_four : (c : ℕ) → 65536 ≤ c
    → encode c ≡ (240 + c / 262144) ∷ (128 + (c / 4096) % 64) ∷ (128 + (c / 64) % 64) ∷ (128 + c % 64) ∷ []
unfolding encode
encode_four c high = grind (arith, nat_tests)

shown_two : (c : ℕ) → 128 ≤ c → c < 2048 → IsShownAs (encode c) (character_notation c)
shown_two c high low =
    let a = 192 + c / 64 in
    let b = 128 + c % 64 in
    settled c (two_code a b) (a ∷ b ∷ []) high (encode_two c high low) (omega arith)
    (two_bytes a b (grind (arith, nat_tests)) (omega arith))

shown_three : (c : ℕ) → 2048 ≤ c → c < 65536 → IsShownAs (encode c) (character_notation c)
shown_three c high low =
    let a = 224 + c / 4096 in
    let b = 128 + (c / 64) % 64 in
    let d = 128 + c % 64 in
    settled c (three_code a b d) (a ∷ b ∷ d ∷ []) (omega arith) (encode_three c high low) (omega arith)
    (three_bytes a b d (grind (arith, nat_tests)) (omega arith))

-- A tail of a character begins none.
tail_no_lead : (n : ℕ) → is_lead (128 + n % 64) ≡ false
tail_no_lead n = grind (arith, nat_tests)

shown_four : (c : ℕ) → 65536 ≤ c → IsShownAs (encode c) (character_notation c)
shown_four c high =
    let a = 240 + c / 262144 in
    let b = 128 + (c / 4096) % 64 in
    let d = 128 + (c / 64) % 64 in
    let e = 128 + c % 64 in
    let bytes = a ∷ b ∷ d ∷ e ∷ [] in
    let shown = itself_first a (b ∷ d ∷ e ∷ []) (omega arith) (grind (arith, nat_tests))
    (itself_first b (d ∷ e ∷ []) (omega arith) (tail_no_lead (c / 4096))
    (itself_first d (e ∷ []) (omega arith) (tail_no_lead (c / 64))
    (itself_first e [] (omega arith) (tail_no_lead c) nothing))) in
    settled c c bytes (omega arith) (encode_four c high) refl
    (subst (λ (z : List ℕ). IsShownAs bytes z)
    (sym (off (is_acted_on c) (escape_text c) bytes (grind (arith, nat_tests)))) shown)

-- The bytes of one character give its text.
one_shown : (c : ℕ) → IsShownAs (encode c) (character_notation c)
one_shown c =
    elim (cases_lt c 128) [
      | inl low ↦ subst (λ (z : List ℕ). IsShownAs z (character_notation c)) (sym (encode_ascii c low)) (one_byte c low)
      | inr high ↦ elim (cases_lt c 2048) [
        | inl low ↦ shown_two c high low
        | inr more ↦ elim (cases_lt c 65536) [
          | inl low ↦ shown_three c more low
          | inr most ↦ shown_four c most
        ]
      ]
    ]

-- ---- bytes that stand for themselves

-- These bytes stand for themselves in a text, and none is held.
abbrev pub StandAlone : List ℕ → Type 0
StandAlone bytes =
    (passed_text q.Text h.Nothing bytes ≡ bytes) × (passed_held q.Text h.Nothing bytes ≡ h.Nothing)

-- One more byte that stands for itself follows the others.
pub stand_more : (bytes : List ℕ) (byte : ℕ) → StandAlone bytes → byte_notation byte ≡ byte ∷ []
    → is_lead byte ≡ false → StandAlone (bytes ++ byte ∷ [])
stand_more bytes byte so_far itself is =
    let one = alone byte [] [] is nothing in
    let text : passed_text q.Text h.Nothing (byte ∷ []) ≡ byte ∷ [] =
    one.text_is ∙ (append-nil (byte_notation byte) ∙ itself) in (
      passed_text-append q.Text h.Nothing bytes (byte ∷ []) ∙ rw (so_far.1, so_far.0, text) refl,
      passed_held-append q.Text h.Nothing bytes (byte ∷ []) ∙ rw (so_far.1) one.none,
    )

-- A character without an escape stands for itself.
unescaped_itself : (c : ℕ) → IsUnescaped c → (is_lead c ≡ false) × (byte_notation c ≡ c ∷ [])
unescaped_itself c none = (grind (arith, nat_tests, none), grind (arith, nat_tests, encode_ascii, none))

unescaped_shown : (cs : List ℕ) → AreUnescaped cs → IsShownAs cs cs
unescaped_shown [] none = nothing
unescaped_shown (c ∷ cs) none =
    let itself = unescaped_itself c (none 0 (omega arith)) in
    let rest = unescaped_shown cs (rest_unescaped c cs none) in
    subst (λ (z : List ℕ). IsShownAs (c ∷ cs) (z ++ cs)) itself.1 (alone c cs cs itself.0 rest)

-- Characters without escapes stand for themselves.
pub unescaped_stands : (cs : List ℕ) → AreUnescaped cs → StandAlone cs
unescaped_stands cs none = let shown = unescaped_shown cs none in (shown.text_is, shown.none)

-- ---- whole characters

-- Characters give their texts, one after the other.
all_shown : (cs : List ℕ) → IsShownAs (encodes cs) (characters_notation cs)
all_shown [] = nothing
all_shown (c ∷ cs) =
    let first = one_shown c in
    let rest = all_shown cs in
    record {
      text_is = passed_text-append q.Text h.Nothing (encode c) (encodes cs)
          ∙ rw (first.none, first.text_is, rest.text_is) refl;
      none = passed_held-append q.Text h.Nothing (encode c) (encodes cs) ∙ rw (first.none, rest.none) refl;
    }

-- No bytes are held after bytes that are shown by their digits.
digits_held : (held : Held) (bytes : List ℕ) → passed_held q.Hex held bytes ≡ held
digits_held held [] = refl
digits_held held (byte ∷ bytes) = digits_held held bytes

pub held_same : {A B : Type 0} (quotes : Quotes) (held : Held) (bytes : List ℕ) (result : Result A B)
    → quotes ≡ q.Hex → IfOk result (λ _. held ≡ passed_held quotes held bytes)
held_same quotes held bytes (Ok x) is = rw is (sym (digits_held held bytes))
held_same quotes held bytes (Err x) is = tt

-- The digits of bytes and of the bytes after them are the digits of both.
pub digits-append : (xs ys : List ℕ) → bytes_notation (xs ++ ys) ≡ bytes_notation xs ++ bytes_notation ys
digits-append [] ys = refl
digits-append (x ∷ xs) ys = rw (digits-append xs ys, append_assoc) refl

-- The digits of the bytes from an index on begin with those of the first bytes there.
pub digits_front : (at len : ℕ) (xs : List ℕ)
    → bytes_notation (drop at xs) ≡ bytes_notation (take len (drop at xs)) ++ bytes_notation (drop (at + len) xs)
digits_front at len xs =
    ap bytes_notation (sym (take-append-drop len (drop at xs)))
    ∙ (digits-append (take len (drop at xs)) (drop len (drop at xs)) ∙ rw (drop-drop len at xs) refl)

-- If the bytes from an index on begin with a chunk, their digits begin with those of the chunk.
pub chunk_digits : (at len : ℕ) (xs chunk : List ℕ) → at < length xs → IsFirstChunk (drop at xs) chunk len
    → (at + len ≤ length xs)
    × (bytes_notation (drop at xs) ≡ bytes_notation chunk ++ bytes_notation (drop (at + len) xs))
chunk_digits at len xs chunk less is = (
  omega (arith, less, is.enough, length-drop at xs),
  rw is.same (digits_front at len xs),
)

pub digits_passed : (held : Held) (bytes : List ℕ) → passed_text q.Hex held bytes ≡ bytes_notation bytes
digits_passed held [] = refl
digits_passed held (byte ∷ bytes) = rw (digits_passed held bytes) refl

-- The text of whole characters as their bytes pass is the text of the body.
pub passed_body : (kind : Kind) (quotes : Quotes) (bytes : List ℕ) → quotes ≡ kind_quotes kind
    → IsWritable kind bytes → passed_text quotes h.Nothing bytes ≡ body_text quotes bytes
passed_body Bytes quotes bytes is sound = rw is (digits_passed h.Nothing bytes)
passed_body Text quotes bytes is sound =
    let u = to_std bytes sound in
    rw is (subst (λ (z : List ℕ). passed_text q.Text h.Nothing z ≡ characters_notation (chars z)) u.1.1
    ((all_shown u.0).text_is ∙ ap characters_notation (sym (chars-encodes u.0 u.1.0))))

-- No bytes have no text.
pub body_text-nil : (quotes : Quotes) → body_text quotes [] ≡ []
unfolding encode_symbols
body_text-nil q.Hex = refl
body_text-nil q.Text = ap characters_notation (chars-encodes [] refl)
body_text-nil q.Base16 = refl
body_text-nil q.Base64 = refl
body_text-nil q.Base64Url = refl
