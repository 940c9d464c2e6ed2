-- The texts of rows, as they are written step by step.
use Rattle.std.proofs.lemmas.Bool.Decides.{nat_tests}
use Rattle.std.proofs.Common.{◌≡◌, ◌∙◌, ℕ, zero, suc, ◌+◌, ◌<◌, List, [], ◌∷◌, ◌++◌, refl, sym, ap, arith}
use Rattle.std.proofs.Common.{append-nil, append_assoc, length, take, get_or, Option, None, Some, Result, subst}
use Rattle.std.proofs.Common.{◌⊎◌, inl, inr, ◌-◌, ◌*◌, ◌/◌, ◌^◌, ◌≤◌, min, nat_le, length-append, Bool, true, false}
use Rattle.std.proofs.Common.{codes, if◌then◌else◌, le-leb}
use Rattle.std.proofs.lemmas.List.{take_more}
use Rattle.std.proofs.lemmas.Str.{IsUtf8-from_is_utf8, is_utf8-from_IsUtf8}
use Rattle.std.specs.Result.{MatchResult, result_unwrap_or}
use Rattle.std.specs.Str.{IsUtf8, chars, is_utf8}
use Rattle.std.proofs.lemmas.Grind.{put_two}
use Rattle.std.specs.Fmt.{HasWritten, IsPlainFormatter, DisplaysOnOk, WritesOnOk}
use Rattle.std.specs.declared.fmt.Formatter.{Formatter}
use Rattle.ciborium_ll_text.specs.Digits.{hex_text}
use Rattle.cbor_dump.specs.RowTexts.{blank, more_text, characters_text, character_text}
use Rattle.cbor_dump.specs.RowTexts.{shown_text, bytes_key, digits_text, no_key, quoted_text, text_key}
use Rattle.cbor_dump.specs.RowTexts.{IsHeaderValue, IsRowText, IsValue, WritesOneOnOk, known_header, known_of}
use Rattle.cbor_dump.specs.RowTexts.{known_text, row_text}
use Rattle.cbor_dump.specs.declared.rows.Meaning.{Meaning}
use Rattle.cbor_dump.specs.declared.rows.Meaning.TheVariants as m
use Rattle.cbor_dump.specs.declared.rows.Row.{Row}
use Rattle.ciborium_ll.specs.Types.Header.{Header}

-- The digits of one more byte follow after a space.
pub more_more : (bytes : List ℕ) (byte : ℕ) → more_text (bytes ++ byte ∷ []) ≡ more_text bytes ++ (32 ∷ hex_text byte)
more_more [] byte = refl
more_more (first ∷ bytes) byte = ap (λ (z : List ℕ). 32 ∷ (hex_text first ++ z)) (more_more bytes byte)

-- The digits up to the next place add those of one byte.
pub more_at : (bytes : List ℕ) (at : ℕ) → at < length bytes
    → more_text (take (at + 1) bytes) ≡ more_text (take at bytes) ++ (32 ∷ hex_text (get_or bytes at 0))
more_at bytes at less = ap more_text (take_more bytes at 0 less) ∙ more_more (take at bytes) (get_or bytes at 0)

-- Spaces, and a number of spaces after them.
blanks : (some more : ℕ) → blank some ++ blank more ≡ blank (some + more)
blanks zero more = let same : 0 + more ≡ more = omega arith in sym (ap blank same)
blanks (suc some) more =
    let same : suc some + more ≡ suc (some + more) = omega arith in
    ap (λ (z : List ℕ). 32 ∷ z) (blanks some more) ∙ sym (ap blank same)

-- An indent of one more level.
pub one_level_more : (levels : ℕ) → blank (3 * levels) ++ blank 3 ≡ blank (3 * (levels + 1))
one_level_more levels =
    let three : 3 * levels + 3 ≡ 3 * (levels + 1) = omega arith in blanks (3 * levels) 3 ∙ ap blank three

-- The text of one more character follows those of the others.
pub characters_more : (characters : List ℕ) (character : ℕ)
    → characters_text (characters ++ character ∷ []) ≡ characters_text characters ++ character_text character
characters_more [] character = append-nil (character_text character)
characters_more (first ∷ characters) character =
    ap (λ (z : List ℕ). character_text first ++ z) (characters_more characters character)
    ∙ sym (append_assoc (character_text first) (characters_text characters) (character_text character))

-- One more character adds its columns to those that were counted.
pub more_columns : (characters : List ℕ) (character len one sum : ℕ)
    → len ≡ min (length (characters_text characters)) (2 ^ 64 - 1) → one ≡ length (character_text character)
    → sum ≡ min (len + one) (2 ^ 64 - 1)
    → sum ≡ min (length (characters_text (characters ++ character ∷ []))) (2 ^ 64 - 1)
more_columns characters character len one sum counted single added =
    let all = ap length (characters_more characters character)
    ∙ length-append (characters_text characters) (character_text character) in
    omega (arith, counted, single, added, all)

-- Few columns are counted exactly.
pub at_most : (len all most : ℕ) → len ≡ min all (2 ^ 64 - 1) → most ≤ 22 → nat_le len most ≡ nat_le all most
at_most len all most counted few = grind (arith, nat_tests)

-- If the columns have room for it, a byte string is shown.
pub bytes_fit : (most : ℕ) (bytes : List ℕ) → length bytes ≤ most / 3
    → codes "h'" ++ (digits_text bytes ++ codes "'") ≡ bytes_key most bytes
bytes_fit most bytes fits =
    let few : 3 * length bytes ≤ most = omega (arith, fits) in
    rw (le-leb _ _ few) refl

-- A text that has too many columns is not shown.
pub text_cut : (most : ℕ) (bytes text : List ℕ) (fits : Bool) → text ≡ shown_text bytes
    → fits ≡ nat_le (length (characters_text (chars text))) most → fits ≡ false → no_key ≡ text_key most bytes
text_cut most bytes text fits same counted none =
    let long : nat_le (length (characters_text (chars (shown_text bytes)))) most ≡ false =
    subst (λ (z : List ℕ). nat_le (length (characters_text (chars z))) most ≡ false) same (sym counted ∙ none) in
    rw long refl

pub text_fits : (most : ℕ) (bytes text : List ℕ) (fits : Bool) → text ≡ shown_text bytes
    → fits ≡ nat_le (length (characters_text (chars text))) most → fits ≡ true
    → quoted_text text ≡ text_key most bytes
text_fits most bytes text fits same counted some =
    let short : nat_le (length (characters_text (chars (shown_text bytes)))) most ≡ true =
    subst (λ (z : List ℕ). nat_le (length (characters_text (chars z))) most ≡ true) same (sym counted ∙ some) in
    ap quoted_text same ∙ rw short refl

-- A text that is the same between quotes is the key, or two points.
pub bare_fits : (most : ℕ) (bytes text : List ℕ) → text ≡ shown_text bytes → text ≡ characters_text (chars text)
    → (if nat_le (length text) most then 34 ∷ (text ++ 34 ∷ []) else no_key) ≡ text_key most bytes
bare_fits most bytes text same bare =
    ap (λ (z : List ℕ). if nat_le (length z) most then 34 ∷ (z ++ 34 ∷ []) else no_key) bare
    ∙ ap (λ (z : List ℕ). if nat_le (length (characters_text (chars z))) most then quoted_text z else no_key) same

-- The text is that of the bytes if they are UTF-8, and otherwise the given one.
pub text_or_none : {B E : Type 0} (Rest : E → Type 0) (now : B → List ℕ) (bytes : List ℕ) (result : Result B E)
    (none : B)
    → MatchResult result (λ text. (now text ≡ bytes) × IsUtf8 bytes) (λ error. (IsUtf8 bytes → ⊥) × Rest error)
    → now none ≡ [] → now (result_unwrap_or result none) ≡ shown_text bytes
text_or_none Rest now bytes result none p q =
    grind (arith, nat_tests, is_utf8-from_IsUtf8, is_utf8, IsUtf8-from_is_utf8)

module _ {W : Type 0} (took : W → List ℕ → W → Type 0) where
  -- A text that is written after another one gives both, joined.
  pub then_written : (f g h : Formatter W) (first next all : List ℕ)
      → (IsPlainFormatter f → HasWritten took f first g) → (IsPlainFormatter g → HasWritten took g next h)
      → first ++ next ≡ all → IsPlainFormatter f → HasWritten took f all h
  then_written f g h first next all wrote goes_on same plain =
      let done = wrote plain in put_two took f g h first next all done (goes_on done.plain) same

  -- A text that equals a written text was written.
  pub text_is : (f g : Formatter W) (one other : List ℕ) → one ≡ other → HasWritten took f one g
      → HasWritten took f other g
  text_is f g one other same wrote = subst (λ z. HasWritten took f z g) same wrote

  -- If a format writes a known text, this text is written.
  pub shows : (f g : Formatter W) (result : Result (Unit {0}) _) (output : Option (List ℕ)) (text : List ℕ)
      → output ≡ Some text → DisplaysOnOk took f result output g → WritesOnOk took f result text g
  shows f g result output text same wrote = subst (λ o. DisplaysOnOk took f result o g) same wrote

-- Either the text of a row is known, and no value follows it, or it is not known.
known_title : (header : Header) (text : List ℕ)
    → (known_header header text ≡ None)
    ⊎ ((known_header header text ≡ Some text) × ((value : List ℕ) → IsHeaderValue header value → value ≡ []))
known_title header text = grind arith

known_is : (meaning : Meaning) (text : List ℕ)
    → (known_of meaning text ≡ None)
    ⊎ ((known_of meaning text ≡ Some text) × ((value : List ℕ) → IsValue meaning value → value ≡ []))
known_is (m.Header header) text = known_title header text
known_is m.Text text = inr (refl, λ value is. is)
known_is m.Bytes text = inr (refl, λ value is. is)
known_is m.Fault text = inr (refl, λ value is. is)

-- If a row was written, the text that is known of it was written.
pub known_written : {W : Type 0} (took : W → List ℕ → W → Type 0) (row : Row) (f g : Formatter W)
    (result : Result (Unit {0}) _) → WritesOneOnOk took f result (IsRowText row) g
    → DisplaysOnOk took f result (known_text row) g
known_written took row f g result wrote =
    elim (known_is row.meaning (row_text row)) [
      | inl none ↦ subst (λ (o : Option (List ℕ)). DisplaysOnOk took f result o g) (sym none) tt
      | inr some ↦ subst (λ (o : Option (List ℕ)). DisplaysOnOk took f result o g) (sym some.0) (λ plain ok.
          let one = wrote plain ok in
          let is = one.is_text in
          text_is took f g one.text (row_text row)
          (is.is ∙ (ap (λ (z : List ℕ). row_text row ++ z) (some.1 is.value is.is_value)
          ∙ append-nil (row_text row))) one.written)
    ]
