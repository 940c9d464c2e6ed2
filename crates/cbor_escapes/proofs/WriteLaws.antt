-- The texts of characters, and of formats with two hexadecimal digits.
use Rattle.std.proofs.Common.{◌≡◌, ◌∙◌, ℕ, ◌<◌, ◌^◌, ◌-◌, false, [], ◌∷◌, ◌++◌, List, Option, Some, Result, ap}
use Rattle.std.proofs.Common.{append_assoc, append-nil, subst, sym}
use Rattle.std.proofs.lemmas.Fmt.{hex_byte}
use Rattle.std.specs.Fmt.{DisplaysOnOk, WritesOnOk, digits, digits_output, format_spec, padded_integral, radix_prefix}
use Rattle.std.specs.Fmt.{shown_prefix, styled_digits_output}
use Rattle.std.specs.Option.{option_map}
use Rattle.std.specs.declared.fmt.Formatter.{Formatter}
use Rattle.ciborium_ll_text.specs.Digits.{hex_text}
use Rattle.cbor_escapes.specs.Escapes.{terminal_text, terminal_texts}

-- A format with two hexadecimal digits writes the two digits of a byte.
two_digits : (byte : ℕ) → byte < 256
    → padded_integral (format_spec 32 0 4 2 (2 ^ 64 - 1)) false [] (digits 16 false byte) ≡ hex_text byte
two_digits byte small = hex_byte false byte small

-- If a format is this one, it writes the two digits of a byte.
pub hex_shown : (radix : _) (spec : _) (byte : ℕ) → spec ≡ format_spec 32 0 4 2 (2 ^ 64 - 1)
    → digits_output radix ≡ Some (digits 16 false byte) → byte < 256
    → styled_digits_output radix spec ≡ Some (hex_text byte)
hex_shown radix spec byte laid digits_are small =
    let prefix = radix_prefix radix.base in
    ap (option_map (padded_integral spec false (shown_prefix spec prefix))) digits_are
    ∙ (ap (λ z. Some (padded_integral z false (shown_prefix z prefix) (digits 16 false byte))) laid
    ∙ ap Some (two_digits byte small))

-- If a format writes a known text, this text is written.
pub shows : {W : Type 0} (took : W → List ℕ → W → Type 0) (f g : Formatter W) (result : Result (Unit {0}) _)
    (output : Option (List ℕ)) (text : List ℕ) → output ≡ Some text → DisplaysOnOk took f result output g
    → WritesOnOk took f result text g
shows took f g result output text same wrote = subst (λ o. DisplaysOnOk took f result o g) same wrote

-- The text of one more character follows those of the others.
pub texts_more : (characters : List ℕ) (character : ℕ)
    → terminal_texts (characters ++ character ∷ []) ≡ terminal_texts characters ++ terminal_text character
texts_more [] character = append-nil (terminal_text character)
texts_more (first ∷ characters) character =
    ap (λ (z : List ℕ). terminal_text first ++ z) (texts_more characters character)
    ∙ sym (append_assoc (terminal_text first) (terminal_texts characters) (terminal_text character))
