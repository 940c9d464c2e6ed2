-- The text of bytes by base16 and base64, as the bytes pass.
use Rattle.std.proofs.Common.{◌≡◌, ◌∙◌, ◌⊎◌, ℕ, suc, List, [], ◌∷◌, ◌++◌, length, replicate, take, ap, arith, refl}
use Rattle.std.proofs.Common.{sym}
use Rattle.std.proofs.Common.{append_assoc, append-nil}
use Rattle.base64.specs.Engines.{standard, url_safe_no_pad}
use Rattle.base64.specs.declared.engine.general_purpose.GeneralPurpose.{GeneralPurpose}
use Rattle.base64.specs.GeneralPurpose.{IsEncodedOver, encode_of, encoded_size_of}
use Rattle.base64.proofs.RoundTrip.{length-encode_symbols}
use Rattle.std.proofs.lemmas.List.{length-append, length-replicate, take_at}
use Rattle.base64.specs.Rfc4648.{encode_symbols, padding_len}
use Rattle.cbor_diag.specs.declared.strings.held.Held.{Held}
use Rattle.cbor_diag.specs.declared.strings.held.Held.TheVariants as h
use Rattle.cbor_diag.specs.declared.strings.quotes.Quotes.{Quotes}
use Rattle.cbor_diag.specs.declared.strings.quotes.Quotes.TheVariants as q
use Rattle.cbor_diag.specs.Notation.{body_text, upper_notation}
use Rattle.cbor_diag.specs.Passing.{end_group, held_end, next_group, passed_held, passed_text}
use Rattle.ciborium_ll.specs.Strings.{IsWritable, Text}
use Rattle.cbor_diag.proofs.PassedLaws.{digits_passed, passed_body}

-- The text of a body that passed whole, with the text of the bytes that are held in the end.
abbrev pub whole_text : Quotes → List ℕ → List ℕ
whole_text quotes bytes = passed_text quotes h.Nothing bytes ++ held_end quotes (passed_held quotes h.Nothing bytes)

-- ---- base16

upper_passed : (held : Held) (bytes : List ℕ) → passed_text q.Base16 held bytes ≡ upper_notation bytes
upper_passed held [] = refl
upper_passed held (byte ∷ bytes) = rw (upper_passed held bytes) refl

-- ---- base64

-- The length of an encoding.
encoded_length : (engine : GeneralPurpose) (bytes : List ℕ)
    → length (encode_of engine bytes) ≡ encoded_size_of engine (length bytes)
encoded_length engine bytes =
    let symbols = length-encode_symbols engine.encode_table bytes in
    grind (arith, length-append, length-replicate, symbols)

-- The beginning of the space that an encoding went to, of its length, is the encoding.
pub front_encoded : (engine : GeneralPurpose) (bytes old new : List ℕ) (len : ℕ)
    → len ≡ encoded_size_of engine (length bytes) → IsEncodedOver engine bytes old new
    → take len new ≡ encode_of engine bytes
front_encoded engine bytes old new len is over =
    rw over (take_at (encode_of engine bytes) _ len (encoded_length engine bytes ∙ sym is))

-- Before its third byte a group has no text.
pub no_group : (engine : GeneralPurpose) (held : Held) (byte : ℕ)
    → (held ≡ h.Nothing) ⊎ ((first : ℕ) × (held ≡ h.One first)) → next_group engine held byte ≡ []
no_group engine held byte is = grind arith

-- Three bytes more change nothing of the padding.
padding_more : (n : ℕ) → padding_len (suc (suc (suc n))) ≡ padding_len n
padding_more n = omega arith

-- A group of three bytes comes before the text of the rest.
padded_more : (a b c : ℕ) (rest : List ℕ)
    → encode_of standard (a ∷ b ∷ c ∷ rest) ≡ encode_of standard (a ∷ b ∷ c ∷ []) ++ encode_of standard rest
unfolding encode_symbols
padded_more a b c rest = ap (λ (n : ℕ). encode_of standard (a ∷ b ∷ c ∷ []) ++ (encode_symbols standard.encode_table rest
    ++ replicate n 61)) (padding_more (length rest))

plain_more : (a b c : ℕ) (rest : List ℕ) → encode_of url_safe_no_pad (a ∷ b ∷ c ∷ rest)
    ≡ encode_of url_safe_no_pad (a ∷ b ∷ c ∷ []) ++ encode_of url_safe_no_pad rest
unfolding encode_symbols
plain_more a b c rest = refl

padded_passed : (bytes : List ℕ) → whole_text q.Base64 bytes ≡ encode_of standard bytes
unfolding encode_symbols
padded_passed [] = refl
padded_passed (a ∷ []) = refl
padded_passed (a ∷ b ∷ []) = refl
padded_passed (a ∷ b ∷ c ∷ rest) =
    let group = encode_of standard (a ∷ b ∷ c ∷ []) in
    append_assoc group (passed_text q.Base64 h.Nothing rest) (end_group standard (passed_held q.Base64 h.Nothing rest))
    ∙ (ap (λ (z : List ℕ). group ++ z) (padded_passed rest) ∙ sym (padded_more a b c rest))

plain_passed : (bytes : List ℕ) → whole_text q.Base64Url bytes ≡ encode_of url_safe_no_pad bytes
unfolding encode_symbols
plain_passed [] = refl
plain_passed (a ∷ []) = refl
plain_passed (a ∷ b ∷ []) = refl
plain_passed (a ∷ b ∷ c ∷ rest) =
    let group = encode_of url_safe_no_pad (a ∷ b ∷ c ∷ []) in
    append_assoc group (passed_text q.Base64Url h.Nothing rest)
    (end_group url_safe_no_pad (passed_held q.Base64Url h.Nothing rest))
    ∙ (ap (λ (z : List ℕ). group ++ z) (plain_passed rest) ∙ sym (plain_more a b c rest))

-- ---- all

-- The text of a byte string as its bytes pass is the text of the body.
pub bytes_passed : (quotes : Quotes) (bytes : List ℕ) → (quotes ≡ q.Text → ⊥)
    → whole_text quotes bytes ≡ body_text quotes bytes
bytes_passed q.Hex bytes other = append-nil (passed_text q.Hex h.Nothing bytes) ∙ digits_passed h.Nothing bytes
bytes_passed q.Text bytes other = absurd (other refl)
bytes_passed q.Base16 bytes other = append-nil (passed_text q.Base16 h.Nothing bytes) ∙ upper_passed h.Nothing bytes
bytes_passed q.Base64 bytes other = padded_passed bytes
bytes_passed q.Base64Url bytes other = plain_passed bytes

-- The text of a text as its bytes pass is the text of the body.
pub text_passed : (bytes : List ℕ) → IsWritable Text bytes → whole_text q.Text bytes ≡ body_text q.Text bytes
text_passed bytes sound = append-nil (passed_text q.Text h.Nothing bytes) ∙ passed_body Text q.Text bytes refl sound
