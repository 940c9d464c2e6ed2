-- The texts of integers, floats and simple values.
use Rattle.std.proofs.Common.{◌≡◌, ◌⊎◌, ℕ, true, false, List, [], ◌∷◌, ◌++◌, codes, decimal, negsuc, Result, IsErr}
use Rattle.std.proofs.Common.{Ok, Err, refl, arith, append-nil, subst}
use Rattle.std.specs.Float.{Float, float_is_finite}
use Rattle.std.specs.Fmt.{signed_decimal}
use Rattle.ciborium_ll.specs.Types.Float.{Float as Raw}
use Rattle.ciborium_ll.specs.Types.Header.{Header}
use Rattle.ciborium_ll.specs.Types.Header.TheVariants as h
use Rattle.ciborium_ll.specs.Types.Write.{Ghosts as Writer}
use Rattle.ciborium_ll.specs.Encoding.{WritesAll, WritesBytes, WritesFront}
use Rattle.ciborium_ll.proofs.EncodingLaws.{WritesBytes-stopped, WritesBytes-then}
use Rattle.cbor_floats.specs.Floats.{IsNumberText, float_value}
use Rattle.cbor_diag.specs.Writing.{ShowsMarked, ShowsOne}
use Rattle.cbor_json.specs.Roles.{IsInteger, IsScalar}
use Rattle.cbor_json.specs.Scalars.{IsFloatJson, IsScalarJson, IsScalarText, IsValueJson}

-- ---- floats

-- The text of a value that is not finite is `null`.
pub null_text : (value : Float) → float_is_finite value ≡ false → IsValueJson value (codes "null")
unfolding float_is_finite
null_text value is = grind arith

-- The digits of a finite value are its text.
pub digits_text : (value : Float) (text : List ℕ) → float_is_finite value ≡ true → IsNumberText value text
    → IsValueJson value text
unfolding float_is_finite
digits_text value text is digits = grind arith

-- Digits without a mark are the text of a finite value.
pub unmarked : {W F : Type 0} (sink : Writer W F) (float : Raw) (value : Float) (old new : W)
    (result : Result (Unit {0}) F) → value ≡ float_value float → float_is_finite value ≡ true
    → ShowsMarked sink (IsNumberText value) [] old result new → ShowsOne sink (IsFloatJson float) old result new
unmarked sink float value old new result same is shown = record {
  text = shown.text;
  is_text = subst (λ v. IsValueJson v shown.text) same (digits_text value shown.text is shown.is_text);
  written = rw append-nil at shown.written;
}

-- ---- headers

-- Integers, floats and simple values are scalars.
pub scalar_of : (header : Header) → ((number : ℕ) × (header ≡ h.Positive number))
    ⊎ (((number : ℕ) × (header ≡ h.Negative number))
    ⊎ (((float : Raw) × (header ≡ h.Float float)) ⊎ ((number : ℕ) × (header ≡ h.Simple number)))) → IsScalar header
scalar_of header is = grind arith

-- ---- keys

-- Each integer has a text.
integer_text : (header : Header) → IsInteger header → (text : List ℕ) × IsScalarText header text
integer_text (h.Positive number) is = (decimal number, refl)
integer_text (h.Negative number) is = (signed_decimal (negsuc number), refl)
integer_text (h.Float float) is = absurd is
integer_text (h.Simple number) is = absurd is
integer_text (h.Tag number) is = absurd is
integer_text h.Break is = absurd is
integer_text (h.Bytes len) is = absurd is
integer_text (h.Text len) is = absurd is
integer_text (h.Array len) is = absurd is
integer_text (h.Map len) is = absurd is

module _ {W F : Type 0} (sink : Writer W F) (header : Header) where
  -- If the writer fails at the first quote, it wrote a beginning of the key.
  pub key_unopened : (is : IsInteger header) (old new : W) (result : Result (Unit {0}) F) → IsErr result
      → WritesFront sink old (34 ∷ []) new → ShowsOne sink (IsScalarJson true header) old result new
  key_unopened is old new result fails stopped =
      let inner = integer_text header is in
      record {
        text = (34 ∷ inner.0) ++ 34 ∷ [];
        is_text = (inner.0, inner.1, refl);
        written = WritesBytes-stopped sink old new result (34 ∷ []) (inner.0 ++ 34 ∷ []) fails stopped;
      }

  module _ {old opened : W} (opens : WritesAll sink old (34 ∷ []) opened) where
    -- If the writer fails within the digits, it wrote a beginning of the key.
    pub key_stops : (new : W) (result : Result (Unit {0}) F) (fault : F) → IsErr result
        → ShowsOne sink (IsScalarText header) opened (Err fault) new
        → ShowsOne sink (IsScalarJson true header) old result new
    key_stops new result fault fails shown = record {
      text = (34 ∷ shown.text) ++ 34 ∷ [];
      is_text = (shown.text, shown.is_text, refl);
      written = WritesBytes-stopped sink old new result (34 ∷ shown.text) (34 ∷ []) fails
          (WritesBytes-then sink {T = Unit {0}} old opened new (Err fault) (34 ∷ []) shown.text opens shown.written);
    }

    -- After the digits the write of the last quote decides the answer.
    pub key_ends : (between new : W) (result : Result (Unit {0}) F)
        → ShowsOne sink (IsScalarText header) opened (Ok (tt {0})) between
        → WritesBytes sink between result (34 ∷ []) new → ShowsOne sink (IsScalarJson true header) old result new
    key_ends between new result shown closes = record {
      text = (34 ∷ shown.text) ++ 34 ∷ [];
      is_text = (shown.text, shown.is_text, refl);
      written = WritesBytes-then sink old between new result (34 ∷ shown.text) (34 ∷ [])
          (WritesBytes-then sink {T = Unit {0}} old opened between (Ok (tt {0})) (34 ∷ []) shown.text opens shown.written)
          closes;
    }
