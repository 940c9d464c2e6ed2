-- The messages of the errors of a skip. If the text of the reader's fault is open, so is the message.
use Rattle.std.specs.Prelude.{ℕ, List, ◌++◌, Option, Some, codes, decimal}
use Rattle.ciborium_ll_decoder.specs.ErrorTexts.{error_text}
use Rattle.cbor_skip.specs.declared.SkipError.{SkipError}
use Rattle.cbor_skip.specs.declared.SkipError.TheVariants as s

-- The text that `{}` writes for an error of `skip_item`: the decoder's error, or the fault at the place. For `Break(3)`
-- it is `a break that ends nothing at offset 3`.
abbrev pub skip_error_text : {E : Type 0} → (E → Option (List ℕ)) → SkipError E → Option (List ℕ)
skip_error_text shown (s.Read error) = error_text shown error
skip_error_text shown (s.Break place) = Some (codes "a break that ends nothing at offset " ++ decimal place)
skip_error_text shown (s.Deep place) = Some (codes "too deep a nesting at offset " ++ decimal place)
