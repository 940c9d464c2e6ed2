-- The texts of the errors for a person. If the text of the reader's or the writer's fault is open, so is the text of
-- the error.
use Rattle.std.specs.Prelude.{ℕ, List, Option}
use Rattle.cbor_skip.specs.SkipTexts.{skip_error_text}
use Rattle.cbor_diag.specs.declared.DiagError.{DiagError}
use Rattle.cbor_diag.specs.declared.DiagError.TheVariants as d

-- The text that `{}` writes of an error of `diagnose`: that of the read's error, or of the writer's error. For
-- `Read(Deep(2))` it is `too deep a nesting at offset 2`.
abbrev pub diag_error_text : {E F : Type 0} → (E → Option (List ℕ)) → (F → Option (List ℕ)) → DiagError E F
    → Option (List ℕ)
diag_error_text reading writing (d.Read error) = skip_error_text reading error
diag_error_text reading writing (d.Write fault) = writing fault
