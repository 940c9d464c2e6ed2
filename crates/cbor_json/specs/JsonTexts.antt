-- The texts of the errors for a person. If the text of the reader's or the writer's fault is open, so is the text of
-- the error.
use Rattle.std.specs.Prelude.{ℕ, List, ◌++◌, Option, Some, codes, decimal}
use Rattle.cbor_skip.specs.SkipTexts.{skip_error_text}
use Rattle.cbor_json.specs.declared.JsonError.{JsonError}
use Rattle.cbor_json.specs.declared.JsonError.TheVariants as j

-- The text that `{}` writes of an error of `write_json`: that of the read's error, or of the writer's error. For
-- `NoJson(2)` it is `no JSON for the item at offset 2`.
abbrev pub json_error_text : {E F : Type 0} → (E → Option (List ℕ)) → (F → Option (List ℕ)) → JsonError E F
    → Option (List ℕ)
json_error_text reading writing (j.Read error) = skip_error_text reading error
json_error_text reading writing (j.NoJson place) = Some (codes "no JSON for the item at offset " ++ decimal place)
json_error_text reading writing (j.Write fault) = writing fault
