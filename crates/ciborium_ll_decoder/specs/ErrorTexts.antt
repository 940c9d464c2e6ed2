-- The messages of the errors of a decoder and of a copy. If the text of an inner fault is open, so is the message.
use Rattle.std.specs.Prelude.{ℕ, List, ◌++◌, Option, Some, None, codes, decimal}
use Rattle.ciborium_ll_decoder.specs.declared.dec.Error.{Error}
use Rattle.ciborium_ll_decoder.specs.declared.dec.Error.TheVariants as e
use Rattle.ciborium_ll_decoder.specs.declared.copy.RecodeError.{RecodeError}
use Rattle.ciborium_ll_decoder.specs.declared.copy.RecodeError.TheVariants as r

-- The front, and then a text, if the text is known. For "a: " and "b" it is "a: b".
abbrev pub behind : List ℕ → Option (List ℕ) → Option (List ℕ)
behind front None = None
behind front (Some text) = Some (front ++ text)

-- The text that `{}` writes for an error of a decoder. `shown` gives the text of the reader's own error. For
-- `Syntax(7)` it is "no CBOR that may stand at offset 7".
abbrev pub error_text : {T : Type 0} → (T → Option (List ℕ)) → Error T → Option (List ℕ)
error_text shown (e.Io fault) = behind (codes "the reader failed: ") (shown fault)
error_text shown (e.Syntax place) = Some (codes "no CBOR that may stand at offset " ++ decimal place)
error_text shown e.TooLong = Some (codes "the offset can't take the next read")
error_text shown e.Waiting = Some (codes "a header waits before the bytes")

-- The text that `{}` writes for an error of a copy: the decoder's error, or that the writer failed. `shown` and `told`
-- give the texts of the reader's and of the writer's own errors. For `Write` of an error "full" it is "the writer
-- failed: full".
abbrev pub recode_error_text : {E F : Type 0} → (E → Option (List ℕ)) → (F → Option (List ℕ)) → RecodeError E F
    → Option (List ℕ)
recode_error_text shown told (r.Read error) = error_text shown error
recode_error_text shown told (r.Write fault) = behind (codes "the writer failed: ") (told fault)
