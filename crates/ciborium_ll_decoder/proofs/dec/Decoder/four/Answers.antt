use Rattle.std.proofs.Common.{rules, ◌≡◌, ◌∙◌, sym}
use Rattle.std.specs.Int.{to_be_bytes, w32}
use Rattle.std.proofs.lemmas.Nat.{be_bytes_4}
use Rattle.ciborium_ll_decoder.proofs.dec.Decoder.four.Goals as goal

pub returns-clause-minor : goal.returns-clause-minor
returns-clause-minor g c = λ first code.
    let same : c.in_ok-bytes.bytes ≡ to_be_bytes w32 c.from.result =
    sym (be_bytes_4 _ _ (search rules) (search rules) (c.from.ensures ∙ c.from_be_bytes.ensures)) in
    record { is_minor = search rules; code = code; all = rw same at c.in_ok-bytes.ensures.bytes }
