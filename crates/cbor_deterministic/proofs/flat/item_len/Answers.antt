use Rattle.std.proofs.Common.{◌≡◌, ◌-◌, ◌/◌, arith, drop, rules, slice_index, take}
use Rattle.ciborium_ll_text.specs.Text.{IsCharacters}
use Rattle.cbor_deterministic.proofs.FlatLaws.{flat_by}
use Rattle.cbor_deterministic.proofs.TitleRuns.{told}
use Rattle.cbor_deterministic.proofs.flat.item_len.Goals as goal
use Rattle.cbor_deterministic.proofs.flat.item_len.Goals.{else-bytes-eq3-via-then-bytes-eq3+else-not-is_text}
use Rattle.cbor_deterministic.proofs.flat.item_len.Goals.{else-bytes-eq3-via-else-bytes-eq3}

pub returns-clause-flat : goal.returns-clause-flat
returns-clause-flat c = λ more.
    let xs = c.args.bytes.now in
    let len = c.len_of-len.result in
    let text : slice_index xs 0 / 32 ≡ 3 → IsCharacters (take (len - 1) (drop 1 xs)) =
    λ three. elim c.else-bytes-eq3.branch [
      | else-bytes-eq3-via-then-bytes-eq3+else-not-is_text w ↦
          told w.is_text.result w.if-not-is_text.false w.is_text.ensures
      | else-bytes-eq3-via-else-bytes-eq3 w ↦ absurd (w.if-bytes-eq3.false three)
    ] in
    flat_by xs len (search rules) c.len_of-len.ensures more (omega (arith, c.if-len-bytes.false)) text
