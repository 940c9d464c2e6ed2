use Rattle.std.proofs.Common.{[], ◌∷◌}
use Rattle.cbor_encode.proofs.ItemLaws.{completed_always}
use Rattle.cbor_encode.proofs.StringLaws.{string_completes, open_completes, no_chunks}
use Rattle.cbor_encode.specs.Scalars.{kind_of}
use Rattle.cbor_encode.proofs.strings.put_string.Goals as goal

pub returns-then-not-is_open-clause-wrote : goal.returns-then-not-is_open-clause-wrote
returns-then-not-is_open-clause-wrote c =
    let body = c.in_ok-body.body in
    completed_always _ c.string_header-header.result c.as_slice-bytes.result.now c.args.out.now.items
    c.put_whole.new.out.items c.put_whole.result c.put_whole.ensures.wrote
    (λ depth. rw c.string_header-header.ensures (string_completes _ depth body.is_text
    c.as_slice-bytes.result.now (λ text. rw c.as_slice-bytes.ensures.value (c.in_ok-body.ensures.text text))))

pub returns-clause-wrote : goal.returns-clause-wrote
returns-clause-wrote c =
    let is_text = c.in_ok-body.body.is_text in
    completed_always _ c.string_header-header-2.result (0xff ∷ []) c.args.out.now.items
    c.put_whole-2.new.out.items c.put_whole-2.result c.put_whole-2.ensures.wrote
    (λ depth. rw c.string_header-header-2.ensures (open_completes _ depth is_text []
    (no_chunks _ (kind_of is_text))))
