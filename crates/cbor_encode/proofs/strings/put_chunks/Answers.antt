use Rattle.cbor_encode.proofs.ItemLaws.{completed_always}
use Rattle.cbor_encode.proofs.StringLaws.{open_completes}
use Rattle.cbor_encode.proofs.strings.put_chunks.Goals as goal

pub returns-clause-wrote : goal.returns-clause-wrote
returns-clause-wrote c =
    completed_always _ c.string_header-header.result c.as_slice.result.now c.args.out.now.items
    c.put_whole.new.out.items c.put_whole.result c.put_whole.ensures.wrote
    (λ depth. rw (c.string_header-header.ensures, c.as_slice.ensures.value, c.in_ok-put.ensures.wrote)
    (open_completes _ depth c.in_ok-is_text.is_text c.in_ok-strings.strings.items
    c.in_ok-strings.ensures.chunks))
