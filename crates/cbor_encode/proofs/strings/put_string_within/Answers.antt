use Rattle.std.proofs.Common.{◌≡◌, rules}
use Rattle.ciborium_ll_grammar.specs.declared.spelling.Spelling.TheVariants.{Any}
use Rattle.ciborium_ll_grammar.proofs.SpellingLaws.{any_allowed}
use Rattle.cbor_encode.proofs.StringLaws.{body_writable, empty_added, same_kind, string_added}
use Rattle.cbor_encode.specs.Scalars.{kind_of}
use Rattle.cbor_encode.proofs.strings.put_string_within.Goals as goal

pub returns-then-not-is_open-clause-chunks : goal.returns-then-not-is_open-clause-chunks
returns-then-not-is_open-clause-chunks c =
    string_added c.args.spelling (kind_of c.args.is_text) c.as_slice-bytes.result.now
    c.args.strings.now.items c.put_chunk.new.out.items c.put_chunk.result
    (rw c.string_header-header.ensures at c.put_chunk.ensures.wrote)
    (body_writable c.args.is_text c.as_slice-bytes.result.now (λ text. rw c.as_slice-bytes.ensures.value
    (c.in_ok-body.ensures.text (same_kind c.in_ok-body.body.is_text c.args.is_text c.if-body-is_text.false text))))

pub returns-clause-chunks : goal.returns-clause-chunks
returns-clause-chunks c =
    let loose : c.args.spelling ≡ Any = any_allowed c.args.spelling (search rules) in
    empty_added c.args.spelling (kind_of c.args.is_text) c.args.strings.now.items
    c.put_chunk-2.new.out.items c.put_chunk-2.result loose
    (rw c.string_header-open.ensures at c.put_chunk-2.ensures.wrote)
