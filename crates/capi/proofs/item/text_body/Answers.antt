use Rattle.std.proofs.Common.{Some, length}
use Rattle.ciborium_ll_grammar.specs.declared.hdr.Header.TheVariants as h
use Rattle.capi.proofs.ViewLaws.{text_found, text_header, text_split, no_split}
use Rattle.capi.proofs.item.text_body.Goals as goal

pub returns-in_default : goal.returns-in_default
returns-in_default c body is =
    no_split c.args.bytes.now body (h.Text (Some (length body))) c.in_default.ensures
    (text_split c.args.bytes.now body is)

pub returns-in-Text : goal.returns-in-Text
returns-in-Text c =
    text_found c.args.bytes.now c.in-Some.contents.now c.in-Some.header c.in-Text.len c.of_length.result
    c.in-Some.ensures c.in-Text.is c.of_length.ensures

pub returns-in_default-header : goal.returns-in_default-header
returns-in_default-header c body is =
    c.in_default-header.not-Text (Some (length c.in-Some.contents.now))
    (text_header c.args.bytes.now c.in-Some.contents.now body c.in-Some.header c.in-Some.ensures is)
