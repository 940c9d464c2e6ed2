use Rattle.std.proofs.Common.{Some, length}
use Rattle.ciborium_ll_grammar.specs.declared.hdr.Header.TheVariants as h
use Rattle.capi.proofs.ViewLaws.{bytes_found, bytes_header, bytes_split, no_split}
use Rattle.capi.proofs.item.byte_body.Goals as goal

pub returns-in_default : goal.returns-in_default
returns-in_default c body is =
    no_split c.args.bytes.now body (h.Bytes (Some (length body))) c.in_default.ensures
    (bytes_split c.args.bytes.now body is)

pub returns-in-Bytes : goal.returns-in-Bytes
returns-in-Bytes c =
    bytes_found c.args.bytes.now c.in-Some.contents.now c.in-Some.header c.in-Bytes.len c.of_length.result
    c.in-Some.ensures c.in-Bytes.is c.of_length.ensures

pub returns-in_default-header : goal.returns-in_default-header
returns-in_default-header c body is =
    c.in_default-header.not-Bytes (Some (length c.in-Some.contents.now))
    (bytes_header c.args.bytes.now c.in-Some.contents.now body c.in-Some.header c.in-Some.ensures is)
