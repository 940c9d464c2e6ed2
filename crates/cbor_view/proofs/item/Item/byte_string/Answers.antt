use Rattle.std.proofs.Common.{length, Some}
use Rattle.cbor_view.proofs.OpenLaws.{as_header, bytes_of, bytes_header}
use Rattle.ciborium_ll_grammar.specs.declared.hdr.Header.TheVariants as h
use Rattle.cbor_view.proofs.item.Item.byte_string.Goals as goal

pub returns-in-Some : goal.returns-in-Some
returns-in-Some c =
    bytes_of c.args.self.now.depth c.in-Some.field-0 c.args.self.now.bytes.now c.open-header.result.1.now
    (as_header c.args.self.now.depth c.args.self.now.bytes.now c.open-header.result.0 (h.Bytes (Some c.in-Some.field-0))
    c.open-header.result.1.now c.open-header.ensures c.in-Some.ensures)

pub returns-in-None : goal.returns-in-None
returns-in-None c body b =
    c.in-None.ensures (length body)
    (bytes_header c.args.self.now.depth c.args.self.now.bytes.now c.open-header.result.1.now body
    c.open-header.result.0 c.open-header.ensures b)
