use Rattle.cbor_deterministic.proofs.ViewLaws.{as_head, bytes_of, bytes_header}
use Rattle.std.proofs.Common.{length, Some}
use Rattle.ciborium_ll_grammar.specs.declared.hdr.Header.TheVariants as h
use Rattle.cbor_deterministic.proofs.view.Item.byte_string.Goals as goal

pub returns-in-Bytes : goal.returns-in-Bytes
returns-in-Bytes c =
    bytes_of c.args.self.now.depth c.in-Bytes.field-0 c.args.self.now.bytes.now c.open-header.result.1.now
    (as_head c.args.self.now.depth c.args.self.now.bytes.now c.open-header.result.0 (h.Bytes c.in-Bytes.field-0)
    c.open-header.result.1.now
    c.open-header.ensures c.in-Bytes.is)

pub returns-in_default : goal.returns-in_default
returns-in_default c body b =
    c.in_default.not-Bytes (Some (length body))
    (bytes_header c.args.self.now.depth c.args.self.now.bytes.now c.open-header.result.1.now body
    c.open-header.result.0 c.open-header.ensures b)
