use Rattle.cbor_deterministic.proofs.ViewLaws.{as_head, same_header}
use Rattle.std.proofs.Common.{Some}
use Rattle.ciborium_ll_grammar.specs.declared.hdr.Header.TheVariants as h
use Rattle.cbor_deterministic.proofs.view.Item.pairs.Goals as goal

pub returns-in-Some : goal.returns-in-Some
returns-in-Some c =
    as_head c.args.self.now.depth c.args.self.now.bytes.now c.open-header.result.0 (h.Map (Some c.in-Some.count))
    c.open-header.result.1.now c.open-header.ensures c.in-Some.ensures

pub returns-in-None : goal.returns-in-None
returns-in-None c n b =
    c.in-None.ensures n (same_header c.args.self.now.depth c.args.self.now.bytes.now c.open-header.result.1.now
    c.open-header.result.0 (h.Map (Some n)) c.open-header.ensures b)
