use Rattle.ciborium_ll_grammar.specs.declared.hdr.Header.TheVariants as h
use Rattle.cbor_deterministic.proofs.ViewLaws.{without_contents}
use Rattle.cbor_deterministic.proofs.view.Item.get_negative.Goals as goal

pub returns-clause-found : goal.returns-clause-found
returns-clause-found c =
    without_contents c.args.self.now.order c.args.self.now.depth c.args.self.now.bytes.now (h.Negative c.args.n)
    c.get_titled.result c.get_titled.ensures.found
