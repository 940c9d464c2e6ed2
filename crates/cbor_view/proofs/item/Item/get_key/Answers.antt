use Rattle.ciborium_ll_grammar.specs.declared.hdr.Header.TheVariants as h
use Rattle.cbor_view.specs.Pairs.{IsKey}
use Rattle.cbor_view.specs.Views.{closed}
use Rattle.cbor_view.proofs.OpenLaws.{opened_by}
use Rattle.cbor_view.proofs.SearchLaws.{map_found}
use Rattle.cbor_view.proofs.item.Item.get_key.Goals as goal

pub returns-in-Some-clause-found : goal.returns-in-Some-clause-found
returns-in-Some-clause-found c =
    map_found (IsKey c.args.key.now) c.args.self.now.depth c.in-Some.pairs.depth c.args.self.now.bytes.now
    c.in-Some.pairs.rest.now c.in-Some.pairs.due c.find.result c.in-Some.ensures.0 c.in-Some.ensures.1
    c.find.ensures.found

pub returns-in-None-clause-found : goal.returns-in-None-clause-found
returns-in-None-clause-found c = λ count pairs key value o q m.
    c.in-None.ensures count
    (opened_by c.args.self.now.depth c.args.self.now.bytes.now (closed count pairs) (h.Map count) o)
