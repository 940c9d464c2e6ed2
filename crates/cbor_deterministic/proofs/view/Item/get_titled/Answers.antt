use Rattle.cbor_deterministic.proofs.ViewLaws.{as_head, map_level, map_checked, one_level_less, one_opening, get_result}
use Rattle.std.proofs.Common.{arith, Some, ◌++◌}
use Rattle.ciborium_ll_grammar.specs.Title.{shortest_title}
use Rattle.ciborium_ll_grammar.specs.declared.hdr.Header.TheVariants as h
use Rattle.cbor_deterministic.proofs.view.Item.get_titled.Goals as goal

pub find_titled-requires-clause-pairs : goal.find_titled-requires-clause-pairs
find_titled-requires-clause-pairs c =
    let o = as_head c.args.self.now.depth c.args.self.now.bytes.now c.open-header.result.0
    (h.Map (Some c.in-Some.count)) c.open-header.result.1.now
    c.open-header.ensures c.in-Some.ensures in
    map_checked c.args.self.now.depth c.in-Some.count c.open-header.result.1.now o.completes

pub overflow_sub-self : goal.overflow_sub-self
overflow_sub-self c =
    let o = as_head c.args.self.now.depth c.args.self.now.bytes.now c.open-header.result.0
    (h.Map (Some c.in-Some.count)) c.open-header.result.1.now
    c.open-header.ensures c.in-Some.ensures in
    let l = map_level c.args.self.now.depth c.in-Some.count c.open-header.result.1.now o.completes in
    omega arith

pub returns-in-Some-clause-found : goal.returns-in-Some-clause-found
returns-in-Some-clause-found c =
    let o = as_head c.args.self.now.depth c.args.self.now.bytes.now c.open-header.result.0
    (h.Map (Some c.in-Some.count)) c.open-header.result.1.now
    c.open-header.ensures c.in-Some.ensures in
    get_result c.args.self.now.depth c.in-Some.count c.args.self.now.bytes.now c.open-header.result.1.now
    (shortest_title c.args.title ++ c.args.body.now) c.find_titled.result o c.find_titled.ensures.found

pub returns-in-Some-clause-depth : goal.returns-in-Some-clause-depth
returns-in-Some-clause-depth c =
    let o = as_head c.args.self.now.depth c.args.self.now.bytes.now c.open-header.result.0
    (h.Map (Some c.in-Some.count)) c.open-header.result.1.now
    c.open-header.ensures c.in-Some.ensures in
    one_level_less c.args.self.now.depth c.find_titled.result
    (map_level c.args.self.now.depth c.in-Some.count c.open-header.result.1.now o.completes) c.find_titled.ensures.depth

pub returns-in-None-clause-found : goal.returns-in-None-clause-found
returns-in-None-clause-found c value k =
    let one = one_opening c.args.self.now.depth c.args.self.now.bytes.now c.open-header.result.1.now k.pairs
    c.open-header.result.0 (h.Map (Some k.count)) c.open-header.ensures k.opens in
    c.in-None.ensures k.count one.0
