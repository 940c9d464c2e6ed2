use Rattle.ciborium_ll_grammar.proofs.FrontLaws.{split_whole}
use Rattle.cbor_deterministic.proofs.TitleRuns.{untold, told}
use Rattle.cbor_canonical.proofs.StringRuns.{no_body, few_bytes}
use Rattle.cbor_canonical.proofs.strings.take_body.Goals as goal

pub returns-then-is_body : goal.returns-then-is_body
returns-then-is_body c = record {
  whole = split_whole c.args.bytes.now c.in-Some.body.now c.in-Some.rest.now _ c.in-Some.ensures.cases;
  is = c.in-Some.ensures.cases.3;
  writable = told c.is_body.result c.if-is_body.true c.is_body.ensures;
}

pub returns-else-is_body : goal.returns-else-is_body
returns-else-is_body c =
    no_body _ c.args.len c.args.bytes.now c.in-Some.body.now c.in-Some.rest.now
    (split_whole c.args.bytes.now c.in-Some.body.now c.in-Some.rest.now _ c.in-Some.ensures.cases)
    c.in-Some.ensures.cases.3 (untold c.is_body.result c.if-is_body.false c.is_body.ensures)

pub returns-in-None : goal.returns-in-None
returns-in-None c = few_bytes _ c.args.len c.args.bytes.now c.in-None.ensures.cases
