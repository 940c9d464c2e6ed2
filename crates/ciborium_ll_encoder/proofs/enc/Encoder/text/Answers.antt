use Rattle.ciborium_ll_grammar.specs.Strings.{Text}
use Rattle.ciborium_ll_encoder.proofs.Writes.{in_fewest, value_in_one}
use Rattle.ciborium_ll_encoder.proofs.enc.Encoder.text.Goals as goal

pub returns-then-value-limit-clause-written : goal.returns-then-value-limit-clause-written
returns-then-value-limit-clause-written g c = record {
  value = value_in_one g.W.Write {kind = Text} c.limit-limit.ensures c.if-value-limit.true c.as_bytes.ensures.value
      c.string.ensures.bytes;
  target = c.string.ensures.target;
}

pub returns-then-value-limit-clause-fewest : goal.returns-then-value-limit-clause-fewest
returns-then-value-limit-clause-fewest g c =
    in_fewest g.W.Write _ _ c.string.result c.args.segment c.args.value.now c.utf8.value
    (value_in_one g.W.Write c.limit-limit.ensures c.if-value-limit.true c.as_bytes.ensures.value
    c.string.ensures.bytes)

pub returns-clause-written : goal.returns-clause-written
returns-clause-written g c = record {
  value = c.long_text.ensures.value c.args.segment c.limit-limit.ensures;
  target = c.long_text.ensures.target;
}

pub returns-clause-fewest : goal.returns-clause-fewest
returns-clause-fewest g c =
    in_fewest g.W.Write _ _ c.long_text.result c.args.segment c.args.value.now c.utf8.value
    (c.long_text.ensures.value c.args.segment c.limit-limit.ensures)
