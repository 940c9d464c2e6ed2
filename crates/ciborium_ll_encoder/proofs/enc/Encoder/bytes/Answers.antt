use Rattle.std.proofs.Common.{arith}
use Rattle.ciborium_ll_grammar.specs.Strings.{Bytes}
use Rattle.ciborium_ll_encoder.proofs.Writes.{value_unopened, values}
use Rattle.ciborium_ll_encoder.proofs.enc.Encoder.bytes.Goals as goal

pub returns-in_err-push : goal.returns-in_err-push
returns-in_err-push g c = record {
  value = value_unopened g.W.Write {kind = Bytes} c.limit-limit.ensures (omega arith) c.from_residual.ensures.0 tt
      c.in_err-push.ensures.title;
  target = c.in_err-push.ensures.target;
}

pub returns-then-value-limit : goal.returns-then-value-limit
returns-then-value-limit g c = grind (arith, values)

pub returns : goal.returns
returns g c = grind (arith, values)
