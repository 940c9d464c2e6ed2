use Rattle.cbor_deterministic.proofs.NoneLaws.{item_place}
use Rattle.cbor_deterministic.proofs.Exact.{has_found, found_has, none_has, none_found, refused_there, there_refused}
use Rattle.cbor_deterministic.proofs.deterministic_len.Goals as goal

pub refusal-requires : goal.refusal-requires
refusal-requires c =
    item_place c.args.depth c.args.bytes.now c.in-Err.stop.why c.in-Err.stop.left c.in-Err.ensures

pub returns-in-Ok-clause-exactly : goal.returns-in-Ok-clause-exactly
returns-in-Ok-clause-exactly c len = (
  λ e. has_found c.args.depth len c.args.bytes.now c.in-Ok.rest.now c.in-Ok.ensures cc,
  λ p. let e = found_has c.args.depth len c.args.bytes.now c.in-Ok.rest.now c.in-Ok.ensures p in cc,
)

pub returns-in-Err-clause-exactly : goal.returns-in-Err-clause-exactly
returns-in-Err-clause-exactly c len = (
  λ e. absurd cc,
  λ p. absurd (none_has c.args.depth c.in-Err.stop.left len c.args.bytes.now c.in-Err.stop.why c.in-Err.ensures p),
)

pub returns-in-Ok-clause-refused : goal.returns-in-Ok-clause-refused
returns-in-Ok-clause-refused c why place = (
  λ r. absurd cc,
  λ s. absurd (none_found c.args.depth s.left c.args.bytes.now c.in-Ok.rest.now why c.in-Ok.ensures s.fails),
)

pub returns-in-Err-clause-refused : goal.returns-in-Err-clause-refused
returns-in-Err-clause-refused c why place = (
  refused_there c.args.order c.args.depth c.in-Err.stop.left c.args.bytes.now c.in-Err.stop.why c.refusal.result
      c.in-Err.ensures c.refusal.ensures.why c.refusal.ensures.place why place,
  there_refused c.args.order c.args.depth c.in-Err.stop.left c.args.bytes.now c.in-Err.stop.why c.refusal.result
      c.in-Err.ensures c.refusal.ensures.why c.refusal.ensures.place why place,
)
