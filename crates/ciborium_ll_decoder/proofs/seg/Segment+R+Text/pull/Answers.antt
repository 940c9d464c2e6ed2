use Rattle.ciborium_ll_decoder.proofs.DecodingLaws.{exit_is}
use Rattle.ciborium_ll_decoder.proofs.seg.Segment+R+Text.pull.Goals as goal

pub returns-in_err-front : goal.returns-in_err-front
returns-in_err-front g c =
    let pulled = c.in_err-front.ensures in
    rw (exit_is c.from_residual.result c.in_err-front.field-0.0 c.from_residual.ensures.1) (record {
      chunk = pulled.chunk;
      left = tt;
      rest_due = tt;
      same_reference = pulled.same_reference;
      moves_on = pulled.moves_on;
    })

pub returns-in-Some : goal.returns-in-Some
returns-in-Some g c =
    let pulled = c.in_ok-front.ensures in
    rw c.text_of.ensures (record {
      chunk = rw c.in-Some.is at pulled.chunk;
      left = rw c.in-Some.is at pulled.left;
      rest_due = rw c.in-Some.is at pulled.rest;
      same_reference = pulled.same_reference;
      moves_on = pulled.moves_on;
    })

pub returns-in-None : goal.returns-in-None
returns-in-None g c =
    let pulled = c.in_ok-front.ensures in
    record {
      chunk = rw c.in-None.is at pulled.chunk;
      left = tt;
      rest_due = tt;
      same_reference = pulled.same_reference;
      moves_on = pulled.moves_on;
    }
