use Rattle.ciborium_ll_text.proofs.Utf8Laws.{from_std}
use Rattle.ciborium_ll_encoder.proofs.Writes.{value_closed, value_cut, value_unopened}
use Rattle.ciborium_ll_encoder.proofs.enc.Encoder.long_text.Goals as goal

pub returns-in_err-push-clause-value : goal.returns-in_err-push-clause-value
returns-in_err-push-clause-value g c = λ segment is.
    value_unopened g.W.Write is c.requires.longer c.from_residual.ensures.0 (from_std _ c.utf8.value)
    c.in_err-push.ensures.title

pub returns-in_err-text_pieces-clause-value : goal.returns-in_err-text_pieces-clause-value
returns-in_err-text_pieces-clause-value g c = λ segment is.
    value_cut g.W.Write is c.requires.longer c.from_residual-in_err-text_pieces.ensures.0 c.in_ok-push.ensures.title
    c.in_err-text_pieces.ensures.pieces

pub returns-clause-value : goal.returns-clause-value
returns-clause-value g c = λ segment is.
    value_closed g.W.Write is c.requires.longer c.in_ok-push.ensures.title c.in_ok-text_pieces.ensures.pieces
    c.push-2.ensures.title
