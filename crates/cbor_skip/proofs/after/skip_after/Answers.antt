use Rattle.std.proofs.Common.{false, refl}
use Rattle.ciborium_ll_decoder.proofs.DecodingLaws.{exit_is, MovesOn-then}
use Rattle.cbor_skip.specs.declared.SkipError.TheVariants as s
use Rattle.cbor_skip.proofs.ItemRuns.{as_item}
use Rattle.cbor_skip.proofs.ItemSteps.{title_stops}
use Rattle.cbor_skip.proofs.after.skip_after.Goals as goal

pub returns-in_err-begun-clause-skipped : goal.returns-in_err-begun-clause-skipped
returns-in_err-begun-clause-skipped g c = λ before pulled moves at.
    let same = exit_is c.from_residual.result (s.Read c.in_err-begun.field-0.0) c.from_residual.ensures.1 in
    rw same (title_stops g.R.Read refl refl (c.in_err-begun.ensures.begun before pulled moves))

pub returns-in_err-begun-clause-within : goal.returns-in_err-begun-clause-within
returns-in_err-begun-clause-within g c = λ closable before pulled moves at stays.
    let same = exit_is c.from_residual.result (s.Read c.in_err-begun.field-0.0) c.from_residual.ensures.1 in
    rw same (title_stops g.R.Read refl refl (c.in_err-begun.ensures.begun before pulled moves))

pub returns-clause-within : goal.returns-clause-within
returns-clause-within g c = λ closable before pulled moves at stays.
    rw c.begin_after.auto.buffer at (c.skip_rest.ensures.skipped closable before
    (c.in_ok-begun.ensures.begun before pulled moves)
    (MovesOn-then g.R.Read _ _ _ moves c.begin_after.ensures.moves_on) at
    (λ is. stays (c.in_ok-begun.ensures.breaks is)))

pub returns-clause-skipped : goal.returns-clause-skipped
returns-clause-skipped g c = λ before pulled moves at.
    as_item g.R.Read _ _ _ _ c.skip_rest.result
    (rw c.begin_after.auto.buffer at (c.skip_rest.ensures.skipped false before
    (c.in_ok-begun.ensures.begun before pulled moves)
    (MovesOn-then g.R.Read _ _ _ moves c.begin_after.ensures.moves_on) at (λ is. refl)))
