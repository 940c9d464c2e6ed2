use Rattle.std.proofs.Common.{ap, arith, Result, Ok, Err, OnOk}
use Rattle.ciborium_ll_grammar.proofs.AloneLaws.{title_some}
use Rattle.ciborium_ll_decoder.specs.Decoding.{offset_of}
use Rattle.ciborium_ll_decoder.proofs.seg.Segments.step.Goals as goal

-- A fact that holds anyway also holds if the answer is `Ok`.
on_ok : {T E P : Type 0} (answer : Result T E) → P → OnOk answer P
on_ok (Ok value) holds = holds
on_ok (Err error) holds = tt

pub returns-clause-opens : goal.returns-clause-opens
returns-clause-opens g c =
    let pulled = c.in-Ok.ensures.header in
    let same = ap offset_of c.offset-place.ensures.same in
    let some = title_some pulled.title c.in-Ok.header pulled.is_title in
    omega (arith, c.found_by-progress.ensures.opens, pulled.offset, same, some)

pub returns-clause-goes_on : goal.returns-clause-goes_on
returns-clause-goes_on g c =
    let pulled = c.in-Ok.ensures.header in
    let same = ap offset_of c.offset-place.ensures.same in
    let some = title_some pulled.title c.in-Ok.header pulled.is_title in
    on_ok c.found_by-progress.result.1 (omega (arith, pulled.offset, same, some))
