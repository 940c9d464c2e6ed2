use Rattle.capi.proofs.TitleRuns.{fault_by_number, ok_by_number}
use Rattle.capi.proofs.cll_headers.Goals as goal

pub returns-clause-exactly : goal.returns-clause-exactly
returns-clause-exactly c taken entries =
    ok_by_number c.fill.result c.code.result c.code.ensures (c.fill.ensures.exactly taken entries)

pub returns-clause-stopped : goal.returns-clause-stopped
returns-clause-stopped c taken entries =
    fault_by_number c.fill.result c.code.result c.code.ensures (c.fill.ensures.stopped taken entries)
