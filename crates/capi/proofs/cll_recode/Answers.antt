use Rattle.capi.proofs.PullLaws.{code_exactly, code_short}
use Rattle.capi.proofs.cll_recode.Goals as goal

pub returns-clause-copied : goal.returns-clause-copied
returns-clause-copied c = λ room. (c.copy_or_due.result, c.code.ensures, c.copy_or_due.ensures.copied room)

pub returns-clause-exactly : goal.returns-clause-exactly
returns-clause-exactly c = λ room. code_exactly _ _ c.code.ensures (c.copy_or_due.ensures.exactly room)

pub returns-clause-anyhow : goal.returns-clause-anyhow
returns-clause-anyhow c = (c.copy_or_due.result, c.code.ensures, c.copy_or_due.ensures.anyhow)

pub returns-clause-counted : goal.returns-clause-counted
returns-clause-counted c = (c.copy_or_due.result, c.code.ensures, c.copy_or_due.ensures.counted)

pub returns-clause-due : goal.returns-clause-due
returns-clause-due c = code_short _ _ c.code.ensures c.copy_or_due.ensures.due
