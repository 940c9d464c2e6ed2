use Rattle.capi.proofs.PullLaws.{code_exactly, code_short}
use Rattle.capi.proofs.cll_strict.Goals as goal

pub returns-clause-checked : goal.returns-clause-checked
returns-clause-checked c = (c.check_or_due.result, c.code.ensures, c.check_or_due.ensures.checked)

pub returns-clause-exactly : goal.returns-clause-exactly
returns-clause-exactly c = code_exactly _ _ c.code.ensures c.check_or_due.ensures.exactly

pub returns-clause-counted : goal.returns-clause-counted
returns-clause-counted c = (c.check_or_due.result, c.code.ensures, c.check_or_due.ensures.counted)

pub returns-clause-due : goal.returns-clause-due
returns-clause-due c = code_short _ _ c.code.ensures c.check_or_due.ensures.due
