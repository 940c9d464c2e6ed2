use Rattle.ciborium_ll_recode.proofs.recode.copy_string.Goals as goal

pub returns-in-Some-clause-copied : goal.returns-in-Some-clause-copied
returns-in-Some-clause-copied g c = λ count before old title is allowed behind.
    c.copy_long.ensures.copied count before old title (rw c.in-Some.is at is) (rw c.in-Some.is at allowed) behind

pub returns-in-Some-2-clause-copied : goal.returns-in-Some-2-clause-copied
returns-in-Some-2-clause-copied g c = λ count before old title is allowed behind.
    c.copy_definite.ensures.copied count before old title (rw c.in-Some-2.is at is) (rw c.in-Some-2.is at allowed)
    behind

pub returns-in-None-clause-copied : goal.returns-in-None-clause-copied
returns-in-None-clause-copied g c = λ count before old title is allowed behind.
    c.copy_indefinite.ensures.copied count before old title (rw c.in-None.is at is)
    (rw c.in-None.is at allowed) behind
