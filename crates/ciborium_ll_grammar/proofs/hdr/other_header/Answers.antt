use Rattle.std.proofs.Common.{refl, inl, inr}
use Rattle.ciborium_ll_grammar.specs.declared.hdr.Header.TheVariants as h
use Rattle.ciborium_ll_grammar.specs.Title.{numbered, alone, Other, Small, One, Two, Four, Eight}
use Rattle.ciborium_ll_grammar.proofs.hdr.other_header.Goals as goal

pub returns-in-Two : goal.returns-in-Two
returns-in-Two c = rw c.in-Two.is (numbered Other Two c.in-Two.n (rw c.in-Two.is at c.requires))

pub returns-in-Four : goal.returns-in-Four
returns-in-Four c = rw c.in-Four.is (numbered Other Four c.in-Four.n (rw c.in-Four.is at c.requires))

pub returns-in-Eight : goal.returns-in-Eight
returns-in-Eight c = rw c.in-Eight.is (numbered Other Eight c.in-Eight.n (rw c.in-Eight.is at c.requires))

pub returns-in-Open : goal.returns-in-Open
returns-in-Open c = rw c.in-Open.is (alone Other h.Break refl)

pub returns-in-Small : goal.returns-in-Small
returns-in-Small c =
    elim c.in-Small.is [
      | inl e ↦ rw e (numbered Other Small c.in-Small.n (rw e at c.requires))
      | inr e ↦ rw e (numbered Other One c.in-Small.n (rw e at c.requires))
    ]
