use Rattle.capi.proofs.items.within.Goals as goal

pub returns-in-Array : goal.returns-in-Array
returns-in-Array c = rw c.in-Array.is c.nested.ensures

pub returns-in-Map : goal.returns-in-Map
returns-in-Map c = rw c.in-Map.is c.nested-in-Map.ensures

pub returns-in-Tag : goal.returns-in-Tag
returns-in-Tag c = rw c.in-Tag.is c.nested-in-Tag.ensures
