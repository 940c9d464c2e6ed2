use Rattle.std.proofs.Common.{◌∙◌, refl, sym, rules}
use Rattle.cbor_item_copier.proofs.SavedLaws.{keeps_some, saved_read}
use Rattle.cbor_item_copier.proofs.copier.ItemCopier.load.Goals as goal

pub returns-in_default-clause-found : goal.returns-in_default-clause-found
returns-in_default-clause-found c = λ holds. c.in_default.ensures.found holds.1

pub returns-in_default-clause-kept : goal.returns-in_default-clause-kept
returns-in_default-clause-kept c = λ allowed depth read written keeps.
    let no = c.in_default.ensures.found (keeps_some allowed depth read written c.args.snapshot.now keeps).1 in absurd cc

pub returns-then-not-load-clause-found : goal.returns-then-not-load-clause-found
returns-then-not-load-clause-found c = λ holds.
    let both = sym c.if-not-load.true ∙ c.load.ensures.found holds.0 in absurd cc

pub returns-then-not-load-clause-kept : goal.returns-then-not-load-clause-kept
returns-then-not-load-clause-kept c = λ allowed depth read written keeps.
    let holds = keeps_some allowed depth read written c.args.snapshot.now keeps in
    let both = sym c.if-not-load.true ∙ c.load.ensures.found holds.0 in absurd cc

pub returns-clause-some : goal.returns-clause-some
returns-clause-some c = λ is. (c.load.ensures.some (search rules), c.in-Some.ensures.some)

pub returns-clause-kept : goal.returns-clause-kept
returns-clause-kept c = λ allowed depth read written keeps. (
  refl,
  saved_read allowed depth read written _ c.args.snapshot.now keeps
      (c.load.ensures.some (search rules), c.in-Some.ensures.some),
)
