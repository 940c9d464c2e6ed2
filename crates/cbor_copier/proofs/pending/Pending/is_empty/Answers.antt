use Rattle.std.proofs.Common.{◌∙◌, sym, eq-eqb}
use Rattle.cbor_copier.proofs.PendingLaws.{some_left}
use Rattle.std.proofs.lemmas.Bool.{false≢true}
use Rattle.cbor_copier.proofs.pending.Pending.is_empty.Goals as goal

pub returns-clause-no : goal.returns-clause-no
returns-clause-no c = λ no none.
    let few = c.self.inside.few in
    let all = some_left c.self.inside.given few (c.self.view_is ∙ none) c.self.invariant in
    false≢true (sym no ∙ eq-eqb c.self.inside.given c.len.result (all ∙ sym c.len.ensures))
