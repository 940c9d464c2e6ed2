use Rattle.std.proofs.Common.{List, ℕ, rules, subst}
use Rattle.cbor_view.specs.Segments.{SpellsText}
use Rattle.capi.specs.Viewing.{Finds}
use Rattle.capi.proofs.cll_item_get_text.Goals as goal

pub returns-clause-found : goal.returns-clause-found
returns-clause-found c = λ is. (
  c.by_text.result,
  search rules,
  subst (λ (v : List ℕ). Finds (λ other. ∥ SpellsText other v ∥₁) c.args.item.now c.by_text.result c.args.value.now
      c.by_text.new.value) c.text_of.ensures c.by_text.ensures,
)
