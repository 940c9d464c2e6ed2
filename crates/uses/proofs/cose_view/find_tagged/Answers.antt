use Rattle.std.proofs.Common.{rules, ◌≡◌}
use Rattle.uses.proofs.CoseViewLaws.{no_tag, tag_other}
use Rattle.uses.proofs.cose_view.find_tagged.Goals as goal

pub returns-in_default : goal.returns-in_default
returns-in_default c = no_tag c.args.item.now.bytes.now c.in_default.ensures

pub returns-else-number-eq-SIGN1 : goal.returns-else-number-eq-SIGN1
returns-else-number-eq-SIGN1 c =
    let other : c.in-Some.number ≡ 18 → ⊥ = search rules in
    tag_other c.args.item.now.depth c.args.item.now.bytes.now c.in-Some.inner.bytes.now c.in-Some.number
    c.in-Some.ensures.0 other
