use Rattle.std.proofs.Common.{ℕ, List, subst, IsTrue, ◌≡◌}
use Rattle.std.specs.List.{concat}
use Rattle.cbor_view.proofs.SegmentLaws.{as_segments}
use Rattle.cbor_view.proofs.SearchLaws.{text_told, no_text}
use Rattle.cbor_view.proofs.search.is_text.Goals as goal

pub are_joined-requires : goal.are_joined-requires
are_joined-requires c = as_segments c.in-Some.segments.rest.now c.in-Some.segments.are

pub returns-in-Some : goal.returns-in-Some
returns-in-Some c =
    let r = c.are_joined.result in
    text_told c.args.item.now.bytes.now c.in-Some.segments.rest.now c.args.text.now r c.in-Some.ensures
    (λ k bs s. subst (λ (v : List ℕ). (IsTrue r → concat bs ≡ v) × (concat bs ≡ v → IsTrue r))
    c.as_bytes.ensures.value (c.are_joined.ensures k bs s))

pub returns-in-None : goal.returns-in-None
returns-in-None c = no_text c.args.item.now.bytes.now c.args.text.now c.in-None.ensures
