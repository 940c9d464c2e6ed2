use Rattle.std.proofs.Common.{ap, length, arith}
use Rattle.cbor_view.specs.Views.{IsTextOf}
use Rattle.uses.proofs.WebauthnLaws.{left_all, left_here, left_more, left_none, no_map}
use Rattle.uses.proofs.webauthn.find.Goals as goal

pub returns-in_default : goal.returns-in_default
returns-in_default c = no_map _ _ _ c.in_default.ensures

pub pairs-init : goal.pairs-init
pairs-init c = record {
  left = rw c.bytes.ensures (left_all _ _ _ _ _ _ _ _ c.in-Some.ensures.0 c.in-Some.ensures.1 c.open.ensures);
}

pub returns-then-is_text : goal.returns-then-is_text
returns-then-is_text c =
    let took = c.in-Some-next.ensures.steps in
    let is_text = c.is_text.ensures.0 c.if-is_text.true in (
      rw c.bytes-in-Some-next.ensures (left_here _ _ _ _ _ _ _ _ _ c.pairs.invariant.left took.is_key took.is_value
          took.whole is_text),
      omega (arith, ap length c.bytes-in-Some-next-2.ensures),
    )

pub pairs-preserved : goal.pairs-preserved
pairs-preserved c =
    let took = c.in-Some-next.ensures.steps in
    let none : IsTextOf c.in-Some-next.other.bytes.now c.args.key.now → ⊥ =
    λ is. let tested = c.is_text.ensures.1 is in let answer = c.if-is_text.false in cc in
    record {
      left = rw (c.bytes-in-Some-next.ensures, c.bytes-in-Some-next-2.ensures, took.same_levels) (left_more _ _ _ _ _ _
          _ _ _ c.pairs.invariant.left took.is_key took.is_value took.whole none);
    }

pub returns : goal.returns
returns c = left_none _ _ _ _ _ _ c.pairs.invariant.left c.in_default-next.ensures.steps.none_left
