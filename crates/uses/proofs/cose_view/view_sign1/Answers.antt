use Rattle.std.proofs.Common.{refl}
use Rattle.uses.specs.CoseView.{BeginsMessage, BeginsToDepth, IsNoSign1}
use Rattle.uses.proofs.CoseViewLaws.{no_message}
use Rattle.uses.proofs.cose_view.view_sign1.Goals as goal

pub returns-in-Some-clause-exactly : goal.returns-in-Some-clause-exactly
returns-in-Some-clause-exactly c =
    let begun : BeginsMessage c.args.bytes.now c.in-Some.message = record {
      item = c.in-Ok.item.bytes.now;
      rest = c.in-Ok.ensures.whole.0;
      is = c.in-Ok.ensures.whole.1;
      is_item = c.in-Ok.ensures.item;
      has = c.in-Some.ensures;
    } in
    (λ yes. (c.in-Some.message, begun), λ found. refl)

pub returns-in-None-clause-exactly : goal.returns-in-None-clause-exactly
returns-in-None-clause-exactly c =
    let none : BeginsToDepth IsNoSign1 c.args.bytes.now = record {
      item = c.in-Ok.item.bytes.now;
      rest = c.in-Ok.ensures.whole.0;
      is = c.in-Ok.ensures.whole.1;
      is_item = c.in-Ok.ensures.item;
      has = c.in-None.ensures;
    } in
    (λ never. absurd cc, λ found. absurd (no_message c.args.bytes.now none found))
