use Rattle.std.proofs.Common.{◌<◌, length, rules, arith}
use Rattle.ciborium_ll_text.proofs.Lists.{rest_long}
use Rattle.cbor_checker.specs.Walking.{rest_of}
use Rattle.cbor_checker.proofs.LeadLaws.{one_leads, text_one}
use Rattle.cbor_checker.proofs.walk.Walk.run.Goals as goal

pub returns-in-Text : goal.returns-in-Text
returns-in-Text c =
    let rest = rest_of c.args.bytes.now c.args.at in
    let some : 0 < length rest = omega (arith, rest_long c.args.bytes.now c.args.at, c.requires.some) in
    record {
      some = omega arith;
      within = some;
      lent = search rules;
      leads = one_leads rest _ _ (λ i less. search rules) some
          (text_one c.in-Text.left c.in-Text.state _ _ _ (search rules) (search rules) c.text_step.ensures.spot);
    }
