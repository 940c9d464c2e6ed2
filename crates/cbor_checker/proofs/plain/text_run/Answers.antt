use Rattle.std.proofs.Common.{◌-◌, ◌<◌, take, drop, length, arith, rules}
use Rattle.std.proofs.lemmas.List.{take_rest}
use Rattle.cbor_checker.specs.Plain.{IsPlainItem}
use Rattle.cbor_checker.proofs.PlainLaws.{plain_more}
use Rattle.cbor_checker.proofs.PlainRuns.{plain_none}
use Rattle.cbor_checker.proofs.plain.text_run.Goals as goal

pub texts-init : goal.texts-init
texts-init c =
    record {
      within = omega arith;
      most = omega arith;
      some = λ less. absurd (omega (arith, less));
      plain = λ allowed tags. plain_none allowed tags c.args.offset c.args.place.now c.args.most;
    }

pub texts-preserved : goal.texts-preserved
texts-preserved c =
    let some : 0 < c.text_len-len.result = omega (arith, c.if-len-eq0.false) in
    record {
      within = search rules;
      most = omega (arith, c.texts.invariant.most);
      some = λ less. omega (arith, some);
      plain = λ allowed tags.
          let xs = c.args.bytes.now in
          let at = c.texts.at in
          let one : IsPlainItem allowed (take c.text_len-len.result (take (length xs - at) (drop at xs))) =
          c.text_len-len.ensures.plain allowed some in
          plain_more allowed tags c.args.offset c.args.place.now c.texts.last c.args.most c.texts.left at
          c.text_len-len.result xs
          c.texts.invariant.within c.texts-test.true c.texts.invariant.most (c.texts.invariant.plain allowed tags)
          (rw take_rest at one);
    }
