use Rattle.std.proofs.Common.{◌<◌, arith, rules}
use Rattle.std.proofs.lemmas.List.{take_rest}
use Rattle.cbor_deterministic.proofs.FlatLaws.{flat_more, flat_none}
use Rattle.cbor_deterministic.proofs.flat.flat_run.Goals as goal

pub items-init : goal.items-init
items-init c = record {
  within = omega arith;
  most = omega arith;
  flat = flat_none c.args.most;
}

pub items-preserved : goal.items-preserved
items-preserved c =
    let some : 0 < c.item_len-len.result = omega (arith, c.if-len-eq0.false) in
    let i = c.items.invariant in
    record {
      within = search rules;
      most = omega (arith, i.most);
      flat = flat_more c.args.bytes.now c.args.most c.items.left c.items.at c.item_len-len.result c.items-test.true
          i.most i.flat (rw take_rest at (c.item_len-len.ensures.flat some));
    }
