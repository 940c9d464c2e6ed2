use Rattle.std.proofs.Common.{◌-◌, ◌<◌, length, drop, arith}
use Rattle.std.proofs.lemmas.List.{length-drop, length-take-le}
use Rattle.cbor_ahead.proofs.GroupLaws.{more_taken}
use Rattle.cbor_ahead.proofs.groups.more_items.Goals as goal

pub groups-preserved : goal.groups-preserved
groups-preserved c =
    let bytes = c.args.bytes.now in
    let at = c.groups.run.len in
    let some : 0 < c.group_len-len.result = omega (arith, c.if-len-eq0.false) in
    record {
      within = omega (
        arith,
        c.group_len-len.ensures.within,
        length-take-le (length bytes - at) (drop at bytes) (omega (arith, length-drop at bytes)),
        c.groups.invariant.within,
      );
      most = omega (arith, c.groups-test.true, c.groups.invariant.most);
      items = more_taken c.args.spelling c.args.depth c.groups.run.count c.args.size at c.group_len-len.result bytes
          c.groups.invariant.items (c.group_len-len.ensures.items some);
    }
