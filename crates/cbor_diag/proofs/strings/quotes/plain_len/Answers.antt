use Rattle.std.proofs.Common.{get_or, arith, take}
use Rattle.std.proofs.lemmas.List.{take_more}
use Rattle.cbor_diag.proofs.PassedLaws.{stand_more}
use Rattle.cbor_diag.proofs.strings.quotes.plain_len.Goals as goal

pub bytes-preserved : goal.bytes-preserved
bytes-preserved c =
    let xs = c.args.bytes.now in
    let n = c.bytes.len in
    let stands = c.stands_for_itself.ensures.0 c.if-stands_for_itself.true in
    record {
      within = omega (arith, c.bytes-test.true);
      alone = rw (take_more xs n 0 c.bytes-test.true) (stand_more (take n xs) (get_or xs n 0) c.bytes.invariant.alone
          stands.1 stands.0);
    }
