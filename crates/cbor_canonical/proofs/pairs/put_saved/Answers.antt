use Rattle.std.proofs.Common.{arith, rules}
use Rattle.cbor_canonical.proofs.PlaceRuns.{put_more}
use Rattle.cbor_canonical.proofs.pairs.put_saved.Goals as goal

pub bytes-preserved : goal.bytes-preserved
bytes-preserved c =
    let i = c.bytes.invariant in
    record {
      start = omega (arith, i.start);
      until = λ l. omega (arith, c.bytes-test.true);
      reach = omega (arith, i.start, i.reach);
      within = search rules;
      wrote = λ bytes saved l. put_more bytes c.bytes.out c.args.out.now c.args.spans.now c.args.at c.args.from
          c.bytes.next c.bytes.end c.saved_byte.result i.start (omega (arith, c.bytes-test.true, l))
          (omega (arith, c.if-end-out.false)) (i.wrote bytes saved l)
          (c.saved_byte.ensures bytes saved (omega (arith, c.bytes-test.true, l)));
    }
