use Rattle.std.proofs.Common.{length}
use Rattle.cbor_skip.proofs.ItemRuns.{one_item}
use Rattle.cbor_skip.proofs.SkippingToldLaws.{skip_told, skip_exactly, ok_told}
use Rattle.cbor_skip.proofs.skip_item.Goals as goal

pub returns : goal.returns
returns g c =
    let old = c.args.decoder.now in
    let new = c.skip_items.new.decoder in
    let room = length c.args.buffer.now in
    let result = c.skip_items.result in
    let skipped = one_item g.R.Read c.args.depth room old result new c.skip_items.ensures.skipped in
    record {
      skipped = record { skipped = skipped; moves_on = c.skip_items.ensures.moves_on };
      told = λ due ready. skip_told g.R.Read c.args.depth room old due ready new result skipped;
      exactly = λ due ready. skip_exactly g.R.Read c.args.depth room old due ready new result skipped;
      front = λ due told. ok_told g.R.Read c.args.depth room old due told new result skipped;
    }
