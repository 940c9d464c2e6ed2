use Rattle.std.proofs.Common.{refl, false}
use Rattle.ciborium_ll.specs.Sides.{sides}
use Rattle.ciborium_ll.proofs.DecodingLaws.{exit_is, MovesOn-then}
use Rattle.cbor_skip.specs.declared.SkipError.TheVariants as s
use Rattle.cbor_skip.proofs.FailureLaws.{stop_fails}
use Rattle.cbor_skip.proofs.ItemSteps.{pull_stops, stops_here}
use Rattle.cbor_json.specs.ItemStops.{no_item}
use Rattle.cbor_json.proofs.ItemWriteLaws.{item_written, none_came}
use Rattle.cbor_json.proofs.MoveLaws.{item_failures}
use Rattle.cbor_json.proofs.write_json.Goals as goal

pub returns-in_err-header-clause-reads : goal.returns-in_err-header-clause-reads
returns-in_err-header-clause-reads g c =
    let stops = pull_stops g.R.Read c.offset-place.ensures.same c.in_err-header.ensures.header in
    rw (exit_is _ _ c.from_residual.ensures.1) (record {
      reads = stops;
      failures = stop_fails g.R.Read false c.args.depth 64 _ _ _ stops;
      moves_on = rw c.offset-place.ensures.same at c.in_err-header.ensures.moves_on;
    })

pub returns-in_err-header-clause-written : goal.returns-in_err-header-clause-written
returns-in_err-header-clause-written g c =
    rw (exit_is _ _ c.from_residual.ensures.1) (none_came g.R.Read g.W.Write {error = c.in_err-header.field-0.0}
    c.offset-place.ensures.same c.in_err-header.ensures.header)

pub returns-in-Break-clause-reads : goal.returns-in-Break-clause-reads
returns-in-Break-clause-reads g c =
    let pulled = rw (c.offset-place.ensures.same, c.in-Break.is) at c.in_ok-header.ensures.header in
    record {
      reads = stops_here g.R.Read (record {
        not_closable = refl;
        place = c.offset-place.ensures.value;
        pulled = pulled;
      });
      failures = pulled.failures;
      moves_on = rw c.offset-place.ensures.same at c.in_ok-header.ensures.moves_on;
    }

pub returns-in-Break-clause-written : goal.returns-in-Break-clause-written
returns-in-Break-clause-written g c =
    no_item {error = s.Break c.offset-place.result}
    (rw (c.offset-place.ensures.same, c.in-Break.is) at c.in_ok-header.ensures.header)

pub returns-clause-written : goal.returns-clause-written
returns-clause-written g c =
    rw c.first.ensures at (item_written g.R.Read g.W.Write c.first.result _ _ c.write_item.result
    (rw c.offset-place.ensures.same at c.in_ok-header.ensures.header)
    (rw c.offset-place.ensures.same at c.in_ok-header.ensures.moves_on.steady) c.offset-place.ensures.value
    c.write_item.ensures.written)

pub returns-clause-reads : goal.returns-clause-reads
returns-clause-reads g c =
    let pulled = rw c.offset-place.ensures.same at c.in_ok-header.ensures.header in
    let first = rw c.offset-place.ensures.same at c.in_ok-header.ensures.moves_on in
    let reads = c.write_item.ensures.reads c.args.decoder.now false c.offset-place.ensures.value pulled first.steady in
    record {
      reads = reads;
      failures = item_failures g.R.Read g.W.Write _ c.args.depth
          (sides c.args.decoder.now c.args.writer.now) (sides c.write_item.new.decoder c.write_item.new.writer)
          c.write_item.result reads (returns-clause-written g c);
      moves_on = MovesOn-then g.R.Read _ _ _ first c.write_item.ensures.moves_on;
    }
