use Rattle.std.proofs.Common.{refl, false}
use Rattle.ciborium_ll.specs.Sides.{sides}
use Rattle.ciborium_ll.proofs.DecodingLaws.{exit_is, MovesOn-then}
use Rattle.cbor_skip.specs.declared.SkipError.TheVariants as s
use Rattle.cbor_skip.proofs.FailureLaws.{stop_fails}
use Rattle.cbor_skip.proofs.ItemSteps.{pull_stops, stops_here}
use Rattle.cbor_diag.specs.ItemStops.{no_item}
use Rattle.cbor_diag.proofs.ItemTextLaws.{item_shown, none_came}
use Rattle.cbor_diag.proofs.MoveLaws.{item_failures}
use Rattle.cbor_diag.proofs.nests.show_one.Goals as goal

pub returns-in_err-marked-clause-reads : goal.returns-in_err-marked-clause-reads
returns-in_err-marked-clause-reads g c =
    let stops = pull_stops g.R.Read c.offset-place.ensures.same c.in_err-marked.ensures.pulls in
    rw (exit_is _ _ c.from_residual.ensures.1) (record {
      reads = stops;
      failures = stop_fails g.R.Read false c.args.depth 64 _ _ _ stops;
      moves_on = rw c.offset-place.ensures.same at c.in_err-marked.ensures.moves_on;
    })

pub returns-in_err-marked-clause-shown : goal.returns-in_err-marked-clause-shown
returns-in_err-marked-clause-shown g c =
    rw (exit_is _ _ c.from_residual.ensures.1) (none_came g.R.Read g.W.Write _ {error = c.in_err-marked.field-0.0}
    c.offset-place.ensures.same c.in_err-marked.ensures.pulls)

pub returns-in-Break-clause-reads : goal.returns-in-Break-clause-reads
returns-in-Break-clause-reads g c =
    let pulled = rw (c.offset-place.ensures.same, c.in-Break.is) at c.in_ok-marked.ensures.pulls.pulled in
    record {
      reads = stops_here g.R.Read (record {
        not_closable = refl;
        place = c.offset-place.ensures.value;
        pulled = pulled;
      });
      failures = pulled.failures;
      moves_on = rw c.offset-place.ensures.same at c.in_ok-marked.ensures.moves_on;
    }

pub returns-in-Break-clause-shown : goal.returns-in-Break-clause-shown
returns-in-Break-clause-shown g c =
    no_item {error = s.Break c.offset-place.result}
    (rw (c.offset-place.ensures.same, c.in-Break.is) at c.in_ok-marked.ensures.pulls.pulled)

pub returns-clause-shown : goal.returns-clause-shown
returns-clause-shown g c =
    let marked = rw c.offset-place.ensures.same at c.in_ok-marked.ensures.pulls in
    item_shown g.R.Read g.W.Write _ _ _ _ c.show_item.result marked.pulled
    (rw c.offset-place.ensures.same at c.in_ok-marked.ensures.moves_on.steady)
    (rw marked.mark at c.show_item.ensures.shown)

pub returns-clause-reads : goal.returns-clause-reads
returns-clause-reads g c =
    let pulled = rw c.offset-place.ensures.same at c.in_ok-marked.ensures.pulls.pulled in
    let first = rw c.offset-place.ensures.same at c.in_ok-marked.ensures.moves_on in
    let reads = c.show_item.ensures.reads c.args.decoder.now false c.offset-place.ensures.value pulled first.steady in
    record {
      reads = reads;
      failures = item_failures g.R.Read g.W.Write _ _ c.args.depth
          (sides c.args.decoder.now c.args.writer.now) (sides c.show_item.new.decoder c.show_item.new.writer)
          c.show_item.result reads (returns-clause-shown g c);
      moves_on = MovesOn-then g.R.Read _ _ _ first c.show_item.ensures.moves_on;
    }
