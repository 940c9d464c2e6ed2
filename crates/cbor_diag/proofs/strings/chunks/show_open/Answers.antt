use Rattle.std.proofs.Common.{rules, ◌<◌, ◌^◌}
use Rattle.ciborium_ll.proofs.DecodingLaws.{exit_is, MovesOn-none, MovesOn-then}
use Rattle.cbor_diag.proofs.OpenLaws.{open_begins, open_next, open_read_stops, open_text_stops}
use Rattle.cbor_diag.proofs.strings.chunks.show_open.Goals as goal

pub titles-init : goal.titles-init
titles-init g c = record {
  shown = open_begins g.R.Read g.W.Write g.P.Parser.kind 64 _ c.requires.none_waits c.requires.counted;
  counted = c.requires.counted;
  moves_on = MovesOn-none g.R.Read c.args.decoder.now;
}

pub titles-preserved : goal.titles-preserved
titles-preserved g c = record {
  shown = open_next g.R.Read g.W.Write g.P.Parser.kind 64 _ c.titles.far.opens c.titles.far.is_first _ _ _
      c.titles-test.true c.titles.invariant.shown c.in_ok-far.ensures.next;
  counted = c.in_ok-far.ensures.counted;
  moves_on = MovesOn-then g.R.Read _ _ _ c.titles.invariant.moves_on c.show_next.ensures.moves_on;
}

pub returns-in_err-far-clause-text : goal.returns-in_err-far-clause-text
returns-in_err-far-clause-text g c =
    rw (exit_is _ _ c.from_residual.ensures.1) (open_text_stops g.R.Read g.W.Write g.P.Parser.kind 64 _
    c.titles.far.opens c.titles.far.is_first _ _ _ c.titles-test.true c.titles.invariant.shown
    c.in_err-far.ensures.next)

pub returns-in_err-far-clause-reads : goal.returns-in_err-far-clause-reads
returns-in_err-far-clause-reads g c =
    let less : c.show_next.new.decoder.offset < 2 ^ 64 = search rules in
    rw (exit_is _ _ c.from_residual.ensures.1) (open_read_stops g.R.Read g.W.Write g.P.Parser.kind 64 _
    c.titles.far.opens c.titles.far.is_first _ _ _ c.titles-test.true less c.show_next.ensures.moves_on.steady
    c.titles.invariant.shown c.in_err-far.ensures.next)
