use Rattle.std.proofs.Common.{◌∙◌, arith}
use Rattle.std.proofs.lemmas.List.{drop_more, drop_all}
use Rattle.ciborium_ll.proofs.EncodingLaws.{WritesBytes-stopped}
use Rattle.uses.specs.Maps.{entries_bytes}
use Rattle.uses.proofs.MapLaws.{midway_first, midway_more, midway_stops, midway_last}
use Rattle.uses.proofs.maps.write_strings.Goals as goal

pub returns-in_err-push-clause-bytes : goal.returns-in_err-push-clause-bytes
returns-in_err-push-clause-bytes g c =
    WritesBytes-stopped g.W.Write _ _ c.from_residual.result _ (entries_bytes c.args.entries.now)
    c.from_residual.ensures.0
    c.in_err-push.ensures.title

pub entries-init : goal.entries-init
entries-init g c = record {
  midway = midway_first g.W.Write c.args.entries.now _ _ c.in_ok-push.ensures.title;
  target = c.in_ok-push.ensures.target;
}

pub returns-in_err-write_entry-clause-bytes : goal.returns-in_err-write_entry-clause-bytes
returns-in_err-write_entry-clause-bytes g c =
    let all = c.args.entries.now in
    midway_stops g.W.Write all _ _ _ _ _ _ c.from_residual-in_err-write_entry.result
    c.from_residual-in_err-write_entry.ensures.0
    (drop_more all c.entries.entry-index _ (omega arith)) c.entries.invariant.midway c.in_err-write_entry.ensures.bytes

pub entries-preserved : goal.entries-preserved
entries-preserved g c =
    let all = c.args.entries.now in
    record {
      midway = midway_more g.W.Write all _ _ _ _ _ _ (drop_more all c.entries.entry-index _ (omega arith))
          c.entries.invariant.midway c.in_ok-write_entry.ensures.bytes;
      target = c.in_ok-write_entry.ensures.target ∙ c.entries.invariant.target;
    }

pub returns-clause-bytes : goal.returns-clause-bytes
returns-clause-bytes g c =
    midway_last g.W.Write c.args.entries.now _ _ _ (drop_all c.entries.entry-index c.args.entries.now (omega arith))
    c.entries.invariant.midway
