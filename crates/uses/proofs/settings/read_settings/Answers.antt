use Rattle.std.proofs.Common.{◌≡◌, [], refl, arith, add-one}
use Rattle.ciborium_ll.proofs.DecodingLaws.{MovesOn-none, MovesOn-then, ReadsPast-none}
use Rattle.uses.specs.Settings.{no_entries}
use Rattle.uses.proofs.SettingsLaws.{entries_more, other_read}
use Rattle.uses.proofs.settings.read_settings.Goals as goal
use Rattle.uses.proofs.settings.read_settings.Goals.{then-not-branch+in_ok-skip_item, else-not-branch}

pub entries-init : goal.entries-init
entries-init g c = record {
  entries = record { bytes = []; are_entries = no_entries; passed = ReadsPast-none g.R.Read _ };
  moves_on = MovesOn-none g.R.Read _;
}

pub entries-preserved : goal.entries-preserved
entries-preserved g c =
    let so_far = c.entries.invariant in
    let kept = c.in_ok-read_known.ensures.moves_on in
    elim c.if-not-branch.branch [
      | then-not-branch+in_ok-skip_item w ↦
          let key = rw w.if-not-branch.true at c.in_ok-read_known.ensures.known in
          let item = w.in_ok-skip_item.ensures.skipped in
          rw (w.decoder-is, key.1, add-one) (record {
            entries = entries_more g.R.Read so_far.entries (other_read g.R.Read key.0 kept item.skipped);
            moves_on = MovesOn-then g.R.Read _ _ _ so_far.moves_on (MovesOn-then g.R.Read _ _ _ kept item.moves_on);
          })
      | else-not-branch w ↦
          let entry = rw w.if-not-branch.false at c.in_ok-read_known.ensures.known in
          rw (w.decoder-is, add-one) (record {
            entries = entries_more g.R.Read so_far.entries entry;
            moves_on = MovesOn-then g.R.Read _ _ _ so_far.moves_on kept;
          })
    ]

pub returns-clause-read : goal.returns-clause-read
returns-clause-read g c =
    let all : c.entries._read ≡ c.in-Map-Some.count = omega arith in
    record {
      count = c.in-Map-Some.count;
      opened = c.pull.new.self;
      pulled = rw (c.offset-place.ensures.same, c.in-Map-Some.is, c.in-Map-Some.field-0-is) at
          c.in_ok-count.ensures.header;
      empty = _;
      no_host = refl;
      no_port = refl;
      entries = rw all at c.entries.invariant.entries;
    }
