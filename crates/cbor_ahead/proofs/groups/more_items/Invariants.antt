use Rattle.std.proofs.Common.{◌-◌, ◌≤◌, length, take}
use Rattle.ciborium_ll_grammar.specs.Items.{AreItems}
use Rattle.cbor_ahead.proofs.groups.more_items.Given as goal

abbrev pub invariant-groups : goal.invariant-groups
invariant-groups l = record {
  within : l.run.len ≤ length l.bytes;
  most : l.run.count ≤ l.most;
  items : AreItems l.spelling l.depth l.run.count (take l.run.len l.bytes);
}

-- Each item takes at least one byte.
abbrev pub decreases-groups : goal.decreases-groups
decreases-groups l = length l.bytes - l.run.len
