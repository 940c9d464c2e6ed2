use Rattle.std.proofs.Common.{◌+◌, ◌*◌}
use Rattle.cbor_deterministic.proofs.ItemRuns.{ItemsLead, PairsLead}
use Rattle.cbor_deterministic.proofs.items.+nests.Given as goal

-- The contents of a nest are a level deeper.
abbrev pub decreases-skip_rest : goal.decreases-skip_rest
decreases-skip_rest l = 4 * l.depth

abbrev pub decreases-skip_titled : goal.decreases-skip_titled
decreases-skip_titled l = 4 * l.depth + 1

abbrev pub decreases-skip_item : goal.decreases-skip_item
decreases-skip_item l = 4 * l.depth + 2

abbrev pub decreases-skip_items : goal.decreases-skip_items
decreases-skip_items l = 4 * l.depth + 3

abbrev pub decreases-skip_pairs : goal.decreases-skip_pairs
decreases-skip_pairs l = 4 * l.depth + 3

abbrev pub invariant-skip_items-items : goal.invariant-skip_items-items
invariant-skip_items-items l = ItemsLead l.order l.depth l.fn.count l.fn.bytes l.due l.rest

abbrev pub decreases-skip_items-items : goal.decreases-skip_items-items
decreases-skip_items-items l = l.due

abbrev pub invariant-skip_pairs-pairs : goal.invariant-skip_pairs-pairs
invariant-skip_pairs-pairs l = PairsLead l.order l.depth l.fn.count l.fn.bytes l.due l.above l.rest

abbrev pub decreases-skip_pairs-pairs : goal.decreases-skip_pairs-pairs
decreases-skip_pairs-pairs l = l.due
