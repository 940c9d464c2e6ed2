use Rattle.std.proofs.Common.{◌≤◌, ◌+◌, ◌*◌}
use Rattle.ciborium_ll_grammar.specs.Items.{AreItems}
use Rattle.cbor_encode.specs.Left.{left_of}
use Rattle.cbor_encode.proofs.items.+items.Given as goal

-- The contents of a nest are a level deeper.
abbrev pub decreases-put_array : goal.decreases-put_array
decreases-put_array l = 3 * l.depth

abbrev pub decreases-put_map : goal.decreases-put_map
decreases-put_map l = 3 * l.depth

abbrev pub decreases-put_embedded : goal.decreases-put_embedded
decreases-put_embedded l = 3 * l.depth

abbrev pub decreases-put_number : goal.decreases-put_number
decreases-put_number l = 3 * l.depth

abbrev pub decreases-put_item : goal.decreases-put_item
decreases-put_item l = 3 * l.depth + 1

abbrev pub decreases-read_tagged : goal.decreases-read_tagged
decreases-read_tagged l = 3 * l.depth + 2

abbrev pub decreases-read_items : goal.decreases-read_items
decreases-read_items l = 3 * l.depth + 2

abbrev pub decreases-read_pairs : goal.decreases-read_pairs
decreases-read_pairs l = 3 * l.depth + 2

abbrev pub invariant-read_items-items : goal.invariant-read_items-items
invariant-read_items-items l = record {
  within : left_of l.cursor ≤ left_of l.fn.cursor;
  count : l.count + left_of l.cursor ≤ left_of l.fn.cursor;
  items : AreItems l.rules.spelling l.depth l.count l.bytes.items;
}

abbrev pub decreases-read_items-items : goal.decreases-read_items-items
decreases-read_items-items l = left_of l.cursor

abbrev pub invariant-read_pairs-pairs : goal.invariant-read_pairs-pairs
invariant-read_pairs-pairs l = record {
  within : left_of l.cursor ≤ left_of l.fn.cursor;
  count : l.count + left_of l.cursor ≤ left_of l.fn.cursor;
  pairs : AreItems l.rules.spelling l.depth (2 * l.count) l.bytes.items;
}

abbrev pub decreases-read_pairs-pairs : goal.decreases-read_pairs-pairs
decreases-read_pairs-pairs l = left_of l.cursor
