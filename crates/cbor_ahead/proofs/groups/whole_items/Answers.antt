use Rattle.ciborium_ll_grammar.specs.Items.{no_items}
use Rattle.cbor_ahead.proofs.groups.whole_items.Goals as goal

pub more_items-many-requires-clause-items : goal.more_items-many-requires-clause-items
more_items-many-requires-clause-items c = no_items

pub returns-then-bytes-le-LONGEST_TITLE-clause-items : goal.returns-then-bytes-le-LONGEST_TITLE-clause-items
returns-then-bytes-le-LONGEST_TITLE-clause-items c = no_items
