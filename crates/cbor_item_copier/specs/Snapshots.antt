-- The state of a copier of an item, as plain numbers that a caller keeps in its own memory.
use Rattle.std.specs.Prelude.{ℕ, List, [], ◌++◌}
use Rattle.ciborium_ll_grammar.specs.declared.spelling.Spelling.{Spelling}
use Rattle.cbor_copier.specs.Copying as copy
use Rattle.cbor_copier.specs.Snapshots as copies
use Rattle.cbor_copier.specs.Spots.{Spot as Elements, putting}
use Rattle.cbor_checker.specs.Checking as check
use Rattle.cbor_checker.specs.Snapshots as checks
use Rattle.cbor_checker.specs.Spots.{Spot}
use Rattle.cbor_item_copier.specs.declared.copier.ItemCopier.{ItemCopier}
use Rattle.cbor_item_copier.specs.declared.snapshot.Snapshot.{Snapshot}
use Rattle.cbor_item_copier.specs.Copying.{AreFed}

-- The state of the copier of elements, with the pending bytes: `01` after `01` without room.
abbrev pub kept_spot : ItemCopier → Elements
kept_spot c = copy.spot_of c.copier

-- The numbers are those of these spots. Before the first byte both phases have the number 1. No phase has the number 0.
pub record Holds (snapshot : Snapshot) (item : Spot) (elements : Elements) : Type 0 where
  pub item_is : checks.Holds snapshot.checker item
  pub elements_are : copies.Holds snapshot.copier elements

-- ---- in the words of the grammar

-- The plain numbers are those of a copier that has read and written exactly these bytes, as in `HasCopied`. Numbers
-- that a copier wrote after `82 01` keep `82 01`. How they keep it is their own.
unfoldable pub Keeps : Spelling → ℕ → List ℕ → List ℕ → Snapshot → Type 0
Keeps allowed depth read written snapshot =
    (item : Spot) × (elements : Elements)
    × AreFed allowed depth read item (putting [] elements) (written ++ elements.put)
    × Holds snapshot item elements

-- The plain numbers are those of this copier. The numbers that a copier wrote after `82 01` are those of a copier that
-- has read `82 01`. The law `one_saved` says that all copiers with these numbers answer the same.
abbrev pub Saves : ItemCopier → Snapshot → Type 0
Saves copier snapshot = check.Saves copier.checker snapshot.checker × copy.Saves copier.copier snapshot.copier

-- The plain numbers are those of a state, even if no bytes lead to it. So are the numbers that a copier wrote, and
-- numbers that are all 0 are not.
abbrev pub HoldsSome : Snapshot → Type 0
HoldsSome snapshot = check.HoldsSome snapshot.checker × copy.HoldsSome snapshot.copier
