-- The body of a byte string that is shown as the item that it is (RFC 8949, 3.4.5.1).
use Rattle.std.specs.Prelude.{◌≡◌, ℕ, ◌+◌, ◌<◌, Bool, true, List, [], length, Option}
use Rattle.ciborium_ll_grammar.specs.declared.spelling.Spelling.{Spelling}
use Rattle.ciborium_ll.specs.Decoding.{offset_limit}
use Rattle.ciborium_ll.specs.Items.{IsItem}
use Rattle.cbor_dump.specs.Dumps.{Lines}
use Rattle.cbor_dump.specs.Levels.{Line, Meant}
use Rattle.cbor_dump.specs.Takings.{most_bytes}

-- The rows of an item in a body were drawn this many levels deeper: as a dump of the body from this offset on draws them.
-- In `42 81 00` the rows of `81` and `00` have the offsets 1 and 2, one level deeper than their levels 0 and 1.
pub record DrawsBody {S : Type 0} (base : S → ℕ) (drawn : S → Option (List Line)) (depth offset levels : ℕ)
    (body : List ℕ) (old new : S) : Type 0 where
  pub deep : S
  pub behind : S
  pub deeper : base deep ≡ levels
  pub still : drawn deep ≡ drawn old
  pub lines : Lines depth offset (drawn deep) (drawn behind) [] body Meant
  pub back : base new ≡ 0
  pub kept : drawn new ≡ drawn behind

-- A body is shown as an item exactly if it is one, and its offsets can be counted, with a row's most bytes to spare.
-- `81 00` is one, and `81` is none.
pub record IsShownAs (allowed : Spelling) (depth offset : ℕ) (body : List ℕ) (is : Bool) : Type 0 where
  pub shown : is ≡ true → IsItem allowed depth body
  pub item : IsItem allowed depth body → offset + length body + most_bytes < offset_limit → is ≡ true
