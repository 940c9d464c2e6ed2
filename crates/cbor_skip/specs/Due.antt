-- The point that a read of one item reaches in bytes, and the part that is due there.
use Rattle.std.specs.Prelude.{◌≡◌, ℕ, suc, ◌-◌, ◌*◌, ◌<◌, ◌%◌, ◌==◌, Bool, true, false, List, [], ◌++◌, length, Option}
use Rattle.std.specs.Prelude.{Some, None}
use Rattle.ciborium_ll_grammar.specs.declared.spelling.Spelling.{Spelling}
use Rattle.ciborium_ll_grammar.specs.declared.spelling.Spelling.TheVariants.{Any, Shortest}
use Rattle.ciborium_ll_grammar.specs.declared.hdr.Header.{Header}
use Rattle.ciborium_ll_grammar.specs.declared.hdr.Header.TheVariants as h
use Rattle.ciborium_ll_grammar.specs.Title.{IsTitle, shortest_title, title_len}
use Rattle.ciborium_ll_grammar.specs.Strings.{Kind, kind_header}
use Rattle.ciborium_ll_grammar.specs.Elements.{AreWritable}
use Rattle.ciborium_ll_grammar.specs.Items.{AreItems, AreTakenStrings, IsTakenTitle}
use Rattle.ciborium_ll_grammar.specs.Faults.{IsInside, Point, Due, In, BodyDue}
pub use Rattle.ciborium_ll_grammar.specs.Remaining.{IsNest}

-- After the header and `count` items one more may stand. A tag takes one item (RFC 7049, 2.4), an array as many as it
-- counts, and a map two for each pair (2.1). The indefinite forms take any number (2.2.1). After `82 01` one more may
-- stand, and after `82 01 02` none.
abbrev pub TakesMore : Header → ℕ → Type 0
TakesMore (h.Tag number) count = count < 1
TakesMore (h.Array (Some len)) count = count < len
TakesMore (h.Map (Some len)) count = count < 2 * len
TakesMore (h.Array None) count = Unit {0}
TakesMore (h.Map None) count = Unit {0}
TakesMore header count = ⊥

-- The number of items in the nest, if its header tells it: one after a tag, as many as an array counts, and two for
-- each pair of a map (RFC 7049, 2.1 and 2.4). For example, the map `a2` has 4 items.
abbrev pub item_count : Header → Option ℕ
item_count (h.Tag number) = Some 1
item_count (h.Array len) = len
item_count (h.Map (Some len)) = Some (2 * len)
item_count header = None

-- Whether a break may stand in place of the next item (RFC 7049, 2.2.1). It may in an array of indefinite length. In a
-- map of indefinite length it may after whole pairs, which are an even number of items. It may after `bf 01 02`, and
-- not after `bf 01`.
abbrev pub may_close : Header → ℕ → Bool
may_close (h.Array None) count = true
may_close (h.Map None) count = count % 2 == 0
may_close header count = false

-- `ItemDue allowed outer depth bytes levels closable`: the bytes are a beginning of an item to the depth, and then an
-- item to `levels` levels is due. If `allowed` is `Shortest`, the beginning is in the shortest spelling. `closable`
-- says whether a break may stand in place of the item that is due. `outer` says the same of the whole item (RFC 7049,
-- 2.1 to 2.4). After `82 01` with depth 3, an item to 2 levels is due, and no break may stand.
pub data ItemDue (allowed : Spelling) : Bool → ℕ → List ℕ → ℕ → Bool → Type 0 where
  -- Nothing was read.
  here : {outer : Bool} {depth : ℕ} → ItemDue allowed outer depth [] depth outer
  -- A nest's title and some of its items were read, and a beginning of the next one.
  within : {outer closable : Bool} {depth levels count : ℕ} {title items more : List ℕ} {header : Header}
      → IsTitle title header → IsTakenTitle allowed title header → TakesMore header count
      → AreItems allowed depth count items → ItemDue allowed (may_close header count) depth more levels closable
      → ItemDue allowed outer (suc depth) (title ++ (items ++ more)) levels closable

-- Within a string that isn't closed: if only the shortest spelling is taken, the open holds only strings of a definite
-- length. Each has a strict title (RFC 7049, 2.2.2 and 3.9). So `5f 41 01` is taken, and `5f 5f` and `5f 58 01 01` are
-- not.
abbrev pub IsTakenInside : Spelling → Kind → List ℕ → List (List ℕ) → Type 0
IsTakenInside Shortest kind opens bodies = (strings : List ℕ)
    × (opens ≡ shortest_title (kind_header kind None) ++ strings) × AreTakenStrings Shortest kind strings bodies
IsTakenInside Any kind opens bodies = Unit {0}

-- `ReachesItem allowed depth bytes point`: the bytes are a beginning of an item to the depth, and lead to the point. If
-- `allowed` is `Shortest`, the beginning is in the shortest spelling. An item is due at the point, or a further string
-- or the end of a string, or a body (RFC 7049, 2.2.2 and 3.9). With depth 1, an item is due after `82 01`, a string or
-- the end after `5f`, and a body of 2 bytes after `42`.
pub data ReachesItem (allowed : Spelling) (depth : ℕ) : List ℕ → Point → Type 0 where
  at_item : {bytes : List ℕ} {levels : ℕ} {closable : Bool} → ItemDue allowed false depth bytes levels closable
      → ReachesItem allowed depth bytes Due
  at_string : {bytes opens : List ℕ} {levels : ℕ} {closable : Bool} {bodies : List (List ℕ)} {kind : Kind}
      → ItemDue allowed false depth bytes levels closable → IsInside kind opens bodies
      → IsTakenInside allowed kind opens bodies → AreWritable kind bodies
      → ReachesItem allowed depth (bytes ++ opens) (In kind)
  -- The place is the end of the title less the length of the shortest title. If the title is longer than the shortest
  -- title, the place is later than the title's start: 1 after `58 02`, and 0 after `42`.
  at_body : {bytes title : List ℕ} {len : ℕ} (kind : Kind) → ReachesItem allowed depth bytes Due
      → IsTitle title (kind_header kind (Some len)) → IsTakenTitle allowed title (kind_header kind (Some len))
      → ReachesItem allowed depth (bytes ++ title)
      (BodyDue kind len (length (bytes ++ title) - title_len (kind_header kind (Some len))))
  at_piece : {bytes title : List ℕ} {len : ℕ} {kind : Kind} → ReachesItem allowed depth bytes (In kind)
      → IsTitle title (kind_header kind (Some len)) → IsTakenTitle allowed title (kind_header kind (Some len))
      → ReachesItem allowed depth (bytes ++ title) (BodyDue kind len (length bytes))
