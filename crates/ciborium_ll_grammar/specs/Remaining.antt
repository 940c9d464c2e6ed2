-- The items that are still due within a tag, an array or a map.
use Rattle.std.specs.Prelude.{◌≡◌, ℕ, zero, suc, ◌+◌, ◌*◌, Bool, true, false, Option, Some, None}
use Rattle.ciborium_ll_grammar.specs.declared.hdr.Header.{Header}
use Rattle.ciborium_ll_grammar.specs.declared.hdr.Header.TheVariants as h
use Rattle.ciborium_ll_grammar.specs.declared.remaining.Remaining.{Remaining}
use Rattle.ciborium_ll_grammar.specs.declared.remaining.Remaining.TheVariants as r

-- A nest: a header that items follow, one level deeper. It is that of a tag (RFC 7049, 2.4), an array or a map (2.1,
-- 2.2.1). The titles `c1`, `82` and `bf` begin nests, and `61` begins none.
abbrev pub IsNest : Header → Type 0
IsNest (h.Tag number) = Unit {0}
IsNest (h.Array len) = Unit {0}
IsNest (h.Map len) = Unit {0}
IsNest header = ⊥

-- The contents of a nest, by its header: one item, a counted number of items or pairs, or any number up to a break.
-- `82` has two items, `a2` two pairs, and `c1` one item (RFC 7049, 2.1, 2.2.1 and 2.4).
abbrev pub contents : Header → Remaining
contents (h.Tag number) = r.Items 1
contents (h.Array (Some count)) = r.Items count
contents (h.Array None) = r.OpenItems
contents (h.Map (Some count)) = r.Pairs count
contents (h.Map None) = r.OpenPairs
contents header = r.Items 0

-- The rest of a nest after one more item, if an item is due: two items leave one, and the pair of `a1` leaves its
-- value. With 0 items, as in `80`, none is due.
abbrev pub next : Remaining → Option Remaining
next (r.Items zero) = None
next (r.Items (suc count)) = Some (r.Items count)
next (r.Pairs zero) = None
next (r.Pairs (suc count)) = Some (r.Value count)
next (r.Value count) = Some (r.Pairs count)
next r.OpenItems = Some r.OpenItems
next r.OpenPairs = Some r.OpenValue
next r.OpenValue = Some r.OpenPairs

-- After the header and `count` items these items remain. A tag has one item, an array as many as it counts, and a map
-- two for each pair (RFC 7049, 2.1 and 2.4). A break ends any number of items, and in a map an even number (2.2.1).
-- After `83 01`, `Items(2)` remains, and after `a1 01`, `Value(0)`.
abbrev pub IsRemaining : Header → ℕ → Remaining → Type 0
IsRemaining (h.Tag number) count (r.Items more) = count + more ≡ 1
IsRemaining (h.Array (Some len)) count (r.Items more) = count + more ≡ len
IsRemaining (h.Map (Some len)) count (r.Pairs more) = count + 2 * more ≡ 2 * len
IsRemaining (h.Map (Some len)) count (r.Value more) = count + 2 * more + 1 ≡ 2 * len
IsRemaining (h.Array None) count r.OpenItems = Unit {0}
IsRemaining (h.Map None) count r.OpenPairs = (pairs : ℕ) × (count ≡ 2 * pairs)
IsRemaining (h.Map None) count r.OpenValue = (pairs : ℕ) × (count ≡ 2 * pairs + 1)
IsRemaining header count remaining = ⊥

-- Whether nothing is due: it is so after `82 01 02`, and not after `82 01`.
abbrev pub is_done : Remaining → Bool
is_done (r.Items zero) = true
is_done (r.Pairs zero) = true
is_done remaining = false

-- Whether a break may stand in place of the next item. It may after `9f 01`, and not after `82 01`.
abbrev pub closes : Remaining → Bool
closes r.OpenItems = true
closes r.OpenPairs = true
closes remaining = false

-- Whether the next item is the value of a pair. It is after `a1 01`, and not after `a1`.
abbrev pub is_value : Remaining → Bool
is_value (r.Value count) = true
is_value r.OpenValue = true
is_value remaining = false
