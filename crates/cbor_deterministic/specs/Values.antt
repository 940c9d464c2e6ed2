-- The values that items stand for (RFC 8949, 2), and when two values are the same. The pairs of a map have no order.
-- Tags are not interpreted, and an integer and a float are never the same.
use Rattle.std.specs.Prelude.{ℕ, zero, suc, List}

mutual
  -- A value (RFC 8949, 2): an unsigned integer, the negative integer -1 - n, bytes, a text, an array or a map. Or it is
  -- a tagged value, a simple value, or a float by its 64 bits. `Negative 0` is -1.
  pub data Value : Type 0 where
    Unsigned : ℕ → Value
    Negative : ℕ → Value
    Bytes : List ℕ → Value
    Text : List ℕ → Value
    Array : Values → Value
    Map : Pairs → Value
    Tagged : ℕ → Value → Value
    Simple : ℕ → Value
    Float : ℕ → Value

  -- The items of an array, in order (RFC 8949, 3.1). [1] has the items `Item (Unsigned 1) End`.
  pub data Values : Type 0 where
    End : Values
    Item : Value → Values → Values

  -- The pairs of a map, in their order in the bytes (RFC 8949, 3.1). `a2 03 04 01 02` has 3: 4 and then 1: 2.
  pub data Pairs : Type 0 where
    None : Pairs
    Pair : Value → Value → Pairs → Pairs

-- How many items there are: two in [1, 2].
abbrev pub item_count : Values → ℕ
item_count End = zero
item_count (Item v vs) = suc (item_count vs)

-- How many pairs there are: two in {1: 2, 3: 4}.
abbrev pub pair_count : Pairs → ℕ
pair_count None = zero
pair_count (Pair k v ps) = suc (pair_count ps)

mutual
  -- The two values are the same. For maps, each pair of either is a pair of the other (RFC 8949, 5.6). For floats, the
  -- bits are the same, so 0.0 and -0.0 differ, and so do NaNs of different payloads. {1: 2, 3: 4} and {3: 4, 1: 2} are
  -- the same.
  pub data Same : Value → Value → Type 0 where
    same_unsigned : {n : ℕ} → Same (Unsigned n) (Unsigned n)
    same_negative : {n : ℕ} → Same (Negative n) (Negative n)
    same_bytes : {body : List ℕ} → Same (Bytes body) (Bytes body)
    same_text : {body : List ℕ} → Same (Text body) (Text body)
    same_array : {vs ws : Values} → SameAll vs ws → Same (Array vs) (Array ws)
    same_map : {ps qs : Pairs} → EachIn ps qs → EachIn qs ps → Same (Map ps) (Map qs)
    same_tagged : {n : ℕ} {v w : Value} → Same v w → Same (Tagged n v) (Tagged n w)
    same_simple : {n : ℕ} → Same (Simple n) (Simple n)
    same_float : {bits : ℕ} → Same (Float bits) (Float bits)

  -- There are as many values in both lists, and each is the same as its partner. The items of [1, 2] and [2, 1] are not
  -- such lists.
  pub data SameAll : Values → Values → Type 0 where
    same_end : SameAll End End
    same_item : {v w : Value} {vs ws : Values} → Same v w → SameAll vs ws → SameAll (Item v vs) (Item w ws)

  -- Each pair of the first list is in the second. So it is with {1: 2} and {3: 4, 1: 2}, but not in reverse.
  pub data EachIn : Pairs → Pairs → Type 0 where
    each_none : {qs : Pairs} → EachIn None qs
    each_pair : {k v : Value} {ps qs : Pairs} → IsIn k v qs → EachIn ps qs → EachIn (Pair k v ps) qs

  -- Some pair has the same key and the same value. {1: 2} has one for 1: 2, and none for 1: 3.
  pub data IsIn : Value → Value → Pairs → Type 0 where
    here : {k v l w : Value} {qs : Pairs} → Same k l → Same v w → IsIn k v (Pair l w qs)
    there : {k v l w : Value} {qs : Pairs} → IsIn k v qs → IsIn k v (Pair l w qs)
