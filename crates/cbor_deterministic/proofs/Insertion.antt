-- The insertion of a pair into ascending pairs, at the place of its key.
use Rattle.cbor_deterministic.specs.Orders.{Precedes}
use Rattle.cbor_deterministic.specs.declared.Order.{Order}
use Rattle.std.proofs.Common.{◌≡◌, ℕ, suc, List, [], ◌∷◌, ◌++◌}
use Rattle.std.specs.declared.cmp.Ordering.{Ordering}
use Rattle.std.specs.declared.cmp.Ordering.TheVariants.{Less, Equal, Greater}
use Rattle.cbor_deterministic.specs.Values.{Value, Pairs, None, Pair, Same, EachIn, IsIn, here, there, each_none}
use Rattle.cbor_deterministic.specs.Values.{each_pair}
use Rattle.cbor_deterministic.proofs.OrderLaws.{Ranks, rank}
use Rattle.cbor_deterministic.proofs.Sorted.{Entry}
use Rattle.cbor_deterministic.proofs.Valued.{Det, DetPairs, det_none, det_pair}
use Rattle.cbor_deterministic.proofs.OneEncoding.{entries}

-- `Put k v qs ps`: the pairs ps are the pairs qs with this pair among them.
pub data Put (k v : Value) : Pairs → Pairs → Type 0 where
  put_here : {qs : Pairs} → Put k v qs (Pair k v qs)
  put_there : {l w : Value} {qs ps : Pairs} → Put k v qs ps → Put k v (Pair l w qs) (Pair l w ps)

-- No entry has this key.
abbrev pub NotIn : List ℕ → List Entry → Type 0
NotIn key [] = Unit {0}
NotIn key (e ∷ es) = (key ≡ e.key → ⊥) × NotIn key es

pub record Inserted (ord : Order) (n : ℕ) (a : List ℕ) (k v : Value) (qs : Pairs) : Type 0 where
  pub pairs : Pairs
  pub bytes : List ℕ
  pub are : DetPairs ord (suc n) a pairs bytes
  pub put : Put k v qs pairs

module _ {ord : Order} where
  pub insert : {n : ℕ} {a : List ℕ} {qs : Pairs} {u : List ℕ} (k v : Value) (kw vw : List ℕ) → Det ord k kw
      → Det ord v vw
      → Precedes ord a kw → (q : DetPairs ord n a qs u) → NotIn kw (entries q) → Inserted ord n a k v qs
  unfolding entries
  insert k v kw vw dk dv p det_none apart = record {
    pairs = Pair k v None;
    bytes = kw ++ (vw ++ []);
    are = det_pair dk p dv det_none;
    put = put_here;
  }
  insert {n = suc m} {a = a} {qs = Pair l x rs} k v kw vw dk dv p
      (det_pair {kw = lw} {vw = xw} {u = rest} dl o dx q) apart =
      go (rank ord kw lw).ordering (rank ord kw lw).ranks (λ less. insert k v kw vw dk dv less q apart.1)
    where
      go : (r : Ordering) → Ranks ord r kw lw
          → (Precedes ord lw kw → Inserted ord m lw k v rs) → Inserted ord (suc m) a k v (Pair l x rs)
      go Less h f = record {
        pairs = Pair k v (Pair l x rs);
        bytes = kw ++ (vw ++ (lw ++ (xw ++ rest)));
        are = det_pair dk p dv (det_pair dl h dx q);
        put = put_here;
      }
      go Equal h f = absurd (apart.0 h)
      go Greater h f =
          let i = f h in
          record {
            pairs = Pair l x i.pairs;
            bytes = lw ++ (xw ++ i.bytes);
            are = det_pair dl o dx i.are;
            put = put_there i.put;
          }

-- ---- the pairs with the new pair

is_still_in : {k v l w : Value} {qs ps : Pairs} → Put k v qs ps → IsIn l w qs → IsIn l w ps
is_still_in put_here i = there i
is_still_in (put_there p) (here s t) = here s t
is_still_in (put_there p) (there i) = there (is_still_in p i)

pub still_in : {k v : Value} {qs ps rs : Pairs} → Put k v qs ps → EachIn rs qs → EachIn rs ps
still_in p each_none = each_none
still_in p (each_pair i is) = each_pair (is_still_in p i) (still_in p is)

pub new_in : {k v l w : Value} {qs ps : Pairs} → Put k v qs ps → Same l k → Same w v → IsIn l w ps
new_in put_here s t = here s t
new_in (put_there p) s t = there (new_in p s t)

pub all_in : {k v : Value} {qs ps rs : Pairs} → Put k v qs ps → EachIn qs rs → IsIn k v rs → EachIn ps rs
all_in put_here is i = each_pair i is
all_in (put_there p) (each_pair j is) i = each_pair j (all_in p is i)
