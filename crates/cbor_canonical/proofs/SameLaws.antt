-- Two values that are the same as a third value are the same.
use Rattle.cbor_deterministic.specs.Values.{Value, Values, Pairs, Same, SameAll, EachIn, IsIn, here, there, each_none}
use Rattle.cbor_deterministic.specs.Values.{each_pair, same_unsigned, same_negative, same_bytes, same_text, same_array}
use Rattle.cbor_deterministic.specs.Values.{same_map, same_tagged, same_simple, same_float, same_end, same_item}

map_in : {k v l w : Value} {rs : Pairs} → ((m : Value) → Same l m → Same k m) → ((n : Value) → Same w n → Same v n)
    → IsIn l w rs → IsIn k v rs
map_in f g (here s t) = here (f _ s) (g _ t)
map_in f g (there i) = there (map_in f g i)

map_each : {ps qs rs : Pairs} → EachIn ps qs → ((k v : Value) → IsIn k v qs → IsIn k v rs) → EachIn ps rs
map_each each_none f = each_none
map_each (each_pair i is) f = each_pair (f _ _ i) (map_each is f)

mutual
  -- The proof by cases of the first premise.
  pub same_trans : {u v w : Value} → Same u v → Same v w → Same u w
  same_trans same_unsigned same_unsigned = same_unsigned
  same_trans same_negative same_negative = same_negative
  same_trans same_bytes same_bytes = same_bytes
  same_trans same_text same_text = same_text
  same_trans same_simple same_simple = same_simple
  same_trans same_float same_float = same_float
  same_trans (same_tagged s) (same_tagged t) = same_tagged (same_trans s t)
  same_trans (same_array s) (same_array t) = same_array (all_trans s t)
  same_trans (same_map s s') (same_map t t') = same_map (each_trans s t) (map_each t' (λ k v i. in_back i s'))

  all_trans : {us vs ws : Values} → SameAll us vs → SameAll vs ws → SameAll us ws
  all_trans same_end same_end = same_end
  all_trans (same_item s ss) (same_item t ts) = same_item (same_trans s t) (all_trans ss ts)

  each_trans : {ps qs rs : Pairs} → EachIn ps qs → EachIn qs rs → EachIn ps rs
  each_trans each_none t = each_none
  each_trans (each_pair i is) t = each_pair (in_trans i t) (each_trans is t)

  in_trans : {k v : Value} {qs rs : Pairs} → IsIn k v qs → EachIn qs rs → IsIn k v rs
  in_trans (here s t) (each_pair i is) = map_in (λ m z. same_trans s z) (λ n z. same_trans t z) i
  in_trans (there j) (each_pair i is) = in_trans j is

  -- The proof by cases of the second premise.
  back_trans : {u v w : Value} → Same u v → Same v w → Same u w
  back_trans same_unsigned same_unsigned = same_unsigned
  back_trans same_negative same_negative = same_negative
  back_trans same_bytes same_bytes = same_bytes
  back_trans same_text same_text = same_text
  back_trans same_simple same_simple = same_simple
  back_trans same_float same_float = same_float
  back_trans (same_tagged s) (same_tagged t) = same_tagged (back_trans s t)
  back_trans (same_array s) (same_array t) = same_array (all_back s t)
  back_trans (same_map s s') (same_map t t') = same_map (map_each s (λ k v i. in_back i t)) (each_trans t' s')

  all_back : {us vs ws : Values} → SameAll us vs → SameAll vs ws → SameAll us ws
  all_back same_end same_end = same_end
  all_back (same_item s ss) (same_item t ts) = same_item (back_trans s t) (all_back ss ts)

  in_back : {k v : Value} {qs rs : Pairs} → IsIn k v qs → EachIn qs rs → IsIn k v rs
  in_back (here s t) (each_pair i is) = in_same s t i
  in_back (there j) (each_pair i is) = in_back j is

  in_same : {k v l w : Value} {rs : Pairs} → Same k l → Same v w → IsIn l w rs → IsIn k v rs
  in_same s t (here s' t') = here (back_trans s s') (back_trans t t')
  in_same s t (there i) = there (in_same s t i)

mutual
  pub same_sym : {v w : Value} → Same v w → Same w v
  same_sym same_unsigned = same_unsigned
  same_sym same_negative = same_negative
  same_sym same_bytes = same_bytes
  same_sym same_text = same_text
  same_sym same_simple = same_simple
  same_sym same_float = same_float
  same_sym (same_tagged s) = same_tagged (same_sym s)
  same_sym (same_array s) = same_array (all_sym s)
  same_sym (same_map s t) = same_map t s

  all_sym : {vs ws : Values} → SameAll vs ws → SameAll ws vs
  all_sym same_end = same_end
  all_sym (same_item s ss) = same_item (same_sym s) (all_sym ss)
