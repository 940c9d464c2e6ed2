-- Where the fault of an item stands, through the nests around it.
use Rattle.std.proofs.Common.{◌≡◌, ℕ, suc, ◌+◌, ◌*◌, ◌%◌, ◌≤◌, ◌<◌, List, [], ◌∷◌, ◌++◌, length, Option}
use Rattle.std.proofs.Common.{Some, None, refl, sym, ◌∙◌, ap, arith, append_assoc}
use Rattle.cbor_canonical.specs.Meeting.{MeetsPart, IsSameKey}
use Rattle.ciborium_ll_grammar.specs.declared.spelling.Spelling.TheVariants.{Any}
use Rattle.ciborium_ll_grammar.specs.declared.hdr.Header.{Header}
use Rattle.ciborium_ll_grammar.specs.declared.hdr.Header.TheVariants as h
use Rattle.ciborium_ll_grammar.specs.Title.{IsTitle, numbered, alone, Unsigned, Negative, ByteString, TextString}
use Rattle.ciborium_ll_grammar.specs.Title.{Array, Map, Tag, Other, Small, One, Two, Four, Eight}
use Rattle.ciborium_ll_grammar.specs.Items.{AreItems, IsItem, no_items as none_any}
use Rattle.ciborium_ll_grammar.proofs.ItemJoins.{items_joined}
use Rattle.cbor_skip.specs.Due.{here, within, TakesMore, may_close}
use Rattle.cbor_canonical.specs.declared.Stop.{Stop}
use Rattle.cbor_canonical.specs.declared.Stop.TheVariants as st
use Rattle.cbor_canonical.specs.Meeting.{MeetsAt, MeetsIn, IsNoValue, MeetsFault, MeetsWithin, MeetsInPair}

-- ---- for any fault

module _ (P : ℕ → List ℕ → Type 0) where
  -- What stands at the start of the bytes.
  pub meets_here : (d : ℕ) (bytes : List ℕ) → P d bytes → MeetsAt P d bytes
  meets_here d bytes p = record {
    before = [];
    tail = bytes;
    levels = d;
    due = λ outer. (outer, here);
    is = p;
    whole = refl;
  }

  -- A title of a nest stands before what its contents meet.
  pub meets_nest : (d : ℕ) (header : Header) (title bytes : List ℕ) → IsTitle title header → MeetsIn P d header bytes
      → MeetsAt P (suc d) (title ++ bytes)
  meets_nest d header title bytes t m =
      let i = m.meets.due (may_close header m.count) in
      record {
        before = title ++ (m.items ++ m.meets.before);
        tail = m.meets.tail;
        levels = m.meets.levels;
        due = λ outer. (i.0, within t tt m.takes m.are i.1);
        is = m.meets.is;
        whole = ap (λ (z : List ℕ). title ++ z) (m.whole ∙ ap (λ (z : List ℕ). m.items ++ z) m.meets.whole
            ∙ sym (append_assoc m.items m.meets.before m.meets.tail))
            ∙ sym (append_assoc title (m.items ++ m.meets.before) m.meets.tail);
      }

  -- Items that were read stand before what is met.
  pub meets_more : (d n : ℕ) (header : Header) (bytes items rest : List ℕ) → bytes ≡ items ++ rest
      → TakesMore header n → AreItems Any d n items → MeetsAt P d rest → MeetsIn P d header bytes
  meets_more d n header bytes items rest w t a m =
      record { count = n; items = items; more = rest; takes = t; are = a; meets = m; whole = w }

  -- What stands in the key of a pair.
  pub part_key : (d : ℕ) (bytes : List ℕ) → MeetsAt P d bytes → MeetsPart P d bytes
  part_key d bytes m =
      record { count = 0; items = []; more = bytes; few = omega arith; are = none_any; meets = m; whole = refl }

  -- What stands in the value of a pair.
  pub part_value : (d : ℕ) (bytes key rest : List ℕ) → bytes ≡ key ++ rest → IsItem Any d key → MeetsAt P d rest
      → MeetsPart P d bytes
  part_value d bytes key rest w i m =
      record { count = 1; items = key; more = rest; few = omega arith; are = i; meets = m; whole = w }

  -- What stands in a pair, after other pairs of a map.
  pub part_map : (d m : ℕ) (o : Option ℕ) (bytes read rest : List ℕ) → bytes ≡ read ++ rest
      → AreItems Any d (2 * m) read → ((k : ℕ) → k < 2 → TakesMore (h.Map o) (2 * m + k)) → MeetsPart P d rest
      → MeetsIn P d (h.Map o) bytes
  part_map d m o bytes read rest w a f p =
      meets_more d (2 * m + p.count) (h.Map o) bytes (read ++ p.items) p.more
      (w ∙ ap (λ (z : List ℕ). read ++ z) p.whole ∙ sym (append_assoc read p.items p.more)) (f p.count p.few)
      (items_joined Any d (2 * m) p.count read p.items a p.are) p.meets

  -- What stands in a tag's item.
  pub meets_tag : (d n : ℕ) (bytes : List ℕ) → MeetsAt P d bytes → MeetsIn P d (h.Tag n) bytes
  meets_tag d n bytes m = meets_more d 0 (h.Tag n) bytes [] bytes refl (omega arith) none_any m

-- The title of a simple value from 24 on has two bytes.
pub small_title : (t : List ℕ) (y : Header) (n : ℕ) → IsTitle t y → y ≡ h.Simple n → 24 ≤ n → t ≡ 0xf8 ∷ n ∷ []
small_title t y n (numbered Other One k l) e m =
    let i : k ≡ n = cc in
    let r : k % 256 ≡ k = omega (arith, l) in
    ap (λ (j : ℕ). 0xf8 ∷ j ∷ []) (r ∙ i)
small_title t y n (numbered Other Small k l) e m = let i : k ≡ n = cc in absurd (omega (arith, i, l, m))
small_title t y n (numbered Other Two k l) e m = cc
small_title t y n (numbered Other Four k l) e m = cc
small_title t y n (numbered Other Eight k l) e m = cc
small_title t y n (numbered Unsigned size k l) e m = cc
small_title t y n (numbered Negative size k l) e m = cc
small_title t y n (numbered ByteString size k l) e m = cc
small_title t y n (numbered TextString size k l) e m = cc
small_title t y n (numbered Array size k l) e m = cc
small_title t y n (numbered Map size k l) e m = cc
small_title t y n (numbered Tag size k l) e m = cc
small_title t y n (alone Unsigned x o) e m = cc
small_title t y n (alone Negative x o) e m = cc
small_title t y n (alone ByteString x o) e m = cc
small_title t y n (alone TextString x o) e m = cc
small_title t y n (alone Array x o) e m = cc
small_title t y n (alone Map x o) e m = cc
small_title t y n (alone Tag x o) e m = cc
small_title t y n (alone Other x o) e m = cc

-- A simple value from 24 to 31 is met at its title.
pub small_met : (d n left : ℕ) (y : Header) (t bytes : List ℕ) → y ≡ h.Simple n → (24 ≤ n) × (n < 32) → IsTitle t y
    → left ≡ length (t ++ bytes) → MeetsFault d (st.NoSimple left) (t ++ bytes)
small_met d n left y t bytes e l p long = meets_here (IsNoValue left) d (t ++ bytes) (record {
  number = n;
  rest = bytes;
  least = l.0;
  most = l.1;
  is = ap (λ (z : List ℕ). z ++ bytes) (small_title t y n p e l.0);
  left_is = long;
})

-- ---- by the reason of the stop

pub fault_nest : (d : ℕ) (header : Header) (stop : Stop) (title bytes : List ℕ) → IsTitle title header
    → MeetsWithin d header stop bytes → MeetsFault (suc d) stop (title ++ bytes)
fault_nest d header (st.NoSimple left) title bytes t m = meets_nest (IsNoValue left) d header title bytes t m
fault_nest d header (st.Duplicate left) title bytes t m = λ l.
    meets_nest (IsSameKey left) d header title bytes t (m (omega (arith, l)))
fault_nest d header st.Malformed title bytes t m = tt
fault_nest d header st.Room title bytes t m = tt

pub fault_more : (d n : ℕ) (header : Header) (stop : Stop) (bytes items rest : List ℕ) → bytes ≡ items ++ rest
    → TakesMore header n → AreItems Any d n items → MeetsFault d stop rest → MeetsWithin d header stop bytes
fault_more d n header (st.NoSimple left) bytes items rest w t a m =
    meets_more (IsNoValue left) d n header bytes items rest w t a m
fault_more d n header (st.Duplicate left) bytes items rest w t a m = λ l.
    meets_more (IsSameKey left) d n header bytes items rest w t a (m l)
fault_more d n header st.Malformed bytes items rest w t a m = tt
fault_more d n header st.Room bytes items rest w t a m = tt

pub fault_tag : (d n : ℕ) (stop : Stop) (bytes : List ℕ) → MeetsFault d stop bytes
    → MeetsWithin d (h.Tag n) stop bytes
fault_tag d n (st.NoSimple left) bytes m = meets_tag (IsNoValue left) d n bytes m
fault_tag d n (st.Duplicate left) bytes m = λ l. meets_tag (IsSameKey left) d n bytes (m l)
fault_tag d n st.Malformed bytes m = tt
fault_tag d n st.Room bytes m = tt

pub fault_key : (d : ℕ) (stop : Stop) (bytes : List ℕ) → MeetsFault d stop bytes → MeetsInPair d stop bytes
fault_key d (st.NoSimple left) bytes m = part_key (IsNoValue left) d bytes m
fault_key d (st.Duplicate left) bytes m = λ l. part_key (IsSameKey left) d bytes (m l)
fault_key d st.Malformed bytes m = tt
fault_key d st.Room bytes m = tt

pub fault_value : (d : ℕ) (stop : Stop) (bytes key rest : List ℕ) → bytes ≡ key ++ rest → IsItem Any d key
    → MeetsFault d stop rest → MeetsInPair d stop bytes
fault_value d (st.NoSimple left) bytes key rest w i m = part_value (IsNoValue left) d bytes key rest w i m
fault_value d (st.Duplicate left) bytes key rest w i m = λ l.
    part_value (IsSameKey left) d bytes key rest w i (m l)
fault_value d st.Malformed bytes key rest w i m = tt
fault_value d st.Room bytes key rest w i m = tt

-- An array takes one more item, if its count is not reached.
pub takes_item : (o : Option ℕ) (m : ℕ) → ((n : ℕ) → o ≡ Some n → m < n) → TakesMore (h.Array o) m
takes_item None m f = tt
takes_item (Some n) m f = f n refl

-- A map takes one more key or value, if its count is not reached.
pub takes_part : (o : Option ℕ) (m k : ℕ) → ((n : ℕ) → o ≡ Some n → m < n) → k < 2 → TakesMore (h.Map o) (2 * m + k)
takes_part None m k f l = tt
takes_part (Some n) m k f l = omega (arith, f n refl, l)

-- The fault of a pair is one of its map.
pub fault_pairs : (d m : ℕ) (o : Option ℕ) (stop : Stop) (bytes read rest : List ℕ) → bytes ≡ read ++ rest
    → AreItems Any d (2 * m) read → ((n : ℕ) → o ≡ Some n → m < n) → MeetsInPair d stop rest
    → MeetsWithin d (h.Map o) stop bytes
fault_pairs d m o (st.NoSimple left) bytes read rest w a f p =
    part_map (IsNoValue left) d m o bytes read rest w a (λ k. takes_part o m k f) p
fault_pairs d m o (st.Duplicate left) bytes read rest w a f p = λ l.
    part_map (IsSameKey left) d m o bytes read rest w a (λ k. takes_part o m k f) (p l)
fault_pairs d m o st.Malformed bytes read rest w a f p = tt
fault_pairs d m o st.Room bytes read rest w a f p = tt
