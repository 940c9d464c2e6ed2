-- Items at the beginning of bytes, in groups.
use Rattle.std.proofs.Common.{◌≡◌, ℕ, suc, ◌+◌, ◌-◌, ◌*◌, ◌^◌, ◌<◌, ◌≤◌, min, List, [], ◌++◌, length, take, drop, Some}
use Rattle.std.proofs.Common.{refl, sym, ap, subst, ◌∙◌, arith, append-nil, inl, inr}
use Rattle.std.proofs.lemmas.List.{take_rest}
use Rattle.std.proofs.Math.Seq.{take-add}
use Rattle.std.proofs.lemmas.Bool.{cases_lt}
use Rattle.ciborium_ll_grammar.specs.declared.spelling.Spelling.{Spelling}
use Rattle.ciborium_ll_grammar.specs.declared.hdr.Header.{Header}
use Rattle.ciborium_ll_grammar.specs.declared.hdr.Header.TheVariants as h
use Rattle.ciborium_ll_grammar.specs.Title.{IsTitle, shortest_title}
use Rattle.ciborium_ll_grammar.specs.Items.{AreItems, Completes, IsItem, array, byte_string, float, more_items, negative}
use Rattle.ciborium_ll_grammar.specs.Items.{no_items, open_array, open_bytes, open_pairs, open_text, pairs, positive}
use Rattle.ciborium_ll_grammar.specs.Items.{simple, tag, text_string}
use Rattle.ciborium_ll_grammar.proofs.ItemJoins.{items_joined, none_joined}
use Rattle.ciborium_ll_grammar.proofs.TitleLaws.{IsTitle-shortest, one_title}

mutual
  -- What completes an item with some levels completes it with one more.
  completes_deeper : (s : Spelling) (d : ℕ) (x : Header) (w : List ℕ) → Completes s d x w → Completes s (suc d) x w
  completes_deeper s d x w positive = positive
  completes_deeper s d x w negative = negative
  completes_deeper s d x w float = float
  completes_deeper s d x w simple = simple
  completes_deeper s d x w (byte_string len) = byte_string len
  completes_deeper s d x w (text_string len sound) = text_string len sound
  completes_deeper s d x w (open_bytes strings taken) = open_bytes strings taken
  completes_deeper s d x w (open_text strings taken sound) = open_text strings taken sound
  completes_deeper s d x w (tag {depth = e} {item = i} are) = tag (items_deeper s e 1 i are)
  completes_deeper s d x w (array {depth = e} {count = n} {items = i} are) = array (items_deeper s e n i are)
  completes_deeper s d x w (pairs {depth = e} {count = n} {items = i} are) = pairs (items_deeper s e (2 * n) i are)
  completes_deeper s d x w (open_array {depth = e} {count = n} {items = i} are) = open_array (items_deeper s e n i are)
  completes_deeper s d x w (open_pairs {depth = e} {items = i} n are) = open_pairs n (items_deeper s e (2 * n) i are)

  -- Items with some levels are items with one more.
  items_deeper : (s : Spelling) (d n : ℕ) (w : List ℕ) → AreItems s d n w → AreItems s (suc d) n w
  items_deeper s d n w no_items = no_items
  items_deeper s d n w (more_items {count = m} {rest = r} {others = o} {header = x} title taken completes others) =
      more_items title taken (completes_deeper s d x r completes) (items_deeper s d m o others)

-- ---- a group

-- What completes an array that counts its items is that number of items.
array_items : (s : Spelling) (d n : ℕ) (x : Header) (r : List ℕ) → Completes s (suc d) x r → x ≡ h.Array (Some n)
    → AreItems s d n r
array_items s d n x r completes is = grind arith

-- The bytes after the title of an array are its items.
within_array : (s : Spelling) (d n : ℕ) (t rest w : List ℕ) → IsTitle t (h.Array (Some n)) → IsItem s (suc d) w
    → w ≡ t ++ rest → AreItems s d n rest
within_array s d n t rest w p (more_items {title = t'} {rest = r} {others = o} {header = x} p' g c others) is =
    let same = one_title t' t (r ++ o) rest x (h.Array (Some n)) p' p is in
    let none : o ≡ [] = none_joined s (suc d) 0 o others refl in
    let all : r ≡ rest = sym (append-nil r) ∙ (ap (λ (z : List ℕ). r ++ z) (sym none) ∙ same.2) in
    subst (AreItems s d n) all (array_items s d n x r c same.1)

-- The bytes after the shortest title of an array are its items. At the last of all levels they have one level less.
pub group_items : (s : Spelling) (d levels n : ℕ) (w : List ℕ) → d ≤ 256 → levels ≡ min d 255 + 1 → n < 2 ^ 64
    → IsItem s levels (shortest_title (h.Array (Some n)) ++ w) → AreItems s d n w
group_items s d levels n w shallow is fits item =
    let title = shortest_title (h.Array (Some n)) in
    let sound : IsTitle title (h.Array (Some n)) = IsTitle-shortest (h.Array (Some n)) fits in
    elim (cases_lt d 256) [
      | inl less ↦
          within_array s d n title w (title ++ w) sound
          (subst (λ (m : ℕ). IsItem s m (title ++ w)) (omega (arith, is, less)) item) refl
      | inr last ↦
          subst (λ (m : ℕ). AreItems s m n w) (omega (arith, last, shallow)) (items_deeper s 255 n w
          (within_array s 255 n title w (title ++ w) sound
          (subst (λ (m : ℕ). IsItem s m (title ++ w)) (omega (arith, is, last)) item) refl))
    ]

-- ---- items in a row

-- Items after others.
pub more_taken : (s : Spelling) (d m n at len : ℕ) (bytes : List ℕ) → AreItems s d m (take at bytes)
    → AreItems s d n (take len (take (length bytes - at) (drop at bytes)))
    → AreItems s d (m + n) (take (at + len) bytes)
more_taken s d m n at len bytes are next =
    subst (AreItems s d (m + n)) (sym (take-add at len bytes))
    (items_joined s d m n (take at bytes) (take len (drop at bytes)) are
    (subst (λ (z : List ℕ). AreItems s d n (take len z)) (take_rest bytes at) next))
