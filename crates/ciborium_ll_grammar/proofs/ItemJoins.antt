-- Items that follow one another, the first of them, and the body of a string of definite length.
use Rattle.std.proofs.Common.{◌≡◌, ℕ, zero, suc, ◌+◌, ◌<◌, List, [], ◌∷◌, ◌++◌, length, Some, None, refl}
use Rattle.std.proofs.Common.{sym, ◌∙◌, subst, append_assoc, append-nil, length-append, arith}
use Rattle.std.proofs.Math.Nat.{suc-add, zero-add}
use Rattle.ciborium_ll_grammar.specs.declared.spelling.Spelling.{Spelling}
use Rattle.ciborium_ll_grammar.specs.declared.hdr.Header.{Header}
use Rattle.ciborium_ll_grammar.specs.Title.{IsTitle}
use Rattle.ciborium_ll_grammar.specs.Strings.{Kind, Bytes, Text, kind_header, IsString, definite, indefinite}
use Rattle.ciborium_ll_grammar.specs.Elements.{Mark, body_spelling, spelling}
use Rattle.ciborium_ll_grammar.specs.Values.{value_limit, IsWritten, in_one, in_pieces}
use Rattle.ciborium_ll_grammar.specs.Items.{Completes, byte_string, text_string, AreItems, no_items, more_items, IsItem}
use Rattle.ciborium_ll_grammar.specs.Items.{IsTakenTitle}
use Rattle.ciborium_ll_grammar.proofs.AloneLaws.{title_some}
use Rattle.ciborium_ll_grammar.proofs.ItemLaws.{one_item}
use Rattle.ciborium_ll_grammar.proofs.StringLaws.{fronts}

-- ---- items joined

-- A title and the bytes that complete its header are an item.
pub item_of : (s : Spelling) (d : ℕ) (t rest : List ℕ) (x : Header) → IsTitle t x → IsTakenTitle s t x
    → Completes s d x rest → IsItem s d (t ++ rest)
item_of s d t rest x p g c = rw append-nil at (more_items p g c no_items)

-- A run of no items has no bytes.
pub none_joined : (s : Spelling) (d n : ℕ) (w : List ℕ) → AreItems s d n w → n ≡ 0 → w ≡ []
none_joined s d n w no_items z = refl
none_joined s d n w (more_items p g c i) z = absurd (omega arith)

-- A run of items and then another run are a run of all of them.
pub items_joined : (s : Spelling) (d m n : ℕ) (u v : List ℕ) → AreItems s d m u → AreItems s d n v
    → AreItems s d (m + n) (u ++ v)
items_joined s d m n u v no_items j = rw zero-add j
items_joined s d m n u v (more_items {count = k} {others = a} p g c i) j =
    simp (append_assoc, suc-add) (more_items p g c (items_joined s d k n a v i j))

-- An item before a run of items is a run of one more.
pub item_before : (s : Spelling) (d n : ℕ) (u v : List ℕ) → IsItem s d u → AreItems s d n v
    → AreItems s d (suc n) (u ++ v)
item_before s d n u v (more_items p g c no_items) j = simp (append_assoc, append-nil) (more_items p g c j)

-- A run of items and then one more item are a run of one more.
pub items_item : (s : Spelling) (d n : ℕ) (u v : List ℕ) → AreItems s d n u → IsItem s d v
    → AreItems s d (suc n) (u ++ v)
items_item s d n u v no_items i = i
items_item s d n u v (more_items {count = m} {others = a} p g c others) i =
    simp append_assoc (more_items p g c (items_item s d m a v others i))

-- ---- the first item

-- A run of at least one item has at least one byte.
pub some_joined : (s : Spelling) (d n : ℕ) (w : List ℕ) → AreItems s d n w → 0 < n → 0 < length w
some_joined s d n w no_items l = absurd (omega arith)
some_joined s d n w (more_items {title = t} {rest = r} {others = a} {header = x} p g c i) l =
    omega (arith, title_some t x p, length-append t (r ++ a))

-- An item has at least one byte.
pub item_some : (s : Spelling) (d : ℕ) (w : List ℕ) → IsItem s d w → 0 < length w
item_some s d w i = some_joined s d (suc zero) w i (omega arith)

-- The first of some items, and the others.
pub record FirstOf (s : Spelling) (d n : ℕ) (w : List ℕ) : Type 0 where
  pub first : List ℕ
  pub others : List ℕ
  pub is_item : IsItem s d first
  pub are : AreItems s d n others
  pub whole : w ≡ first ++ others

-- A run of at least one item is an item and a run of the others.
pub first_of : (s : Spelling) (d n : ℕ) (w : List ℕ) → AreItems s d (suc n) w → FirstOf s d n w
first_of s d n w (more_items {title = t} {rest = r} {others = a} {header = x} p g c i) = record {
  first = t ++ r;
  others = a;
  is_item = item_of s d t r x p g c;
  are = i;
  whole = sym (append_assoc t r a);
}

-- After the first item of a run, a run of the others is left.
pub others_of : (s s' : Spelling) (d d' n : ℕ) (w item rest : List ℕ) → AreItems s d (suc n) w → IsItem s' d' item
    → w ≡ item ++ rest → AreItems s d n rest
others_of s s' d d' n w item rest i is z =
    let f = first_of s d n w i in
    let one = one_item s' s d' d item f.first rest f.others is f.is_item (sym z ∙ f.whole) in
    subst (λ (v : List ℕ). AreItems s d n v) (sym one.1) f.are

-- Two items that begin the same bytes as two other items are the same two, whatever their depths and spellings.
pub two_items : (s s' : Spelling) (d d' : ℕ) (a b v a' b' v' : List ℕ) → IsItem s d a → IsItem s d b → IsItem s' d' a'
    → IsItem s' d' b' → a ++ (b ++ v) ≡ a' ++ (b' ++ v') → (a ≡ a') × (b ≡ b') × (v ≡ v')
two_items s s' d d' a b v a' b' v' i j i' j' z =
    let one = one_item s s' d d' a a' (b ++ v) (b' ++ v') i i' z in
    let two = one_item s s' d d' b b' v v' j j' one.1 in
    (one.0, two.0, two.1)

-- ---- the body of a string

-- The bytes that complete a string of definite length are as many as its header says.
pub body_length : (s : Spelling) (d : ℕ) (k : Kind) (len : ℕ) (body : List ℕ)
    → Completes s d (kind_header k (Some len)) body → length body ≡ len
body_length s d Bytes len body (byte_string l) = l
body_length s d Text len body (text_string l sound) = l

-- The body after the title of a string of definite length has the length that the title says.
pub definite_body : (k : Kind) (t body w : List ℕ) (len : ℕ) (bodies : List (List ℕ))
    → IsTitle t (kind_header k (Some len)) → IsString k w bodies → w ≡ t ++ body → length body ≡ len
definite_body k t body w len bodies p (definite {title = t'} {body = b} p') z =
    grind (arith, fronts k t' t b body (Some (length b)) (Some len) p' p z)
definite_body k t body w len bodies p (indefinite {title = t'} {strings = x} p' strings) z =
    absurd (grind (arith, fronts k t' t (x ++ 0xff ∷ []) body None (Some len) p' p z))

-- Without a limit, the spelling of a value is its shortest title and the value.
pub whole_spelling : (k : Kind) (value : List ℕ) (marks : List Mark)
    → IsWritten k (value_limit k None value) value marks → spelling marks ≡ body_spelling k value
whole_spelling k value marks (in_one within) = append-nil (body_spelling k value)
whole_spelling k value marks (in_pieces members longer are) = absurd (omega arith)
