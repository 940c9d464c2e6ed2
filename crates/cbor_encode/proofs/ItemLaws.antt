-- Items from a title and contents, and items one by one.
use Rattle.std.proofs.Common.{◌≡◌, ℕ, suc, ◌+◌, ◌*◌, List, [], ◌∷◌, ◌++◌, sym, subst}
use Rattle.std.proofs.Common.{Option, Some, None, arith, Result, Ok, Err}
use Rattle.std.specs.Result.{OnOk}
use Rattle.ciborium_ll_grammar.specs.declared.spelling.Spelling.{Spelling}
use Rattle.ciborium_ll_grammar.specs.declared.hdr.Header.{Header}
use Rattle.ciborium_ll_grammar.specs.declared.hdr.Header.TheVariants as h
use Rattle.ciborium_ll_grammar.specs.Items.{Completes, positive, negative, float, simple, AreItems}
use Rattle.ciborium_ll_grammar.specs.Items.{tag, array, pairs, open_array, open_pairs, IsItem}
use Rattle.ciborium_ll_grammar.proofs.ItemJoins.{item_of, items_item}
use Rattle.cbor_encode.specs.Adding.{Adds, IsHead, HasBody}
use Rattle.cbor_encode.specs.declared.heads.Mark.{Mark}
use Rattle.cbor_encode.specs.Scalars.{IsScalar}

-- A title and the contents that complete it are an item.
pub one_item : (allowed : Spelling) (depth : ℕ) (header : Header) (title body : List ℕ) → IsHead allowed header title
    → Completes allowed depth header body → IsItem allowed depth (title ++ body)
one_item allowed depth header title body head completes =
    item_of allowed depth title body header head.title head.taken completes

-- A title and the contents that a call adds are an item.
pub item_added : (allowed : Spelling) (depth : ℕ) (header : Header) (body before after : List ℕ)
    → Adds (HasBody allowed header body) before after → Completes allowed depth header body
    → Adds (IsItem allowed depth) before after
item_added allowed depth header body before after adds completes = record {
  added = adds.added;
  parts = adds.parts;
  is = subst (IsItem allowed depth) (sym adds.is.parts)
      (one_item allowed depth header adds.is.title body adds.is.head completes);
}

-- Some items and an item that a call adds are one item more.
pub items_more : (allowed : Spelling) (depth count : ℕ) (before after : List ℕ) → AreItems allowed depth count before
    → Adds (IsItem allowed depth) before after → AreItems allowed depth (count + 1) after
items_more allowed depth count before after are adds =
    subst (λ (z : List ℕ). AreItems allowed depth (count + 1) z) (sym adds.parts)
    (let next : AreItems allowed depth (suc count) (before ++ adds.added) =
    items_item allowed depth count before adds.added are adds.is in
    let same : suc count ≡ count + 1 = omega arith in rw same at next)

-- Some pairs, and a key and a value that two calls add, are one pair more.
pub pairs_more : (allowed : Spelling) (depth count : ℕ) (before key after : List ℕ)
    → AreItems allowed depth (2 * count) before → Adds (IsItem allowed depth) before key
    → Adds (IsItem allowed depth) key after → AreItems allowed depth (2 * (count + 1)) after
pairs_more allowed depth count before key after are first second =
    let next = items_more allowed depth (2 * count + 1) key after
    (items_more allowed depth (2 * count) before key are first) second in
    let same : 2 * count + 1 + 1 ≡ 2 * (count + 1) = omega arith in
    rw same at next

-- A scalar is an item by itself.
pub scalar_completes : (allowed : Spelling) (depth : ℕ) (header : Header) (mark : Option Mark) → IsScalar header mark
    → Completes allowed depth header []
scalar_completes allowed depth (h.Positive number) mark is = positive
scalar_completes allowed depth (h.Negative number) mark is = negative
scalar_completes allowed depth (h.Float value) mark is = float
scalar_completes allowed depth (h.Simple number) mark is = simple
scalar_completes allowed depth (h.Tag number) mark is = absurd is
scalar_completes allowed depth h.Break mark is = absurd is
scalar_completes allowed depth (h.Bytes len) mark is = absurd is
scalar_completes allowed depth (h.Text len) mark is = absurd is
scalar_completes allowed depth (h.Array len) mark is = absurd is
scalar_completes allowed depth (h.Map len) mark is = absurd is

-- ---- contents of nests

pub tag_completes : (allowed : Spelling) (depth inner number : ℕ) (item : List ℕ) → suc inner ≡ depth
    → IsItem allowed inner item → Completes allowed depth (h.Tag number) item
tag_completes allowed depth inner number item level is =
    subst (λ (z : ℕ). Completes allowed z (h.Tag number) item) level (tag is)

pub array_completes : (allowed : Spelling) (depth inner count : ℕ) (items : List ℕ) → suc inner ≡ depth
    → AreItems allowed inner count items → Completes allowed depth (h.Array (Some count)) items
array_completes allowed depth inner count items level are =
    subst (λ (z : ℕ). Completes allowed z (h.Array (Some count)) items) level (array are)

pub map_completes : (allowed : Spelling) (depth inner count : ℕ) (items : List ℕ) → suc inner ≡ depth
    → AreItems allowed inner (2 * count) items → Completes allowed depth (h.Map (Some count)) items
map_completes allowed depth inner count items level are =
    subst (λ (z : ℕ). Completes allowed z (h.Map (Some count)) items) level (pairs are)

pub open_array_completes : (allowed : Spelling) (depth inner count : ℕ) (items : List ℕ) → suc inner ≡ depth
    → AreItems allowed inner count items → Completes allowed depth (h.Array None) (items ++ 0xff ∷ [])
open_array_completes allowed depth inner count items level are =
    subst (λ (z : ℕ). Completes allowed z (h.Array None) (items ++ 0xff ∷ [])) level (open_array are)

pub open_map_completes : (allowed : Spelling) (depth inner count : ℕ) (items : List ℕ) → suc inner ≡ depth
    → AreItems allowed inner (2 * count) items → Completes allowed depth (h.Map None) (items ++ 0xff ∷ [])
open_map_completes allowed depth inner count items level are =
    subst (λ (z : ℕ). Completes allowed z (h.Map None) (items ++ 0xff ∷ [])) level (open_pairs count are)

-- ---- a call that may fail

-- A title and a body are an item if the body completes the title.
pub whole_added : {T E : Type 0} (allowed : Spelling) (header : Header) (body before after : List ℕ)
    (result : Result T E)
    → OnOk result (Adds (HasBody allowed header body) before after)
    → OnOk result ((depth : ℕ) → Completes allowed depth header body → Adds (IsItem allowed depth) before after)
whole_added allowed header body before after (Ok x) adds = λ depth completes.
    item_added allowed depth header body before after adds completes
whole_added allowed header body before after (Err e) adds = adds

pub completed : {T E : Type 0} (allowed : Spelling) (depth : ℕ) (header : Header) (body before after : List ℕ)
    (result : Result T E)
    → OnOk result ((depth : ℕ) → Completes allowed depth header body → Adds (IsItem allowed depth) before after)
    → Completes allowed depth header body → OnOk result (Adds (IsItem allowed depth) before after)
completed allowed depth header body before after (Ok x) adds completes = adds depth completes
completed allowed depth header body before after (Err e) adds completes = adds

pub completed_always : {T E : Type 0} (allowed : Spelling) (header : Header) (body before after : List ℕ)
    (result : Result T E)
    → OnOk result ((depth : ℕ) → Completes allowed depth header body → Adds (IsItem allowed depth) before after)
    → ((depth : ℕ) → Completes allowed depth header body)
    → OnOk result ((depth : ℕ) → Adds (IsItem allowed depth) before after)
completed_always allowed header body before after (Ok x) adds completes = λ depth. adds depth (completes depth)
completed_always allowed header body before after (Err e) adds completes = adds
