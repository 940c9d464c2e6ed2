-- Laws of an item in its shortest spelling, element by element.
use Rattle.std.proofs.Common.{◌≡◌, ℕ, suc, ◌<◌, List, [], ◌++◌, length, take, drop, ◌-◌, refl, sym}
use Rattle.std.proofs.Common.{ap, subst, ◌∙◌, arith, append_assoc, append-nil, length-drop}
use Rattle.std.proofs.lemmas.List.{length-take, take-append-drop}
use Rattle.std.proofs.Math.Seq.{take-append_seam, take-length}
use Rattle.ciborium_ll_grammar.specs.declared.spelling.Spelling.{Spelling}
use Rattle.ciborium_ll_grammar.specs.declared.spelling.Spelling.TheVariants.{Any, Shortest}
use Rattle.ciborium_ll.specs.Elements.{Mark, done}
use Rattle.ciborium_ll.specs.Elements.{IsStrictRun}
use Rattle.ciborium_ll.specs.Faults.{BeginsWithElements}
use Rattle.ciborium_ll.proofs.ItemLaws.{one_item}
use Rattle.ciborium_ll.proofs.RunJoins.{element_some, one_of_run, strict_more, strict_next}
use Rattle.ciborium_ll.proofs.Lists.{length_zero}
use Rattle.cbor_skip.specs.ItemFaults.{BeginsWithItem}
use Rattle.cbor_skip.proofs.StrictnessLaws.{items_looser}
use Rattle.uses.specs.Shortest.{ShortestInFront}

-- ---- the loop

-- Elements in their shortest spelling were read from all the bytes, and `rest` is left.
pub record Spelled (all rest : List ℕ) : Type 0 where
  pub front : List ℕ
  pub count : ℕ
  pub marks : List Mark
  pub strict : IsStrictRun count front marks
  pub whole : all ≡ front ++ rest

pub spelled_none : (all : List ℕ) → Spelled all all
spelled_none all = record {
  front = [];
  count = 0;
  marks = [];
  strict =
      record { run = done; same = refl; meant = tt };
  whole = refl;
}

pub spelled_more : (all rest element others : List ℕ) (marks : List Mark) → Spelled all rest
    → IsStrictRun 1 element marks → rest ≡ element ++ others
    → Spelled all others
spelled_more all rest element others marks so_far one split = record {
  front = so_far.front ++ element;
  count = suc so_far.count;
  marks = so_far.marks ++ marks;
  strict = strict_more so_far.count so_far.front element so_far.marks marks so_far.strict one;
  whole = so_far.whole ∙ ap (λ (z : List ℕ). so_far.front ++ z) split ∙ sym (append_assoc so_far.front element others);
}

-- The item at the start is the bytes up to the offset after the item.
pub taken : (bytes item behind : List ℕ) (len : ℕ) → bytes ≡ item ++ behind → len ≡ length item → take len bytes ≡ item
taken bytes item behind len split counted =
    ap (λ (z : List ℕ). take len z) split ∙ ap (λ (n : ℕ). take n (item ++ behind)) counted
    ∙ take-append_seam item behind

-- An item at the start is also an item in any spelling.
abbrev pub any_front : (allowed : Spelling) (depth : ℕ) (bytes : List ℕ) → BeginsWithItem allowed depth bytes
    → BeginsWithItem Any depth bytes
any_front allowed depth bytes front = record {
  item = front.item;
  rest = front.rest;
  is_item = items_looser Any allowed (λ on. absurd cc) depth 1 front.item front.is_item;
  is = front.is;
}

-- If all of the item was read, the bytes begin with an item in its shortest spelling.
pub shortest_in_front : (depth : ℕ) (bytes rest : List ℕ) (len : ℕ) (front : BeginsWithItem Any depth bytes) → len
    ≡ length front.item
    → Spelled (take len bytes) rest → length rest ≡ 0 → ShortestInFront depth bytes len
shortest_in_front depth bytes rest len front counted so_far none =
    let empty : rest ≡ [] = length_zero rest none in
    let item = taken bytes front.item front.rest len front.is counted in
    let same : front.item ≡ so_far.front = sym item ∙ so_far.whole ∙ ap (λ (z : List ℕ). so_far.front ++ z) empty
    ∙ append-nil so_far.front in
    record {
      item = front.item;
      rest = front.rest;
      is_shortest = record {
        is_item = front.is_item;
        count = so_far.count;
        marks = so_far.marks;
        strict = subst (λ (z : List ℕ). IsStrictRun so_far.count z so_far.marks) (sym same) so_far.strict;
      };
      is = front.is;
      counted = counted;
    }

-- If no element in its shortest spelling is next, the bytes begin with no item in its shortest spelling.
pub no_shortest : (depth : ℕ) (bytes rest : List ℕ) (len : ℕ) (front : BeginsWithItem Any depth bytes) → len
    ≡ length front.item
    → Spelled (take len bytes) rest → 0 < length rest → (BeginsWithElements Shortest 1 rest → ⊥) → (other : ℕ)
    → ShortestInFront depth bytes other → ⊥
no_shortest depth bytes rest len front counted so_far some none other shortest =
    let item = shortest.is_shortest in
    let same = one_item Any Any depth depth shortest.item front.item shortest.rest front.rest item.is_item
    front.is_item
    (sym shortest.is ∙ front.is) in
    let whole = same.0 ∙ sym (taken bytes front.item front.rest len front.is counted) ∙ so_far.whole in
    none (strict_next so_far.count so_far.front so_far.marks so_far.strict.run item.count shortest.item item.marks
    item.strict rest whole some)

-- A strict run of one element takes at least one byte.
pub takes_some : (len : ℕ) (bytes : List ℕ) (marks : List Mark) → IsStrictRun 1 (take len bytes) marks → 0 < len
takes_some len bytes marks strict =
    omega (arith, element_some (take len bytes) marks (one_of_run (take len bytes) marks strict.run), length-take len bytes)

-- The bytes are their first `len` bytes and the other bytes, as a slice's range gives them.
pub split_rest : (len : ℕ) (bytes : List ℕ) → bytes ≡ take len bytes ++ take (length bytes - len) (drop len bytes)
split_rest len bytes =
    sym (take-append-drop len bytes) ∙ sym (ap (λ (z : List ℕ). take len bytes ++ z)
    (ap (λ (n : ℕ). take n (drop len bytes)) (sym (length-drop len bytes)) ∙ take-length (drop len bytes)))
