-- Whether bytes are one item, by a skip over them.
use Rattle.std.proofs.lemmas.Bool.Decides.{nat_tests}
use Rattle.std.proofs.Common.{◌≡◌, ◌∙◌, ◌↔◌, ℕ, ◌+◌, IsTrue, List, [], ◌∷◌, ◌++◌, length}
use Rattle.std.proofs.Common.{Err, IsOk, false, nat_eq, ap, sym, subst, refl, arith, append-nil, length-append}
use Rattle.ciborium_ll_io.specs.declared.io.Read.{Ghosts}
use Rattle.ciborium_ll_grammar.specs.declared.spelling.Spelling.{Spelling}
use Rattle.ciborium_ll_grammar.specs.Items.{IsItem}
use Rattle.ciborium_ll_grammar.proofs.ItemLaws.{one_item}
use Rattle.ciborium_ll_decoder.specs.declared.dec.Decoder.{Decoder}
use Rattle.cbor_skip.specs.ItemFaults.{BeginsWithItem}
use Rattle.cbor_skip.specs.SkippingTold.{SkipsFront}

-- A list of no length is empty.
nothing : (bytes : List ℕ) → length bytes ≡ 0 → bytes ≡ []
nothing [] none = refl
nothing (byte ∷ bytes) none = absurd (omega (arith, none))

-- The test for two numbers that are equal.
equal : (some other : ℕ) → IsTrue (nat_eq some other) → some ≡ other
equal some other true_is = grind (arith, nat_tests)

same_equal : (some other : ℕ) → some ≡ other → IsTrue (nat_eq some other)
same_equal some other same = grind (arith, nat_tests)

module _ (allowed : Spelling) (depth : ℕ) (bytes : List ℕ) where
  -- If an item begins the bytes, they are one item exactly if no byte follows it.
  alone : (front : BeginsWithItem allowed depth bytes) → length front.item ≡ length bytes → IsItem allowed depth bytes
  alone front same =
      let counted = ap length front.is ∙ length-append front.item front.rest in
      let none : front.rest ≡ [] = nothing front.rest (omega (arith, counted, same)) in
      subst (λ (z : List ℕ). IsItem allowed depth z)
      (sym (front.is ∙ (ap (λ (z : List ℕ). front.item ++ z) none ∙ append-nil front.item))) front.is_item

  whole : (front : BeginsWithItem allowed depth bytes) → IsItem allowed depth bytes → length front.item ≡ length bytes
  whole front item =
      ap length (sym (one_item allowed allowed depth depth bytes front.item [] front.rest item front.is_item
      (append-nil bytes ∙ front.is)).0)

module _ {R E : Type 0} (source : Ghosts R E) (allowed mode : Spelling) (depth : ℕ) (bytes : List ℕ)
    (same : mode ≡ allowed) where
  -- A skip that succeeds tells by its offset whether the bytes are one item.
  pub one_exactly : (old new : Decoder R) (offset : ℕ) → SkipsFront source mode depth bytes old new → old.offset ≡ 0
      → offset ≡ new.offset → IsTrue (nat_eq offset (length bytes)) ↔ IsItem allowed depth bytes
  one_exactly old new offset skips start here =
      let front = subst (λ (b : Spelling). SkipsFront source b depth bytes old new) same skips in
      let counted : offset ≡ length front.front.item = omega (arith, here, front.offset, start) in (
        λ yes. alone allowed depth bytes front.front (sym counted ∙ equal offset (length bytes) yes),
        λ item. same_equal offset (length bytes) (counted ∙ whole allowed depth bytes front.front item),
      )

-- If a skip fails, the bytes are no item.
module _ {F : Type 0} (allowed mode : Spelling) (depth : ℕ) (bytes : List ℕ) (same : mode ≡ allowed) where
  pub none_exactly : (error : F) → (IsOk {T = Unit {0}} (Err error) ↔ BeginsWithItem mode depth bytes)
      → IsTrue false ↔ IsItem allowed depth bytes
  none_exactly error exactly = (
    λ holds. absurd cc,
    λ item. exactly.1 (record {
      item = bytes;
      rest = [];
      is_item = subst (λ (b : Spelling). IsItem b depth bytes) (sym same) item;
      is = sym (append-nil bytes);
    }),
  )
