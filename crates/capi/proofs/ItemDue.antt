-- The bytes that an item still lacks, by the state of a checker.
use Rattle.std.proofs.Common.{◌≡◌, ℕ, List, [], ◌++◌, length, take, drop, sym, ap, subst}
use Rattle.std.proofs.Common.{◌∙◌, arith, inl, inr, append_assoc, append-nil, length-append}
use Rattle.std.proofs.lemmas.Bool.{cases_lt}
use Rattle.std.proofs.lemmas.List.{take_all, take-append-drop}
use Rattle.ciborium_ll_grammar.specs.declared.spelling.Spelling.{Spelling}
use Rattle.ciborium_ll.specs.Items.{IsItem}
use Rattle.ciborium_ll.proofs.Lists.{front_of_front}
use Rattle.cbor_checker.specs.declared.progress.Progress.TheVariants as r
use Rattle.cbor_checker.specs.declared.phase.Fault.{Fault}
use Rattle.cbor_checker.specs.declared.checker.Checker.{Checker}
use Rattle.cbor_checker.specs.Checking.{Answers, HasRead}
use Rattle.cbor_checker.specs.Reading.{Tells}
use Rattle.cbor_skip.specs.ItemFaults.{BeginsWithItem}
use Rattle.capi.specs.Lacking.{ItemLacks}

-- The bytes end within an item, and its other bytes begin `more`.
pub record IsCutIn (allowed : Spelling) (depth : ℕ) (bytes more : List ℕ) : Type 0 where
  pub next : List ℕ
  pub rest : List ℕ
  pub is_item : IsItem allowed depth (bytes ++ next)
  pub is : more ≡ next ++ rest

module _ (allowed : Spelling) (depth : ℕ) (bytes : List ℕ) (cut : BeginsWithItem allowed depth bytes → ⊥) where
  pub goes_on : (more : List ℕ) → BeginsWithItem allowed depth (bytes ++ more) → IsCutIn allowed depth bytes more
  goes_on more front =
      elim (cases_lt (length front.item) (length bytes)) [
        | inl less ↦ (
            let f = front_of_front front.item bytes front.rest more (sym front.is) (omega (arith, less)) in
            absurd (cut (record { item = front.item; rest = f.0; is_item = front.is_item; is = f.1 }))
            )
        | inr as_long ↦ (
            let f = front_of_front bytes front.item more front.rest front.is as_long in
            record {
              next = f.0;
              rest = front.rest;
              is_item = subst (IsItem allowed depth) f.1 front.is_item;
              is = f.2;
            }
            )
      ]

  -- If a checker lacks some bytes, the item lacks them.
  pub some_lack : (taken due : ℕ) (checker : Checker) → taken ≡ length bytes
      → HasRead allowed depth (take taken bytes) checker → Tells allowed depth (take taken bytes) (r.More due)
      → Answers checker (r.More due) → ItemLacks allowed depth bytes due
  some_lack taken due checker all has_read tells answer =
      let whole : take taken bytes ≡ bytes = take_all taken bytes (omega (arith, all)) in
      let told = subst (λ (z : List ℕ). Tells allowed depth z (r.More due)) whole tells in
      record {
        least = λ more front.
            let on = goes_on more front in
            let counted = ap length on.is in
            let most = told.2 on.next on.is_item in
            (told.1, omega (arith, most, counted, length-append on.next on.rest));
        some = λ positive.
            let begins = told.0.begins in (
              begins.0,
              record {
                item = bytes ++ begins.0;
                rest = [];
                is_item = begins.1;
                is = sym (append-nil (bytes ++ begins.0));
              },
            );
        checker = λ positive. record {
          checker = checker;
          has_read = subst (λ (z : List ℕ). HasRead allowed depth z checker) whole has_read;
          lacks = answer;
        };
      }

  -- If a checker has met a fault, no bytes complete an item.
  pub none_follow : (taken : ℕ) (fault : Fault) → Tells allowed depth (take taken bytes) (r.Fault fault)
      → ItemLacks allowed depth bytes 0
  none_follow taken fault never = record {
    least = λ more front.
        let on = goes_on more front in
        let parts : bytes ++ on.next ≡ take taken bytes ++ (drop taken bytes ++ on.next) =
        ap (λ (z : List ℕ). z ++ on.next) (sym (take-append-drop taken bytes))
        ∙ append_assoc (take taken bytes) (drop taken bytes) on.next in
        absurd (never (drop taken bytes ++ on.next, subst (IsItem allowed depth) parts on.is_item));
    some = λ positive. absurd (omega (arith, positive));
    checker = λ positive. absurd (omega (arith, positive));
  }

  -- No item has ended, since none comes first.
  pub none_ended : (taken len : ℕ) → Tells allowed depth (take taken bytes) (r.Ended len) → ⊥
  none_ended taken len tells =
      cut (record {
        item = take taken bytes;
        rest = drop taken bytes;
        is_item = tells.0;
        is = sym (take-append-drop taken bytes);
      })

-- If a checker says that an item ended, an item of that length comes first.
pub ended_in_front : (allowed : Spelling) (depth : ℕ) (bytes : List ℕ) (taken len : ℕ)
    → Tells allowed depth (take taken bytes) (r.Ended len)
    → (front : BeginsWithItem allowed depth bytes) × (len ≡ length front.item)
ended_in_front allowed depth bytes taken len tells = (
  record {
    item = take taken bytes;
    rest = drop taken bytes;
    is_item = tells.0;
    is = sym (take-append-drop taken bytes);
  },
  tells.1,
)
