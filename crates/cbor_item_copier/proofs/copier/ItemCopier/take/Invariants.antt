use Rattle.std.proofs.Common.{◌≡◌, ◌≤◌, ◌+◌, ◌-◌, ◌⊎◌, ℕ, List, [], take, drop, length, ◌++◌, false}
use Rattle.ciborium_ll_grammar.specs.declared.spelling.Spelling.{Spelling}
use Rattle.cbor_checker.specs.Telling.{is_due}
use Rattle.cbor_item_copier.specs.Copying.{IsItemCopied, held, item_spot, pending}
use Rattle.cbor_item_copier.proofs.copier.ItemCopier.take.Given as goal

abbrev pub invariant-pieces : goal.invariant-pieces
invariant-pieces l =
    record {
      within : l.at ≤ length l.bytes;
      written : l.written ≤ length l.out;
      long : length l.out ≡ length l.fn.out;
      kept : drop l.written l.out ≡ drop l.written l.fn.out;
      copied : (allowed : Spelling) (depth : ℕ) (fed given : List ℕ) → IsItemCopied allowed depth fed given l.fn.self
          → IsItemCopied allowed depth (fed ++ take l.at l.bytes) (given ++ take l.written l.out) l.self;
      full : (pending l.self ≡ []) ⊎ (l.written ≡ length l.out);
      grown : l.written + held l.self ≤ held l.fn.self + l.at;
      stays : is_due (item_spot l.fn.self).phase ≡ false → pending l.fn.self ≡ []
          → (l.at ≡ 0) × (l.written ≡ 0) × (l.self ≡ l.fn.self);
    }

abbrev pub decreases-pieces : goal.decreases-pieces
decreases-pieces l = length l.bytes - l.at
