use Rattle.std.proofs.Common.{◌≡◌, ◌≤◌, ◌+◌, ◌-◌, ◌⊎◌, ℕ, List, [], take, drop, length, ◌++◌, false}
use Rattle.ciborium_ll_grammar.specs.declared.spelling.Spelling.{Spelling}
use Rattle.cbor_copier.specs.Copying.{IsCopied, spot_of}
use Rattle.cbor_copier.specs.Telling.{is_due}
use Rattle.cbor_copier.proofs.copier.Copier.take.Given as goal

abbrev pub invariant-pieces : goal.invariant-pieces
invariant-pieces l =
    record {
      within : l.at ≤ length l.bytes;
      written : l.written ≤ length l.out;
      long : length l.out ≡ length l.fn.out;
      kept : drop l.written l.out ≡ drop l.written l.fn.out;
      copied : (allowed : Spelling) (count : ℕ) (fed given : List ℕ) → IsCopied allowed count fed given l.fn.self
          → IsCopied allowed count (fed ++ take l.at l.bytes) (given ++ take l.written l.out) l.self;
      full : (l.self.pending ≡ []) ⊎ (l.written ≡ length l.out);
      grown : l.written + length l.self.pending + length l.self.front
          ≤ length l.fn.self.pending + length l.fn.self.front + l.at;
      stays : is_due l.fn.self.phase ≡ false → l.fn.self.pending ≡ []
          → (l.at ≡ 0) × (l.written ≡ 0) × (spot_of l.self ≡ spot_of l.fn.self);
    }

abbrev pub decreases-pieces : goal.decreases-pieces
decreases-pieces l = length l.bytes - l.at
