-- The verdicts of `check --deterministic` on bytes (RFC 8949, 4.2).
use Rattle.std.specs.Prelude.{◌≡◌, ℕ, ◌+◌, ◌<◌, Bool, true, false, List, [], ◌++◌, length}
use Rattle.cbor_deterministic.specs.declared.Order.{Order}
use Rattle.cbor_deterministic.specs.declared.Refusal.{Refusal}
use Rattle.cbor_deterministic.specs.Deterministic.{AreDeterministic, HasDeterministic, IsDeterministic}
use Rattle.cbor_deterministic.specs.Refusals.{HasRefusal}
use Rattle.tool_verdicts.specs.declared.verdict.Verdict.{Verdict}
use Rattle.tool_verdicts.specs.declared.verdict.Verdict.TheVariants as v

-- `items` items in the deterministic encoding, and bytes after them at whose start no item stands in it. The refusal
-- has the reason and its offset in all the bytes. `01 18 17` is one item, and `NotShortest` at 1.
pub record StopsAfter (order : Order) (depth items : ℕ) (bytes : List ℕ) (refusal : Refusal) : Type 0 where
  pub before : List ℕ
  pub ahead : List ℕ
  pub are : AreDeterministic order depth items before
  pub is : bytes ≡ before ++ ahead
  pub some : ahead ≡ [] → ⊥
  pub at : ℕ
  pub refused : HasRefusal order depth ahead refusal.why at
  pub place : refusal.place ≡ length before + at

-- The verdict on a sequence (RFC 8742): its numbers of items and of bytes, or the first refusal. `01 80` has 2 items in
-- 2 bytes, `01 18 17` is refused at 1, and no bytes are 0 items.
pub data FindsEncodings (order : Order) (depth : ℕ) (bytes : List ℕ) : Verdict → Type 0 where
  are_items : {items : ℕ} → AreDeterministic order depth items bytes
      → FindsEncodings order depth bytes (v.Well items (length bytes))
  stops : {items : ℕ} {refusal : Refusal} → StopsAfter order depth items bytes refusal
      → FindsEncodings order depth bytes (v.Refused refusal)

-- The verdict if one item is wanted. In `01 80` more bytes follow the item, from 1 on. No bytes are refused at 0.
pub data FindsEncoding (order : Order) (depth : ℕ) (bytes : List ℕ) : Verdict → Type 0 where
  is_item : IsDeterministic order depth bytes → FindsEncoding order depth bytes (v.Well 1 (length bytes))
  is_followed : {place : ℕ} → HasDeterministic order depth bytes place → place < length bytes
      → FindsEncoding order depth bytes (v.More place)
  is_refused : {refusal : Refusal} → HasRefusal order depth bytes refusal.why refusal.place
      → FindsEncoding order depth bytes (v.Refused refusal)

-- The verdict on one item or on a sequence, as is wanted. `80` is one item in 1 byte for both.
abbrev pub FindsDeterministic : Bool → Order → ℕ → List ℕ → Verdict → Type 0
FindsDeterministic true order depth bytes verdict = FindsEncoding order depth bytes verdict
FindsDeterministic false order depth bytes verdict = FindsEncodings order depth bytes verdict
