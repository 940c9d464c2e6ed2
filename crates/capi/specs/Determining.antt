-- The result of `cll_deterministic`.
use Rattle.std.specs.Prelude.{◌≡◌, ℕ, List}
use Rattle.cbor_deterministic.specs.declared.Order.{Order}
use Rattle.cbor_deterministic.specs.declared.Order.TheVariants.{Bytewise, LengthFirst}
use Rattle.cbor_deterministic.specs.declared.Why.{Why}
use Rattle.cbor_deterministic.specs.declared.Why.TheVariants as w
use Rattle.cbor_deterministic.specs.Deterministic.{HasDeterministic}
use Rattle.cbor_deterministic.specs.Refusals.{HasRefusal}
use Rattle.capi.specs.declared.answer.CllAnswer.{CllAnswer}
use Rattle.capi.specs.declared.answer.CllAnswer.TheVariants as a
use Rattle.capi.specs.declared.answer.CllReport.{CllReport}
use Rattle.capi.specs.Answers.{Reports}

-- The number of an order of keys, as the C header has it. `LengthFirst` has 1.
abbrev pub order_code : Order → ℕ
order_code Bytewise = 0
order_code LengthFirst = 1

-- The number is that of no order of keys, as 2.
abbrev pub IsNoOrder : ℕ → Type 0
IsNoOrder number = (order : Order) → number ≡ order_code order → ⊥

-- The answer that stands for the reason of a refusal. For `9f` it is `Indefinite`, and for the simple value `f8 18` it
-- is `Syntax`.
abbrev pub why_answer : Why → CllAnswer
why_answer w.Cut = a.Short
why_answer w.NoTitle = a.Syntax
why_answer w.NotShortest = a.NotShortest
why_answer w.Indefinite = a.Indefinite
why_answer w.NoSimple = a.Syntax
why_answer w.NoText = a.Syntax
why_answer w.KeyOrder = a.KeyOrder
why_answer w.DuplicateKey = a.DuplicateKey
why_answer w.Deep = a.TooDeep

-- The place that a report names for a refusal at this offset: the offset, or 0 if the bytes end too early. `Deep` at 1
-- names 1, and `Cut` at 1 names 0.
abbrev pub named_place : Why → ℕ → ℕ
named_place w.Cut offset = 0
named_place why offset = offset

-- The result of `cll_deterministic`, by its answer: the item that comes first, or a refusal. After a refusal the bytes
-- up to its offset are consumed. Nothing is written. To a depth of 1, `82 01 18 17` is `NotShortest` at 2.
pub data Determines (order : Order) (depth : ℕ) (bytes : List ℕ) : CllAnswer → CllReport → Type 0 where
  has_item : {len : ℕ} {report : CllReport} → HasDeterministic order depth bytes len → Reports report len 0 0
      → Determines order depth bytes a.Ok report
  is_refused : {why : Why} {offset : ℕ} {report : CllReport} → HasRefusal order depth bytes why offset
      → Reports report offset 0 (named_place why offset) → Determines order depth bytes (why_answer why) report
