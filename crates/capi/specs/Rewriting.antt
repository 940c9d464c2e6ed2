-- The result of `cll_canonical`.
use Rattle.std.specs.Prelude.{ℕ, ◌≤◌, List, length, take}
use Rattle.cbor_canonical.specs.declared.Why.{Why}
use Rattle.cbor_canonical.specs.declared.Why.TheVariants as w
use Rattle.cbor_canonical.specs.Canonical.{IsCanonical}
use Rattle.cbor_canonical.specs.Refusals.{HasRefusal}
use Rattle.cbor_canonical.specs.Room.{LacksMemory}
use Rattle.cbor_deterministic.specs.declared.Order.{Order}
use Rattle.capi.specs.declared.answer.CllAnswer.{CllAnswer}
use Rattle.capi.specs.declared.answer.CllAnswer.TheVariants as a
use Rattle.capi.specs.declared.answer.CllReport.{CllReport}
use Rattle.capi.specs.Answers.{Reports}

-- The answer that stands for the reason of a refusal. For a break in place of an item it is `BreakDue`, and for the
-- simple value `f8 18` it is `Syntax`.
abbrev pub refusal_answer : Why → CllAnswer
refusal_answer w.Cut = a.Short
refusal_answer w.Malformed = a.Syntax
refusal_answer w.Break = a.BreakDue
refusal_answer w.Deep = a.TooDeep
refusal_answer w.NoSimple = a.Syntax
refusal_answer w.DuplicateKey = a.DuplicateKey

-- The place that a report names for a refusal at this offset: the offset, or 0 if the bytes end too early. `Deep` at 1
-- names 1, and `Cut` at 1 names 0.
abbrev pub refusal_place : Why → ℕ → ℕ
refusal_place w.Cut offset = 0
refusal_place why offset = offset

-- The result of `cll_canonical`, by its answer. The output begins with the deterministic encoding of the item that
-- comes first, and the item is consumed. Or the bytes are refused, and the report names the offset. Or an output of
-- that length, or that number of places, may be too small for the item. For `9f 18 01 ff 02` to a depth of 1 the output
-- begins with `81 01`, 4 bytes are consumed and 2 written.
pub data Rewrites (order : Order) (depth : ℕ) (bytes : List ℕ) (places : ℕ) : CllAnswer → List ℕ → CllReport → Type 0
  where
    is_written : {len : ℕ} {rest out : List ℕ} {report : CllReport}
        (written : IsCanonical order depth bytes rest (take len out)) → len ≤ length out
        → Reports report (length written.item) len 0 → Rewrites order depth bytes places a.Ok out report
    is_refused : (why : Why) {offset : ℕ} {out : List ℕ} {report : CllReport} → HasRefusal depth bytes why offset
        → Reports report offset 0 (refusal_place why offset)
        → Rewrites order depth bytes places (refusal_answer why) out report
    no_room : {out : List ℕ} {report : CllReport} → LacksMemory order depth bytes (length out) places
        → Reports report 0 0 0 → Rewrites order depth bytes places a.Room out report
