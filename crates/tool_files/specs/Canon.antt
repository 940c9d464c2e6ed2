-- The deterministic encoding of a sequence of items (RFC 8949, 4.2, and RFC 8742), and what `canon` writes.
use Rattle.std.specs.Prelude.{◌≡◌, ◌≢◌, ℕ, ◌+◌, ◌-◌, ◌^◌, min, List, [], ◌++◌, length, Option, Result, Ok, Err}
use Rattle.std.specs.Io.KnownBytes.{Appends, Keeps}
use Rattle.std.specs.IoError.{error_kind}
use Rattle.std.specs.declared.io.ErrorKind.TheVariants as k
use Rattle.ciborium_ll_grammar.specs.declared.spelling.Spelling.TheVariants.{Any}
use Rattle.cbor_skip.specs.ItemFaults.{BeginsWithItem}
use Rattle.cbor_deterministic.specs.declared.Order.{Order}
use Rattle.cbor_deterministic.specs.declared.Why.TheVariants as d
use Rattle.cbor_canonical.specs.Canonical.{IsRewritten}
use Rattle.cbor_canonical.specs.Refusals.{HasRefusal}
use Rattle.cbor_canonical.specs.declared.CanonicalError.{CanonicalError}
use Rattle.cbor_canonical.specs.declared.CanonicalError.TheVariants.{Refused, Memory}
use Rattle.cbor_canonical.specs.declared.Refusal.{Refusal}
use Rattle.cbor_canonical.specs.declared.Why.{Why}
use Rattle.cbor_canonical.specs.declared.Why.TheVariants as w
use Rattle.tool_verdicts.specs.declared.verdict.Verdict.{Verdict}
use Rattle.tool_verdicts.specs.declared.verdict.Verdict.TheVariants as v
use Rattle.tool_files.specs.Given.{AppendsSome, IsWhole}
use Rattle.tool_files.specs.declared.canon.CanonFault.{CanonFault}
use Rattle.tool_files.specs.declared.canon.CanonFault.TheVariants as c

-- `AreRewritten order depth items encodings`: items of any spelling, joined, and the deterministic encodings of their
-- values, joined in the same sequence. To a depth of 1 the items `18 01 9f ff` have the encodings `01 80`.
pub data AreRewritten (order : Order) (depth : ℕ) : List ℕ → List ℕ → Type 0 where
  none : AreRewritten order depth [] []
  more : {items encodings item encoding : List ℕ} → AreRewritten order depth items encodings
      → IsRewritten order depth item encoding → AreRewritten order depth (items ++ item) (encodings ++ encoding)

-- After items that have encodings, bytes follow that `canonical` refuses for the reason. The place is that of its
-- refusal, from the start of all the bytes. `01 f8 18` is `NoSimple` at 1.
pub record StopsRewriting (order : Order) (depth : ℕ) (bytes : List ℕ) (refusal : Refusal) : Type 0 where
  pub before : List ℕ
  pub encodings : List ℕ
  pub ahead : List ℕ
  pub are : AreRewritten order depth before encodings
  pub is : bytes ≡ before ++ ahead
  pub some : ahead ≡ [] → ⊥
  pub at : ℕ
  pub refused : HasRefusal depth ahead refusal.why at
  pub place : refusal.place ≡ length before + at

-- After items that have encodings, a further item begins, as the first one does in `01 1c`. In `1c` none begins.
pub record HasItemLeft (order : Order) (depth : ℕ) (bytes : List ℕ) : Type 0 where
  pub before : List ℕ
  pub encodings : List ℕ
  pub ahead : List ℕ
  pub are : AreRewritten order depth before encodings
  pub is : bytes ≡ before ++ ahead
  pub front : BeginsWithItem Any depth ahead

-- Why the items of the bytes are not rewritten: an item is refused, as the second one of `01 ff`, or no memory is left
-- for an item.
abbrev pub AreUnwritten : Order → ℕ → List ℕ → CanonicalError → Type 0
AreUnwritten order depth bytes (Refused refusal) = StopsRewriting order depth bytes refusal
AreUnwritten order depth bytes Memory = HasItemLeft order depth bytes

-- The error of an item that begins at this offset, from the start of all the bytes. A place past the greatest number is
-- that number. `Break` at 0 of an item at 2 is `Break` at 2.
abbrev pub IsErrorAt : ℕ → CanonicalError → CanonicalError → Type 0
IsErrorAt start (Refused refusal) (Refused moved) =
    (moved.why ≡ refusal.why) × (moved.place ≡ min (start + refusal.place) (2 ^ 64 - 1))
IsErrorAt start Memory Memory = Unit {0}
IsErrorAt start error moved = ⊥

-- `Ok`: the bytes of the reader are items, and their encodings were written. After a refusal nothing was written, and
-- the bytes of the reader stop with it. Nothing was written either if memory or the reader failed. A read that was
-- interrupted is made again, and is no failure. If the writer failed, the bytes of the reader are items, and it got a
-- beginning of their encodings, or all of them. Of the input `18 01` `01` is written.
abbrev pub WritesCanon : {W : Type 0} → (W → Option (List ℕ)) → Order → ℕ → Option (List ℕ) → W
    → Result (Unit {0}) CanonFault → W → Type 0
WritesCanon told order depth input old (Ok done) new = (bytes encodings : List ℕ) × IsWhole input bytes
    × AreRewritten order depth bytes encodings × Appends (told old) (told new) encodings
WritesCanon told order depth input old (Err (c.Unwritten error)) new = (bytes : List ℕ) × IsWhole input bytes
    × AreUnwritten order depth bytes error × Keeps (told old) (told new)
WritesCanon told order depth input old (Err (c.Input error)) new = Keeps (told old) (told new)
    × (error_kind error ≢ k.Interrupted)
WritesCanon told order depth input old (Err (c.Output error)) new = (bytes encodings : List ℕ) × IsWhole input bytes
    × AreRewritten order depth bytes encodings × AppendsSome (told old) (told new) encodings

-- The verdict for a refusal, as `check` names such a fault: `break 2` for `Break` at 2. The faults of values have the
-- reasons of the deterministic encoding.
abbrev pub refusal_said : Why → ℕ → Verdict
refusal_said w.Cut place = v.Short place
refusal_said w.Malformed place = v.Syntax place
refusal_said w.Break place = v.Break place
refusal_said w.Deep place = v.Deep place
refusal_said w.NoSimple place = v.Refused (record { why = d.NoSimple; place = place })
refusal_said w.DuplicateKey place = v.Refused (record { why = d.DuplicateKey; place = place })

-- The verdict says the fault: `short 3` for `Cut` at 3. Without memory it is that of a failed read of the kind
-- `OutOfMemory`.
abbrev pub SaysFault : CanonFault → Verdict → Type 0
SaysFault (c.Unwritten (Refused refusal)) verdict = verdict ≡ refusal_said refusal.why refusal.place
SaysFault (c.Unwritten Memory) (v.Failed error) = error_kind error ≡ k.OutOfMemory
SaysFault (c.Unwritten Memory) verdict = ⊥
SaysFault (c.Input error) verdict = verdict ≡ v.Failed error
SaysFault (c.Output error) verdict = verdict ≡ v.Output error
