-- The verdicts of `check` on bytes, and the verdict for each answer of the libraries.
use Rattle.std.specs.Prelude.{◌≡◌, ℕ, ◌+◌, Bool, true, false, List, [], ◌++◌, length, Option, Some, None}
use Rattle.std.specs.Prelude.{Result, Ok, Err}
use Rattle.std.specs.declared.io.Error.{Error}
use Rattle.ciborium_ll.specs.Types.Spelling.{Spelling}
use Rattle.ciborium_ll.specs.Types.Read.{Ghosts}
use Rattle.ciborium_ll.specs.Types.ReadFault.{ReadFault}
use Rattle.ciborium_ll.specs.Types.ReadFault.TheVariants as r
use Rattle.ciborium_ll.specs.Types.Decoder.{Decoder}
use Rattle.ciborium_ll.specs.Types.Error.TheVariants as e
use Rattle.ciborium_ll.specs.Items.{AreItems, IsItem}
use Rattle.ciborium_ll.specs.Faults.{Short, Syntax}
use Rattle.cbor_skip.specs.declared.SkipError.{SkipError}
use Rattle.cbor_skip.specs.declared.SkipError.TheVariants as s
use Rattle.cbor_skip.specs.ItemFaults.{HasDeepNest, HasEarlyBreak, HasItemFault, BeginsWithItem}
use Rattle.cbor_dump.specs.declared.dump.DumpError.{DumpError}
use Rattle.cbor_dump.specs.declared.dump.DumpError.TheVariants as u
use Rattle.cbor_dump.specs.declared.sequence.Sequence.{Sequence}
use Rattle.cbor_dump.specs.declared.sequence.Stopped.{Stopped}
use Rattle.cbor_dump.specs.declared.single.NotOne.{NotOne}
use Rattle.cbor_dump.specs.declared.single.NotOne.TheVariants as n
use Rattle.cbor_dump.specs.Sequences.{IsSequence, ChecksItems}
use Rattle.cbor_dump.specs.Singles.{ChecksOne}
use Rattle.cbor_json.specs.declared.JsonError.{JsonError}
use Rattle.cbor_json.specs.declared.JsonError.TheVariants as j
use Rattle.tool_verdicts.specs.declared.items.Ending.{Ending}
use Rattle.tool_verdicts.specs.declared.items.Ending.TheVariants as g
use Rattle.tool_verdicts.specs.declared.verdict.Verdict.{Verdict}
use Rattle.tool_verdicts.specs.declared.verdict.Verdict.TheVariants as v

-- ---- the answers of the libraries, as the program says them

-- The verdict for an error that stopped the read of an item. A read that failed stopped at this offset. For `Io` and
-- the offset 2 it is `Short(2)`.
abbrev pub fault_said : {E : Type 0} → SkipError E → ℕ → Verdict
fault_said (s.Break place) offset = v.Break place
fault_said (s.Deep place) offset = v.Deep place
fault_said (s.Read (e.Syntax place)) offset = v.Syntax place
fault_said (s.Read (e.Io error)) offset = v.Short offset
fault_said (s.Read e.TooLong) offset = v.TooLong
fault_said (s.Read e.Waiting) offset = v.TooLong

-- The verdict for the answer of `check`. For the sequence `01 81 02` it is `Well` with 2 items and 3 bytes.
abbrev pub sequence_said : {E : Type 0} → Result (Sequence E) (Stopped E) → ℕ → Verdict
sequence_said (Ok sequence) offset = v.Well sequence.items sequence.bytes
sequence_said (Err stopped) offset = fault_said stopped.error offset

-- The verdict for the answer of `check_one`. For `01 81 02` from the offset 0 on it is `More(1)`.
abbrev pub single_said : {E : Type 0} → Result (Sequence E) (NotOne E) → ℕ → Verdict
single_said (Ok sequence) offset = v.Well sequence.items sequence.bytes
single_said (Err (n.Item error)) offset = fault_said error offset
single_said (Err (n.More place next)) offset = v.More place

module _ {R E : Type 0} (source : Ghosts R E) where
  -- `check` gave an answer, and the verdict says it: for `01 02`, for example, 2 items in 2 bytes.
  pub record SaysItems (depth room : ℕ) (old : Decoder R) (verdict : Verdict) (new : Decoder R) : Type 0 where
    pub answer : Result (Sequence E) (Stopped E)
    pub checks : ChecksItems source depth room old answer new
    pub said : verdict ≡ sequence_said answer new.offset

  -- `check_one` gave an answer, and the verdict says it: for `01 02` from the offset 0 on, for example, `More(1)`.
  pub record SaysOne (depth room : ℕ) (old : Decoder R) (verdict : Verdict) (new : Decoder R) : Type 0 where
    pub answer : Result (Sequence E) (NotOne E)
    pub checks : ChecksOne source depth room old answer new
    pub said : verdict ≡ single_said answer new.offset

  -- The verdict says the answer of `check_one` or of `check`, as is wanted. For `01` both say 1 item in 1 byte.
  abbrev pub SaysVerdict : Bool → ℕ → ℕ → Decoder R → Verdict → Decoder R → Type 0
  SaysVerdict true depth room old verdict new = SaysOne depth room old verdict new
  SaysVerdict false depth room old verdict new = SaysItems depth room old verdict new

-- A read that failed for another reason than the end takes precedence over what is found. At the end of `82 01` the
-- verdict `Short(2)` stays.
abbrev pub unless_failed : Option ReadFault → Verdict → Verdict
unless_failed None verdict = verdict
unless_failed (Some r.End) verdict = verdict
unless_failed (Some (r.Failed error)) verdict = v.Failed error

-- The answer of `dump`, `diag` and `json` after whole items: the end, or a read that failed for another reason. `End` gives
-- `Ok`, and `Failed` gives an error.
abbrev pub end_said : Option ReadFault → Result (Unit {0}) Verdict
end_said None = Ok tt
end_said (Some r.End) = Ok tt
end_said (Some (r.Failed error)) = Err (v.Failed error)

-- A dump stopped since its reader failed within an item. At the end of `82 01` it did so, and at `1c` it stopped for
-- another reason.
abbrev pub IsCutShort : {E F : Type 0} → Result E (DumpError E F) → Type 0
IsCutShort (Err (u.Item (s.Read (e.Io error)))) = Unit {0}
IsCutShort outcome = ⊥

-- The verdict for the answer of `dump`: `Break(1)` for `Item` of `Break(1)`, if no read failed.
abbrev pub dump_said : {E : Type 0} → Result E (DumpError E Error) → Option ReadFault → ℕ
    → Result (Unit {0}) Verdict
dump_said (Ok ended) fault offset = end_said fault
dump_said (Err (u.Item error)) fault offset = Err (unless_failed fault (fault_said error offset))
dump_said (Err (u.Rows error)) fault offset = Err (v.Output error)

-- The verdict for the answer of `diag` or `json`, or the error of the writer: `Deep(1)` for `Read` of `Deep(1)`, if no
-- read failed.
abbrev pub items_said : {E F : Type 0} → Result (Ending E) (JsonError E F) → Option ReadFault → ℕ
    → Result (Result (Unit {0}) Verdict) F
items_said (Ok g.Enough) fault offset = Ok (end_said fault)
items_said (Ok (g.End error)) fault offset = Ok (end_said fault)
items_said (Ok (g.More place)) fault offset = Ok (Err (unless_failed fault (v.More place)))
items_said (Err (j.Read error)) fault offset = Ok (Err (unless_failed fault (fault_said error offset)))
items_said (Err (j.NoJson place)) fault offset = Ok (Err (unless_failed fault (v.NoJson place)))
items_said (Err (j.Write error)) fault offset = Err error

-- ---- verdicts on bytes that are told

-- All is well: with 2 items in 3 bytes it is, and with `Short(2)` it is not.
abbrev pub FoundWell : Verdict → Type 0
FoundWell (v.Well items bytes) = Unit {0}
FoundWell verdict = ⊥

-- The bytes are as wanted: with `--one` one item, otherwise a sequence of items (RFC 8742, 2), and with `--strict` in
-- their shortest spelling (RFC 7049, 3.9). `01 80` is as wanted without `--one` only.
abbrev pub IsWanted : Bool → Spelling → ℕ → List ℕ → Type 0
IsWanted true allowed depth due = IsItem allowed depth due
IsWanted false allowed depth due = IsSequence allowed depth due

-- `StopsAsNamed allowed depth due start verdict`: these bytes begin at the offset `start`, and something stops the read
-- of an item there. The verdict names it, with its offset (RFC 7049, 2.1 to 2.4). `1c` at the offset 0 is `syntax 0`.
abbrev pub StopsAsNamed : Spelling → ℕ → List ℕ → ℕ → Verdict → Type 0
StopsAsNamed allowed depth due start (v.Syntax place) = (fault : HasItemFault allowed depth due) × (at : ℕ)
    × (fault.answer ≡ Syntax at) × (place ≡ start + at)
StopsAsNamed allowed depth due start (v.Short place) = (fault : HasItemFault allowed depth due)
    × (fault.answer ≡ Short) × (place ≡ start + length fault.before + fault.consumed)
StopsAsNamed allowed depth due start (v.Break place) = (fault : HasEarlyBreak allowed depth due)
    × (place ≡ start + length fault.before)
StopsAsNamed allowed depth due start (v.Deep place) = (fault : HasDeepNest allowed depth due)
    × (place ≡ start + length fault.before)
StopsAsNamed allowed depth due start verdict = ⊥

-- `count` items, and bytes after them in which the read of a further item stops. The verdict names the fault. `01 1c`
-- from the offset 0 is one item, and `syntax 1`.
pub record StopsBehind (allowed : Spelling) (depth count : ℕ) (due : List ℕ) (start : ℕ) (verdict : Verdict) : Type 0
  where
    pub before : List ℕ
    pub ahead : List ℕ
    pub are_items : AreItems allowed depth count before
    pub is : due ≡ before ++ ahead
    pub stops : StopsAsNamed allowed depth ahead (start + length before) verdict

-- One item, and more bytes after it from this offset on. In `01 80`, which begins at the offset 0, they follow at 1.
pub record IsFollowed (allowed : Spelling) (depth : ℕ) (due : List ℕ) (start place : ℕ) : Type 0 where
  pub front : BeginsWithItem allowed depth due
  pub some : front.rest ≡ [] → ⊥
  pub at : place ≡ start + length front.item

-- The verdict on a sequence from this offset on: all its items and bytes, or the first fault. `01 80` has 2 items in 2
-- bytes.
abbrev pub FindsAll : Spelling → ℕ → List ℕ → ℕ → Verdict → Type 0
FindsAll allowed depth due start (v.Well items bytes) = AreItems allowed depth items due × (bytes ≡ length due)
FindsAll allowed depth due start verdict = (count : ℕ) × StopsBehind allowed depth count due start verdict

-- The verdict after the rows of a dump: the end of a sequence, or its first fault. For `01 02` it is the end, and for
-- `01 1c` from the offset 0 on it is `Syntax(1)`.
abbrev pub FindsBehindRows : Spelling → ℕ → List ℕ → ℕ → Result (Unit {0}) Verdict → Type 0
FindsBehindRows allowed depth due start (Ok done) = IsSequence allowed depth due
FindsBehindRows allowed depth due start (Err verdict) = (count : ℕ) × StopsBehind allowed depth count due start verdict

-- The verdict if one item is wanted. For `01 80` from the offset 0 on it is `More(1)`.
abbrev pub FindsOne : Spelling → ℕ → List ℕ → ℕ → Verdict → Type 0
FindsOne allowed depth due start (v.Well items bytes) = (items ≡ 1) × IsItem allowed depth due × (bytes ≡ length due)
FindsOne allowed depth due start (v.More place) = IsFollowed allowed depth due start place
FindsOne allowed depth due start verdict = StopsBehind allowed depth 0 due start verdict

-- The verdict on one item or on a sequence, as is wanted. From the offset 0 on, `01 02` has 2 items, or gives `More(1)`
-- if one item is wanted.
abbrev pub Finds : Bool → Spelling → ℕ → List ℕ → ℕ → Verdict → Type 0
Finds true allowed depth due start verdict = FindsOne allowed depth due start verdict
Finds false allowed depth due start verdict = FindsAll allowed depth due start verdict
