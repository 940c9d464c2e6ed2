-- The meaning of the answers of a copier of an item for the bytes that it has read and for those that it has written,
-- in the words of the grammar (RFC 7049, 2.1 to 2.4 and 3.9).
use Rattle.std.specs.Prelude.{◌≡◌, ℕ, ◌<◌, ◌≤◌, ◌⊎◌, List, [], ◌∷◌, ◌++◌, length, take}
use Rattle.ciborium_ll_grammar.specs.declared.spelling.Spelling.{Spelling}
use Rattle.ciborium_ll_grammar.specs.declared.spelling.Spelling.TheVariants.{Any}
use Rattle.ciborium_ll_grammar.specs.Faults.{Short}
use Rattle.cbor_copier.specs.Reading.{AreSpelled, ComesTo}
use Rattle.cbor_checker.specs.declared.progress.Progress.TheVariants as f
use Rattle.cbor_checker.specs.Reading as reads
use Rattle.cbor_item_copier.specs.declared.progress.Copied.{Copied}
use Rattle.cbor_item_copier.specs.declared.progress.Progress.{Progress}
use Rattle.cbor_item_copier.specs.declared.progress.Progress.TheVariants as r
use Rattle.cbor_item_copier.specs.declared.progress.End.{End}
use Rattle.cbor_item_copier.specs.declared.progress.End.TheVariants as e

-- The bytes are some number of elements, and the output is their shortest spelling, as `18 01` and `01`.
abbrev pub IsSpelled : List ℕ → List ℕ → Type 0
IsSpelled bytes output = (count : ℕ) × AreSpelled Any count bytes output

-- A copy of more elements than there are bytes has put out this output, and the bytes end too early: `82 61` for
-- `82 61`.
abbrev pub IsCutCopy : List ℕ → List ℕ → Type 0
IsCutCopy bytes output = (count : ℕ) → length bytes < count → ComesTo Any count bytes Short output

-- A copy of elements has put out this output for all bytes except the last byte: `82` for `82 ff`.
pub record IsCutBefore (bytes output : List ℕ) : Type 0 where
  pub before : List ℕ
  pub last : ℕ
  pub is : bytes ≡ before ++ last ∷ []
  pub cut : IsCutCopy before output

-- The meaning of a checker's answer, and of the output. All that can be put out of a part of an item was put out. A
-- whole item was put out in its shortest spelling (RFC 7049, 3.9). If no item begins with the bytes, the output is that
-- of the bytes before the last byte. For `82 ff` it is `82`, with a fault.
abbrev pub TellsWhole : Spelling → ℕ → List ℕ → List ℕ → Progress → Type 0
TellsWhole allowed depth bytes output (r.More due) =
    reads.Tells allowed depth bytes (f.More due) × IsCutCopy bytes output
TellsWhole allowed depth bytes output r.Room = ⊥
TellsWhole allowed depth bytes output (r.Ended len) =
    reads.Tells allowed depth bytes (f.Ended len) × IsSpelled bytes output
TellsWhole allowed depth bytes output (r.Fault fault) =
    reads.Tells allowed depth bytes (f.Fault fault) × IsCutBefore bytes output
TellsWhole allowed depth bytes output r.TooLong = reads.Tells allowed depth bytes f.TooLong × IsCutCopy bytes output

-- The output and then some pending bytes have one of these meanings. For `82 01 02` the output may be `82 01`, and then
-- `02` is pending.
pub record LacksRoom (allowed : Spelling) (depth : ℕ) (bytes output : List ℕ) : Type 0 where
  pub pending : List ℕ
  pub some : 0 < length pending
  pub progress : Progress
  pub told : TellsWhole allowed depth bytes (output ++ pending) progress

-- The meaning of an answer. There is room for all that is put out, unless the answer is that there is none. `82 01 02`
-- with the output `82 01` gets `Room`, and with `82 01 02` it gets `Ended 3`.
abbrev pub Tells : Spelling → ℕ → List ℕ → List ℕ → Progress → Type 0
Tells allowed depth bytes output r.Room = LacksRoom allowed depth bytes output
Tells allowed depth bytes output progress = TellsWhole allowed depth bytes output progress

-- The meaning of an end of the bytes. `Between`: no byte came, or the bytes are an item and all of it is written.
-- `Short`: the bytes are a part of an item. `82 01` with the same output gets `Short 1`.
abbrev pub TellsEnd : Spelling → ℕ → List ℕ → List ℕ → End → Type 0
TellsEnd allowed depth bytes output e.Between =
    ((bytes ≡ []) × (output ≡ [])) ⊎ (reads.Tells allowed depth bytes (f.Ended (length bytes)) × IsSpelled bytes output)
TellsEnd allowed depth bytes output (e.Short due) =
    (0 < length bytes) × Tells allowed depth bytes output (r.More due)
TellsEnd allowed depth bytes output e.Room = LacksRoom allowed depth bytes output
TellsEnd allowed depth bytes output (e.Fault fault) = Tells allowed depth bytes output (r.Fault fault)

-- ---- the kinds of answers

-- The answer is that more bytes are due, as `More 1` after `82 01`.
abbrev pub IsMore : Progress → Type 0
IsMore (r.More due) = Unit {0}
IsMore progress = ⊥

-- The answer is that there is no room for the pending bytes, as `Room` after `82` without room.
abbrev pub IsRoom : Progress → Type 0
IsRoom r.Room = Unit {0}
IsRoom progress = ⊥

-- The answer is that the copy has ended, as `Ended 1` for `01` that is written.
abbrev pub IsEnd : Progress → Type 0
IsEnd (r.Ended len) = Unit {0}
IsEnd progress = ⊥

-- The answer is a fault, as `Break` at 0 for `ff`.
abbrev pub IsFault : Progress → Type 0
IsFault (r.Fault fault) = Unit {0}
IsFault progress = ⊥

-- The answer stays, whatever bytes come: the copy has ended, or it is at a fault. `Ended 1` stays, and `More 1`
-- doesn't.
abbrev pub IsLast : Progress → Type 0
IsLast progress = IsEnd progress ⊎ IsFault progress

-- ---- a piece

-- A copier that has read some bytes and written some reads a piece, writes `put`, and answers so (RFC 7049, 2.1 to 2.4
-- and 3.9). `goes`: it takes a byte only if an item goes on after all bytes before it. So an end or a fault comes with
-- the first byte that shows it, and no byte is taken after that one. `all`: it takes all bytes if more are due. `long`:
-- it leaves a byte that it can't count. If any spelling is allowed, after `18` it takes one byte of `17 01`, writes
-- `17`, and answers `Ended 2`.
pub record Copies (allowed : Spelling) (depth : ℕ) (read written piece put : List ℕ) (copied : Copied) : Type 0 where
  pub taken : copied.taken ≤ length piece
  pub goes : (len : ℕ) → len < copied.taken → reads.GoesOn allowed depth (read ++ take len piece)
  pub all : IsMore copied.progress → copied.taken ≡ length piece
  pub long : copied.progress ≡ r.TooLong → copied.taken < length piece
  pub tells : Tells allowed depth (read ++ take copied.taken piece) (written ++ put) copied.progress
