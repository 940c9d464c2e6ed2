-- The items of an input in their shortest spelling (RFC 7049, 3.9, and RFC 8742), and what `recode` writes of them.
use Rattle.std.specs.Prelude.{◌≡◌, ℕ, ◌+◌, ◌<◌, ◌≤◌, ◌^◌, List, [], ◌++◌, length, Option, None, Some}
use Rattle.std.specs.Prelude.{Result, Ok, Err, IsErr, ◌==◌, if◌then◌else◌}
use Rattle.ciborium_ll_grammar.specs.declared.spelling.Spelling.TheVariants.{Any}
use Rattle.ciborium_ll_grammar.specs.Items.{AreItems, IsItem}
use Rattle.cbor_checker.specs.declared.phase.Fault.{Fault}
use Rattle.cbor_checker.specs.declared.phase.Fault.TheVariants as f
use Rattle.cbor_checker.specs.declared.progress.Progress.TheVariants as c
use Rattle.cbor_checker.specs.declared.checker.Checker.{Checker}
use Rattle.cbor_checker.specs.Checking.{Answers, HasRead}
use Rattle.cbor_item_copier.specs.declared.copier.ItemCopier.{ItemCopier}
use Rattle.cbor_item_copier.specs.declared.progress.Progress.TheVariants as r
use Rattle.cbor_item_copier.specs.Copying.{HasCopied, pending}
use Rattle.cbor_item_copier.specs.Reading.{IsSpelled, TellsWhole}
use Rattle.tool_verdicts.specs.Parts.{IsAtMost}
use Rattle.tool_verdicts.specs.Verdicts.{verdict_moved}
use Rattle.tool_verdicts.specs.declared.verdict.Verdict.{Verdict}
use Rattle.tool_verdicts.specs.declared.verdict.Verdict.TheVariants as v

-- `AreRespelled depth count items output`: this many items of any spelling, joined, and their shortest spellings, joined
-- in the same order. The items `18 01 58 01 ff` have the output `01 41 ff`.
pub data AreRespelled (depth : ℕ) : ℕ → List ℕ → List ℕ → Type 0 where
  none : AreRespelled depth 0 [] []
  more : {count : ℕ} {items outputs item output : List ℕ} → AreRespelled depth count items outputs
      → IsItem Any depth item → IsSpelled item output
      → AreRespelled depth (count + 1) (items ++ item) (outputs ++ output)

-- The bytes end with a part of an item, after any number of whole items. More bytes are due, and all that can be
-- written was written. With depth 1, `18 01 82 18` has the output `01 82`. The part may have no byte.
pub record EndWithin (depth : ℕ) (bytes output : List ℕ) : Type 0 where
  pub before : List ℕ
  pub outputs : List ℕ
  pub part : List ℕ
  pub front : List ℕ
  pub due : ℕ
  pub count : ℕ
  pub are : AreRespelled depth count before outputs
  pub told : TellsWhole Any depth part front (r.More due)
  pub is : bytes ≡ before ++ part
  pub written : output ≡ outputs ++ front

-- The place of a fault, from the start of its item: 1 for `Break` at 1.
abbrev pub fault_place : Fault → ℕ
fault_place (f.Syntax place) = place
fault_place (f.Break place) = place
fault_place (f.Deep place) = place

-- The verdict for a fault of an item from this offset on: `break 2` for `Break` at 1 of an item at 1.
abbrev pub fault_said : ℕ → Fault → Verdict
fault_said start (f.Syntax place) = v.Syntax (start + place)
fault_said start (f.Break place) = v.Break (start + place)
fault_said start (f.Deep place) = v.Deep (start + place)

-- The answer at the end of an input of this length, if the item that would be next begins at `start`: a cut item, or
-- none. With the start 1 it is `short 2` for the length 2, and `Ok` for the length 1.
abbrev pub end_said : ℕ → ℕ → Result (Unit {0}) Verdict
end_said start len = if start == len then Ok tt else Err (v.Short len)

-- A checker of one item that has read these bytes answers this fault: `Break` at 0 for `ff`.
pub record Names (depth : ℕ) (fed : List ℕ) (fault : Fault) : Type 0 where
  pub checker : Checker
  pub has_read : HasRead Any depth fed checker
  pub answers : Answers checker (c.Fault fault)

-- Whatever follows these bytes, they are no beginning of a list of items. `01 ff` is none, and `01 82` is one, if the
-- depth is 1 or more.
abbrev pub BeginsNone : ℕ → List ℕ → Type 0
BeginsNone depth bytes = (more : List ℕ) (count : ℕ) → AreItems Any depth count (bytes ++ more) → ⊥

-- After whole items come bytes with which no item begins, whatever follows them. The last one of these is the first
-- byte that shows it, and the output is that of the bytes before it. The verdict names the fault as a checker of that
-- item does, from the start of all bytes. `18 01 82 ff` has the output `01 82` and the verdict `break 3`.
pub record StopAt (depth : ℕ) (bytes : List ℕ) (verdict : Verdict) (output : List ℕ) : Type 0 where
  pub before : List ℕ
  pub outputs : List ℕ
  pub fed : List ℕ
  pub front : List ℕ
  pub rest : List ℕ
  pub fault : Fault
  pub count : ℕ
  pub are : AreRespelled depth count before outputs
  pub told : TellsWhole Any depth fed front (r.Fault fault)
  pub names : Names depth fed fault
  pub begins_none : BeginsNone depth (before ++ fed)
  pub is : bytes ≡ before ++ (fed ++ rest)
  pub written : output ≡ outputs ++ front
  pub said : verdict ≡ fault_said (length before) fault

-- A beginning of the bytes ends within items, and this is its output. There are more bytes than an offset counts: 2^64
-- zeros are too many.
pub record TooMany (depth : ℕ) (bytes output : List ℕ) : Type 0 where
  pub fed : List ℕ
  pub rest : List ℕ
  pub within : EndWithin depth fed output
  pub is : bytes ≡ fed ++ rest
  pub many : 2 ^ 64 ≤ length bytes

-- The reader has a rest of the bytes left. The bytes before it end within items, and this is the output of these bytes.
-- If `18 01 02` was due and `02` is left, the output is `01`.
pub record StopsReading {R : Type 0} (left : R → Option (List ℕ)) (depth : ℕ) (due output : List ℕ) (reader : R)
    : Type 0 where
  pub fed : List ℕ
  pub rest : List ℕ
  pub within : EndWithin depth fed output
  pub is : due ≡ fed ++ rest
  pub tells : left reader ≡ Some rest

-- The output of a beginning of the bytes, which ends within items, with a fault, or after whole items. Of `18 01 82 ff` it may be `01` or
-- `01 82`.
pub data IsOutput (depth : ℕ) (bytes output : List ℕ) : Type 0 where
  within : (fed rest : List ℕ) → bytes ≡ fed ++ rest → EndWithin depth fed output → IsOutput depth bytes output
  stopped : (verdict : Verdict) → StopAt depth bytes verdict output → IsOutput depth bytes output
  whole_items : (count : ℕ) (before rest : List ℕ) → AreRespelled depth count before output → bytes ≡ before ++ rest
      → IsOutput depth bytes output

-- ---- what is written

-- The writer tells the bytes that it had, and then exactly these: `01 82` if it had `01` and got `82`.
abbrev pub TellsAll : {W : Type 0} → (W → Option (List ℕ)) → List ℕ → List ℕ → W → Type 0
TellsAll told written output writer = told writer ≡ Some (written ++ output)

-- The writer tells the bytes that it had, and then a beginning of these. Of `01 82` it may tell `01`.
pub record TellsSome {W : Type 0} (told : W → Option (List ℕ)) (written output : List ℕ) (writer : W) : Type 0 where
  pub front : List ℕ
  pub lost : List ℕ
  pub parted : output ≡ front ++ lost
  pub tells : told writer ≡ Some (written ++ front)

-- Exactly as many items as are wanted begin the bytes, and this is their output. If one item of `18 01 ff` is wanted, it
-- is `01`.
pub record CopiesFront (depth : ℕ) (most : Option ℕ) (bytes output : List ℕ) : Type 0 where
  pub count : ℕ
  pub enough : most ≡ Some count
  pub before : List ℕ
  pub rest : List ℕ
  pub are : AreRespelled depth count before output
  pub is : bytes ≡ before ++ rest

-- All items that are wanted were copied: all that there are, and no more than the limit, or as many as are wanted. Of
-- `18 01 02` the output is `01 02`, and with a limit of 1 it is `01`.
pub data CopiesWanted (depth : ℕ) (most : Option ℕ) (bytes output : List ℕ) : Type 0 where
  all_copied : {count : ℕ} → IsAtMost most count → AreRespelled depth count bytes output
      → CopiesWanted depth most bytes output
  enough_copied : CopiesFront depth most bytes output → CopiesWanted depth most bytes output

-- What an answer of `recode` says of the bytes of the input and of the bytes that were written.
--
-- `Ok`: the bytes are whole items, and their shortest spellings are written. With a limit the bytes may go on after as
-- many items as are wanted. `short`: they end within an item, and the
-- place is their end. `syntax`, `break` and `deep`: no item begins there. After each of these, and after `too long`
-- and a failed read, all output is written. If the writer failed, it has a beginning of the output. Of `18 01 ff` the
-- answer is `break 2`, and `01` is written.
abbrev pub CopiesItems : {R W : Type 0} → (R → Option (List ℕ)) → (W → Option (List ℕ)) → ℕ → Option ℕ → List ℕ
    → List ℕ → Result (Unit {0}) Verdict → R → W → Type 0
CopiesItems left got depth most due written (Ok done) reader writer =
    (output : List ℕ) × CopiesWanted depth most due output × TellsAll got written output writer
CopiesItems left got depth most due written (Err (v.Short place)) reader writer = (output : List ℕ)
    × (within : EndWithin depth due output) × (0 < length within.part) × (place ≡ length due)
    × TellsAll got written output writer
CopiesItems left got depth most due written (Err (v.Syntax place)) reader writer =
    (output : List ℕ) × StopAt depth due (v.Syntax place) output × TellsAll got written output writer
CopiesItems left got depth most due written (Err (v.Break place)) reader writer =
    (output : List ℕ) × StopAt depth due (v.Break place) output × TellsAll got written output writer
CopiesItems left got depth most due written (Err (v.Deep place)) reader writer =
    (output : List ℕ) × StopAt depth due (v.Deep place) output × TellsAll got written output writer
CopiesItems left got depth most due written (Err v.TooLong) reader writer =
    (output : List ℕ) × TooMany depth due output × TellsAll got written output writer
CopiesItems left got depth most due written (Err (v.Failed error)) reader writer =
    (output : List ℕ) × StopsReading left depth due output reader × TellsAll got written output writer
CopiesItems left got depth most due written (Err (v.Output error)) reader writer =
    (output : List ℕ) × IsOutput depth due output × TellsSome got written output writer
CopiesItems left got depth most due written (Err verdict) reader writer = ⊥

-- The answer of a copy that began at an offset of the input, from the start of the input: `break 3` for `break 2` after
-- one byte.
abbrev pub part_said : ℕ → Result (Unit {0}) Verdict → Result (Unit {0}) Verdict
part_said start (Ok done) = Ok done
part_said start (Err verdict) = Err (verdict_moved start verdict)

-- The items after the first `skip` items were copied, and no byte of these was written. Or there are fewer items, and
-- nothing was written. If one item of `18 01 18 02` is passed over, `02` is written.
pub data CopiesPart {R W : Type 0} (left : R → Option (List ℕ)) (got : W → Option (List ℕ)) (skip depth : ℕ)
    (most : Option ℕ) (due written : List ℕ) (result : Result (Unit {0}) Verdict) (writer : W) : Type 0 where
  copies_none : (count : ℕ) (before ahead : List ℕ) → count < skip → AreItems Any depth count before
      → due ≡ before ++ ahead → IsErr result → got writer ≡ Some written
      → CopiesPart left got skip depth most due written result writer
  copies_rest : (before ahead : List ℕ) (copied : Result (Unit {0}) Verdict) (reader : R)
      → AreItems Any depth skip before → due ≡ before ++ ahead
      → CopiesItems left got depth most ahead written copied reader writer
      → result ≡ part_said (length before) copied → CopiesPart left got skip depth most due written result writer

-- The answer for whole items: all of them are copied, or the reader or the writer failed, or there are more bytes than
-- an offset counts. For `01 80` it is never `short 2`.
abbrev pub AnswersItems : Result (Unit {0}) Verdict → Type 0
AnswersItems (Ok done) = Unit {0}
AnswersItems (Err v.TooLong) = Unit {0}
AnswersItems (Err (v.Failed error)) = Unit {0}
AnswersItems (Err (v.Output error)) = Unit {0}
AnswersItems (Err verdict) = ⊥

-- ---- a copy between two pieces

-- How many items are still to be copied, after this many of those that are wanted. With a limit of 3 and 1 item it is 2.
abbrev pub IsLeft : Option ℕ → Option ℕ → ℕ → Type 0
IsLeft None None count = Unit {0}
IsLeft (Some most) (Some left) count = (most ≡ count + left) × (0 < left)
IsLeft most left count = ⊥

-- The copy took these bytes and put out these. The item that it copies begins at `start`: at 2 after `18 01 82`, with
-- the output `01 82`.
pub record Stands (depth : ℕ) (most left : Option ℕ) (start : ℕ) (fed given : List ℕ) (copier : ItemCopier) : Type 0
  where
    pub within : EndWithin depth fed given
    pub copied : HasCopied Any depth within.part within.front copier
    pub none : pending copier ≡ []
    pub start_is : start ≡ length within.before
    pub limit : IsLeft most left within.count

-- The copy took some bytes, this many: 3 after `18 01 82`.
pub record IsAfter (depth : ℕ) (left : Option ℕ) (start read : ℕ) (copier : ItemCopier) : Type 0 where
  pub most : Option ℕ
  pub fed : List ℕ
  pub given : List ℕ
  pub stands : Stands depth most left start fed given copier
  pub long : length fed ≡ read

-- The copy took the bytes so far, and their output is `given`. Or it ends in them, since as many items as are wanted
-- were copied, or with this verdict and this output.
abbrev pub Feeds : ℕ → Option ℕ → Option ℕ → List ℕ → List ℕ → Option (Result (Unit {0}) Verdict) → ℕ → ItemCopier
    → Type 0
Feeds depth most left bytes given None start copier = Stands depth most left start bytes given copier
Feeds depth most left bytes given (Some (Ok done)) start copier = CopiesFront depth most bytes given
Feeds depth most left bytes given (Some (Err v.TooLong)) start copier = TooMany depth bytes given
Feeds depth most left bytes given (Some (Err verdict)) start copier = StopAt depth bytes verdict given
