-- A copy of elements in pieces from a reader to a writer, if both tell their bytes.
use Rattle.std.specs.Prelude.{◌≡◌, ℕ, ◌+◌, ◌≤◌, List, [], ◌++◌, length, Option, Some, Result, Ok, Err}
use Rattle.ciborium_ll_decoder.specs.declared.dec.Error.TheVariants as e
use Rattle.ciborium_ll_decoder.specs.declared.copy.RecodeError.{RecodeError}
use Rattle.ciborium_ll_decoder.specs.declared.copy.RecodeError.TheVariants as r
use Rattle.ciborium_ll_decoder.specs.Decoding.{offset_limit}
use Rattle.ciborium_ll_streams.specs.declared.streams.ReadFault.{ReadFault}
use Rattle.ciborium_ll_streams.specs.declared.streams.ReadFault.TheVariants as f
use Rattle.ciborium_ll_streams.specs.declared.streams.WriteFault.{WriteFault}
use Rattle.ciborium_ll_grammar.specs.declared.spelling.Spelling.TheVariants.{Any}
use Rattle.cbor_copier.specs.declared.progress.Progress.{Progress}
use Rattle.cbor_copier.specs.declared.progress.Progress.TheVariants as p
use Rattle.cbor_copier.specs.Reading.{TellsWhole}

-- The writer tells the bytes that it had, and then a beginning of these. Some may be lost at the end. If it had `00`
-- and these are `81 01`, it may tell `00 81`.
pub record TellsSome {W : Type 0} (told : W → Option (List ℕ)) (written output : List ℕ) (writer : W) : Type 0 where
  pub front : List ℕ
  pub lost : List ℕ
  pub parted : output ≡ front ++ lost
  pub tells : told writer ≡ Some (written ++ front)

-- The writer tells the bytes that it had, and then exactly these. If it had `00` and these are `81 01`, it tells
-- `00 81 01`.
abbrev pub TellsAll : {W : Type 0} → (W → Option (List ℕ)) → List ℕ → List ℕ → W → Type 0
TellsAll told written output writer = told writer ≡ Some (written ++ output)

-- How far a copy came. The bytes due begin with those that it took, `fed`. They put out `output`, and the copier says
-- this of them. Of the bytes after them at most `most` were read ahead, and the reader tells the others.
--
-- For two elements from `01 82 02`, `fed` may be `01 82` with the output `01 82`, and `02` is due still.
pub record Stands {R : Type 0} (left : R → Option (List ℕ)) (most count : ℕ) (due : List ℕ) (says : Progress)
    (output : List ℕ) (reader : R) : Type 0 where
  pub fed : List ℕ
  pub ahead : List ℕ
  pub rest : List ℕ
  pub split : due ≡ fed ++ ahead ++ rest
  pub few : length ahead ≤ most
  pub tells : left reader ≡ Some rest
  pub told : TellsWhole Any count fed output says

module _ {R W : Type 0} (left : R → Option (List ℕ)) (got : W → Option (List ℕ)) (most : ℕ) where
  -- The copy came so far, and all output is written: `01`, if the first of two elements of `01 02` came.
  pub record Comes (count : ℕ) (due written : List ℕ) (says : Progress) (reader : R) (writer : W) : Type 0 where
    pub output : List ℕ
    pub stands : Stands left most count due says output reader
    pub all : TellsAll got written output writer

  -- The copy came so far, and a beginning of the output is written: `82`, for example, if the output is `82 01`.
  pub record Breaks (count : ℕ) (due written : List ℕ) (reader : R) (writer : W) : Type 0 where
    pub output : List ℕ
    pub says : Progress
    pub stands : Stands left most count due says output reader
    pub some : TellsSome got written output writer

  -- The meaning of an answer of a copy. For one element of `01 02`, `Ok` says that `01` is written.
  --
  -- `Ok`: the bytes taken are that many elements, and their shortest spelling is written. `End`: the input ended within
  -- them. `Failed`: a read failed within them. `Syntax`: no list of that many elements begins so. `TooLong`: as many
  -- bytes came as an offset counts, but for those of a piece. `Write`: the writer failed.
  abbrev pub CopiesPrompt : ℕ → List ℕ → List ℕ → Result (Unit {0}) (RecodeError ReadFault WriteFault) → R → W
      → Type 0
  CopiesPrompt count due written (Ok done) reader writer = Comes count due written p.Ended reader writer
  CopiesPrompt count due written (Err (r.Read (e.Io f.End))) reader writer =
      (comes : Comes count due written p.More reader writer) × (comes.stands.fed ≡ due)
  CopiesPrompt count due written (Err (r.Read (e.Io (f.Failed error)))) reader writer =
      (comes : Comes count due written p.More reader writer) × (comes.stands.ahead ≡ [])
  CopiesPrompt count due written (Err (r.Read (e.Syntax place))) reader writer =
      Comes count due written (p.Syntax place) reader writer
  CopiesPrompt count due written (Err (r.Read e.TooLong)) reader writer =
      (says : Progress) × (comes : Comes count due written says reader writer)
      × (offset_limit ≤ length comes.stands.fed + most + 1)
  CopiesPrompt count due written (Err (r.Read e.Waiting)) reader writer = ⊥
  CopiesPrompt count due written (Err (r.Write fault)) reader writer = Breaks count due written reader writer
