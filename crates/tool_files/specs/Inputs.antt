-- The read of an input, and the verdict on it.
use Rattle.std.specs.Prelude.{◌≡◌, ℕ, ◌+◌, Bool, true, false, List, [], ◌++◌, length, Option, None, Some}
use Rattle.ciborium_ll_grammar.specs.declared.spelling.Spelling.{Spelling}
use Rattle.ciborium_ll.specs.Types.BufferedReader.{BufferedReader}
use Rattle.ciborium_ll.specs.Types.Decoder.{Decoder}
use Rattle.ciborium_ll.specs.Types.Read.{Ghosts}
use Rattle.ciborium_ll.specs.Decoding.{IsFreshAs}
use Rattle.ciborium_ll.specs.Items.{AreItems, IsItem}
use Rattle.ciborium_ll_buffers.specs.Buffers.{buffered_read_ahead, buffered_read_fault, buffered_source}
use Rattle.tool_verdicts.specs.Checking.{unless_failed}
use Rattle.tool_verdicts.specs.Parts.{IsAtMost, SaysPart}
use Rattle.tool_verdicts.specs.declared.verdict.TextFault.{TextFault}
use Rattle.tool_verdicts.specs.declared.verdict.Verdict.{Verdict}
use Rattle.tool_verdicts.specs.declared.verdict.Verdict.TheVariants as v
use Rattle.tool_files.specs.declared.digits.Digits.{Digits}
use Rattle.tool_files.specs.declared.input.Input.{Input}
use Rattle.tool_files.specs.declared.input.Input.TheVariants as i
use Rattle.tool_verdicts.specs.declared.check.TheConstants.{BUFFER_SIZE}

module _ {T : Type 0} where
  -- A reader of the bytes that the digits of a source spell, as two bytes of the text `01 80`. None was read, and no
  -- fault was found.
  abbrev pub BeginsDigits : T → Digits T → Type 0
  BeginsDigits source digits = (digits.source ≡ source) × (digits.fault ≡ None) × (digits.is_ended ≡ false)

  -- A reader of the bytes of a source, or with `--hex` of the bytes that its digits spell. None was read. The text `01`
  -- has two bytes, and with `--hex` one.
  abbrev pub IsInputOf : Bool → T → Input T → Type 0
  IsInputOf false source (i.Bytes bytes) = bytes ≡ source
  IsInputOf true source (i.Digits digits) = BeginsDigits source digits
  IsInputOf hex source input = ⊥

  -- The fault of the text, if the input is one and a fault was found: half a byte for `0` alone.
  abbrev pub input_fault : Input T → Option TextFault
  input_fault (i.Bytes bytes) = None
  input_fault (i.Digits digits) = digits.fault

  -- The bytes to come, if the reader tells them: `01 02` of a source that tells these. A reader of digits tells none.
  abbrev pub input_remaining : (T → Option (List ℕ)) → Input T → Option (List ℕ)
  input_remaining remaining (i.Bytes source) = remaining source
  input_remaining remaining (i.Digits digits) = None

  -- A decoder at the start of a reader's bytes, through an empty buffer. Its offset is 0.
  pub record BeginsInput (allowed : Spelling) (reader : T) (decoder : Decoder (BufferedReader T)) : Type 0 where
    pub start : BufferedReader T
    pub source : buffered_source start ≡ reader
    pub none_ahead : buffered_read_ahead start ≡ []
    pub fresh : IsFreshAs allowed start 0 decoder

  module _ {E : Type 0} (reads : Ghosts (BufferedReader T) E) where
    -- A check from the start of the input, of one item or of a sequence as is wanted, gave the verdict. With a `skip` or
    -- a limit it is a check of a part of the sequence. A read that failed for another reason than the end takes
    -- precedence. The sequence `01 02` gets `ok 2 2`, unless a read failed so.
    pub record ChecksInput (allowed : Spelling) (skip : ℕ) (most : Option ℕ) (one : Bool) (depth : ℕ) (reader : T)
        (verdict : Verdict) : Type 0 where
      pub old : Decoder (BufferedReader T)
      pub new : Decoder (BufferedReader T)
      pub found : Verdict
      pub begins : BeginsInput allowed reader old
      pub says : SaysPart reads skip most one depth BUFFER_SIZE old found new
      pub said : verdict ≡ unless_failed (buffered_read_fault new.reader) found

-- A fault of the text takes precedence over the verdict on the bytes that it spells. Half a byte in the text is said in
-- place of `ok 1 1`.
abbrev pub text_said : Option TextFault → Verdict → Verdict
text_said None verdict = verdict
text_said (Some fault) verdict = v.Text fault

-- The bytes begin with these bytes, as `01 80` begins with `01`.
abbrev pub IsFront : List ℕ → List ℕ → Type 0
IsFront front bytes = (rest : List ℕ) × (bytes ≡ front ++ rest)

-- The bytes begin with the items that are passed over, and then with these bytes. If one item is passed over, `01 80
-- 02` begins with `80`, from the offset 1 on.
pub record IsFrontBehind (skip : ℕ) (allowed : Spelling) (depth : ℕ) (front bytes : List ℕ) : Type 0 where
  pub before : List ℕ
  pub are_before : AreItems allowed depth skip before
  pub is : IsFront (before ++ front) bytes

-- The numbers of a verdict are those of items that the bytes begin with, after the items that are passed over: of all
-- items that were read, or of the item that more bytes follow. There are no more items than the limit. `01 02` begins
-- with the items of `ok 2 2`, and with the item of `more 1`. After `01`, it goes on with the item of `ok 1 1`.
abbrev pub CountsItems : ℕ → Option ℕ → Bool → Spelling → ℕ → List ℕ → Verdict → Type 0
CountsItems skip None true allowed depth bytes (v.Well items count) = (front : List ℕ)
    × IsFrontBehind skip allowed depth front bytes × IsItem allowed depth front × (items ≡ 1) × (count ≡ length front)
CountsItems skip most one allowed depth bytes (v.Well items count) = (front : List ℕ)
    × IsFrontBehind skip allowed depth front bytes × AreItems allowed depth items front × (count ≡ length front)
    × IsAtMost most items
CountsItems skip most one allowed depth bytes (v.More place) = (front : List ℕ)
    × (stands : IsFrontBehind skip allowed depth front bytes) × IsItem allowed depth front
    × (place ≡ length stands.before + length front)
CountsItems skip most one allowed depth bytes verdict = Unit {0}
