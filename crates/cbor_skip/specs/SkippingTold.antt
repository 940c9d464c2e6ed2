-- `skip_item` if the bytes are told and the reader fails only if bytes are missing.
use Rattle.std.specs.Prelude.{◌≡◌, ℕ, ◌+◌, List, length, drop, Some, Result, Ok, Err}
use Rattle.ciborium_ll_io.specs.declared.io.Read.{Ghosts}
use Rattle.ciborium_ll_decoder.specs.declared.dec.Decoder.{Decoder}
use Rattle.ciborium_ll_decoder.specs.declared.dec.Error.TheVariants as e
use Rattle.ciborium_ll_grammar.specs.declared.spelling.Spelling.{Spelling}
use Rattle.ciborium_ll_grammar.specs.Faults.{Answer, Short, Syntax}
use Rattle.ciborium_ll_decoder.specs.Decoding.{view}
use Rattle.cbor_skip.specs.declared.SkipError.{SkipError}
use Rattle.cbor_skip.specs.declared.SkipError.TheVariants as s
use Rattle.cbor_skip.specs.ItemFaults.{HasDeepNest, HasEarlyBreak, HasItemFault, BeginsWithItem}

module _ {R E : Type 0} (source : Ghosts R E) where
  -- The bytes began with an item, and exactly the bytes that follow are left. If `01 07` is due, `07` is left.
  pub record SkipsFront (allowed : Spelling) (depth : ℕ) (due : List ℕ) (old new : Decoder R) : Type 0 where
    pub front : BeginsWithItem allowed depth due
    pub left : view source new ≡ Some front.rest
    pub offset : new.offset ≡ old.offset + length front.item

  -- The read met a fault. The answer and the bytes that are consumed are the fault's own. If `81 1c 05` is due, with
  -- depth 1, `05` is left.
  pub record MeetsItemFault (allowed : Spelling) (depth : ℕ) (due : List ℕ) (answer : Answer)
      (old new : Decoder R) : Type 0
    where
      pub fault : HasItemFault allowed depth due
      pub answered : fault.answer ≡ answer
      pub left : view source new ≡ Some (drop fault.consumed fault.ahead)
      pub offset : new.offset ≡ old.offset + length fault.before + fault.consumed

  -- A break stood at a place that allows none. The answer names its offset, and the break is consumed. In `82 01 ff`
  -- from offset 0 on, with depth 1, the offset is 2.
  pub record FindsBreak (allowed : Spelling) (depth : ℕ) (due : List ℕ) (old : Decoder R) (at : ℕ)
      (new : Decoder R) : Type 0
    where
      pub fault : HasEarlyBreak allowed depth due
      pub place : at ≡ old.offset + length fault.before
      pub left : view source new ≡ Some fault.rest
      pub offset : new.offset ≡ at + 1

  -- A tag, an array or a map stood too deep. The answer names its title's offset, and the title is consumed. In `81 80`
  -- from offset 0 on, with depth 1, the offset is 1.
  pub record FindsNest (allowed : Spelling) (depth : ℕ) (due : List ℕ) (old : Decoder R) (at : ℕ)
      (new : Decoder R) : Type 0
    where
      pub fault : HasDeepNest allowed depth due
      pub place : at ≡ old.offset + length fault.before
      pub left : view source new ≡ Some fault.rest
      pub offset : new.offset ≡ at + length fault.title

  -- `skip_item` skips one item, in any spelling or in the shortest, or meets the fault that stops it. The relation says
  -- which bytes are left, and the offset. If `01 1c` is due, it skips `01` and leaves `1c`.
  abbrev pub SkipsTold : Spelling → ℕ → List ℕ → Decoder R → Result (Unit {0}) (SkipError E) → Decoder R → Type 0
  SkipsTold allowed depth due old (Ok done) new = SkipsFront allowed depth due old new
  SkipsTold allowed depth due old (Err (s.Break at)) new = FindsBreak allowed depth due old at new
  SkipsTold allowed depth due old (Err (s.Deep at)) new = FindsNest allowed depth due old at new
  SkipsTold allowed depth due old (Err (s.Read (e.Io fault))) new = MeetsItemFault allowed depth due Short old new
  SkipsTold allowed depth due old (Err (s.Read (e.Syntax place))) new =
      (start : ℕ) × (place ≡ old.offset + start) × MeetsItemFault allowed depth due (Syntax start) old new
  SkipsTold allowed depth due old (Err (s.Read e.TooLong)) new = ⊥
  SkipsTold allowed depth due old (Err (s.Read e.Waiting)) new = ⊥
