-- The number of failures of the reader in the read of an item. The offset does not fall.
use Rattle.std.proofs.Common.{◌≤◌, ℕ, Bool, List, [], Option, Some, None, Err, arith}
use Rattle.ciborium_ll_io.specs.declared.io.Read.{Ghosts}
use Rattle.ciborium_ll_decoder.specs.declared.dec.Decoder.{Decoder}
use Rattle.ciborium_ll_decoder.specs.declared.dec.Error.{Error}
use Rattle.ciborium_ll_grammar.specs.Strings.{Kind}
use Rattle.ciborium_ll_decoder.specs.Decoding.{DecoderPullAnswer, failures_of}
use Rattle.ciborium_ll_decoder.specs.Finishing.{EndsBody, StopsReading}
use Rattle.ciborium_ll_decoder.specs.Skipping.{MeetsBody, MeetsNoTitle, SkipsString, StopsInside}
use Rattle.cbor_skip.specs.declared.SkipError.{SkipError}
use Rattle.cbor_skip.specs.Failures.{CountsFailure, CountsItemFailure}
use Rattle.cbor_skip.specs.Skipping.{StopsDue, StopsItem, StopsTitle}

module _ {R E : Type 0} (source : Ghosts R E) where
  -- A failed read counts failures by its error, and the offset does not fall.
  pub record FailsOn (error : Error E) (old new : Decoder R) : Type 0 where
    pub failures : CountsFailure error (failures_of source old) (failures_of source new)
    pub rises : old.offset ≤ new.offset

  pub pull_fails : (error : Error E) (old new : Decoder R) → DecoderPullAnswer source old (Err error) new
      → FailsOn error old new
  pull_fails error old new fails = grind arith

  module _ (kind : Kind) where
    reading_fails : (len : ℕ) (read : List ℕ) (place count : ℕ) (error : Error E) (old new : Decoder R)
        → StopsReading source kind [] len read place count old error new → FailsOn error old new
    reading_fails len read place count error old new stops = grind arith

    pub body_fails : (len room place : ℕ) (error : Error E) (old new : Decoder R)
        → EndsBody source kind [] len room place old (Err error) new → FailsOn error old new
    body_fails len room place error old new stops =
        let last = reading_fails len stops.part.read place stops.count error stops.between new stops.stops in
        grind (arith, last)

    inside_body : (room : ℕ) (error : Error E) (old new : Decoder R) → MeetsBody source kind room old error new
        → FailsOn error old new
    inside_body room error old new meets =
        let last = body_fails meets.len room meets.between.offset error meets.titled new meets.ends in
        grind (arith, last)

    inside_title : (error : Error E) (old new : Decoder R) → MeetsNoTitle source kind old error new
        → FailsOn error old new
    inside_title error old new meets =
        let last = pull_fails error meets.between new meets.fails in grind (arith, last)

    inside_fails : (room : ℕ) (error : Error E) (old new : Decoder R) → StopsInside source kind room old error new
        → FailsOn error old new
    inside_fails room error old new stops = grind (arith, inside_title, inside_body)

    pub string_fails : (len : Option ℕ) (room : ℕ) (error : Error E) (old new : Decoder R)
        → SkipsString source kind len room old (Err error) new → FailsOn error old new
    string_fails None room error old new stops = inside_fails room error old new stops
    string_fails (Some len) room error old new stops = body_fails len room _ error old new stops

  title_fails : (room : ℕ) (error : Error E) (old new : Decoder R) → StopsTitle source room old error new
      → CountsFailure error (failures_of source old) (failures_of source new)
  title_fails room error old new stops = grind (arith, pull_fails, string_fails)

  due_fails : (levels : ℕ) (closable : Bool) (room : ℕ) (error : SkipError E) (old new : Decoder R)
      → StopsDue source levels closable room old error new
      → CountsItemFailure error (failures_of source old) (failures_of source new)
  due_fails levels closable room error old new stops = grind (arith, title_fails)

  pub stop_fails : (outer : Bool) (depth room : ℕ) (error : SkipError E) (old new : Decoder R)
      → StopsItem source outer depth room old error new
      → CountsItemFailure error (failures_of source old) (failures_of source new)
  stop_fails outer depth room error old new stops =
      let last = due_fails stops.levels stops.closable room error stops.between new stops.stops in
      grind (arith, last)
