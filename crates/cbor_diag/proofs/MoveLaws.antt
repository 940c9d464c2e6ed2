-- How far a show moves its decoder on, and how often the reader fails in it.
use Rattle.std.proofs.Common.{◌≡◌, ◌≤◌, ◌∙◌, ℕ, Bool, true, false, List, Option, Some, None, Result, Ok, Err}
use Rattle.std.proofs.Common.{refl, arith}
use Rattle.ciborium_ll.specs.Types.Read.{Ghosts}
use Rattle.ciborium_ll.specs.Types.Write.{Ghosts as Sink}
use Rattle.ciborium_ll.specs.Types.Decoder.{Decoder}
use Rattle.ciborium_ll.specs.Types.Error.{Error}
use Rattle.ciborium_ll.specs.Types.Header.{Header}
use Rattle.ciborium_ll.specs.Strings.{Kind}
use Rattle.ciborium_ll.specs.Decoding.{MovesOn, TakesBack, failures_of}
use Rattle.ciborium_ll.specs.Sides.{Sides}
use Rattle.cbor_skip.specs.Skipping.{SkipsItem}
use Rattle.cbor_skip.proofs.FailureLaws.{body_fails, pull_fails, stop_fails}
use Rattle.cbor_diag.specs.declared.DiagError.{DiagError}
use Rattle.cbor_diag.specs.declared.DiagError.TheVariants as d
use Rattle.cbor_diag.specs.declared.marks.Mark.{Mark}
use Rattle.cbor_diag.specs.declared.strings.quotes.Quotes.{Quotes}
use Rattle.cbor_diag.specs.ItemStops.{ItemStopsAt, RestStops, ShowsItemAt, WithinStops, behind, closing, deep, held, item, lead}
use Rattle.cbor_diag.specs.HeldStops.{Inside}
use Rattle.cbor_diag.specs.Places.{Place}
use Rattle.cbor_diag.specs.ItemStops.{no_item, opening, plain, title, within}
use Rattle.cbor_diag.specs.Showing.{CountsShown, IsWriting, OnReading, ShowsHeader}
use Rattle.cbor_diag.specs.StringShows.{BodyStopped, ShowsString, StringStops, StringUnshown, kind_quotes}
use Rattle.cbor_diag.specs.OpenShows.{OpenUnshown, ShowsStringBy, at_break, at_open, at_string}

module _ {R E : Type 0} (source : Ghosts R E) where
  -- A decoder that took its header back and then read on has moved on.
  pub moved_back : (header : Header) (opened pushed new : Decoder R) → TakesBack source opened header pushed
      → MovesOn source pushed new → opened.offset ≤ new.offset → MovesOn source opened new
  moved_back header opened pushed new back moves rises = grind arith

module _ {R E W F : Type 0} (source : Ghosts R E) (sink : Sink W F) where
  -- ---- strings

  module _ (kind : Kind) (quotes : Quotes) (len : Option ℕ) (mark : Mark) where
    body_rises : (text : List ℕ → List ℕ) (count room place : ℕ) (old new : Sides R W) (error : Error E)
        → BodyStopped source sink kind count room place text old error new → old.decoder.offset ≤ new.decoder.offset
    body_rises text count room place old new error stops =
        (body_fails source kind count room place error old.decoder new.decoder stops.ends).rises

    stop_rises : (room : ℕ) (old new : Sides R W) (error : Error E)
        → StringStops source sink kind quotes len mark room old error new → old.decoder.offset ≤ new.decoder.offset
    stop_rises room old new error stops = grind (arith, pull_fails, body_rises)

    -- The show of a string does not lower the offset.
    pub string_rises : (room : ℕ) (old new : Sides R W) (result : Result (Unit {0}) (DiagError E F))
        → ShowsString source sink kind quotes len mark room old result new → old.decoder.offset ≤ new.decoder.offset
    string_rises room old new result shows = grind (arith, stop_rises)

    -- If the writer failed within a string, the reader did not fail.
    string_unfailed : (old new : Sides R W) → StringUnshown source sink kind quotes len mark old new
        → failures_of source new.decoder ≡ failures_of source old.decoder
    string_unfailed old new shows = grind arith

  -- If the writer failed within a string of the indefinite form, the reader did not fail.
  open_unfailed : (kind : Kind) (old new : Sides R W) → OpenUnshown source sink kind old new
      → failures_of source new.decoder ≡ failures_of source old.decoder
  open_unfailed kind old new (at_string begun pulled unshown) =
      unshown.passed.failures ∙ (pulled.failures ∙ begun.passed.failures)
  open_unfailed kind old new (at_open begun pulled stopped) = pulled.failures ∙ begun.passed.failures
  open_unfailed kind old new (at_break begun pulled stopped) = pulled.failures ∙ begun.passed.failures

  string_by_unfailed : (kind : Kind) (exact : Bool) (len : Option ℕ) (mark : Mark) (room : ℕ) (old new : Sides R W)
      (error : DiagError E F) → IsWriting error
      → ShowsStringBy source sink kind exact len mark room old (Err error) new
      → failures_of source new.decoder ≡ failures_of source old.decoder
  string_by_unfailed kind exact len mark room old new (d.Read error) writing shows = absurd writing
  string_by_unfailed kind true None mark room old new (d.Write fault) writing shows = open_unfailed kind old new shows
  string_by_unfailed kind true (Some len) mark room old new (d.Write fault) writing shows =
      string_unfailed kind (kind_quotes kind) (Some len) mark old new shows
  string_by_unfailed kind false len mark room old new (d.Write fault) writing shows =
      string_unfailed kind (kind_quotes kind) len mark old new shows

  -- ---- items

  header_unfailed : (exact : Bool) (header : Header) (mark : Mark) (old new : Sides R W) (error : DiagError E F)
      → IsWriting error → ShowsHeader source sink exact header mark old (Err error) new
      → failures_of source new.decoder ≡ failures_of source old.decoder
  header_unfailed exact header mark old new error writing shows = grind (arith, string_by_unfailed)

  module _ (inside : Inside W F) where
    mutual
      rest_unfailed : (place : Place) (header : Header) (mark : Mark) (old new : Sides R W) (error : DiagError E F) → IsWriting error
          → RestStops source sink inside place header mark old error new
          → failures_of source new.decoder ≡ failures_of source old.decoder
      rest_unfailed place header mark old new error writing (plain free shows) =
          header_unfailed place.line.style.is_exact header mark old new error writing shows
      rest_unfailed place header mark old new (d.Read error) writing (held is stops) = absurd writing
      rest_unfailed place header mark old new (d.Write fault) writing (held is stops) = stops.ends.passed.failures
      rest_unfailed place header mark old new error writing deep = absurd writing
      rest_unfailed place header mark old new error writing (opening stopped) = refl
      rest_unfailed place header mark old new error writing (within {opened = w} opens stops) =
          within_unfailed _ header mark _ new error writing stops
      rest_unfailed place header mark old new error writing (closing opens shown stopped) = shown.passed.failures

      within_unfailed : (place : Place) (header : Header) (mark : Mark) (old new : Sides R W) (error : DiagError E F) → IsWriting error
          → WithinStops source sink inside place header mark old error new
          → failures_of source new.decoder ≡ failures_of source old.decoder
      within_unfailed place header mark old new error writing (title begun came) = absurd writing
      within_unfailed place header mark old new error writing (lead begun pulled stopped) =
          pulled.failures ∙ begun.passed.failures
      within_unfailed place header mark old new error writing (item begun pulled leads stops) =
          rest_unfailed place _ _ _ new error writing stops ∙ (pulled.failures ∙ begun.passed.failures)

    item_unfailed : (place : Place) (old new : Sides R W) (error : DiagError E F) → IsWriting error
        → ItemStopsAt source sink inside place old error new
        → failures_of source new.decoder ≡ failures_of source old.decoder
    item_unfailed place old new error writing (no_item came) = absurd writing
    item_unfailed place old new error writing (behind pulled stops) =
        rest_unfailed place _ _ _ new error writing stops ∙ pulled.failures

    -- The reader fails as often as the answer of a show says.
    pub item_failures : (place : Place) (depth : ℕ) (old new : Sides R W) (result : Result (Unit {0}) (DiagError E F))
        → OnReading (λ answer. SkipsItem source depth 64 old.decoder answer new.decoder) result
        → ShowsItemAt source sink inside place old result new
        → CountsShown result (failures_of source old.decoder) (failures_of source new.decoder)
    item_failures place depth old new (Ok done) reads shows = reads.passed.failures
    item_failures place depth old new (Err (d.Read error)) reads shows = grind (arith, stop_fails)
    item_failures place depth old new (Err (d.Write fault)) reads shows =
        item_unfailed place old new (d.Write fault) tt shows
