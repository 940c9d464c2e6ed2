-- How far a write moves its decoder on, and how often the reader fails in it.
use Rattle.std.proofs.Common.{◌≡◌, ◌≤◌, ◌∙◌, ℕ, List, [], Option, Result, Ok, Err, refl, arith}
use Rattle.ciborium_ll.specs.Types.Read.{Ghosts}
use Rattle.ciborium_ll.specs.Types.Write.{Ghosts as Sink}
use Rattle.ciborium_ll.specs.Types.Error.{Error}
use Rattle.ciborium_ll.specs.Types.Decoder.{Decoder}
use Rattle.ciborium_ll.specs.Types.Header.{Header}
use Rattle.ciborium_ll.specs.Decoding.{failures_of}
use Rattle.ciborium_ll.specs.Finishing.{StopsRest}
use Rattle.ciborium_ll.specs.Sides.{Sides}
use Rattle.ciborium_ll.specs.Strings.{Kind}
use Rattle.cbor_skip.specs.Skipping.{SkipsItem}
use Rattle.cbor_skip.proofs.FailureLaws.{body_fails, pull_fails, stop_fails}
use Rattle.cbor_diag.specs.declared.strings.quotes.Quotes.{Quotes}
use Rattle.cbor_json.specs.declared.JsonError.{JsonError}
use Rattle.cbor_json.specs.declared.JsonError.TheVariants as j
use Rattle.cbor_json.specs.declared.role.Role.{Role}
use Rattle.cbor_json.specs.ItemStops.{ItemStops, RestStops, WithinStops, WritesItem, behind, closing, deep, item, lead}
use Rattle.cbor_json.specs.ItemStops.{no_item, no_json, opening, scalar, string, title, within}
use Rattle.cbor_json.specs.Reading.{CountsWritten, OnReading}
use Rattle.cbor_json.specs.StringWrites.{ContentStopped, StringUnwritten, WritesString}

module _ {R E W F : Type 0} (source : Ghosts R E) (sink : Sink W F) where
  -- ---- strings

  module _ (kind : Kind) (quotes : Quotes) (len : Option ℕ) (opened : List ℕ) where
    rest_rises : (count room place : ℕ) (old new : Decoder R) (error : Error E)
        → StopsRest source kind [] count room place old error new → old.offset ≤ new.offset
    rest_rises count room place old new error ends = (body_fails source kind count room place error old new ends).rises

    content_rises : (text : List ℕ → List ℕ) (room : ℕ) (old new : Sides R W) (error : Error E)
        → ContentStopped source sink kind len text room old error new → old.decoder.offset ≤ new.decoder.offset
    content_rises text room old new error stops = grind (arith, pull_fails, rest_rises)

    -- The write of a string does not lower the offset.
    pub string_rises : (room : ℕ) (old new : Sides R W) (result : Result (Unit {0}) (JsonError E F))
        → WritesString source sink kind quotes len opened room old result new → old.decoder.offset ≤ new.decoder.offset
    string_rises room old new result writes = grind (arith, content_rises)

    -- If the writer failed within a string, the reader did not fail.
    string_unfailed : (old new : Sides R W) → StringUnwritten source sink kind quotes len opened old new
        → failures_of source new.decoder ≡ failures_of source old.decoder
    string_unfailed old new writes = grind arith

  -- ---- items

  -- The error is not that of the read.
  abbrev IsUnread : JsonError E F → Type 0
  IsUnread (j.Read error) = ⊥
  IsUnread (j.NoJson place) = Unit {0}
  IsUnread (j.Write fault) = Unit {0}

  string_stops : (kind : Kind) (quotes : Quotes) (len : Option ℕ) (opened : List ℕ) (room : ℕ) (old new : Sides R W)
      (error : JsonError E F) → IsUnread error
      → WritesString source sink kind quotes len opened room old (Err error) new
      → failures_of source new.decoder ≡ failures_of source old.decoder
  string_stops kind quotes len opened room old new (j.Read error) unread writes = absurd unread
  string_stops kind quotes len opened room old new (j.NoJson place) unread writes = absurd writes
  string_stops kind quotes len opened room old new (j.Write fault) unread writes =
      string_unfailed kind quotes len opened old new writes

  mutual
    rest_unfailed : (role : Role) (header : Header) (place : ℕ) (old new : Sides R W) (error : JsonError E F)
        → IsUnread error → RestStops source sink role header place old error new
        → failures_of source new.decoder ≡ failures_of source old.decoder
    rest_unfailed role header place old new error unread (no_json none) = refl
    rest_unfailed role header place old new error unread (scalar text has is stopped) = refl
    rest_unfailed role header place old new error unread (string kind len has writes) =
        string_stops kind _ len _ _ old new error unread writes
    rest_unfailed role header place old new error unread (deep has nest) = absurd unread
    rest_unfailed role header place old new error unread (opening has stopped) = refl
    rest_unfailed role header place old new error unread (within has opens stops) =
        within_unfailed role header _ new error unread stops
    rest_unfailed role header place old new error unread (closing has opens written stopped) =
        written.passed.failures

    within_unfailed : (role : Role) (header : Header) (old new : Sides R W) (error : JsonError E F)
        → IsUnread error → WithinStops source sink role header old error new
        → failures_of source new.decoder ≡ failures_of source old.decoder
    within_unfailed role header old new error unread (title begun came) = absurd unread
    within_unfailed role header old new error unread (lead begun pulled stopped) =
        pulled.failures ∙ begun.passed.failures
    within_unfailed role header old new error unread (item begun pulled leads stops) =
        rest_unfailed _ _ _ _ new error unread stops ∙ (pulled.failures ∙ begun.passed.failures)

  item_unfailed : (role : Role) (old new : Sides R W) (error : JsonError E F) → IsUnread error
      → ItemStops source sink role old error new
      → failures_of source new.decoder ≡ failures_of source old.decoder
  item_unfailed role old new error unread (no_item came) = absurd unread
  item_unfailed role old new error unread (behind pulled stops) =
      rest_unfailed role _ _ _ new error unread stops ∙ pulled.failures

  -- The reader fails as often as the answer says.
  pub item_failures : (role : Role) (depth : ℕ) (old new : Sides R W) (result : Result (Unit {0}) (JsonError E F))
      → OnReading (λ answer. SkipsItem source depth 64 old.decoder answer new.decoder) result
      → WritesItem source sink role old result new
      → CountsWritten result (failures_of source old.decoder) (failures_of source new.decoder)
  item_failures role depth old new (Ok done) reads writes = reads.passed.failures
  item_failures role depth old new (Err (j.Read error)) reads writes = grind (arith, stop_fails)
  item_failures role depth old new (Err (j.NoJson place)) reads writes =
      item_unfailed role old new (j.NoJson place) tt writes
  item_failures role depth old new (Err (j.Write fault)) reads writes =
      item_unfailed role old new (j.Write fault) tt writes
