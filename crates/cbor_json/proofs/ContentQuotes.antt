-- The bodies of a string that are copied to a quoting writer.
use Rattle.std.proofs.Common.{◌≡◌, ℕ, ◌+◌, List, [], ◌++◌, drop, Option, Result, Ok, Err, arith}
use Rattle.std.proofs.lemmas.List.{take-append-drop}
use Rattle.ciborium_ll.specs.Types.Read.{Ghosts as Reader}
use Rattle.ciborium_ll.specs.Types.Write.{Ghosts as Writer}
use Rattle.ciborium_ll.specs.Types.Decoder.{Decoder}
use Rattle.ciborium_ll.specs.Types.Error.{Error}
use Rattle.ciborium_ll.specs.Types.RecodeError.{RecodeError}
use Rattle.ciborium_ll.specs.Types.RecodeError.TheVariants as r
use Rattle.ciborium_ll.specs.Transfer.{Target}
use Rattle.ciborium_ll.specs.Strings.{Kind}
use Rattle.ciborium_ll.specs.Encoding.{WritesAll, WritesFront}
use Rattle.ciborium_ll.specs.Sides.{sides}
use Rattle.cbor_diag.specs.declared.strings.held.Held.{Held}
use Rattle.cbor_diag.specs.declared.strings.held.Held.TheVariants as h
use Rattle.cbor_diag.specs.declared.strings.quotes.Quotes.{Quotes}
use Rattle.cbor_diag.specs.Passing.{passed_held, passed_text}
use Rattle.cbor_diag.proofs.BodyShowLaws.{quoting}
use Rattle.cbor_diag.proofs.PassedLaws.{passed_text-append}
use Rattle.cbor_diag.proofs.QuotedLaws.{front_longer}
use Rattle.cbor_json.specs.StringWrites.{ContentStopped, CopiesContent, CopiesQuoted, at_title, in_body}

module _ {R E W F V : Type 0} (source : Reader R E) (sink : Writer W F) (given : V → List ℕ) (count : V → ℕ)
    (flushed : V → V → Type 0) (target : V → Option Target) (kind : Kind) (quotes : Quotes) (len : Option ℕ) (room : ℕ)
    (old new : Decoder R) (v v' : V) (w w' : W) (none : given v ≡ [])
    (all : count v' ≡ count v → WritesAll sink w (passed_text quotes h.Nothing (given v')) w')
    (front : count v' ≡ count v + 1 → WritesFront sink w (passed_text quotes h.Nothing (given v')) w') where
  -- The quoting writer, over the same reader.
  abbrev through : Writer V F
  through = quoting source sink given count flushed target

  -- The bytes that were copied are those that the quoting writer got.
  got : (bytes : List ℕ) → WritesAll through v bytes v' → given v' ≡ bytes
  got bytes written = grind (arith, none)

  quoted_all : (bytes : List ℕ) → WritesAll through v bytes v'
      → WritesAll sink w (passed_text quotes h.Nothing bytes) w'
  quoted_all bytes written = rw (got bytes written) at (all written.failures)

  quoted_front : (bytes : List ℕ) → WritesFront through v bytes v'
      → WritesFront sink w (passed_text quotes h.Nothing bytes) w'
  quoted_front bytes stopped =
      let behind = drop stopped.front.0 bytes in
      let whole : given v' ++ behind ≡ bytes = grind (arith, stopped.front.1.0, none, take-append-drop) in
      rw (← whole, passed_text-append quotes h.Nothing (given v') behind)
      (front_longer sink w w' _ _ (front stopped.failures))

  stopped_quoted : (error : Error E)
      → ContentStopped source through kind len (λ bytes. bytes) room (sides old v) error (sides new v')
      → ContentStopped source sink kind len (passed_text quotes h.Nothing) room (sides old w) error (sides new w')
  stopped_quoted error (at_title behind bodies between begun passed written meets) =
      at_title behind bodies between begun passed (quoted_all _ written) meets
  stopped_quoted error (in_body behind bodies count place between titled passed ends written) =
      in_body behind bodies count place between titled passed ends (quoted_all _ written)

  -- Bodies that were copied to a quoting writer were copied as they stand between quotes.
  pub content_quoted : (held : Held) (result : Result (Unit {0}) (RecodeError E F))
      → (count v' ≡ count v → held ≡ passed_held quotes h.Nothing (given v'))
      → CopiesContent source through kind len (λ bytes. bytes) room (sides old v) result (sides new v')
      → CopiesQuoted source sink kind quotes len room (sides old w) result held (sides new w')
  content_quoted held (Ok done) holds copied = (
    record { reads = copied.reads; sound = copied.sound; written = quoted_all _ copied.written },
    rw (got _ copied.written) at (holds copied.written.failures),
  )
  content_quoted held (Err (r.Read error)) holds stops = stopped_quoted error stops
  content_quoted held (Err (r.Write fault)) holds stops = record {
    behind = stops.behind;
    bodies = stops.bodies;
    count = stops.count;
    between = stops.between;
    titled = stops.titled;
    passed = stops.passed;
    bytes = stops.bytes;
    kept = stops.kept;
    read = stops.read;
    within = stops.within;
    few = stops.few;
    sound = stops.sound;
    stopped = quoted_front _ stops.stopped;
  }
