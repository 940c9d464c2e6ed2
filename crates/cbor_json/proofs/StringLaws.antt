-- The write of a string: the text before its content, the content, and the text after it.
use Rattle.std.proofs.Common.{◌≡◌, ◌∙◌, ℕ, List, [], ◌∷◌, ◌++◌, Option, Result, Ok, Err, sym, ap, append_assoc}
use Rattle.ciborium_ll.specs.Types.Read.{Ghosts as Reader}
use Rattle.ciborium_ll.specs.Types.Write.{Ghosts as Writer}
use Rattle.ciborium_ll.specs.Types.Decoder.{Decoder}
use Rattle.ciborium_ll.specs.Types.Error.{Error}
use Rattle.ciborium_ll.specs.Types.RecodeError.TheVariants as r
use Rattle.ciborium_ll.specs.Strings.{Kind, Bytes, Text, IsWritable}
use Rattle.ciborium_ll.specs.Elements.{AreWritable}
use Rattle.ciborium_ll.specs.Text.{joined}
use Rattle.ciborium_ll.specs.Encoding.{WritesAll, WritesBytes}
use Rattle.ciborium_ll.specs.Sides.{Sides, sides}
use Rattle.ciborium_ll_decoder.proofs.BodyLaws.{writable_nil}
use Rattle.ciborium_ll_text.proofs.TextLaws.{IsCharacters-append}
use Rattle.cbor_skip.specs.declared.SkipError.TheVariants as s
use Rattle.cbor_diag.specs.declared.strings.held.Held.{Held}
use Rattle.cbor_diag.specs.declared.strings.held.Held.TheVariants as h
use Rattle.cbor_diag.specs.declared.strings.quotes.Quotes.{Quotes}
use Rattle.cbor_diag.specs.Notation.{body_text}
use Rattle.cbor_diag.specs.Passing.{held_end, passed_held, passed_text}
use Rattle.cbor_diag.proofs.BaseLaws.{bytes_passed, text_passed, whole_text}
use Rattle.cbor_diag.proofs.QuoteLaws.{wrote_both, wrote_first}
use Rattle.cbor_json.specs.declared.JsonError.{JsonError}
use Rattle.cbor_json.specs.declared.JsonError.TheVariants as j
use Rattle.cbor_json.specs.Reading.{said_of}
use Rattle.cbor_json.specs.StringTexts.{IsQuotesOf, quoted_json}
use Rattle.cbor_json.specs.StringWrites.{CopiesQuoted, WritesString, at_end, at_title, in_body, within}

-- ---- texts

-- Bodies that may be written one by one may be written joined.
writable_joined : (kind : Kind) (bodies : List (List ℕ)) → AreWritable kind bodies → IsWritable kind (joined bodies)
writable_joined kind [] sound = writable_nil kind
writable_joined Bytes (body ∷ bodies) sound = tt
writable_joined Text (body ∷ bodies) sound =
    IsCharacters-append body (joined bodies) sound.0 (writable_joined Text bodies sound.1)

-- The text of the content as its bytes pass, and the text of the bytes that are held, are the text of the content.
content_passed : (kind : Kind) (quotes : Quotes) (bytes : List ℕ) → IsQuotesOf kind quotes → IsWritable kind bytes
    → whole_text quotes bytes ≡ body_text quotes bytes
content_passed Bytes quotes bytes is sound = bytes_passed quotes bytes is
content_passed Text quotes bytes is sound = rw is (text_passed bytes sound)

-- The text of a string, in the parts that are written.
string_parts : (kind : Kind) (quotes : Quotes) (opening bytes : List ℕ) → IsQuotesOf kind quotes
    → IsWritable kind bytes
    → (opening ++ passed_text quotes h.Nothing bytes)
    ++ (held_end quotes (passed_held quotes h.Nothing bytes) ++ 34 ∷ []) ≡ quoted_json opening quotes bytes
string_parts kind quotes opening bytes is sound =
    let passed = passed_text quotes h.Nothing bytes in
    let end = held_end quotes (passed_held quotes h.Nothing bytes) in
    sym (append_assoc (opening ++ passed) end (34 ∷ []))
    ∙ ap (λ (z : List ℕ). z ++ 34 ∷ [])
    (append_assoc opening passed end ∙ ap (λ (z : List ℕ). opening ++ z) (content_passed kind quotes bytes is sound))

-- ---- after the opening

module _ {R E W F : Type 0} {source : Reader R E} {sink : Writer W F} (kind : Kind) (quotes : Quotes) (len : Option ℕ)
    (opening : List ℕ) (room : ℕ) {old : Decoder R} {before opened : W} (opens : WritesAll sink before opening opened)
  where
    -- If the read of the content stops, the write of the string does.
    pub string_stops : (error : Error E) (held : Held) (new : Sides R W)
        → CopiesQuoted source sink kind quotes len room (sides old opened) (Err (r.Read error)) held new
        → WritesString source sink kind quotes len opening room (sides old before) (Err (j.Read (s.Read error))) new
    string_stops error held new (at_title behind bodies between begun passed written meets) =
        at_title behind bodies between begun passed (wrote_both opens written) meets
    string_stops error held new (in_body behind bodies count place between titled passed ends written) =
        in_body behind bodies count place between titled passed ends (wrote_both opens written)

    -- If the writer fails within the content, the write of the string ends there.
    pub string_unwritten : (fault : F) (held : Held) (new : Sides R W)
        → CopiesQuoted source sink kind quotes len room (sides old opened) (Err (r.Write fault)) held new
        → WritesString source sink kind quotes len opening room (sides old before) (Err (j.Write fault)) new
    string_unwritten fault held new stops = within (record {
      behind = stops.behind;
      bodies = stops.bodies;
      count = stops.count;
      between = stops.between;
      titled = stops.titled;
      passed = stops.passed;
      bytes = stops.bytes;
      kept = stops.kept;
      read = stops.read;
      within = stops.within;
      few = stops.few;
      sound = stops.sound;
      stopped = wrote_first opens fault stops.stopped;
    })

    module _ (is : IsQuotesOf kind quotes) (held : Held) (new : Decoder R) (mid : W)
        (copied : CopiesQuoted source sink kind quotes len room (sides old opened) (Ok (tt {0})) held (sides new mid))
        (last : W) where
      abbrev bytes : List ℕ
      bytes = joined copied.0.reads.bodies

      sound : IsWritable kind bytes
      sound = writable_joined kind copied.0.reads.bodies copied.0.sound

      -- After the content the write of the text after it decides the answer.
      pub string_closed : (answer : Result (Unit {0}) F) (result : Result (Unit {0}) (JsonError E F))
          → result ≡ said_of answer → WritesBytes sink mid answer (held_end quotes held ++ 34 ∷ []) last
          → WritesString source sink kind quotes len opening room (sides old before) result (sides new last)
      string_closed (Ok done) result same wrote = rw same (record {
        reads = copied.0.reads;
        sound = copied.0.sound;
        written = rw (string_parts kind quotes opening bytes is sound) at
            (wrote_both (wrote_both opens copied.0.written) (rw copied.1 at wrote));
      })
      string_closed (Err fault) result same wrote = rw same (at_end copied.0.reads
          (rw (string_parts kind quotes opening bytes is sound) at
          (wrote_first (wrote_both opens copied.0.written) fault (rw copied.1 at wrote))))
