-- A body that is copied to a quoting writer, and shown in quotes.
use Rattle.std.proofs.Common.{◌≡◌, ◌∙◌, ℕ, ◌+◌, List, [], ◌++◌, drop, Option, Some, None, Result, Ok, Err, ap, arith}
use Rattle.std.proofs.Common.{◌-◌, ◌<◌, ◌≤◌, append_assoc, append-nil, inl, length, length-append, length-drop, refl}
use Rattle.std.proofs.Common.{subst, sym}
use Rattle.std.proofs.lemmas.List.{drop_all, take-append-drop}
use Rattle.ciborium_ll.specs.Types.Read.{Ghosts as Reader}
use Rattle.ciborium_ll.specs.Types.Write.{Ghosts as Writer}
use Rattle.ciborium_ll.specs.Types.Decoder.{Decoder}
use Rattle.ciborium_ll.specs.Types.Error.{Error}
use Rattle.ciborium_ll.specs.Types.RecodeError.{RecodeError}
use Rattle.ciborium_ll.specs.Types.RecodeError.TheVariants as r
use Rattle.ciborium_ll.specs.Transfer.{Target}
use Rattle.ciborium_ll.specs.Decoding.{ReadsPast}
use Rattle.ciborium_ll_decoder.specs.Finishing.{StopsReading}
use Rattle.ciborium_ll.specs.Types.Error.TheVariants as e
use Rattle.ciborium_ll.specs.Strings.{Bytes, IsWritable, Kind, Text, most_kept}
use Rattle.ciborium_ll.specs.Encoding.{WritesAll, WritesFront}
use Rattle.ciborium_ll.specs.Recoding.{BodyUnwritten, CopiesBody}
use Rattle.ciborium_ll.specs.Sides.{sides}
use Rattle.cbor_diag.specs.declared.strings.quotes.Quotes.{Quotes}
use Rattle.cbor_diag.specs.declared.strings.held.Held.TheVariants as h
use Rattle.cbor_diag.specs.StringShows.{kind_quotes}
use Rattle.cbor_diag.specs.Notation.{body_text}
use Rattle.cbor_diag.specs.Passing.{passed_text}
use Rattle.ciborium_ll.proofs.DecodingLaws.{ReadsPast-none}
use Rattle.ciborium_ll.proofs.PiecesWritten.{writes_nothing}
use Rattle.ciborium_ll_text.specs.Text.{IsCharacters, IsStuck}
use Rattle.ciborium_ll_text.proofs.FrontLaws.{IsStuck-nil, IsStuck-rest}
use Rattle.ciborium_ll_text.proofs.TextLaws.{front_of_text}
use Rattle.ciborium_ll_text.proofs.Utf8Laws.{from_std}
use Rattle.cbor_escapes.specs.Escapes.{AreUnescaped}
use Rattle.cbor_escapes.proofs.UnescapedLaws.{unescaped_ascii}
use Rattle.std.proofs.lemmas.Str.{IsUtf8-from_ascii}
use Rattle.cbor_diag.specs.declared.strings.quotes.Quotes.TheVariants as q
use Rattle.ciborium_ll_decoder.proofs.WholeBodyLaws.{front_of_all}
use Rattle.ciborium_ll_decoder.proofs.BodyLaws.{writable_nil}
use Rattle.cbor_diag.proofs.QuoteLaws.{wrote_both, wrote_first}
use Rattle.cbor_skip.specs.declared.SkipError.TheVariants as s
use Rattle.cbor_diag.specs.declared.DiagError.{DiagError}
use Rattle.cbor_diag.specs.declared.DiagError.TheVariants as d
use Rattle.cbor_diag.specs.Showing.{ShowsText}
use Rattle.cbor_diag.specs.StringShows.{BodyUnshown, CopiesQuoted, IsShownFront, ShowsBody, closing, opening}
use Rattle.cbor_diag.proofs.PassedLaws.{body_text-nil, passed_body, passed_text-append, unescaped_stands}
use Rattle.cbor_diag.proofs.QuotedLaws.{front_longer}

-- Two targets that are told to be the same are equal.
pub same_target : {one other : Target} → Some one ≡ Some other → one ≡ other
same_target same = cc

module _ {R E W F V : Type 0} (source : Reader R E) (sink : Writer W F) (given : V → List ℕ) (count : V → ℕ)
    (flushed : V → V → Type 0) (target : V → Option Target) where
  -- A writer that tells the bytes that it got.
  abbrev pub quoting : Writer V F
  quoting = record {
    written = λ v. Some (given v);
    room = λ v. None;
    failures = count;
    flushed = flushed;
    target = target;
  }

  module _ (kind : Kind) (quotes : Quotes) (len room place : ℕ) (old new : Decoder R) (v v' : V) (w w' : W)
      (is : quotes ≡ kind_quotes kind) (none : given v ≡ [])
      (all : count v' ≡ count v → WritesAll sink w (passed_text quotes h.Nothing (given v')) w')
      (front : count v' ≡ count v + 1 → WritesFront sink w (passed_text quotes h.Nothing (given v')) w') where
    quoted_front : (bytes : List ℕ) → IsWritable kind bytes → WritesAll quoting v bytes v'
        → WritesAll sink w (body_text quotes bytes) w'
    quoted_front bytes sound written = rw (← passed_body kind quotes bytes is sound) (grind (arith, all))

    quoted_part : BodyUnwritten source quoting kind len room (sides old v) (sides new v')
        → BodyUnshown source sink kind len (body_text quotes) (sides old w) (sides new w')
    quoted_part stops =
        let behind = drop stops.stopped.front.0 stops.chunk in
        let whole : given v' ++ behind ≡ stops.front ++ stops.chunk =
        grind (arith, stops.stopped.front.1.0, stops.written.appended, none, append_assoc, take-append-drop) in
        record {
          bytes = stops.front ++ stops.chunk;
          kept = stops.kept;
          passed = rw append_assoc stops.passed;
          within = omega (arith, stops.within, stops.filled, length-append stops.front stops.chunk);
          few = stops.few;
          sound = stops.sound;
          stopped = rw (
            ← passed_body kind quotes (stops.front ++ stops.chunk) is stops.sound,
            ← whole,
            passed_text-append quotes h.Nothing (given v') behind,
          ) (front_longer sink w w' _ _
              (front (stops.stopped.failures ∙ ap (λ (m : ℕ). m + 1) stops.written.failures)));
        }

    -- A body that was copied to a quoting writer was copied in quotes.
    pub through_quotes : (result : Result (Unit {0}) (RecodeError E F))
        → CopiesBody source quoting kind len room place (sides old v) result (sides new v')
        → CopiesQuoted source sink kind len room place quotes (sides old w) result (sides new w')
    through_quotes (Ok done) copied =
        record { ends = copied.ends; written = quoted_front _ copied.ends.sound copied.written }
    through_quotes (Err (r.Read error)) copied =
        record { ends = copied.ends; written = quoted_front _ copied.ends.part.sound copied.written }
    through_quotes (Err (r.Write fault)) stops = quoted_part stops

-- ---- the front of a body that is shown

front_parts : (kind : Kind) (bytes front : List ℕ) → IsShownFront kind bytes front
    → bytes ≡ front ++ drop (length front) bytes
front_parts Bytes bytes front shown =
    rw shown (sym (ap (λ (z : List ℕ). bytes ++ z) (drop_all (length bytes) bytes (omega arith)) ∙ append-nil bytes))
front_parts Text bytes front shown = shown.parts

front_sound : (kind : Kind) (bytes front : List ℕ) → IsShownFront kind bytes front → IsWritable kind front
front_sound Bytes bytes front shown = tt
front_sound Text bytes front shown = shown.text

front_stuck : (kind : Kind) (bytes front : List ℕ) → IsShownFront kind bytes front
    → IsStuck (drop (length front) bytes)
front_stuck Bytes bytes front shown =
    subst IsStuck (sym (drop_all (length front) bytes (omega (arith, ap length shown)))) IsStuck-nil
front_stuck Text bytes front shown = IsStuck-rest bytes front (drop (length front) bytes) shown

front_few : (kind : Kind) (bytes front : List ℕ) → IsShownFront kind bytes front → length bytes - length front ≤ 3
    → length (drop (length front) bytes) ≤ most_kept kind
front_few Bytes bytes front shown few = omega (arith, length-drop (length front) bytes, ap length shown)
front_few Text bytes front shown few = omega (arith, length-drop (length front) bytes, few)

front_whole : (kind : Kind) (bytes front : List ℕ) → IsShownFront kind bytes front
    → length bytes - length front ≡ 0 → front ≡ bytes
front_whole kind bytes front shown none =
    sym (front_parts kind bytes front shown
    ∙ (ap (λ (z : List ℕ). front ++ z) (drop_all (length front) bytes (omega (arith, none))) ∙ append-nil front))

-- A front that is no whole body is that of a text, and the body is none.
front_cut : (kind : Kind) (bytes front : List ℕ) → IsShownFront kind bytes front → length front < length bytes
    → (kind ≡ Text) × (IsCharacters bytes → ⊥)
front_cut Bytes bytes front shown cut = absurd (omega (arith, ap length shown, cut))
front_cut Text bytes front shown cut = (
  refl,
  λ whole. omega (arith, front_of_all bytes front (drop (length front) bytes) shown whole, cut),
)

-- A text of characters without escapes is shown whole, as it is.
pub unescaped_whole : (kind : Kind) (quotes : Quotes) (bytes : List ℕ) → quotes ≡ kind_quotes kind → quotes ≡ q.Text
    → AreUnescaped bytes → IsShownFront kind bytes bytes × (passed_text quotes h.Nothing bytes ≡ bytes)
unescaped_whole Bytes quotes bytes is text none = absurd (cc)
unescaped_whole Text quotes bytes is text none = (
  rw (drop_all (length bytes) bytes (omega arith)) (front_of_text bytes
      (from_std bytes (IsUtf8-from_ascii bytes (unescaped_ascii bytes none)))),
  rw text (unescaped_stands bytes none).0,
)

module _ {R E W F : Type 0} (source : Reader R E) (sink : Writer W F) (kind : Kind) (quotes : Quotes)
    (len room place : ℕ) (old new : Decoder R) (w : W) (is : quotes ≡ kind_quotes kind) where
  -- If the one read of a body failed, or gave no text, nothing is written.
  pub short_stops : (error : Error E) → len ≤ room → StopsReading source kind [] len [] place len old error new
      → CopiesQuoted source sink kind len room place quotes (sides old w) (Err (r.Read error)) (sides new w)
  short_stops error held stops = record {
    ends = record {
      between = old;
      part = record {
        read = [];
        front = [];
        left = [];
        parts = refl;
        few = omega arith;
        stuck = IsStuck-nil;
        sound = writable_nil kind;
        within = omega arith;
        passed = ReadsPast-none source old;
      };
      count = len;
      filled = omega (arith, held);
      stops = stops;
    };
    written = rw (body_text-nil quotes) (writes_nothing sink w);
  }

  module _ (bytes front : List ℕ) (w' : W) (all : length bytes ≡ len) (passed : ReadsPast source old bytes new)
      (shown : IsShownFront kind bytes front) where
    -- A body that one read gave was copied in quotes.
    pub short_shown : length bytes - length front ≡ 0 → WritesAll sink w (passed_text quotes h.Nothing front) w'
        → CopiesQuoted source sink kind len room place quotes (sides old w) (Ok (tt {0})) (sides new w')
    short_shown none written =
        let whole = front_whole kind bytes front shown none in
        let sound = front_sound kind bytes front shown in
        record {
          ends = record { read = front; all = ap length whole ∙ all; sound = sound; passed = rw whole passed };
          written = rw (← passed_body kind quotes front is sound) written;
        }

    -- If the writer fails within it, it wrote a beginning.
    pub short_unshown : (fault : F) → length bytes - length front ≤ 3
        → WritesFront sink w (passed_text quotes h.Nothing front) w'
        → CopiesQuoted source sink kind len room place quotes (sides old w) (Err (r.Write fault)) (sides new w')
    short_unshown fault few stopped =
        let rest = drop (length front) bytes in
        let sound = front_sound kind bytes front shown in
        let parts = front_parts kind bytes front shown in
        let count = length-append front rest in
        record {
          bytes = front;
          kept = rest;
          passed = rw (sym parts) passed;
          within = omega (arith, all, ap length parts, count);
          few = front_few kind bytes front shown few;
          sound = sound;
          stopped = rw (← passed_body kind quotes front is sound) stopped;
        }

    -- If it is no text, the read stops. Nothing is written of it,
    pub short_refused : length front < length bytes → len ≤ room
        → CopiesQuoted source sink kind len room place quotes (sides old w) (Err (r.Read (e.Syntax place)))
        (sides new w)
    short_refused cut held =
        let damage = front_cut kind bytes front shown cut in
        short_stops (e.Syntax place) held (
          refl,
          record {
            textual = damage.0;
            last = bytes;
            all = all;
            no_text = inl (all, damage.1);
            passed = passed;
          },
        )

    -- or its front is.
    pub short_damaged : length front < length bytes → length bytes - length front ≤ 3 → len ≤ room
        → WritesAll sink w (passed_text quotes h.Nothing front) w'
        → CopiesQuoted source sink kind len room place quotes (sides old w) (Err (r.Read (e.Syntax place)))
        (sides new w')
    short_damaged cut few held written =
        let rest = drop (length front) bytes in
        let sound = front_sound kind bytes front shown in
        let parts = front_parts kind bytes front shown in
        let count = length-append front rest in
        let damage = front_cut kind bytes front shown cut in
        record {
          ends = record {
            between = new;
            part = record {
              read = bytes;
              front = front;
              left = rest;
              parts = parts;
              few = front_few kind bytes front shown few;
              stuck = front_stuck kind bytes front shown;
              sound = sound;
              within = omega (arith, all);
              passed = passed;
            };
            count = 0;
            filled = omega (arith, all, ap length parts, count, held);
            stops = (
              refl,
              record {
                textual = damage.0;
                last = [];
                all = refl;
                no_text = rw append-nil (inl (all, damage.1));
                passed = ReadsPast-none source new;
              },
            );
          };
          written = rw (← passed_body kind quotes front is sound) written;
        }

module _ {R E W F : Type 0} (source : Reader R E) (sink : Writer W F) (kind : Kind) (quotes : Quotes)
    (len room place : ℕ) (old : Decoder R) (w : W) where
  -- If the writer fails at the opening quote, the show of the body ends with that failure.
  pub body_unopened : (error : DiagError E F) (w' : W) → ShowsText sink (Some (opening quotes)) w (Err error) w'
      → ShowsBody source sink kind len room place quotes (sides old w) (Err error) (sides old w')
  body_unopened (d.Read error) w' said = absurd said
  body_unopened (d.Write fault) w' said = record {
    bytes = [];
    kept = [];
    passed = ReadsPast-none source old;
    within = omega arith;
    few = omega arith;
    sound = writable_nil kind;
    stopped = front_longer sink w w' _ (closing quotes) (rw (body_text-nil quotes, append-nil) said);
  }

  module _ {opened : W} (begun : WritesAll sink w (opening quotes) opened) (new : Decoder R) (behind : W) where
    -- If the read of the body stops, its show stops with the same error.
    pub body_stops : (error : Error E)
        → CopiesQuoted source sink kind len room place quotes (sides old opened) (Err (r.Read error)) (sides new behind)
        → ShowsBody source sink kind len room place quotes (sides old w) (Err (d.Read (s.Read error)))
        (sides new behind)
    body_stops error copied = record { ends = copied.ends; written = wrote_both begun copied.written }

    -- If the writer fails within the body, the show ends with that failure.
    pub body_unshown : (fault : F)
        → CopiesQuoted source sink kind len room place quotes (sides old opened) (Err (r.Write fault))
        (sides new behind)
        → ShowsBody source sink kind len room place quotes (sides old w) (Err (d.Write fault)) (sides new behind)
    body_unshown fault stops = record {
      bytes = stops.bytes;
      kept = stops.kept;
      passed = stops.passed;
      within = stops.within;
      few = stops.few;
      sound = stops.sound;
      stopped = front_longer sink w behind _ (closing quotes) (wrote_first begun fault stops.stopped);
    }

    -- If the body was written, the write of the closing quote decides the answer of the show.
    pub body_closed : (result : Result (Unit {0}) (DiagError E F)) (last : W)
        → CopiesQuoted source sink kind len room place quotes (sides old opened) (Ok (tt {0})) (sides new behind)
        → ShowsText sink (Some (closing quotes)) behind result last
        → ShowsBody source sink kind len room place quotes (sides old w) result (sides new last)
    body_closed (Ok done) last copied said = record {
      ends = copied.ends;
      written = wrote_both (wrote_both begun copied.written) said;
    }
    body_closed (Err (d.Read error)) last copied said = absurd said
    body_closed (Err (d.Write fault)) last copied said = record {
      bytes = copied.ends.read;
      kept = [];
      passed = rw append-nil copied.ends.passed;
      within = omega (arith, copied.ends.all);
      few = omega arith;
      sound = copied.ends.sound;
      stopped = wrote_first (wrote_both begun copied.written) fault said;
    }
