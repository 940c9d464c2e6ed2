-- One title of a string of the indefinite form, and the show of what it begins or ends.
use Rattle.std.proofs.Common.{◌≡◌, ◌+◌, ◌-◌, ℕ, Bool, true, false, List, [], Some, None, Result, Ok, Err, arith}
use Rattle.std.proofs.Common.{append-nil, length, subst}
use Rattle.ciborium_ll_grammar.specs.declared.spelling.Spelling.TheVariants.{Any}
use Rattle.ciborium_ll.specs.Types.Read.{Ghosts as Reader}
use Rattle.ciborium_ll.specs.Types.Write.{Ghosts as Writer}
use Rattle.ciborium_ll.specs.Types.Decoder.{Decoder}
use Rattle.ciborium_ll.specs.Types.Header.{Header}
use Rattle.ciborium_ll.specs.Types.Header.TheVariants as h
use Rattle.ciborium_ll.specs.Types.Error.TheVariants as e
use Rattle.ciborium_ll.specs.Strings.{Kind, kind_header}
use Rattle.ciborium_ll.specs.Faults.{IsRefusedIn}
use Rattle.ciborium_ll.specs.Decoding.{IsSteady, spelling_of}
use Rattle.ciborium_ll.specs.Encoding.{WritesAll}
use Rattle.ciborium_ll.specs.Sides.{Sides, sides}
use Rattle.ciborium_ll.proofs.DecodingLaws.{ReadsPast-none}
use Rattle.ciborium_ll_decoder.proofs.BodyLaws.{writable_nil}
use Rattle.cbor_skip.specs.declared.SkipError.TheVariants as s
use Rattle.cbor_diag.specs.declared.DiagError.{DiagError}
use Rattle.cbor_diag.specs.declared.DiagError.TheVariants as d
use Rattle.cbor_diag.specs.declared.marks.Mark.{Mark}
use Rattle.cbor_diag.specs.declared.marks.Mark.TheVariants as m
use Rattle.cbor_diag.specs.declared.marks.Marked.{Marked}
use Rattle.cbor_diag.specs.declared.strings.chunks.Far.{Far}
use Rattle.cbor_diag.specs.declared.strings.quotes.Quotes.{Quotes}
use Rattle.cbor_diag.specs.Marks.{PullsMarked, mark_text}
use Rattle.cbor_diag.specs.NextShows.{ShowsNext, string, string_stops, deepens, deepens_stops, closes, closes_stops}
use Rattle.cbor_diag.specs.NextShows.{other}
use Rattle.cbor_diag.specs.OpenShows.{ShowsChunk, body_mark}
use Rattle.cbor_diag.specs.Showing.{ShowsText}
use Rattle.cbor_diag.specs.StringShows.{ShowsBody, end_text, kind_quotes, lead_text}
use Rattle.cbor_diag.proofs.QuoteLaws.{wrote_both, wrote_first}
use Rattle.cbor_diag.proofs.QuotedLaws.{front_longer}

-- ---- a string of a definite length

module _ {R E W F : Type 0} (source : Reader R E) (sink : Writer W F) (kind : Kind) (len room place : ℕ) (first : Bool)
    (mark : List ℕ) (old : Decoder R) (w : W) where
  -- If the writer fails before the body, the show ends there.
  pub chunk_unled : (error : DiagError E F) (w' : W) → ShowsText sink (Some (lead_text true first)) w (Err error) w'
      → ShowsChunk source sink kind len room place first mark (sides old w) (Err error) (sides old w')
  chunk_unled (d.Read error) w' said = absurd said
  chunk_unled (d.Write fault) w' said = record {
    bytes = [];
    kept = [];
    passed = ReadsPast-none source old;
    within = omega arith;
    few = omega arith;
    sound = writable_nil kind;
    stopped = front_longer sink w w' _ _ said;
  }

  module _ {quotes : Quotes} (is : quotes ≡ kind_quotes kind) {led : W}
      (leads : WritesAll sink w (lead_text true first) led) where
    -- If the show of the body ends with an error, that of the string does.
    pub chunk_stops : (error : DiagError E F) (new : Sides R W)
        → ShowsBody source sink kind len room place quotes (sides old led) (Err error) new
        → ShowsChunk source sink kind len room place first mark (sides old w) (Err error) new
    chunk_stops (d.Read (s.Read error)) new shown =
        let stops = rw is at shown in
        record { ends = stops.ends; written = wrote_both leads stops.written }
    chunk_stops (d.Write fault) new shown =
        let stops = rw is at shown in
        record {
          bytes = stops.bytes;
          kept = stops.kept;
          passed = stops.passed;
          within = stops.within;
          few = stops.few;
          sound = stops.sound;
          stopped = wrote_first leads fault (front_longer sink led new.writer _ mark stops.stopped);
        }
    chunk_stops error new shown = absurd shown

    -- After the body the write of the mark decides the answer.
    pub chunk_said : (result : Result (Unit {0}) (DiagError E F)) (ended : Decoder R) (behind last : W)
        → ShowsBody source sink kind len room place quotes (sides old led) (Ok (tt {0})) (sides ended behind)
        → ShowsText sink (Some mark) behind result last
        → ShowsChunk source sink kind len room place first mark (sides old w) result (sides ended last)
    chunk_said (Ok done) ended behind last shown said =
        let whole = rw is at shown in
        record { ends = whole.ends; written = wrote_both leads (wrote_both whole.written said) }
    chunk_said (Err (d.Read error)) ended behind last shown said = absurd said
    chunk_said (Err (d.Write fault)) ended behind last shown said =
        let whole = rw is at shown in
        record {
          bytes = whole.ends.read;
          kept = [];
          passed = rw append-nil whole.ends.passed;
          within = omega (arith, whole.ends.all);
          few = omega arith;
          sound = whole.ends.sound;
          stopped = wrote_first leads fault (wrote_first whole.written fault said);
        }

-- ---- each title

module _ {R E W F : Type 0} (source : Reader R E) (sink : Writer W F) (k : Kind) (room opens : ℕ) (first : Bool)
    (old titled : Decoder R) (w : W) (marked : Marked) (pulls : PullsMarked source true old marked titled) where
  with_header : (header : Header) → marked.header ≡ header
      → PullsMarked source true old (record { header = header; mark = marked.mark }) titled
  with_header header is =
      subst (λ (z : Header). PullsMarked source true old (record { header = z; mark = marked.mark }) titled) is pulls

  module _ (steady : IsSteady source old → IsSteady source titled) where
    -- A string of a definite length was shown.
    pub next_string : (len place : ℕ) (after : Far) (new : Sides R W) → marked.header ≡ kind_header k (Some len)
        → place ≡ old.offset
        → ShowsChunk source sink k len room place first (mark_text marked.mark) (sides titled w) (Ok (tt {0})) new
        → after.opens ≡ opens → after.is_first ≡ false
        → ShowsNext source sink k room opens first (sides old w) (Ok after) new
    next_string len place after new is at shown opens_are first_is =
        let whole = with_header (kind_header k (Some len)) is in
        string len whole.pulled steady (rw (at, whole.mark) at shown) opens_are first_is

    -- Its show ended with an error.
    pub next_string_stops : (len place : ℕ) (error : DiagError E F) (new : Sides R W)
        → marked.header ≡ kind_header k (Some len) → place ≡ old.offset
        → ShowsChunk source sink k len room place first (mark_text marked.mark) (sides titled w) (Err error) new
        → ShowsNext source sink k room opens first (sides old w) (Err error) new
    next_string_stops len place error new is at shown =
        let whole = with_header (kind_header k (Some len)) is in
        string_stops len whole.pulled steady (subst (λ (z : ℕ). ShowsChunk source sink k len room z first
        (body_mark k len (length whole.pulled.title)) (sides titled w) (Err error) new) at
        (subst (λ (z : Mark). ShowsChunk source sink k len room place first (mark_text z) (sides titled w) (Err error)
        new) whole.mark shown))

    -- An open came.
    pub next_open : (after : Far) (new : W) → marked.header ≡ kind_header k None → spelling_of old ≡ Any
        → ShowsText {E = E} sink (Some (lead_text true first)) w (Ok (tt {0})) new → after.opens ≡ opens + 1
        → after.is_first ≡ true
        → ShowsNext source sink k room opens first (sides old w) (Ok after) (sides titled new)
    next_open after new is loose said opens_are first_is =
        deepens (with_header (kind_header k None) is).pulled steady loose said opens_are first_is

    -- A break came.
    pub next_break : (quotes : Quotes) (after : Far) (new : W) → marked.header ≡ h.Break → quotes ≡ kind_quotes k
        → ShowsText {E = E} sink (Some (end_text true quotes m.Absent first)) w (Ok (tt {0})) new
        → after.opens ≡ opens - 1 → after.is_first ≡ false
        → ShowsNext source sink k room opens first (sides old w) (Ok after) (sides titled new)
    next_break quotes after new is kind said opens_are first_is =
        closes (with_header h.Break is).pulled steady (rw kind at said) opens_are first_is

  pub next_open_stops : (error : DiagError E F) (new : W) → marked.header ≡ kind_header k None
      → ShowsText sink (Some (lead_text true first)) w (Err error) new
      → ShowsNext source sink k room opens first (sides old w) (Err error) (sides titled new)
  next_open_stops (d.Read error) new is said = absurd said
  next_open_stops (d.Write fault) new is said = deepens_stops (with_header (kind_header k None) is).pulled said

  pub next_break_stops : (quotes : Quotes) (error : DiagError E F) (new : W) → marked.header ≡ h.Break
      → quotes ≡ kind_quotes k → ShowsText sink (Some (end_text true quotes m.Absent first)) w (Err error) new
      → ShowsNext source sink k room opens first (sides old w) (Err error) (sides titled new)
  next_break_stops quotes (d.Read error) new is kind said = absurd said
  next_break_stops quotes (d.Write fault) new is kind said =
      closes_stops (with_header h.Break is).pulled (rw kind at said)

  -- A title came that may not stand there.
  pub next_other : (place : ℕ) → place ≡ old.offset → IsRefusedIn (spelling_of old) k marked.header
      → ShowsNext source sink k room opens first (sides old w) (Err (d.Read (s.Read (e.Syntax place))))
      (sides titled w)
  next_other place at refused =
      other (record { header = marked.header; pulled = pulls.pulled; refused = refused; place = at })
