-- The show of a string, segment by segment.
use Rattle.std.proofs.Common.{arith, ◌≡◌, ℕ, Bool, true, false, List, [], ◌∷◌, ◌++◌, Option, Some, None, Result, Ok}
use Rattle.std.proofs.Common.{Err, refl, sym, subst, length, append_assoc, append-nil}
use Rattle.ciborium_ll_grammar.specs.declared.spelling.Spelling.{Spelling}
use Rattle.ciborium_ll.specs.Types.Read.{Ghosts as Reader}
use Rattle.ciborium_ll.specs.Types.Write.{Ghosts as Writer}
use Rattle.ciborium_ll.specs.Types.Header.{Header}
use Rattle.ciborium_ll.specs.Types.Decoder.{Decoder}
use Rattle.ciborium_ll.specs.Types.Error.{Error}
use Rattle.ciborium_ll.specs.Types.Body.{Body}
use Rattle.ciborium_ll.specs.Types.Progress.{Progress}
use Rattle.ciborium_ll.specs.Types.Progress.TheVariants as p
use Rattle.ciborium_ll.specs.Title.{IsInRange, shortest_title}
use Rattle.ciborium_ll.specs.Strings.{Kind, IsString, kind_header}
use Rattle.ciborium_ll.specs.Strings.IsString.{definite}
use Rattle.ciborium_ll.specs.Decoding.{IsSteady, ReadsPast, TakesBack}
use Rattle.ciborium_ll.specs.Encoding.{WritesAll}
use Rattle.ciborium_ll.specs.Segments.{AdvancesTo, EndsAdvance, IsRefusedAt}
use Rattle.ciborium_ll.specs.Sides.{Sides, sides}
use Rattle.ciborium_ll.proofs.DecodingLaws.{ReadsPast-none, ReadsPast-pulled}
use Rattle.ciborium_ll.proofs.HaltLaws.{kind_not_misplaced}
use Rattle.ciborium_ll.proofs.StringLaws.{not_break}
use Rattle.ciborium_ll.proofs.StepLaws.{counted}
use Rattle.ciborium_ll.proofs.TitleLaws.{IsTitle-shortest}
use Rattle.cbor_skip.specs.declared.SkipError.TheVariants as s
use Rattle.cbor_diag.specs.declared.DiagError.{DiagError}
use Rattle.cbor_diag.specs.declared.DiagError.TheVariants as d
use Rattle.cbor_diag.specs.declared.strings.quotes.Quotes.{Quotes}
use Rattle.cbor_diag.specs.declared.marks.Mark.{Mark}
use Rattle.cbor_diag.specs.declared.marks.Mark.TheVariants as m
use Rattle.cbor_diag.specs.Marks.{mark_text}
use Rattle.cbor_diag.specs.Showing.{ShowsText}
use Rattle.cbor_diag.specs.StringShows.{BeginsBodies, BodyAnnounced, IsTitled, StringRead, ShowsBody, ShowsString}
use Rattle.cbor_diag.specs.StringShows.{MeetsNoBody, StringStops, bodies_text, end_text, is_indefinite, is_none}
use Rattle.cbor_diag.specs.StringShows.{lead_text, more_bodies, quoted_body, string_text}
use Rattle.cbor_diag.specs.StringShows.StringStops.{at_title, in_body}
use Rattle.cbor_diag.specs.StringShows.StringUnshown.{at_body, at_end, at_lead}
use Rattle.ciborium_ll.proofs.PiecesWritten.{writes_nothing}
use Rattle.ciborium_ll.proofs.StringReads.{ReadSoFar, advanced, lone_advanced, lone_titled, read_more, read_start}
use Rattle.ciborium_ll.proofs.StringReads.{read_whole}
use Rattle.cbor_diag.proofs.QuoteLaws.{said_then, wrote_both, wrote_first}

-- ---- one body more

more_bodies-push : (opens : Bool) (quotes : Quotes) (bodies : List (List ℕ)) (body : List ℕ)
    → more_bodies opens quotes (bodies ++ body ∷ [])
    ≡ more_bodies opens quotes bodies ++ (lead_text opens false ++ quoted_body quotes body)
more_bodies-push opens quotes [] body = append-nil (lead_text opens false ++ quoted_body quotes body)
more_bodies-push opens quotes (b ∷ bs) body = grind (arith, more_bodies-push opens quotes bs body, append_assoc)

bodies_text-push : (opens : Bool) (quotes : Quotes) (bodies : List (List ℕ)) (body : List ℕ)
    → bodies_text opens quotes (bodies ++ body ∷ [])
    ≡ (bodies_text opens quotes bodies ++ lead_text opens (is_none bodies)) ++ quoted_body quotes body
bodies_text-push opens quotes [] body = append-nil (lead_text opens true ++ quoted_body quotes body)
bodies_text-push opens quotes (b ∷ bs) body = grind (arith, more_bodies-push, append_assoc)

push_some : (bodies : List (List ℕ)) (body : List ℕ) → is_none (bodies ++ body ∷ []) ≡ false
push_some [] body = refl
push_some (b ∷ bs) body = refl

-- ---- one step of the read

-- A header that a string refuses begins no body.
no_body : (k : Kind) (allowed : Spelling) (opens : ℕ) (header : Header) → IsRefusedAt allowed k opens header
    → (count : ℕ)
    → header ≡ kind_header k (Some count) → ⊥
no_body k allowed opens header refused count is = grind (arith, not_break, kind_not_misplaced)

module _ {R E : Type 0} {source : Reader R E} (k : Kind) (allowed : Spelling) where
  meets : (left : ℕ) (between new : Decoder R) (error : Error E) (progress : Progress)
      → EndsAdvance source k allowed left between (Err error) progress new → MeetsNoBody source k between error new
  meets left between new error progress ends = grind (arith, no_body)

  module _ {opened now new : Decoder R} {bodies : List (List ℕ)} {progress : Progress} (progress' : Progress)
      (steady : IsSteady source now → IsSteady source new) where
    -- If the title of a body came, the bytes so far end with it.
    pub titled : (len : Option ℕ) (body : Body)
        → ReadSoFar source k len (shortest_title (kind_header k len)) opened bodies progress now
        → AdvancesTo source k allowed progress now (Ok (Some body)) progress' new
        → (behind : List ℕ) × IsTitled k len behind bodies body.length × ReadsPast source opened behind new
    titled None body so_far advances =
        let all = advanced source k allowed steady (Ok (Some body)) so_far advances in
        let strings = all.has.strings in
        let pulled = all.ends.pulled in (
          strings ++ pulled.title,
          (strings, pulled.title, refl, counted k all.left _ bodies all.has.within, pulled.is_title),
          ReadsPast-pulled source opened all.between new strings _ pulled all.has.passed all.steady,
        )
    titled (Some len) body so_far advances =
        let lone = lone_titled source k allowed len body so_far advances in
        ([], (refl, lone.0, lone.1), lone.3)

    -- If no title came, the bytes so far begin the string, and the decoder meets no body.
    pub untitled : (len : Option ℕ) (error : Error E)
        → ReadSoFar source k len (shortest_title (kind_header k len)) opened bodies progress now
        → AdvancesTo source k allowed progress now (Err error) progress' new
        → (between : Decoder R) × (behind : List ℕ) × BeginsBodies k len behind bodies
        × ReadsPast source opened behind between × MeetsNoBody source k between error new
    untitled None error so_far advances =
        let all = advanced source k allowed steady (Err error) so_far advances in (
          all.between,
          all.has.strings,
          counted k all.left _ bodies all.has.within,
          all.has.passed,
          meets all.left all.between new error progress' all.ends,
        )
    untitled (Some len) error so_far advances =
        absurd (grind (arith, lone_advanced source k allowed len (Err error) so_far advances))

-- ---- the loop over segments

-- The end of a string of the indefinite form has no mark.
pub any_mark : (quotes : Quotes) (mark : Mark) (first : Bool)
    → end_text true quotes m.Absent first ≡ end_text true quotes mark first
any_mark quotes mark true = refl
any_mark quotes mark false = refl

module _ {R E W F : Type 0} (source : Reader R E) (sink : Writer W F) (k : Kind) (quotes : Quotes) (len : Option ℕ)
    (opened : Decoder R) (w : W) where
  -- The loop has read and shown these bodies.
  pub record TextSoFar (first : Bool) (progress : Progress) (now : Decoder R) (w' : W) : Type 0 where
    pub bodies : List (List ℕ)
    pub is_first : first ≡ is_none bodies
    pub far : ReadSoFar source k len (shortest_title (kind_header k len)) opened bodies progress now
    pub written : WritesAll sink w (bodies_text (is_indefinite len) quotes bodies) w'

  pub text_start : (first : Bool) (progress : Progress) (now : Decoder R) → first ≡ true → progress ≡ p.Open 0
      → IsInRange (kind_header k len) → opened.waiting ≡ None → TakesBack source opened (kind_header k len) now
      → TextSoFar first progress now w
  text_start first progress now is fresh range settled back = record {
    bodies = [];
    is_first = is;
    far = rw fresh (read_start source k len (shortest_title (kind_header k len)) opened now
        (IsTitle-shortest (kind_header k len) range) settled back);
    written = writes_nothing sink w;
  }

  closes : (mark : Mark) (room : ℕ) (new : Decoder R) (last : W) (result : Result (Unit {0}) (DiagError E F))
      → (reads : StringRead source k len opened new)
      → ShowsText sink (Some (string_text (is_indefinite len) quotes mark reads.bodies)) w result last
      → ShowsString source sink k quotes len mark room (sides opened w) result (sides new last)
  closes mark room new last (Ok done) reads said = record { reads = reads; written = said }
  closes mark room new last (Err (d.Read error)) reads said = absurd said
  closes mark room new last (Err (d.Write fault)) reads said = at_end reads said

-- ---- a lone body

-- A title and its body are a string.
lone_string : (k : Kind) (len : ℕ) (read : List ℕ) → IsInRange (kind_header k (Some len)) → length read ≡ len
    → IsString k (shortest_title (kind_header k (Some len)) ++ read) (read ∷ [])
lone_string k len read range all =
    let within : IsInRange (kind_header k (Some (length read))) =
    subst (λ (n : ℕ). IsInRange (kind_header k (Some n))) (sym all) range in
    subst (λ (n : ℕ). IsString k (shortest_title (kind_header k (Some n)) ++ read) (read ∷ [])) all
    (definite (IsTitle-shortest (kind_header k (Some (length read))) within))

module _ {R E W F : Type 0} (source : Reader R E) (sink : Writer W F) (k : Kind) (quotes : Quotes) (len : ℕ)
    (opened : Decoder R) (w : W) (mark : Mark) (room place : ℕ) where
  -- If the body of a string of the definite form was shown, the write of the mark decides the answer.
  pub lone_said : {now : Decoder R} {w' : W} → IsInRange (kind_header k (Some len))
      → ShowsBody source sink k len room place quotes (sides opened w) (Ok (tt {0})) (sides now w')
      → (result : Result (Unit {0}) (DiagError E F)) (last : W)
      → ShowsText sink (Some (mark_text mark)) w' result last
      → ShowsString source sink k quotes (Some len) mark room (sides opened w) result (sides now last)
  lone_said {now} range shown result last said =
      let read = shown.ends.read in
      closes source sink k quotes (Some len) opened w mark room now last result (record {
        behind = read;
        bodies = read ∷ [];
        is_string = lone_string k len read range shown.ends.all;
        passed = shown.ends.passed;
      }) (said_then (rw (sym (append-nil (quoted_body quotes read))) at shown.written) _ last result said)

  lone_due : BodyAnnounced source sink k quotes (Some len) mark len (sides opened w) (sides opened w)
  lone_due = record {
    behind = [];
    bodies = [];
    titled = (refl, refl, refl);
    passed = ReadsPast-none source opened;
    written = writes_nothing sink w;
  }

  -- If the body was not shown whole, the show of the string ends there.
  pub lone_stops : (error : DiagError E F) (ended : Sides R W)
      → ShowsBody source sink k len room place quotes (sides opened w) (Err error) ended
      → ShowsString source sink k quotes (Some len) mark room (sides opened w) (Err error) ended
  lone_stops (d.Read (s.Read error)) ended shown = in_body len place (sides opened w) lone_due shown
  lone_stops (d.Write fault) ended shown = at_body len (sides opened w) lone_due shown
  lone_stops error ended shown = absurd shown

module _ {R E W F : Type 0} {source : Reader R E} {sink : Writer W F} {k : Kind} {quotes : Quotes} {len : Option ℕ}
    {opened : Decoder R} {w w' : W} {first : Bool} {progress : Progress} {now : Decoder R} (allowed : Spelling)
    (so_far : TextSoFar source sink k quotes len opened w first progress now w') (new : Decoder R)
    (steady : IsSteady source now → IsSteady source new) (progress' : Progress) (is_open : Bool)
    (form : is_open ≡ is_indefinite len) where
  -- If the string has ended, the write of its end decides the answer.
  pub text_closed : (mark : Mark) (room : ℕ) (result : Result (Unit {0}) (DiagError E F)) (last : W)
      → AdvancesTo source k allowed progress now (Ok None) progress' new
      → ShowsText sink (Some (end_text is_open quotes mark first)) w' result last
      → ShowsString source sink k quotes len mark room (sides opened w) result (sides new last)
  text_closed mark room result last advances said =
      let whole = read_whole source k allowed _ opened now new so_far.bodies progress progress' steady len so_far.far
      advances in
      closes source sink k quotes len opened w mark room new last result (record {
        behind = whole.behind;
        bodies = so_far.bodies;
        is_string = whole.is_string;
        passed = whole.passed;
      }) (said_then so_far.written _ last result (rw (form, so_far.is_first) at said))

  -- If no title came, the show of the string stops there.
  pub text_fails : (mark : Mark) (room : ℕ) (error : Error E)
      → AdvancesTo source k allowed progress now (Err error) progress' new
      → StringStops source sink k quotes len mark room (sides opened w) error (sides new w')
  text_fails mark room error advances =
      let none = untitled k allowed progress' steady len error so_far.far advances in
      at_title none.0 (record {
        behind = none.1;
        bodies = so_far.bodies;
        begun = none.2;
        passed = none.3;
        written = so_far.written;
      }) none.4

  module _ (body : Body) (advances : AdvancesTo source k allowed progress now (Ok (Some body)) progress' new) where
    -- If the writer fails before a body, the show of the string ends there.
    pub text_unled : (mark : Mark) (room : ℕ) (error : DiagError E F) (lead : W)
        → ShowsText sink (Some (lead_text is_open first)) w' (Err error) lead
        → ShowsString source sink k quotes len mark room (sides opened w) (Err error) (sides new lead)
    text_unled mark room (d.Read error) lead said = absurd said
    text_unled mark room (d.Write fault) lead said =
        let here = titled k allowed progress' steady len body so_far.far advances in
        at_lead here.0 so_far.bodies body.length here.1 here.2
        (wrote_first so_far.written fault (rw (form, so_far.is_first) at said))

    module _ (lead : W) (led : WritesAll sink w' (lead_text is_open first) lead) where
      due : (mark : Mark) → BodyAnnounced source sink k quotes len mark body.length (sides opened w) (sides new lead)
      due mark =
          let here = titled k allowed progress' steady len body so_far.far advances in
          record {
            behind = here.0;
            bodies = so_far.bodies;
            titled = here.1;
            passed = here.2;
            written = wrote_both so_far.written (rw (form, so_far.is_first) at led);
          }

      -- If the body was not shown whole, the show of the string ends there.
      pub text_stops : (mark : Mark) (room : ℕ) (error : DiagError E F) (ended : Sides R W)
          → ShowsBody source sink k body.length room body.place quotes (sides new lead) (Err error) ended
          → ShowsString source sink k quotes len mark room (sides opened w) (Err error) ended
      text_stops mark room (d.Read (s.Read error)) ended shown =
          in_body body.length body.place (sides new lead) (due mark) shown
      text_stops mark room (d.Write fault) ended shown = at_body body.length (sides new lead) (due mark) shown
      text_stops mark room error ended shown = absurd shown

      -- If the body was shown whole, the loop goes on with one more body.
      pub text_more : (room : ℕ) (ended : Decoder R) (last : W)
          → ShowsBody source sink k body.length room body.place quotes (sides new lead) (Ok (tt {0}))
          (sides ended last) → TextSoFar source sink k quotes len opened w false progress' ended last
      text_more room ended last shown =
          let read = shown.ends.read in
          record {
            bodies = so_far.bodies ++ read ∷ [];
            is_first = sym (push_some so_far.bodies read);
            far = read_more source k allowed _ opened now new so_far.bodies progress progress' steady len body ended
                so_far.far advances shown.ends;
            written = rw (bodies_text-push (is_indefinite len) quotes so_far.bodies read)
                (wrote_both (wrote_both so_far.written (rw (form, so_far.is_first) at led)) shown.written);
          }
