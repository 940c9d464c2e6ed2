-- A string of the indefinite form that is shown title by title: the strings within it, and its text.
use Rattle.std.proofs.Common.{◌≡◌, ℕ, zero, suc, ◌<◌, ◌^◌, Bool, true, false, List, [], ◌∷◌, ◌++◌, length}
use Rattle.std.proofs.Common.{Option, Some, None, Result, Ok, Err, refl, subst, inl, inr, arith, append_assoc}
use Rattle.std.proofs.Common.{append-nil}
use Rattle.ciborium_ll.specs.Types.Read.{Ghosts as Reader}
use Rattle.ciborium_ll.specs.Types.Write.{Ghosts as Writer}
use Rattle.ciborium_ll.specs.Types.Decoder.{Decoder}
use Rattle.ciborium_ll.specs.Types.Error.{Error}
use Rattle.ciborium_ll.specs.Types.Error.TheVariants as e
use Rattle.ciborium_ll.specs.Types.Header.{Header}
use Rattle.ciborium_ll.specs.Types.Header.TheVariants as h
use Rattle.ciborium_ll.specs.Types.Body.{Body}
use Rattle.ciborium_ll.specs.Types.Progress.TheVariants as p
use Rattle.ciborium_ll.specs.Types.Progress.{Progress}
use Rattle.ciborium_ll.specs.Title.{IsTitle}
use Rattle.ciborium_ll.specs.Strings.{Kind, kind_header}
use Rattle.ciborium_ll.specs.Faults.{IsRefusedIn}
use Rattle.ciborium_ll.specs.Decoding.{DecoderPullAnswer, IsSteady, PullsTitle, ReadsPast, spelling_of}
use Rattle.ciborium_ll.specs.Encoding.{WritesAll}
use Rattle.ciborium_ll.specs.Finishing.{EndsBody}
use Rattle.ciborium_ll.specs.Segments.{AdvancesFrom, EndsAdvance, PullsOther, in_place}
use Rattle.ciborium_ll.specs.Skipping.{SkipsString}
use Rattle.ciborium_ll.specs.Sides.{Sides, sides}
use Rattle.ciborium_ll_decoder.proofs.DecodingLaws.{ReadsPast-none, ReadsPast-pulled, ReadsPast-then}
use Rattle.ciborium_ll_decoder.proofs.NestLaws.{alone_bytes}
use Rattle.ciborium_ll_decoder.proofs.SegmentLaws.{IsAmong, so_far_opened}
use Rattle.ciborium_ll_decoder.proofs.SkipLaws.{SkipsSoFar, skips_body, skips_end, skips_error, skips_stop}
use Rattle.ciborium_ll_grammar.specs.declared.spelling.Spelling.{Spelling}
use Rattle.ciborium_ll_grammar.specs.declared.spelling.Spelling.TheVariants.{Any}
use Rattle.ciborium_ll_grammar.proofs.HaltLaws.{kind_not_misplaced}
use Rattle.ciborium_ll_grammar.proofs.StepLaws.{add_open, close_inner}
use Rattle.ciborium_ll.proofs.PiecesWritten.{writes_nothing}
use Rattle.cbor_skip.specs.declared.SkipError.TheVariants as s
use Rattle.cbor_diag.specs.declared.DiagError.{DiagError}
use Rattle.cbor_diag.specs.declared.DiagError.TheVariants as d
use Rattle.cbor_diag.specs.declared.strings.chunks.Far.{Far}
use Rattle.cbor_diag.specs.NextShows.{ShowsNext, string, string_stops, deepens, deepens_stops, closes, closes_stops}
use Rattle.cbor_diag.specs.NextShows.{none as no_title, other}
use Rattle.cbor_diag.specs.OpenShows.{AreAllShown, IsInsideShown, IsOneShown, OpenBegun, OpenShown}
use Rattle.cbor_diag.specs.OpenShows.{ShowsOpen, at_break, at_open, at_string, at_title, body_mark}
use Rattle.cbor_diag.specs.OpenShows.{chunk_text, deeper, definite, in_body, indefinite, more, none, open_end, opened}
use Rattle.cbor_diag.specs.Showing.{OnString}
use Rattle.cbor_diag.specs.StringShows.{BodyShown, kind_quotes, lead_text, quoted_body}
use Rattle.cbor_diag.proofs.QuoteLaws.{wrote_both}

-- ---- the strings within an open

-- One more string stands within the last open.
inside_more : (k : Kind) (opens : ℕ) (first : Bool) (behind text w one : List ℕ)
    → IsInsideShown k opens first behind text → IsOneShown k w one
    → IsInsideShown k opens false (behind ++ w) (text ++ (lead_text true first ++ one))
inside_more k opens first behind text w one (opened are) is = opened (more first behind w text one are is)
inside_more k opens first behind text w one (deeper outer x title strings y within inside is_title are) is =
    simp append_assoc (deeper outer x title (strings ++ w) y (within ++ (lead_text true first ++ one)) inside
    is_title (more first strings w within one are is))

-- One more open has no strings yet.
inside_open : (k : Kind) (opens : ℕ) (first : Bool) (behind text title : List ℕ)
    → IsInsideShown k opens first behind text → IsTitle title (kind_header k None)
    → IsInsideShown k (suc opens) true (behind ++ title) (text ++ lead_text true first)
inside_open k opens first behind text title inside is = simp append-nil at (deeper first behind title [] text [] inside is none)

-- A break within two or more opens closes the last one.
inside_close : (k : Kind) (opens : ℕ) (first : Bool) (behind text : List ℕ)
    → IsInsideShown k (suc (suc opens)) first behind text
    → IsInsideShown k (suc opens) false (behind ++ 0xff ∷ []) (text ++ open_end k first)
inside_close k opens first behind text (deeper outer x title strings y within inside is are) =
    simp append_assoc (inside_more k (suc opens) outer x y _ _ inside (indefinite title strings within first is are))

inside_none : (k : Kind) (first : Bool) (behind text : List ℕ) → IsInsideShown k zero first behind text → ⊥
inside_none k first behind text inside = elim inside [ ]

-- Within one open all strings are shown.
inside_one : (k : Kind) (first : Bool) (behind text : List ℕ) → IsInsideShown k (suc zero) first behind text
    → AreAllShown k first behind text
inside_one k first behind text (opened are) = are
inside_one k first behind text (deeper outer x title strings y within inside is are) =
    absurd (inside_none k outer x y inside)

-- A title and its body are shown as one string.
one_shown : (k : Kind) (title body : List ℕ) (len : ℕ) → length body ≡ len → IsTitle title (kind_header k (Some len))
    → IsOneShown k (title ++ body) (quoted_body (kind_quotes k) body ++ body_mark k len (length title))
one_shown k title body len same is =
    subst (λ (z : ℕ). IsOneShown k (title ++ body)
    (quoted_body (kind_quotes k) body ++ body_mark k z (length title))) same (definite title body (rw same is))

-- ---- the text

module _ {R E W F : Type 0} {source : Reader R E} {sink : Writer W F} {k : Kind} {old now : Sides R W} {opens : ℕ}
    {first : Bool} (far : OpenBegun source sink k opens first old now) where
  titled : {header : Header} {new : Decoder R} → (pulled : PullsTitle source now.decoder header new)
      → (IsSteady source now.decoder → IsSteady source new) → ReadsPast source now.decoder pulled.title new
  titled {header} {new} pulled steady =
      ReadsPast-pulled source now.decoder now.decoder new [] header pulled (ReadsPast-none source now.decoder) steady

  -- One more string was shown.
  text_string : {len : ℕ} {title : Decoder R} (room place : ℕ) (new : Sides R W)
      → (pulled : PullsTitle source now.decoder (kind_header k (Some len)) title)
      → (IsSteady source now.decoder → IsSteady source title)
      → BodyShown source sink k len room place (chunk_text k first (body_mark k len (length pulled.title)))
      (sides title now.writer) new
      → OpenBegun source sink k opens false old new
  text_string {len} {title} room place new pulled steady shown =
      let body = shown.ends.read in
      record {
        behind = far.behind ++ (pulled.title ++ body);
        text = _;
        begun = inside_more k opens first far.behind far.text (pulled.title ++ body) _ far.begun
            (one_shown k pulled.title body len shown.ends.all pulled.is_title);
        passed = ReadsPast-then source old.decoder now.decoder new.decoder far.behind (pulled.title ++ body) far.passed
            (ReadsPast-then source now.decoder title new.decoder pulled.title body (titled pulled steady)
            shown.ends.passed);
        written = wrote_both far.written shown.written;
      }

  -- One more open came.
  text_open : {title : Decoder R} (new : W) → (pulled : PullsTitle source now.decoder (kind_header k None) title)
      → (IsSteady source now.decoder → IsSteady source title)
      → WritesAll sink now.writer (lead_text true first) new
      → OpenBegun source sink k (suc opens) true old (sides title new)
  text_open {title} new pulled steady leads = record {
    behind = far.behind ++ pulled.title;
    text = far.text ++ lead_text true first;
    begun = inside_open k opens first far.behind far.text pulled.title far.begun pulled.is_title;
    passed = ReadsPast-then source old.decoder now.decoder title far.behind pulled.title far.passed
        (titled pulled steady);
    written = wrote_both far.written leads;
  }

  break_passed : {title : Decoder R} → PullsTitle source now.decoder h.Break title
      → (IsSteady source now.decoder → IsSteady source title)
      → ReadsPast source old.decoder (far.behind ++ 0xff ∷ []) title
  break_passed {title} pulled steady =
      rw (alone_bytes pulled.title h.Break pulled.is_title refl) at (ReadsPast-then source old.decoder now.decoder title
      far.behind pulled.title far.passed (titled pulled steady))

module _ {R E W F : Type 0} {source : Reader R E} {sink : Writer W F} {k : Kind} {old now : Sides R W} where
  -- A break closed one of several opens.
  text_break : {opens : ℕ} {first : Bool} {title : Decoder R}
      (far : OpenBegun source sink k (suc (suc opens)) first old now) (new : W)
      → PullsTitle source now.decoder h.Break title → (IsSteady source now.decoder → IsSteady source title)
      → WritesAll sink now.writer (open_end k first) new
      → OpenBegun source sink k (suc opens) false old (sides title new)
  text_break {opens} {first} far new pulled steady ends = record {
    behind = far.behind ++ 0xff ∷ [];
    text = far.text ++ open_end k first;
    begun = inside_close k opens first far.behind far.text far.begun;
    passed = break_passed far pulled steady;
    written = wrote_both far.written ends;
  }

  -- A break closed the only open.
  text_last : {first : Bool} {title : Decoder R} (far : OpenBegun source sink k (suc zero) first old now) (new : W)
      → PullsTitle source now.decoder h.Break title → (IsSteady source now.decoder → IsSteady source title)
      → WritesAll sink now.writer (open_end k first) new → OpenShown source sink k old (sides title new)
  text_last {first} far new pulled steady ends = record {
    rest = far.behind ++ 0xff ∷ [];
    text = far.text ++ open_end k first;
    is_text = record {
      first = first;
      strings = far.behind;
      front = far.text;
      are = inside_one k first far.behind far.text far.begun;
      rest_is = refl;
      text_is = refl;
    };
    passed = break_passed far pulled steady;
    written = wrote_both far.written ends;
  }

-- A header that may not stand within the string begins no body.
refused_body : (k : Kind) (allowed : Spelling) (header : Header) → IsRefusedIn allowed k header → (count : ℕ)
    → header ≡ kind_header k (Some count) → ⊥
refused_body k allowed header refused count is = grind (arith, kind_not_misplaced)

-- ---- the read

module _ {R E : Type 0} (source : Reader R E) (k : Kind) (opened now : Decoder R) where
  -- The string was read so far, and `opens` opens are not closed.
  abbrev pub ReadFar : ℕ → Type 0
  ReadFar opens = SkipsSoFar source k None opened (p.Open opens) now

  module _ {opens : ℕ} (some : 0 < opens) (far : ReadFar opens) where
    among : IsAmong source k opens far.0.0 opened now
    among = elim far.0.1.far [
      | inl start ↦ absurd (let fresh = start.fresh in grind (arith, fresh, some))
      | inr way ↦ (let counts = way.counts in grind (arith, counts, way.among))
    ]

    advances : {result : Result (Option Body) (Error E)} {progress : Progress} {new : Decoder R}
        → EndsAdvance source k (spelling_of opened) opens now result progress new
        → AdvancesFrom source k (spelling_of opened) opens now result progress new
    advances ends = record {
      nest = [];
      left = opens;
      nests = in_place;
      between = now;
      passed = ReadsPast-none source now;
      shallow = λ on. (let one = (among.tight on).0 in omega (arith, one));
      ends = ends;
    }

    announces : {len : ℕ} {title : Decoder R} → PullsTitle source now (kind_header k (Some len)) title
        → EndsAdvance source k (spelling_of opened) opens now (Ok (Some (record { length = len; place = now.offset })))
        (p.Open opens) title
    announces pulled = record { pulled = pulled; place = refl; after = inr (some, refl) }

    read_string : (room : ℕ) {len : ℕ} {title new : Decoder R}
        → PullsTitle source now (kind_header k (Some len)) title → (IsSteady source now → IsSteady source title)
        → EndsBody source k [] len room now.offset title (Ok (tt {0})) new
        → SkipsSoFar source k None opened (p.Open opens) new
    read_string room {len} {title} {new} pulled steady ends =
        skips_body source k (spelling_of opened) None room opened now title new (p.Open opens) (p.Open opens)
        (record { length = len; place = now.offset }) refl far steady ends.passed.steady
        (advances (announces pulled)) ends

    read_stops : (room : ℕ) {len : ℕ} {title new : Decoder R} (error : Error E)
        → PullsTitle source now (kind_header k (Some len)) title → (IsSteady source now → IsSteady source title)
        → EndsBody source k [] len room now.offset title (Err error) new
        → SkipsString source k None room opened (Err error) new
    read_stops room {len} {title} {new} error pulled steady ends =
        skips_stop source k (spelling_of opened) None room opened now title new (p.Open opens) (p.Open opens)
        (record { length = len; place = now.offset }) error refl far steady (advances (announces pulled)) ends

    read_open : {title : Decoder R} → PullsTitle source now (kind_header k None) title
        → (IsSteady source now → IsSteady source title) → spelling_of now ≡ Any
        → SkipsSoFar source k None opened (p.Open (suc opens)) title
    read_open {title} pulled steady loose =
        let a = among in
        let steadily = λ (s : IsSteady source opened). steady (a.passed.steady s) in (
          (
            far.0.0,
            record {
              none_waits = far.0.1.none_waits;
              far = inr (record {
                opens = suc opens;
                counts = refl;
                among = record {
                  strings = a.strings ++ pulled.title;
                  within = rw append_assoc at (add_open k opens _ pulled.title _ a.within pulled.is_title);
                  sound = a.sound;
                  passed = ReadsPast-pulled source opened now title a.strings _ pulled a.passed steadily;
                  tight = λ on. absurd (let mode = a.passed.mode in grind (arith, mode, loose, on));
                };
              });
              steady = steadily;
            },
          ),
          far.1,
        )

    -- If no title came, the read stops.
    read_none : (room : ℕ) (new : Decoder R) (error : Error E) → new.offset < 2 ^ 64
        → (IsSteady source now → IsSteady source new) → DecoderPullAnswer source now (Err error) new
        → SkipsString source k None room opened (Err error) new
    read_none room new (e.Io fault) less steady fails =
        skips_error source k (spelling_of opened) None room opened now new (p.Open opens) (p.Open opens) (e.Io fault)
        less refl
        far steady (advances (fails, refl))
    read_none room new (e.Syntax place) less steady fails =
        skips_error source k (spelling_of opened) None room opened now new (p.Open opens) (p.Damaged place)
        (e.Syntax place)
        less refl far steady (advances (inl (fails, refl)))
    read_none room new e.TooLong less steady fails =
        skips_error source k (spelling_of opened) None room opened now new (p.Open opens) (p.Open opens) e.TooLong
        less refl
        far steady (advances (inl (fails, refl)))
    read_none room new e.Waiting less steady fails = absurd fails

    -- If a title came that may not stand there, the read stops.
    read_other : (room : ℕ) (new : Decoder R) (place : ℕ) → new.offset < 2 ^ 64
        → (IsSteady source now → IsSteady source new)
        → PullsOther source (IsRefusedIn (spelling_of now) k) now place new
        → SkipsString source k None room opened (Err (e.Syntax place)) new
    read_other room new place less steady found =
        let refused = rw among.passed.mode at found.refused in
        skips_error source k (spelling_of opened) None room opened now new (p.Open opens) (p.Damaged place)
        (e.Syntax place)
        less refl far steady (advances (inr (record {
          other = record {
            header = found.header;
            pulled = found.pulled;
            refused = elim refused [
              | inl misplaced ↦ inl (inr misplaced)
              | inr again ↦ inr (some, again.0, again.1)
            ];
            place = found.place;
          };
          after = refl;
        })))

  -- A break closed one of several opens.
  read_break : {opens : ℕ} {title : Decoder R} → ReadFar (suc (suc opens)) → PullsTitle source now h.Break title
      → (IsSteady source now → IsSteady source title) → SkipsSoFar source k None opened (p.Open (suc opens)) title
  read_break {opens} {title} far pulled steady =
      let a = among {opens = suc (suc opens)} (omega arith) far in
      let steadily = λ (s : IsSteady source opened). steady (a.passed.steady s) in
      let alone = alone_bytes pulled.title h.Break pulled.is_title refl in (
        (
          far.0.0,
          record {
            none_waits = far.0.1.none_waits;
            far = inr (record {
              opens = suc opens;
              counts = refl;
              among = record {
                strings = a.strings ++ 0xff ∷ [];
                within = rw append_assoc at (close_inner k opens _ _ a.within);
                sound = a.sound;
                passed = rw alone at (ReadsPast-pulled source opened now title a.strings _ pulled a.passed steadily);
                tight = λ on. absurd (let one = (a.tight on).0 in omega (arith, one));
              };
            });
            steady = steadily;
          },
        ),
        far.1,
      )

  -- A break closed the only open.
  read_last : (room : ℕ) {title : Decoder R} → ReadFar (suc zero) → PullsTitle source now h.Break title
      → (IsSteady source now → IsSteady source title) → SkipsString source k None room opened (Ok (tt {0})) title
  read_last room {title} far pulled steady =
      skips_end source k (spelling_of opened) None room opened now title (p.Open 1) p.Ended refl far steady
      (advances {opens = suc zero} (omega arith) far (record { pulled = pulled; last = refl; after = refl }))

-- ---- the loop over titles

module _ {R E W F : Type 0} (source : Reader R E) (sink : Writer W F) (k : Kind) (room : ℕ) (old : Sides R W) where
  -- The string was read and shown so far. If no open is left, it was read and shown whole.
  abbrev pub OpenFar : ℕ → Bool → Sides R W → Type 0
  OpenFar zero first now =
      OpenShown source sink k old now × SkipsString source k None room old.decoder (Ok (tt {0})) now.decoder
  OpenFar (suc opens) first now =
      OpenBegun source sink k (suc opens) first old now × ReadFar source k old.decoder now.decoder (suc opens)

  pub open_begins : old.decoder.waiting ≡ None → 0 < old.decoder.offset → OpenFar 1 true old
  open_begins settled counted = (
    record {
      behind = [];
      text = [];
      begun = opened none;
      passed = ReadsPast-none source old.decoder;
      written = writes_nothing sink old.writer;
    },
    (([], so_far_opened source k old.decoder old.decoder (p.Open 1) settled refl refl), counted),
  )

  closed : (opens : ℕ) {first : Bool} {now : Sides R W} {title : Decoder R} (new : W) → OpenFar (suc opens) first now
      → PullsTitle source now.decoder h.Break title → (IsSteady source now.decoder → IsSteady source title)
      → WritesAll sink now.writer (open_end k first) new → OpenFar opens false (sides title new)
  closed zero new far pulled steady ends =
      (text_last far.0 new pulled steady ends, read_last source k old.decoder _ room far.1 pulled steady)
  closed (suc opens) new far pulled steady ends =
      (text_break far.0 new pulled steady ends, read_break source k old.decoder _ far.1 pulled steady)

  -- One more title was shown.
  pub open_next : (opens : ℕ) (first : Bool) (after : Far) (now new : Sides R W) → 0 < opens → OpenFar opens first now
      → ShowsNext source sink k room opens first now (Ok after) new → OpenFar after.opens after.is_first new
  open_next zero first after now new some far next = absurd (omega (arith, some))
  open_next (suc opens) first after now new some far (string len pulled steady shown opens_are first_is) =
      rw (opens_are, first_is) (
        text_string far.0 room now.decoder.offset new pulled steady shown,
        read_string source k old.decoder now.decoder some far.1 room pulled steady shown.ends,
      )
  open_next (suc opens) first after now new some far (deepens pulled steady loose leads opens_are first_is) =
      let more : after.opens ≡ suc (suc opens) = omega (arith, opens_are) in
      rw (more, first_is) (
        text_open far.0 _ pulled steady leads,
        read_open source k old.decoder now.decoder some far.1 pulled steady loose,
      )
  open_next (suc opens) first after now new some far (closes pulled steady ends opens_are first_is) =
      let less : after.opens ≡ opens = omega (arith, opens_are) in
      rw (less, first_is) (closed opens _ far pulled steady ends)

  -- ---- an error

  pub open_text_stops : (opens : ℕ) (first : Bool) (now new : Sides R W) (error : DiagError E F) → 0 < opens
      → OpenFar opens first now → ShowsNext source sink k room opens first now (Err error) new
      → ShowsOpen source sink k room old (Err error) new
  open_text_stops zero first now new error some far next = absurd (omega (arith, some))
  open_text_stops (suc opens) first now new (d.Read (s.Read error)) some far (string_stops len pulled steady stops) =
      in_body far.0 pulled stops
  open_text_stops (suc opens) first now new (d.Write fault) some far (string_stops len pulled steady stops) =
      at_string far.0 pulled stops
  open_text_stops (suc opens) first now new error some far (string_stops len pulled steady stops) = absurd stops
  open_text_stops (suc opens) first now new error some far (deepens_stops pulled stopped) = at_open far.0 pulled stopped
  open_text_stops (suc opens) first now new error some far (closes_stops pulled stopped) =
      at_break far.0 pulled stopped
  open_text_stops (suc opens) first now new error some far (no_title fails) = at_title far.0 (inl fails)
  open_text_stops (suc opens) first now new error some far (other found) =
      at_title far.0 (inr (found.header, found.pulled, refused_body k _ found.header found.refused))

  pub open_read_stops : (opens : ℕ) (first : Bool) (now new : Sides R W) (error : DiagError E F) → 0 < opens
      → new.decoder.offset < 2 ^ 64 → (IsSteady source now.decoder → IsSteady source new.decoder)
      → OpenFar opens first now → ShowsNext source sink k room opens first now (Err error) new
      → OnString (λ answer. SkipsString source k None room old.decoder answer new.decoder) (Err error)
  open_read_stops zero first now new error some less steady far next = absurd (omega (arith, some))
  open_read_stops (suc opens) first now new (d.Read (s.Read error)) some less steady far
      (string_stops len pulled steady' stops) =
      read_stops source k old.decoder now.decoder some far.1 room error pulled steady' stops.ends
  open_read_stops (suc opens) first now new (d.Write fault) some less steady far next = tt
  open_read_stops (suc opens) first now new error some less steady far (string_stops len pulled steady' stops) = absurd stops
  open_read_stops (suc opens) first now new error some less steady far (no_title fails) =
      read_none source k old.decoder now.decoder some far.1 room _ _ less steady fails
  open_read_stops (suc opens) first now new error some less steady far (other found) =
      read_other source k old.decoder now.decoder some far.1 room _ _ less steady found
