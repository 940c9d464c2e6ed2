-- Laws of bodies that are read into a text.
use Rattle.std.proofs.Common.{◌≡◌, ℕ, ◌+◌, ◌<◌, ◌≤◌, List, [], ◌∷◌, ◌++◌, length, Option, Some, IsTrue, Result}
use Rattle.std.proofs.Common.{Ok}
use Rattle.std.proofs.Common.{Err, refl, sym, ap, subst, ◌∙◌, inr, arith, append_assoc, append-nil, length-append}
use Rattle.std.specs.Str.{IsUtf8}
use Rattle.ciborium_ll_grammar.specs.declared.spelling.Spelling.{Spelling}
use Rattle.ciborium_ll.specs.Types.Read.{Ghosts as Reader}
use Rattle.ciborium_ll.specs.Types.Write.{Ghosts as Writer}
use Rattle.ciborium_ll.specs.Types.Body.{Body}
use Rattle.ciborium_ll.specs.Types.Decoder.{Decoder}
use Rattle.ciborium_ll.specs.Types.Error.{Error}
use Rattle.ciborium_ll.specs.Types.Progress.{Progress}
use Rattle.ciborium_ll.specs.Types.Progress.TheVariants as p
use Rattle.ciborium_ll.specs.Types.Header.TheVariants as h
use Rattle.ciborium_ll.specs.Text.{IsCharacters, joined}
use Rattle.ciborium_ll.specs.Strings.{Text}
use Rattle.ciborium_ll.specs.Elements.{AreWritable}
use Rattle.ciborium_ll.specs.Chunks.{GoesOnTo}
use Rattle.ciborium_ll.specs.Decoding.{IsSteady, MovesOn, offset_of, refusals_of, PullsTitle, TakesBack, spelling_of}
use Rattle.ciborium_ll.specs.Finishing.{EndsBody, ReadsRest}
use Rattle.ciborium_ll.specs.Recoding.{BodyUnwritten}
use Rattle.ciborium_ll.specs.Progress.{opens_of}
use Rattle.ciborium_ll.specs.Segments.{AdvancesTo}
use Rattle.ciborium_ll.specs.Sides.{Sides, sides}
use Rattle.ciborium_ll.proofs.DecodingLaws.{ReadsPast-none, ReadsPast-pull, ReadsPast-then}
use Rattle.ciborium_ll.proofs.StringReads.{ReadSoFar, read_start, read_more, read_whole}
use Rattle.ciborium_ll.proofs.TitleLaws.{shortest_no_longer}
use Rattle.ciborium_ll.proofs.TextLaws.{IsCharacters-append, IsCharacters-nil}
use Rattle.ciborium_ll.proofs.Utf8Laws.{to_std}
use Rattle.uses.specs.declared.texts.TextError.{TextError}
use Rattle.uses.specs.declared.texts.TextError.TheVariants as t
use Rattle.uses.specs.Texts.{Gathers, none, more, GathersAll, AdvancesBehind, LacksMemory, ReadsText}
use Rattle.uses.specs.Texts.{SegmentsStop, StopsText}

-- ---- bodies

-- Bodies and one more body, joined, are the joined bodies and then this body.
pub joined_more : (bodies : List (List ℕ)) (body : List ℕ) → joined (bodies ++ body ∷ []) ≡ joined bodies ++ body
joined_more [] body = append-nil body
joined_more (first ∷ bodies) body =
    ap (λ (z : List ℕ). first ++ z) (joined_more bodies body) ∙ sym (append_assoc first (joined bodies) body)

-- Bodies of text, joined, are a text.
joined_text : (bodies : List (List ℕ)) → AreWritable Text bodies → IsCharacters (joined bodies)
joined_text [] sound = IsCharacters-nil
joined_text (body ∷ bodies) sound = IsCharacters-append body (joined bodies) sound.0 (joined_text bodies sound.1)

module _ {R E : Type 0} (source : Reader R E) where
  -- ---- the loop over segments

  -- These bodies were read, and joined they are the text so far.
  pub record GatheredSoFar (progress : Progress) (old : Decoder R) (count : ℕ) (text : List ℕ) (last : Progress)
      (now : Decoder R) : Type 0 where
    pub bodies : List (List ℕ)
    pub counted : length bodies ≡ count
    pub whole : text ≡ joined bodies
    pub gathers : Gathers source progress old bodies last now

  -- At the start no body was read, and the text is empty.
  pub gathered_none : (progress : Progress) (old : Decoder R) (text : List ℕ) → text ≡ []
      → GatheredSoFar progress old 0 text progress old
  gathered_none progress old text empty = record { bodies = []; counted = refl; whole = empty; gathers = none }

  -- The promises of `advance` about a string that is as strict as its decoder was.
  abbrev pub as_strict : (allowed mode : Spelling) (last after : Progress) (now new : Decoder R)
      (answer : Result (Option Body) (Error E)) → allowed ≡ mode → AdvancesTo source Text allowed last now answer after
      new
      → opens_of after + offset_of now ≤ opens_of last + offset_of new → MovesOn source now new
      → GoesOnTo source Text mode last now answer new
  as_strict allowed mode last after now new answer same advances opens moves_on = record {
    after = after;
    advanced = subst (λ (s : Spelling). AdvancesTo source Text s last now answer after new) same advances;
    opens = opens;
    moves_on = moves_on;
  }

  -- After the read of one more body, the text has this body at its end.
  pub gathered_more : (progress : Progress) (old : Decoder R) (count : ℕ) (text text' : List ℕ) (last : Progress)
      (now titled new : Decoder R) (body : Body) → GatheredSoFar progress old count text last now
      → (announced : GoesOnTo source Text (spelling_of old) last now (Ok (Some body)) titled)
      → (reads : ReadsRest source Text [] body.length titled new) → text' ≡ text ++ reads.read
      → GatheredSoFar progress old (count + 1) text' announced.after new
  gathered_more progress old count text text' last now titled new body so_far announced reads appended = record {
    bodies = so_far.bodies ++ reads.read ∷ [];
    counted = omega (arith, so_far.counted, length-append so_far.bodies (reads.read ∷ []));
    whole = appended ∙ ap (λ (z : List ℕ). z ++ reads.read) so_far.whole ∙ sym (joined_more so_far.bodies reads.read);
    gathers = more body so_far.gathers announced reads;
  }

  -- `advance` answered after the bodies read so far.
  pub goes_on : (allowed : Spelling) (progress : Progress) (old : Decoder R) (count : ℕ) (text : List ℕ)
      (last after : Progress) (now new : Decoder R) (answer : Result (Option Body) (Error E))
      → allowed ≡ spelling_of old
      → (so_far : GatheredSoFar progress old count text last now)
      → AdvancesTo source Text allowed last now answer after new
      → opens_of after + offset_of now ≤ opens_of last + offset_of new → MovesOn source now new
      → AdvancesBehind source progress old so_far.bodies answer new
  goes_on allowed progress old count text last after now new answer same so_far advances opens moves_on = record {
    last = last;
    now = now;
    gathers = so_far.gathers;
    advances = as_strict allowed (spelling_of old) last after now new answer same advances opens moves_on;
  }

  -- If the writer did not take a chunk, there was no memory for the chunk.
  lacks : {W F : Type 0} (sink : Writer W F) (len room : ℕ) (old new : Sides R W) → 0 < room
      → BodyUnwritten source sink Text len room old new → LacksMemory source len old.decoder new.decoder
  lacks sink len room old new some stops =
      let counted = length-append stops.front (stops.chunk ++ stops.kept) in
      let chunked = length-append stops.chunk stops.kept in
      record {
        begins = record {
          read = stops.front ++ (stops.chunk ++ stops.kept);
          front = stops.front ++ stops.chunk;
          left = stops.kept;
          parts = sym (append_assoc stops.front stops.chunk stops.kept);
          few = stops.few;
          stuck = stops.stuck;
          sound = stops.sound;
          within = omega (arith, stops.within, stops.filled, counted, chunked);
          passed = stops.passed;
        };
        some = omega (arith, some, stops.within, stops.filled, counted, chunked);
      }

  module _ (limit : ℕ) (progress : Progress) (old : Decoder R) (bodies : List (List ℕ)) (body : Body)
      (titled new : Decoder R) (announced : AdvancesBehind source progress old bodies (Ok (Some body)) titled) where
    -- A failed read of a body stops the segments.
    pub body_fails : (error other : Error E) (room : ℕ) → other ≡ error → room ≡ 64
        → EndsBody source Text [] body.length room body.place titled (Err error) new
        → SegmentsStop source limit progress old (t.Read other) new
    body_fails error other room same is ends = inr (record {
      bodies = bodies;
      body = body;
      titled = titled;
      goes_on = announced;
      stops = rw same (subst (λ (n : ℕ). EndsBody source Text [] body.length n body.place titled (Err error) new) is
          ends);
    })

    -- A lack of memory for a body stops the segments.
    pub body_lacks : {W F : Type 0} (sink : Writer W F) (room : ℕ) (text text' : W) → 0 < room
        → BodyUnwritten source sink Text body.length room (sides titled text) (sides new text')
        → SegmentsStop source limit progress old t.Memory new
    body_lacks sink room text text' some stops = record {
      bodies = bodies;
      body = body;
      titled = titled;
      goes_on = announced;
      stops = lacks sink body.length room (sides titled text) (sides new text') some stops;
    }

  -- ---- after the header of a text

  module _ (len : Option ℕ) (old titled pushed : Decoder R) (pulled : PullsTitle source old (h.Text len) titled)
      (back : TakesBack source titled (h.Text len) pushed) where
    -- The bodies that were gathered are the bodies of the string read so far.
    gathers_read : (bodies : List (List ℕ)) (last : Progress) (now : Decoder R)
        → Gathers source (p.Open 0) pushed bodies last now
        → ReadSoFar source Text len pulled.title titled bodies last now
    gathers_read bodies last now none =
        read_start source Text len pulled.title titled pushed pulled.is_title pulled.none_waits back
    gathers_read bodies last now (more {bodies = others} {last = before} {now = from} {titled = at} body so_far
        announced reads) =
        read_more source Text (spelling_of pushed) pulled.title titled from at others before announced.after
        announced.moves_on.steady len
        body now (gathers_read others before from so_far) announced.advanced reads

    -- All bodies of the string are the whole text.
    pub reads_text : (limit : ℕ) (text : List ℕ) (new : Decoder R) → (IsSteady source old → IsSteady source titled)
        → GathersAll source limit (p.Open 0) pushed text new → ReadsText source limit old text new
    reads_text limit text new steady all =
        let ends = all.ends in
        let read = read_whole source Text (spelling_of pushed) pulled.title titled ends.now new all.bodies ends.last
        ends.advances.after
        ends.advances.moves_on.steady len (gathers_read all.bodies ends.last ends.now ends.gathers)
        ends.advances.advanced in
        let title = ReadsPast-pull source old old titled [] (h.Text len) pulled (ReadsPast-none source old) steady in
        record {
          bytes = pulled.title ++ read.behind;
          bodies = all.bodies;
          is_string = read.is_string;
          sound = read.sound;
          whole = all.whole;
          few = all.few;
          passed = ReadsPast-then source old titled new pulled.title read.behind title read.passed;
        }

    -- If a header came and was given back, and the decoder then moved on, it moved on from the start.
    pub text_moves_on : (new : Decoder R) → MovesOn source old titled → refusals_of pushed ≡ refusals_of titled
        → MovesOn source pushed new → MovesOn source old new
    text_moves_on new first same behind = record {
      steady = λ s. behind.steady (subst (λ (r : R). IsTrue (source.steady r)) (sym back.reader) (first.steady s));
      mode = behind.mode ∙ (back.mode ∙ first.mode);
      refusals = behind.refusals ∙ (same ∙ first.refusals);
      rises = omega (
        arith,
        behind.rises,
        back.offset,
        pulled.offset,
        shortest_no_longer pulled.title (h.Text len) pulled.is_title,
      );
    }

    -- If the segments stop, the text stops.
    pub stops_text : (limit : ℕ) (error : TextError E) (new : Decoder R)
        → SegmentsStop source limit (p.Open 0) pushed error new → StopsText source limit old error new
    stops_text limit (t.Read error) new stops =
        inr (record { len = len; titled = titled; pulled = pulled; pushed = pushed; back = back; done = stops })
    stops_text limit (t.NoText at) new stops = absurd stops
    stops_text limit t.TooLong new stops =
        record { len = len; titled = titled; pulled = pulled; pushed = pushed; back = back; done = stops }
    stops_text limit t.Memory new stops =
        record { len = len; titled = titled; pulled = pulled; pushed = pushed; back = back; done = stops }

  -- A text that was read is UTF-8.
  pub text_is_utf8 : (limit : ℕ) (old : Decoder R) (text : List ℕ) (new : Decoder R)
      → ReadsText source limit old text new → IsUtf8 text
  text_is_utf8 limit old text new reads =
      to_std text (rw reads.whole (joined_text reads.bodies reads.sound))
