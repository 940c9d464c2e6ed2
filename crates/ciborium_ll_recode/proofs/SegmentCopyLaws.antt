-- The copy of a string's segments, after its open.
use Rattle.std.proofs.Common.{◌≡◌, ℕ, List, [], ◌∷◌, ◌++◌, length, Option, Some, None, Result, Ok, Err, refl, sym}
use Rattle.std.proofs.Common.{ap, subst, ◌∙◌, inl, inr, arith, append_assoc, length-append, ◌≤◌, ◌+◌}
use Rattle.std.proofs.KnownBytes.{Appends-nil}
use Rattle.ciborium_ll_io.specs.declared.io.Read.{Ghosts as Reader}
use Rattle.ciborium_ll_io.specs.declared.io.Write.{Ghosts as Writer}
use Rattle.ciborium_ll_io.specs.Writes.{WritesAll}
use Rattle.ciborium_ll_io.proofs.WriteLaws.{Shrinks-zero}
use Rattle.ciborium_ll_grammar.specs.declared.spelling.Spelling.{Spelling}
use Rattle.ciborium_ll_grammar.specs.declared.hdr.Header.TheVariants as h
use Rattle.ciborium_ll_grammar.specs.Title.{shortest_title}
use Rattle.ciborium_ll_grammar.specs.Strings.{Kind, kind_header}
use Rattle.ciborium_ll_grammar.specs.Elements.{Open, Piece, spelling, pieces, open_marks}
use Rattle.ciborium_ll_grammar.specs.Faults.{In, BodyDue, inside, body_inside}
use Rattle.ciborium_ll_grammar.proofs.StepLaws.{counted, close_last}
use Rattle.ciborium_ll_grammar.proofs.ElementLaws.{open_spelled}
use Rattle.ciborium_ll_grammar.proofs.SpelledLaws.{pieces_meant, open_meant, spelled_then, spelled_title}
use Rattle.ciborium_ll_decoder.specs.declared.copy.RecodeError.{RecodeError}
use Rattle.ciborium_ll_decoder.specs.declared.copy.RecodeError.TheVariants as r
use Rattle.ciborium_ll_decoder.specs.declared.dec.Decoder.{Decoder}
use Rattle.ciborium_ll_decoder.specs.declared.dec.Error.{Error}
use Rattle.ciborium_ll_decoder.specs.declared.dec.Error.TheVariants as e
use Rattle.ciborium_ll_decoder.specs.declared.seg.Body.{Body}
use Rattle.ciborium_ll_decoder.specs.declared.seg.Progress.{Progress}
use Rattle.ciborium_ll_decoder.specs.declared.seg.Progress.TheVariants as p
use Rattle.ciborium_ll_decoder.specs.BodyCopies.{BodyWritten, CopiesBody, Sides, sides}
use Rattle.ciborium_ll_decoder.specs.Decoding.{IsSteady, offset_limit, spelling_of}
use Rattle.ciborium_ll_decoder.specs.Segments.{AdvancesTo}
use Rattle.ciborium_ll_decoder.proofs.DecodingLaws.{ReadsPast-then}
use Rattle.ciborium_ll_decoder.proofs.NestLaws.{alone_bytes, title_some}
use Rattle.ciborium_ll_decoder.proofs.SegmentLaws.{AdvancesAmong, IsAmong, StringSoFar, advances_among, opens_counted}
use Rattle.ciborium_ll_decoder.proofs.SegmentLaws.{other_inside, piece_spelled, segment_added, so_far_opened, some_open}
use Rattle.ciborium_ll_recode.specs.Recoding.{StopsCopy, IsWithin, ReadsString}
use Rattle.ciborium_ll_recode.proofs.CopyLaws.{StandsAt, marks_then, mark_then, writes_then, title_stops, body_stops}
use Rattle.ciborium_ll_recode.proofs.CopyLaws.{copied_pulled, title_taken}

module _ {R E W F : Type 0} (source : Reader R E) (sink : Writer W F) (k : Kind) where
  -- The invariant of the loop: the bodies so far were read, and written as pieces.
  pub record CopiedSoFar (opened : Sides R W) (progress : Progress) (now : Sides R W) : Type 0 where
    pub bodies : List (List ℕ)
    pub so_far : StringSoFar source k bodies opened.decoder progress now.decoder
    pub written : WritesAll sink opened.writer (spelling (pieces k bodies)) now.writer

  -- After the open nothing more of the string was read or written.
  pub copied_opened : (opened : Sides R W) (now : Decoder R) (progress : Progress) → opened.decoder.waiting ≡ None
      → progress ≡ p.Open 1 → now ≡ opened.decoder → CopiedSoFar opened progress (sides now opened.writer)
  copied_opened opened now progress settled begun same =
      let so_far = so_far_opened source k opened.decoder now progress settled begun same in
      search (Appends-nil, Shrinks-zero)

  module _ {opened now : Sides R W} {progress : Progress} (so_far : CopiedSoFar opened progress now) where
    -- The effect of the next call of `advance`.
    abbrev pub Leads : Result (Option Body) (Error E) → Progress → Decoder R → Type 0
    Leads result after new = AdvancesAmong source k so_far.bodies opened.decoder now.decoder result after new

    pub leads : (allowed : Spelling) → allowed ≡ spelling_of opened.decoder → (result : Result (Option Body) (Error E))
        (after : Progress) (new : Decoder R) → AdvancesTo source k allowed progress now.decoder result after new
        → (IsSteady source now.decoder → IsSteady source new) → Leads result after new
    leads allowed mode result after new advances steady = advances_among source k so_far.bodies opened.decoder
        now.decoder allowed result progress after new mode so_far.so_far advances steady

    -- ---- after whole elements

    module _ {count before : ℕ} {old : Sides R W} (outer : IsWithin source sink count before k old opened) where
      -- How far the whole copy came if a title of the string is due.
      stands_inside : {left : ℕ} {between : Decoder R}
          (among : IsAmong source k left so_far.bodies opened.decoder between)
          → StandsAt source sink count old (outer.bytes ++ (shortest_title (kind_header k None) ++ among.strings))
          (outer.marks ++ Open k ∷ pieces k so_far.bodies) (In k) (sides between now.writer)
      stands_inside {left} {between} among =
          let front = shortest_title (kind_header k None) in
          let passed = rw append_assoc at (ReadsPast-then source old.decoder opened.decoder between (outer.bytes ++ front)
          among.strings outer.copied.passed among.passed) in
          let written = rw append_assoc at (marks_then source sink (outer.marks ++ Open k ∷ []) (pieces k so_far.bodies)
          outer.copied.written so_far.written) in
          record {
            reach = inside outer.due outer.run (counted k left _ _ among.within) among.sound;
            copied = search;
            -- A strict decoder's bytes are the spelling that was written.
            strict = λ on none.
                spelled_then outer.bytes outer.marks _ (Open k ∷ pieces k so_far.bodies) (outer.strict on none)
                (ap (λ (z : List ℕ). front ++ z) (among.tight (outer.copied.passed.mode ∙ on)).1)
                (tt, pieces_meant k so_far.bodies);
          }

      -- `advance` failed, so the copy stops.
      pub segments_stop : (room : ℕ) (error : Error E) {after : Progress} {new : Decoder R}
          → Leads (Err error) after new → StopsCopy source sink count room old (r.Read error) (sides new now.writer)
      segments_stop room (e.Io fault) {new = new} all =
          title_stops source sink room (stands_inside all.among) tt refl new (e.Io fault) all.ends.0
      segments_stop room (e.Syntax at) {after} {new} all = elim all.ends [
        | inl refused ↦ title_stops source sink room (stands_inside all.among) tt refl new (e.Syntax at) refused.0
        | inr other ↦ (
            let stands = stands_inside all.among in
            let refused = other_inside source k (spelling_of opened.decoder) all.left all.between at after new
            all.among.passed.mode (some_open k all.left _ _ all.among.within) other in
            inr (inl (search))
            )
      ]
      segments_stop room e.TooLong {new = new} all = elim all.ends [
        | inl passes ↦ title_stops source sink room (stands_inside all.among) tt refl new e.TooLong passes.0
        | inr deep ↦ (
            let stands = stands_inside all.among in
            let title = title_some deep.pulled.title (kind_header k None) deep.pulled.is_title in
            let opens = opens_counted k all.left _ _ all.among.within in
            let full : offset_limit ≤ new.offset + 1 = omega (arith, length-append {A = ℕ}) in
            inr (inl (search))
            )
      ]
      segments_stop room e.Waiting all = absurd all.ends

      -- The last break ends the string.
      pub segments_end : {after : Progress} {new : Decoder R} → Leads (Ok None) after new
          → ReadsString source sink before k old (sides new now.writer)
      segments_end {new = new} all =
          let among = all.among in
          let bodies = so_far.bodies in
          let front = shortest_title (kind_header k None) in
          let string = front ++ among.strings in
          let stands = stands_inside among in
          let break = alone_bytes all.ends.pulled.title h.Break all.ends.pulled.is_title refl in
          let pulled = copied_pulled source sink stands.copied all.ends.pulled
          (λ s. all.steady (outer.copied.passed.steady s)) in
          let passed = rw (break, append_assoc outer.bytes string (0xff ∷ [])) at pulled.passed in
          record {
            bytes = outer.bytes;
            marks = outer.marks;
            run = outer.run;
            element = string ++ 0xff ∷ [];
            bodies = bodies;
            is_element = close_last k string bodies (rw all.ends.last at among.within) among.sound;
            copied = search;
            strict = λ on none.
                let tight = among.tight (outer.copied.passed.mode ∙ on) in
                spelled_then outer.bytes outer.marks (string ++ 0xff ∷ []) (open_marks k bodies) (outer.strict on none)
                (ap (λ (z : List ℕ). (front ++ z) ++ 0xff ∷ []) tight.1 ∙ append_assoc front
                (spelling (pieces k bodies)) (0xff ∷ []) ∙ sym (open_spelled k bodies))
                (open_meant k bodies);
          }

      -- ---- a segment after its title

      module _ {body : Body} {after : Progress} {new : Decoder R} (all : Leads (Ok (Some body)) after new) where
        -- The body of the segment is due.
        pub announced : StandsAt source sink count old
            ((outer.bytes ++ (shortest_title (kind_header k None) ++ all.among.strings)) ++ all.ends.pulled.title)
            (outer.marks ++ Open k ∷ pieces k so_far.bodies) (BodyDue k body.length
            (length (outer.bytes ++ (shortest_title (kind_header k None) ++ all.among.strings)))) (sides new now.writer)
        announced =
            let stands = stands_inside all.among in
            let pulled = all.ends.pulled in
            record {
              reach = body_inside stands.reach pulled.is_title;
              copied = copied_pulled source sink stands.copied pulled (λ s. all.steady (outer.copied.passed.steady s));
              strict = λ on none.
                  let only = title_taken source sink stands.copied pulled on none in
                  spelled_title _ _ pulled.title _ (stands.strict on none) only.shortest;
            }

        -- The copy of the body stopped, so the whole copy stops.
        pub segment_stops : (room : ℕ) (titled : W) (ended : Sides R W) (error : RecodeError E F)
            → WritesAll sink now.writer (shortest_title (kind_header k (Some body.length))) titled
            → CopiesBody source sink k body.length room body.place (sides new titled) (Err error) ended
            → StopsCopy source sink count room old error ended
        segment_stops room titled ended error title stops =
            body_stops source sink room announced title ended error
            (subst (λ (n : ℕ). CopiesBody source sink k body.length room n (sides new titled) (Err error) ended)
            (all.ends.place ∙ (stands_inside all.among).copied.passed.offset) stops)

    -- ---- one segment more

    pub segment_copied : {body : Body} {after : Progress} {new : Decoder R} {titled : W} {ended : Sides R W}
        → opened.decoder.waiting ≡ None → Leads (Ok (Some body)) after new
        → WritesAll sink now.writer (shortest_title (kind_header k (Some body.length))) titled
        → BodyWritten source sink k body.length (sides new titled) ended
        → (IsSteady source new → IsSteady source ended.decoder) → CopiedSoFar opened after ended
    segment_copied {body} {after} {new} {ended = ended} settled all title whole steady =
        let b = whole.ends.read in
        let lengths : body.length ≡ length b = sym whole.ends.all in
        record {
          bodies = so_far.bodies ++ b ∷ [];
          so_far = segment_added source k so_far.bodies opened.decoder now.decoder new ended.decoder body after settled
              all whole.ends steady;
          written = rw piece_spelled (mark_then source sink (pieces k so_far.bodies) (Piece k b) so_far.written
              (writes_then source sink (rw lengths at title) whole.written));
        }
