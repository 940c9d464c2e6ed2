-- The meaning of a copy of headers if the bytes are told: the premises turn the general statement into an exact
-- statement. This file re-exports the lemmas of told bytes.
use Rattle.std.proofs.Common.{◌≡◌, ℕ, ◌<◌, ◌≤◌, List, [], ◌∷◌, ◌++◌, ◌⊎◌, length, Some, Result, Ok, Err, IsOk, ◌↔◌}
use Rattle.std.proofs.Common.{refl, sym, ap, ◌∙◌, inl, inr, arith, append_assoc, length-append}
use Rattle.ciborium_ll_io.specs.declared.io.Read.{Ghosts as Reader}
use Rattle.ciborium_ll_io.specs.declared.io.Write.{Ghosts as Writer}
use Rattle.ciborium_ll_grammar.specs.declared.hdr.Header.{Header}
use Rattle.ciborium_ll_decoder.specs.declared.dec.Error.{Error}
use Rattle.ciborium_ll_decoder.specs.declared.dec.Error.TheVariants as e
use Rattle.ciborium_ll_decoder.specs.declared.copy.RecodeError.{RecodeError}
use Rattle.ciborium_ll_decoder.specs.declared.copy.RecodeError.TheVariants as r
use Rattle.ciborium_ll_grammar.specs.Title.{IsTitle, shortest_title, BeginsRefused, IsCutTitle}
use Rattle.ciborium_ll_decoder.specs.Decoding.{MovesOn, view}
use Rattle.ciborium_ll.specs.Copying.{CopiesByHeaders, AreTitles, none, next, shortest_titles, TitlesInFront, Copies}
use Rattle.ciborium_ll.specs.Copying.{CopiesEach, StopsAtPull, StopsAtPush, CopiesHeaders, IsReadyForTitles}
use Rattle.ciborium_ll.specs.Copying.{CopiesTitles, CopiesSoMany, CopiesTold}
use Rattle.ciborium_ll_decoder.specs.BodyCopies.{Sides}
use Rattle.ciborium_ll_decoder.proofs.DecodingLaws.{lenient_refuses}
pub use Rattle.ciborium_ll_decoder.proofs.ToldLaws.{consumes_told, next_read_small, first_gone, refused_byte}
pub use Rattle.ciborium_ll_io.proofs.WriteLaws.{appends_told, shrinks_told}
use Rattle.ciborium_ll_grammar.proofs.TitleLaws.{one_title, shortest_no_longer, title_refused}
use Rattle.ciborium_ll_grammar.proofs.AffixLaws.{title_not_cut}

-- ---- fewer titles before a fault, and more titles at the start of the bytes

-- If the same bytes also begin with more titles, one more title follows the fewer titles.
title_behind : {ts ts' : List ℕ} {hs hs' : List Header} (r r' : List ℕ) → AreTitles ts hs → AreTitles ts' hs'
    → ts ++ r ≡ ts' ++ r' → length hs < length hs'
    → (t : List ℕ) × (h : Header) × (more : List ℕ) × IsTitle t h × (r ≡ t ++ more)
title_behind r r' titles none e l = absurd (omega arith)
title_behind r r' none (next {title = t} {rest = q} {header = h} p ps) e l =
    (t, h, q ++ r', p, e ∙ append_assoc t q r')
title_behind r r' (next {title = t} {rest = q} p ps) (next {title = t'} {rest = q'} p' ps') e l =
    let same = one_title t t' (q ++ r) (q' ++ r') _ _ p p' (sym (append_assoc t q r) ∙ e ∙ append_assoc t' q' r') in
    title_behind r r' ps ps' same.2 (omega arith)

-- ---- bytes that are written

-- The shortest titles of headers are no longer than any titles of these headers.
titles_no_longer : (ts : List ℕ) (hs : List Header) → AreTitles ts hs → length (shortest_titles hs) ≤ length ts
titles_no_longer ts hs none = omega arith
titles_no_longer ts hs (next {title = t} {rest = q} {header = h} {headers = gs} p ps) =
    grind (arith, shortest_no_longer t h p, titles_no_longer q gs ps, length-append)

-- ---- the general statement with the premises

module _ {R E W F : Type 0} {source : Reader R E} {sink : Writer W F} {old : Sides R W} {due written : List ℕ} where
  -- The bytes due begin with titles of the headers that were copied, and the rest is due next.
  abbrev copies_front : {headers : List Header} {between : Sides R W} → IsReadyForTitles source sink old due written
      → Copies source sink headers old between → (front : CopiesTitles source sink headers due written between.writer)
      × (view source between.decoder ≡ Some front.rest)
  copies_front {headers} ready copied =
      let told = consumes_told _ _ due copied.bytes ready.can_read.told copied.passed.consumed in (
        record {
          front = copied.bytes;
          rest = told.0;
          parts = told.2;
          titles = copied.titles;
          output = appends_told _ _ written (shortest_titles headers) ready.can_write.told copied.written.appended;
        },
        told.1,
      )

  module _ (ready : IsReadyForTitles source sink old due written) (count : ℕ) (new : Sides R W) where
    told_all : CopiesEach source sink count old new → CopiesSoMany source sink count due written old.decoder new
    told_all all =
        let f = copies_front ready all.copied in
        record {
          headers = all.headers;
          all = all.all;
          copied = f.0;
          again = all.again;
          left = f.1;
          offset = all.copied.passed.offset;
        }

    told_stop : (error : Error E) → StopsAtPull source sink count old error new
        → CopiesTold source sink count due written old.decoder (Err (r.Read error)) new
    told_stop (e.Io fault) stops =
        let f = copies_front ready stops.copied in
        let cut = stops.stopped.steady (stops.copied.passed.steady ready.can_read.steady) in
        let gone = consumes_told _ _ f.0.rest stops.stopped.read f.1 cut.0 in
        let ends = rw f.1 at cut.1 in
        record {
          headers = stops.headers;
          fewer = stops.fewer;
          copied = f.0;
          cut = ends.0;
          left = gone.1 ∙ ap Some (first_gone f.0.rest stops.stopped.read gone.0 gone.2 ends.1);
          offset = grind (arith, ends.1, stops.stopped.offset, stops.copied.passed.offset);
        }
    told_stop (e.Syntax place) stops =
        let f = copies_front ready stops.copied in
        let stopped = lenient_refuses source stops.between place new.decoder (stops.copied.passed.mode ∙ ready.lenient)
        stops.stopped in
        let gone = consumes_told _ _ f.0.rest (stopped.byte ∷ []) f.1 stopped.bytes in
        record {
          headers = stops.headers;
          fewer = stops.fewer;
          copied = f.0;
          refused = rw gone.2 stopped.refused;
          at = stopped.place ∙ stops.copied.passed.offset;
          left = gone.1 ∙ ap Some (refused_byte f.0.rest gone.0 stopped.byte gone.2);
          offset = omega (arith, stopped.place, stopped.offset);
        }
    told_stop e.TooLong stops =
        let f = copies_front ready stops.copied in
        let gone = consumes_told _ _ f.0.rest stops.stopped.read f.1 stops.stopped.bytes in
        absurd (grind (
          arith,
          gone.2,
          f.0.parts,
          ready.can_read.fits-title,
          stops.stopped.full,
          next_read_small stops.stopped.read,
          stops.stopped.offset,
          stops.copied.passed.offset,
          length-append,
        ))
    told_stop e.Waiting stops = absurd stops.stopped

    never_full : StopsAtPush source sink count old new → ⊥
    never_full stops =
        let can = ready.can_write in
        let f = copies_front ready stops.copied in
        let gone = consumes_told _ _ f.0.rest stops.pulled.title f.1 stops.pulled.bytes in
        let left = shrinks_told _ _ can.room (length (shortest_titles stops.headers)) can.room-told
        stops.copied.written.room in
        let less : left.0 < length (shortest_title stops.last) = rw left.1 at stops.stopped.full in
        let parts = ap length f.0.parts in
        let front = titles_no_longer f.0.front stops.headers f.0.titles in
        let title = shortest_no_longer stops.pulled.title stops.last stops.pulled.is_title in
        omega (arith, can.enough, less, left.2, parts, ap length gone.2, front, title, length-append {A = ℕ})

    told : (result : Result (Unit {0}) (RecodeError E F)) → CopiesHeaders source sink count old result new
        → CopiesTold source sink count due written old.decoder result new
    told result copied = grind (arith, told_all, told_stop, never_full)

    -- After fewer titles, a refused byte or a cut title excludes `count` titles at the start.
    fault_or_titles : {headers : List Header} (copied : CopiesTitles source sink headers due written new.writer)
        → length headers < count → BeginsRefused copied.rest ⊎ IsCutTitle copied.rest → TitlesInFront count due → ⊥
    fault_or_titles copied fewer fault front = grind (arith, title_behind, title_refused, title_not_cut)

    exactly_told : (result : Result (Unit {0}) (RecodeError E F))
        → CopiesTold source sink count due written old.decoder result new → IsOk result ↔ TitlesInFront count due
    exactly_told (Ok done) all = (λ ok. search, λ front. refl)
    exactly_told (Err (r.Read (e.Io fault))) stops =
        (λ ok. absurd cc, λ front. absurd (fault_or_titles stops.copied stops.fewer (inr stops.cut) front))
    exactly_told (Err (r.Read (e.Syntax place))) stops =
        (λ ok. absurd cc, λ front. absurd (fault_or_titles stops.copied stops.fewer (inl stops.refused) front))
    exactly_told (Err error) never = absurd never

-- The answers of the copy give the clauses of `copy_headers`.
pub copy_says : {R E W F : Type 0} (source : Reader R E) (sink : Writer W F) (count : ℕ) (old new : Sides R W)
    (result : Result (Unit {0}) (RecodeError E F)) → CopiesHeaders source sink count old result new
    → MovesOn source old.decoder new.decoder → sink.target new.writer ≡ sink.target old.writer → record {
      copied : CopiesByHeaders source sink count old result new;
      told : (due written : List ℕ) → IsReadyForTitles source sink old due written
          → CopiesTold source sink count due written old.decoder result new;
      exactly : (due written : List ℕ) → IsReadyForTitles source sink old due written
          → (IsOk result ↔ TitlesInFront count due);
    }
copy_says source sink count old new result copied moves_on target = record {
  copied = record { copied = copied; moves_on = moves_on; target = target };
  told = λ due written ready. told ready count new result copied;
  exactly = λ due written ready. exactly_told ready count new result (told ready count new result copied);
}
