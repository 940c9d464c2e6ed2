-- The condition under which a copy succeeds, and the bytes that it wrote and left, in terms of `Shortens`.
use Rattle.std.proofs.Common.{◌≡◌, ℕ, inl, inr, List, ◌++◌, length, Some, None, Result, Ok}
use Rattle.std.proofs.Common.{Err, IsOk, sym, ap, ◌∙◌, arith}
use Rattle.ciborium_ll_io.specs.declared.io.Read.{Ghosts as Reader}
use Rattle.ciborium_ll_io.specs.declared.io.Write.{Ghosts as Writer}
use Rattle.ciborium_ll_decoder.specs.declared.copy.RecodeError.{RecodeError}
use Rattle.ciborium_ll_grammar.specs.declared.spelling.Spelling.{Spelling}
use Rattle.ciborium_ll_grammar.specs.declared.spelling.Spelling.TheVariants.{Any}
use Rattle.ciborium_ll_grammar.specs.Elements.{spelling}
use Rattle.ciborium_ll_decoder.specs.BodyCopies.{Sides}
use Rattle.ciborium_ll_recode.specs.Recoding.{CopiesElements}
use Rattle.ciborium_ll_recode.specs.RecodingTold.{HasRoom, IsReady, CopiesFront, RecodesTold}
use Rattle.ciborium_ll_recode.specs.Exactly.{OnlyBytesStop, CopiesExactly}
use Rattle.ciborium_ll_decoder.proofs.BodyLaws.{view_none}
use Rattle.ciborium_ll_recode.proofs.RecodeReadyLaws.{recode_told, recode_exactly}
use Rattle.ciborium_ll_recode.proofs.ShortenedLaws.{front_shortened}
use Rattle.ciborium_ll_recode.proofs.ShortensLaws.{shortened_front, shortened_again, shortened_one}

module _ {R E W F : Type 0} {allowed : Spelling} (source : Reader R E) (sink : Writer W F) (count room : ℕ)
    (old : Sides R W) (due written : List ℕ)
    (alone : OnlyBytesStop source sink allowed count room old.decoder old.writer due written) where
  ready : IsReady source sink allowed count room old due written
  ready =
      let ahead = view_none old.decoder.waiting (source.ahead old.decoder.reader) alone.none_waits ∙ alone.due-told in
      let enough : HasRoom count due alone.room = elim alone.enough [
        | inl copy ↦ (
            let front = shortened_front Any count due copy.0 copy.1 copy.2 in
            let fits = copy.3 in
            inl (front.0, omega (arith, ap length front.1, fits))
            )
        | inr fits ↦ inr fits
      ] in
      record {
        mode = alone.mode;
        can_read = record {
          none_waits = λ on. alone.none_waits;
          steady = alone.steady;
          told = ahead;
          fits-title = alone.fits-title;
          fits-chunk = alone.fits-chunk;
        };
        can_write = record {
          told = alone.written-told;
          room = alone.room;
          room-told = alone.room-told;
          enough = enough;
        };
      }

  module _ (new : Sides R W) where
    -- After a copy no header waits.
    none_waits : CopiesFront source sink allowed count due written old.decoder new → new.decoder.waiting ≡ None
    none_waits front = let none = alone.none_waits in grind (arith, none)

    copies_front : (result : Result (Unit {0}) (RecodeError E F)) → RecodesTold source sink allowed count due written
        old.decoder result new → IsOk result → CopiesFront source sink allowed count due written old.decoder new
    copies_front (Ok done) told ok = told
    copies_front (Err error) told ok = absurd cc

    pub exactly : (result : Result (Unit {0}) (RecodeError E F)) → CopiesElements source sink count room old result new
        → CopiesExactly source sink allowed count due written result new.decoder new.writer
    exactly result all =
        let ok = recode_exactly source sink count room old due written ready new result all in
        let told = recode_told source sink count room old due written ready new result all in
        record {
          just = (
            λ is. let front = ok.0 is in (spelling front.marks, front.rest, front_shortened allowed count due front),
            λ copy. ok.1 (shortened_front allowed count due copy.0 copy.1 copy.2).0,
          );
          copied = λ copy rest is. (
              let copies = copies_front result told (ok.1 (shortened_front allowed count due copy rest is).0) in
              let same = shortened_one allowed allowed count due _ _ copy rest (front_shortened allowed count due
              copies.front) is in (
                copies.output ∙ ap (λ (z : List ℕ). Some (written ++ z)) same.0,
                sym (view_none new.decoder.waiting (source.ahead new.decoder.reader) (none_waits copies)) ∙ copies.left
                    ∙ ap (λ (z : List ℕ). Some z) same.1,
              )
              );
          again = λ copy rest is. shortened_again allowed count due copy rest is;
        }
