-- The loan of a string's decoder to a segment.
use Rattle.std.specs.Prelude.{[], ◌≡◌, ◌≤◌, ◌+◌, Option, Some, None, Result, Ok, Err}
use Rattle.std.specs.Borrow.{follows, follows_so, GName, MutBor, Fml, RattleType}
use mathlib.Core.Option as maybe
use mir.Syntax.{named}
use Rattle.ciborium_ll_io.specs.declared.io.Read.{Ghosts}
use Rattle.ciborium_ll_decoder.specs.declared.dec.Decoder.{Decoder}
use Rattle.ciborium_ll_decoder.specs.declared.dec.Error.{Error}
use Rattle.ciborium_ll_decoder.specs.declared.seg.Body.{Body}
use Rattle.ciborium_ll_decoder.specs.declared.seg.Segments.{Segments}
use Rattle.ciborium_ll_decoder.specs.declared.seg.Segment.{Segment}
use Rattle.ciborium_ll_decoder.specs.declared.seg.Parser.{Ghosts as Parser}
use Rattle.ciborium_ll_decoder.specs.contracts.dec.Decoder as decoder
use Rattle.ciborium_ll_decoder.specs.contracts.seg.Segments as segments
use Rattle.ciborium_ll_decoder.specs.Decoding.{MovesOn, offset_of}
use Rattle.ciborium_ll_grammar.specs.Strings.{Kind}
use Rattle.ciborium_ll_decoder.specs.Progress.{opens_of}
use Rattle.ciborium_ll_decoder.specs.Segments.{AdvancesTo, string_spelling}

-- The string with this decoder under its reference, and otherwise as it was. With a decoder at offset 3, the string has
-- its decoder at offset 3.
abbrev pub with_decoder : {R P : Type 0} {parser : Parser P} → Segments R P parser → Decoder R → Segments R P parser
with_decoder s d = record s { decoder = record s.decoder { now = d } }

module _ {R E P : Type 0} {parser : Parser P} (source : Ghosts R E) (kind : Kind) where
  -- `advance` of a string gives this result, and leads from the old string to the new. The number of opens that aren't
  -- closed rises by no more than the offset does. Over `5f 41`, one rises by 1 and the other by 2.
  pub record SegmentsAdvance (old : Segments R P parser) (result : Result (Option Body) (Error E))
      (new : Segments R P parser) : Type 0 where
    pub same_reference : new.decoder.ghost_name ≡ old.decoder.ghost_name
    pub advances : AdvancesTo source kind (string_spelling old) old.progress old.decoder.now result new.progress
        new.decoder.now
    pub mode : string_spelling new ≡ string_spelling old
    pub opens : opens_of new.progress + offset_of old.decoder.now ≤ opens_of old.progress + offset_of new.decoder.now
    pub moves_on : MovesOn source old.decoder.now new.decoder.now

module _ {R P E : Type 0} {parser : Parser P} where
  -- The reference to the decoder in the result's segment, if the result has one: over `42`, and not in `Ok(None)`.
  abbrev pub lent_reference : Result (Option (Segment R P parser)) (Error E) → maybe.Option GName
  lent_reference (Ok (Some segment)) = maybe.some segment.decoder.ghost_name
  lent_reference (Ok None) = maybe.none
  lent_reference (Err error) = maybe.none

  -- The answer of `advance` that belongs to an answer of `pull`: a body in place of a whole segment. For a segment at
  -- the place 3 with 2 unread bytes, this is a body at 3 of 2 bytes.
  abbrev pub advance_answer : Result (Option (Segment R P parser)) (Error E) → Result (Option Body) (Error E)
  advance_answer (Ok (Some segment)) = Ok (Some (record { length = segment.unread; place = segment.place }))
  advance_answer (Ok None) = Ok None
  advance_answer (Err error) = Err error

  -- If the result has a segment, the segment holds the decoder that this string holds. If the segment's is at offset 1,
  -- so is the string's.
  abbrev pub HoldsDecoder : Result (Option (Segment R P parser)) (Error E) → Segments R P parser → Type 0
  HoldsDecoder (Ok (Some segment)) s = segment.decoder.now ≡ s.decoder.now
  HoldsDecoder (Ok None) s = Unit {0}
  HoldsDecoder (Err error) s = Unit {0}

module _ (R P : RattleType) {parser : Parser P.Denot} where
  -- After the segment is gone, the string holds the decoder that the segment left: at offset 3, if it read the body of
  -- `42 01 02`.
  abbrev pub lends_segment : MutBor (Segments R.Denot P.Denot parser) → Segment R.Denot P.Denot parser → Fml
  lends_segment s segment =
      follows (segments.the_row (record { mir = named 1; lft = [] }) R P parser) (decoder.the_row R) s.ghost_name
      segment.decoder.ghost_name
      (with_decoder s.now)

  -- The string is as `advance` left it. A segment in the result has the decoder of that string. After the segment is
  -- gone, the string has the decoder that the segment left. In `42 01 02` the segment has it at offset 1, and may leave
  -- it at 3.
  abbrev pub pulls_segment : {E : Type 0} → Ghosts R.Denot E → MutBor (Segments R.Denot P.Denot parser)
      → Result (Option (Segment R.Denot P.Denot parser)) (Error E) → Fml
  pulls_segment source s result =
      follows_so (segments.the_row (record { mir = named 1; lft = [] }) R P parser) (decoder.the_row R) s.ghost_name
      (lent_reference result)
      (λ left ended. (advanced : Segments R.Denot P.Denot parser) × SegmentsAdvance source parser.kind s.now
      (advance_answer result) advanced × HoldsDecoder result advanced × (ended ≡ with_decoder advanced left))
      (SegmentsAdvance source parser.kind s.now (advance_answer result))
