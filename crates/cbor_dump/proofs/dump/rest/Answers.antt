use Rattle.std.proofs.Common.{arith, ◌-◌, ◌≡◌, ◌∙◌, ap, Some, None}
use Rattle.ciborium_ll.specs.Title.{title_len}
use Rattle.ciborium_ll.specs.Strings.{kind_header}
use Rattle.cbor_dump.specs.StringRows.{kind_of}
use Rattle.cbor_dump.proofs.StringLaws.{any_kept, any_place}
use Rattle.cbor_dump.proofs.TitleLaws.{due_here}
use Rattle.cbor_dump.proofs.dump.rest.Goals as goal

pub returns-in-Some : goal.returns-in-Some
returns-in-Some g c = record {
  shows = λ depth start nests items title stands p level at all.
      let titled = rw c.in-Some.is at p in
      let shows = (rw c.offset.ensures.same at c.body.ensures.shows) depth start 0 nests items title
      c.args.spelling
      (due_here depth nests items stands) titled (omega (arith, level)) at all in
      let named = c.title_len.ensures.value ∙ ap title_len c.header.ensures in
      let here = c.offset.ensures.value in
      let less = c.saturating_sub-place.ensures in
      let place : c.saturating_sub-place.result
      ≡ c.args.decoder.now.offset - title_len (kind_header (kind_of c.args.kind) (Some c.in-Some.len)) =
      omega (arith, less, named, here) in
      rw c.in-Some.is (rw place at shows);
  refused = λ depth start nests items title stands p level at all.
      (rw c.offset.ensures.same at c.body.ensures.refused) depth start 0 nests items title
      (due_here depth nests items stands) (rw c.in-Some.is at p) (omega (arith, level)) at all;
  moves = rw c.offset.ensures.same at c.body.ensures.moves;
}

pub returns-in-None : goal.returns-in-None
returns-in-None g c = record {
  shows = λ depth start nests items title stands p level at all.
      let titled = rw c.in-None.is at p in
      let shows = c.pieces.ensures.shows depth start nests items title stands titled level at all in
      rw c.in-None.is (record {
        behind = record {
          bytes = shows.bytes;
          shows = shows.shows;
          whole = shows.whole;
          passed = shows.passed;
          stops = λ alike. any_place g.R.Read (kind_of c.args.kind) 0
              (c.args.decoder.now.offset - title_len (kind_header (kind_of c.args.kind) None)) _ _ c.pieces.result
              (shows.stops alike);
        };
        keeps = any_kept c.pieces.result shows.bytes c.args.kept.now;
      });
  refused = λ depth start nests items title stands p level at all.
      c.pieces.ensures.refused depth start nests items title stands (rw c.in-None.is at p) level at all;
  moves = c.pieces.ensures.moves;
}
