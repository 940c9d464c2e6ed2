use Rattle.std.proofs.Common.{rules, refl, length}
use Rattle.ciborium_ll_decoder.specs.declared.copy.RecodeError.TheVariants as r
use Rattle.ciborium_ll_decoder.proofs.DecodingLaws.{exit_is, MovesOn-then}
use Rattle.ciborium_ll_recode.proofs.CopyLaws.{pulled_covers, title_answered, element_copied, pull_stops, plain_goes_on}
use Rattle.ciborium_ll_recode.proofs.recode.copy_element.Goals as goal

pub returns-in_err-_header : goal.returns-in_err-_header
returns-in_err-_header g c =
    let same = exit_is c.from_residual.result (r.Read c.in_err-_header.field-0.0) c.from_residual.ensures.1 in
    record {
      copied = λ count before old behind.
          rw same (pull_stops g.R.Read g.W.Write behind (length c.args.buffer.now) c.pull_title.new.decoder
          c.in_err-_header.field-0.0 c.in_err-_header.ensures.header);
      moves_on = c.pull_title.ensures.moves_on;
      target = refl;
    }

pub copy_string-requires-clause-covered : goal.copy_string-requires-clause-covered
copy_string-requires-clause-covered g c =
    let arm = c.in-Bytes in
    let is = c.element.ensures.bytes _ arm.len c.in_ok-_header.ensures.title arm.is in
    rw is at (pulled_covers g.R.Read g.W.Write _ _ _ c.in_ok-_header.ensures.header)

pub copy_string-requires-in-Text-clause-covered : goal.copy_string-requires-in-Text-clause-covered
copy_string-requires-in-Text-clause-covered g c =
    let arm = c.in-Text in
    let is = c.element.ensures.text _ arm.len c.in_ok-_header.ensures.title arm.is in
    rw is at (pulled_covers g.R.Read g.W.Write _ _ _ c.in_ok-_header.ensures.header)

pub returns-in-Bytes : goal.returns-in-Bytes
returns-in-Bytes g c =
    let arm = c.in-Bytes in
    let is = c.element.ensures.bytes _ arm.len c.in_ok-_header.ensures.title arm.is in
    let pulled = rw is at c.in_ok-_header.ensures.header in
    record {
      copied = element_copied g.R.Read g.W.Write (length c.args.buffer.now) _ _ pulled
          c.pull_title.ensures.moves_on.steady c.copy_string.ensures.copied;
      moves_on = MovesOn-then g.R.Read _ _ _ c.pull_title.ensures.moves_on c.copy_string.ensures.moves_on;
      target = c.copy_string.ensures.target;
    }

pub returns-in-Text : goal.returns-in-Text
returns-in-Text g c =
    let arm = c.in-Text in
    let is = c.element.ensures.text _ arm.len c.in_ok-_header.ensures.title arm.is in
    let pulled = rw is at c.in_ok-_header.ensures.header in
    record {
      copied = element_copied g.R.Read g.W.Write (length c.args.buffer.now) _ _ pulled
          c.pull_title.ensures.moves_on.steady c.copy_string-in-Text.ensures.copied;
      moves_on = MovesOn-then g.R.Read _ _ _ c.pull_title.ensures.moves_on c.copy_string-in-Text.ensures.moves_on;
      target = c.copy_string-in-Text.ensures.target;
    }

pub returns-in-Plain : goal.returns-in-Plain
returns-in-Plain g c =
    let header = c.in_ok-_header._header in
    let title = c.in_ok-_header.ensures.title in
    let writer = c.args.encoder.now.writer in
    record {
      copied = element_copied g.R.Read g.W.Write (length c.args.buffer.now) _ _ c.in_ok-_header.ensures.header
          c.pull_title.ensures.moves_on.steady (λ count before old bytes is only behind.
          plain_goes_on g.R.Read g.W.Write behind (length c.args.buffer.now) header c.map_err.result
          c.push_title.new.encoder.writer (c.element.ensures.plain header title c.in-Plain.is) is only
          (title_answered g.W.Write writer c.push_title.result c.map_err.result _ header
          c.push_title.new.encoder.writer c.push_title.ensures.title (c.shortest.ensures.bytes header title)
          (search rules)));
      moves_on = c.pull_title.ensures.moves_on;
      target = c.push_title.ensures.target;
    }
