use Rattle.std.proofs.Common.{arith, length-append, ◌∙◌, refl}
use Rattle.ciborium_ll.proofs.DecodingLaws.{exit_is}
use Rattle.cbor_dump.specs.Takings.{taken_bytes}
use Rattle.cbor_dump.specs.StringRows.{kind_of}
use Rattle.ciborium_ll.specs.Strings.{kind_header}
use Rattle.cbor_dump.proofs.DumpLaws.{title_then}
use Rattle.cbor_dump.proofs.TitleLaws.{walk_line, string_level, string_place, behind_item, string_item}
use Rattle.cbor_dump.proofs.DumpLaws.{not_taken}
use Rattle.cbor_dump.proofs.RefusedLaws.{behind_refused}
use Rattle.cbor_dump.proofs.LeaveLaws.{reads_on, refused_stops}
use Rattle.cbor_dump.proofs.StopLaws.{rest_stops}
use Rattle.cbor_dump.proofs.WalkLaws.{stands_any}
use Rattle.cbor_dump.proofs.dump.string.Goals as goal

pub returns-in_err-shown : goal.returns-in_err-shown
returns-in_err-shown g c =
    let error = c.in_err-shown.field-0.0 in
    let same = exit_is c.from_residual.result error c.from_residual.ensures.1 in
    rw same (record {
      shows = λ depth whole start before due p taken place offset all.
          absurd (not_taken error c.in_err-shown.ensures.refusal all);
      refused = λ depth whole start before due p place offset all.
          let row = taken_bytes c.args.taken.now in
          let k = kind_of c.args.kind in
          let but = c.in_err-shown.ensures.refused c.in_err-shown.ensures.refusal in
          behind_refused g.R.Read depth start _ _ before row _ (record {
            row = but.row;
            lines = walk_line c.args.spelling depth whole start _ _ before row (kind_header k c.args.len)
                c.level-level.result c.args.place c.within-within.result c.args.walk.now due p
                (string_level k c.args.len due.nests 0) (string_place depth k c.args.len due.nests before _)
                c.level-level.ensures.value c.within-within.ensures place (rw c.header-header.ensures at but.draws);
          });
      moves = refused_stops g.R.Read error _ _ c.in_err-shown.ensures.refusal
          (reads_on g.R.Read c.args.decoder.now);
    })

pub rest-requires-clause-behind : goal.rest-requires-clause-behind
rest-requires-clause-behind g c =
    let value = c.level-level.ensures.value in let behind = c.requires.behind in omega (arith, value, behind)

pub returns-in_err-rest : goal.returns-in_err-rest
returns-in_err-rest g c =
    let error = c.in_err-rest.field-0.0 in
    let same = exit_is c.from_residual-in_err-rest.result error c.from_residual-in_err-rest.ensures.1 in
    rw same (record {
      shows = λ depth whole start before due p taken place offset all.
          let row = taken_bytes c.args.taken.now in
          let k = kind_of c.args.kind in
          let drawn = rw c.header-header.ensures at (c.in_ok-shown.ensures.draws tt) in
          let used = due.keeps.used in
          let line = walk_line c.args.spelling depth whole start _ _ before row
          (kind_header k c.args.len) c.level-level.result c.args.place c.within-within.result
          c.args.walk.now due p (string_level k c.args.len due.nests 0) (string_place depth k c.args.len due.nests before _)
          c.level-level.ensures.value c.within-within.ensures place drawn in
          let shown = c.in_err-rest.ensures.shows depth start due.nests before row
          (whole, stands_any c.args.spelling depth whole due.nests before due.within) p
          (c.level-level.ensures.value ∙ used) (omega (arith, place, offset, length-append before row)) all in
          let rest = shown.behind in
          record {
            bytes = rest.bytes;
            shows = title_then g.R.Read depth start _ _ _ before row rest.bytes _ _ line rest.shows;
            due = tt;
            passed = λ alike. tt;
            stops = λ alike. rest_stops g.R.Read c.args.spelling depth whole k c.args.len c.args.place
                before _ _
                error (record { nests = due.nests; within = due.within; is = refl }) (rest.stops alike);
          };
      refused = λ depth whole start before due p place offset all.
          let row = taken_bytes c.args.taken.now in
          let k = kind_of c.args.kind in
          let used = due.keeps.used in
          let line = walk_line c.args.spelling depth whole start _ _ before row
          (kind_header k c.args.len) c.level-level.result c.args.place c.within-within.result
          c.args.walk.now due p (string_level k c.args.len due.nests 0) (string_place depth k c.args.len due.nests before _)
          c.level-level.ensures.value c.within-within.ensures place
          (rw c.header-header.ensures at (c.in_ok-shown.ensures.draws tt)) in
          let rest = c.in_err-rest.ensures.refused depth start due.nests before row
          (whole, stands_any c.args.spelling depth whole due.nests before due.within) p
          (c.level-level.ensures.value ∙ used) (omega (arith, place, offset, length-append before row)) all in
          record {
            row = rest.row;
            how = rest.how;
            bytes = rest.bytes;
            shows = title_then g.R.Read depth start _ _ _ before row rest.bytes _ _ line rest.shows;
          };
      moves = c.in_err-rest.ensures.moves;
    })

pub returns : goal.returns
returns g c = record {
  shows = λ depth whole start before due p taken place offset all.
      let row = taken_bytes c.args.taken.now in
      let k = kind_of c.args.kind in
      let drawn = rw c.header-header.ensures at (c.in_ok-shown.ensures.draws tt) in
      let used = due.keeps.used in
      let line = walk_line c.args.spelling depth whole start _ _ before row
      (kind_header k c.args.len) c.level-level.result c.args.place c.within-within.result
      c.args.walk.now due p (string_level k c.args.len due.nests 0) (string_place depth k c.args.len due.nests before _)
      c.level-level.ensures.value c.within-within.ensures place drawn in
      let shown = c.in_ok-rest.ensures.shows depth start due.nests before row
      (whole, stands_any c.args.spelling depth whole due.nests before due.within) p
      (c.level-level.ensures.value ∙ used) (omega (arith, place, offset, length-append before row)) tt in
      let rest = shown.behind in
      record {
        bytes = rest.bytes;
        shows = title_then g.R.Read depth start _ _ _ before row rest.bytes _ _ line rest.shows;
        due = c.item_done.ensures c.args.spelling depth whole _
            (behind_item c.args.spelling depth whole c.args.walk.now (kind_header k c.args.len) _ before
            row rest.bytes
            due (omega arith) p (c.key_string.ensures rest.bytes shown.keeps)
            (string_item c.args.spelling k c.args.len row rest.bytes p taken rest.whole));
        passed = rest.passed;
        stops = λ alike. tt;
      };
  refused = λ depth whole start before due p place offset never. absurd never;
  moves = c.in_ok-rest.ensures.moves;
}
