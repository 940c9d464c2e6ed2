use Rattle.std.proofs.Common.{[], ◌++◌, length, Err, refl, ◌∙◌, arith}
use Rattle.ciborium_ll.proofs.DecodingLaws.{exit_is}
use Rattle.cbor_dump.specs.Checking.{ReadsAsCheck}
use Rattle.cbor_dump.specs.Dumps.{AreRowsTaken, IsErrorOfItem}
use Rattle.ciborium_ll.specs.Items.{IsTakenTitle}
use Rattle.ciborium_ll.specs.Title.{IsTitle}
use Rattle.ciborium_ll.proofs.NestLaws.{title_some}
use Rattle.cbor_dump.specs.Takings.{IsInMode, taken_bytes}
use Rattle.cbor_dump.proofs.RowLaws.{row_few}
use Rattle.cbor_dump.proofs.StringLaws.{taken_all}
use Rattle.cbor_dump.specs.Endings.{ending_of}
use Rattle.cbor_dump.proofs.DumpLaws.{shows_none, shows_read, shows_then}
use Rattle.cbor_dump.proofs.LeaveLaws.{dump_then, ended_leaves, reads_on, reads_then, stops_then}
use Rattle.cbor_dump.proofs.PullLaws.{no_error, passes_alike, same_error}
use Rattle.cbor_dump.proofs.CheckLaws.{comes_first, comes_next, comes_alike, comes_end, comes_title, answers_told}
use Rattle.cbor_dump.proofs.CheckLaws.{answers_exactly}
use Rattle.cbor_dump.proofs.TitleLaws.{nests_few, up_ended, up_fails, up_title}
use Rattle.cbor_dump.proofs.dump.dump.Goals as goal

pub titles-init : goal.titles-init
titles-init g c = (
  record {
    bytes = [];
    shows = shows_none g.R.Read c.args.depth _ _ [] _;
    whole = 0;
    due = c.new-walk.ensures c.args.spelling;
    came = λ alike. comes_first g.R.Read c.args.spelling c.args.depth c.new-walk.result c.args.decoder.now
        (c.new-walk.ensures c.args.spelling) alike;
  },
  λ waits. (refl, refl),
  reads_on g.R.Read c.args.decoder.now,
)

pub returns-in-Err : goal.returns-in-Err
returns-in-Err g c =
    let row = taken_bytes c.read_title.new.self in
    let keeps = rw c.offset-place.ensures.same at c.read_title.ensures.keeps in
    let takes = taken_all g.R.Read _ row _ _ c.new-taken.ensures keeps in
    let up = c.titles.invariant.0 in
    let level = c.level-level.ensures.value in
    let place = c.offset-place.ensures.value in
    let ended = c.ended.ensures.ends in
    let reads : IsInMode c.args.spelling c.args.decoder.now → AreRowsTaken c.ended.result
    → ReadsAsCheck g.R.Read c.args.depth c.args.decoder.now c.ended.result c.read_title.new.decoder =
    λ alike all.
    let come = up.came alike in
    let here = comes_alike g.R.Read c.args.spelling c.args.depth c.titles.walk _ _ come in
    let fails = (rw (c.offset-place.ensures.same, c.in-Err.is) at c.read_title.ensures.pulls) here place in
    comes_end g.R.Read c.args.spelling c.args.depth c.titles.walk _ _ come c.in-Err.error (length row) _
    c.ended.result
    (let used = come.due.keeps.used in let same = come.due.keeps.same_depth in omega (arith, used, same)) fails
    takes.offset (rw level at ended) all
    in
    record {
      shows = λ all. up_ended g.R.Read c.args.spelling c.args.depth _ _ _ c.titles.walk row
          c.offset-place.result
          c.level-level.result _ _ _ c.in-Err.error c.ended.result up takes place level (c.ended.ensures.draws all)
          ended (rw c.in-Err.is at c.read_title.ensures.row)
          (row_few c.read_title.new.self)
          (rw (c.offset-place.ensures.same, c.in-Err.is) at c.read_title.ensures.left) all;
      waits = λ waits.
          let still = c.titles.invariant.1 waits in
          let refused = (rw (c.offset-place.ensures.same, still.0, c.in-Err.is) at c.read_title.ensures.waits) waits in
          let answered = c.ended.ensures.waits (same_error _ _ refused.0) refused.1 in
          record {
            answer = answered.0;
            no_row = answered.1 ∙ still.1;
            refuses = refused.2;
          };
      reads = reads;
      told = λ due alike ready all. answers_told g.R.Read c.args.depth c.args.decoder.now due ready c.ended.result _
          (reads alike all);
      exactly = λ due alike ready all. answers_exactly g.R.Read c.args.depth c.args.decoder.now due ready
          c.ended.result _ (reads alike all);
      refused = λ all.
          let but = c.ended.ensures.refused all in
          record {
            row = but.row;
            how = ending_of c.args.spelling c.in-Err.error;
            bytes = up.bytes ++ row;
            shows = up_fails g.R.Read c.args.spelling c.in-Err.error c.args.depth _ _ _ c.titles.walk row
                c.offset-place.result c.level-level.result _ _ _ up takes place level but.draws
                (rw c.in-Err.is at c.read_title.ensures.row) (row_few c.read_title.new.self)
                (rw (c.offset-place.ensures.same, c.in-Err.is) at c.read_title.ensures.left);
          };
      moves = ended_leaves g.R.Read c.in-Err.error _ _ c.ended.result _ _ ended
          (stops_then g.R.Read c.in-Err.error _ _ _ c.titles.invariant.2
          (rw (c.offset-place.ensures.same, c.in-Err.is) at c.read_title.ensures.moves));
    }

-- Each nest has a title, and the title that was read has at least one byte.
pub title-requires : goal.title-requires
title-requires g c =
    let row = taken_bytes c.read_title.new.self in
    let keeps = rw c.offset-place.ensures.same at c.read_title.ensures.keeps in
    let takes = taken_all g.R.Read _ row _ _ c.new-taken.ensures keeps in
    let moved = takes.offset in
    let up = c.titles.invariant.0 in
    let begun = up.shows.takes.offset in
    let used = up.due.keeps.used in
    let few = nests_few c.args.spelling c.args.depth up.whole up.due.nests up.bytes up.due.within in
    let titled : IsTitle row c.in-Ok.header = rw c.in-Ok.is at c.read_title.ensures.title in
    let some = title_some row c.in-Ok.header titled in
    record { behind = omega (arith, moved, begun, used, few, some) }

pub returns-in_err-title : goal.returns-in_err-title
returns-in_err-title g c =
    let error = c.in_err-title.field-0.0 in
    let same = exit_is c.from_residual.result error c.from_residual.ensures.1 in
    rw same (let row = taken_bytes c.read_title.new.self in
    let keeps = rw c.offset-place.ensures.same at c.read_title.ensures.keeps in
    let takes = taken_all g.R.Read _ row _ _ c.new-taken.ensures keeps in
    let moved = takes.offset in
    let up = c.titles.invariant.0 in
    let begun = up.shows.takes.offset in
    let place = c.offset-place.ensures.value in
    let titled : IsTitle row c.in-Ok.header = rw c.in-Ok.is at c.read_title.ensures.title in
    let taken : IsTakenTitle c.args.spelling row c.in-Ok.header = rw c.in-Ok.is at
    c.read_title.ensures.taken in
    let some = title_some row c.in-Ok.header titled in
    let reads : IsInMode c.args.spelling c.args.decoder.now → IsErrorOfItem error
    → ReadsAsCheck g.R.Read c.args.depth c.args.decoder.now (Err error)
    c.title.new.decoder = λ alike all.
    let come = up.came alike in
    let here = comes_alike g.R.Read c.args.spelling c.args.depth c.titles.walk _ _ come in
    let went = (rw (c.offset-place.ensures.same, c.in-Ok.is) at c.read_title.ensures.passes) here.none_waits in
    let pulls = (rw (c.offset-place.ensures.same, c.in-Ok.is) at c.read_title.ensures.pulls) here place in
    let at = come.passed.offset in
    let title = c.in_err-title.ensures.shows c.args.depth 0 come.between.offset come.bytes come.due titled taken
    (omega (arith, place, at)) (omega (arith, place, moved)) all in
    let behind = title.shows.takes.offset in
    comes_title g.R.Read c.args.spelling c.args.depth c.titles.walk _ _ come error c.in-Ok.header
    c.offset-place.result _ _ pulls.0 pulls.1 place (omega (arith, behind)) (omega (arith, moved, some))
    (title.stops (passes_alike g.R.Read c.args.spelling _ _ row went here)) all
    in
    record {
      shows = λ all.
          let title = c.in_err-title.ensures.shows c.args.depth up.whole c.args.decoder.now.offset up.bytes up.due
          titled taken (omega (arith, place, begun)) (omega (arith, place, moved)) all in
          record {
            bytes = up.bytes ++ (row ++ title.bytes);
            shows = up_title g.R.Read c.args.spelling c.args.depth up.whole _ _ _ _ _ up.bytes _ row _ _ _
                _ _ up.shows
                takes title;
            whole = tt;
          };
      waits = λ waits.
          let still = c.titles.invariant.1 waits in
          absurd (no_error _ _
          ((rw (c.offset-place.ensures.same, still.0, c.in-Ok.is) at c.read_title.ensures.waits) waits).0);
      reads = reads;
      told = λ due alike ready all. answers_told g.R.Read c.args.depth c.args.decoder.now due ready
          (Err error) _ (reads alike all);
      exactly = λ due alike ready all. answers_exactly g.R.Read c.args.depth c.args.decoder.now due ready
          (Err error) _ (reads alike all);
      refused = λ all.
          let title = c.in_err-title.ensures.refused c.args.depth up.whole c.args.decoder.now.offset up.bytes up.due
          titled (omega (arith, place, begun)) (omega (arith, place, moved)) all in
          record {
            row = title.row;
            how = title.how;
            bytes = up.bytes ++ (row ++ title.bytes);
            shows = shows_then g.R.Read c.args.depth c.args.decoder.now.offset _ _ _ [] up.bytes (row ++ title.bytes)
                _ _ _ up.shows
                (shows_read g.R.Read c.args.depth c.args.decoder.now.offset _ _ up.bytes row title.bytes _ _ _ takes
                title.shows);
          };
      moves = dump_then g.R.Read error _ _ _ (reads_then g.R.Read _ _ _ c.titles.invariant.2
          (rw (c.offset-place.ensures.same, c.in-Ok.is) at c.read_title.ensures.moves)) c.in_err-title.ensures.moves;
    })

pub titles-smaller : goal.titles-smaller
titles-smaller g c =
    let row = taken_bytes c.read_title.new.self in
    let keeps = rw c.offset-place.ensures.same at c.read_title.ensures.keeps in
    let takes = taken_all g.R.Read _ row _ _ c.new-taken.ensures keeps in
    let moved = takes.offset in
    let up = c.titles.invariant.0 in
    let begun = up.shows.takes.offset in
    let place = c.offset-place.ensures.value in
    let titled : IsTitle row c.in-Ok.header = rw c.in-Ok.is at c.read_title.ensures.title in
    let taken : IsTakenTitle c.args.spelling row c.in-Ok.header = rw c.in-Ok.is at
    c.read_title.ensures.taken in
    let some = title_some row c.in-Ok.header titled in
    let title = c.in_ok-title.ensures.shows c.args.depth up.whole c.args.decoder.now.offset up.bytes
    up.due titled taken (omega (arith, place, begun)) (omega (arith, place, moved)) tt in
    let behind = title.shows.takes.offset in
    omega (arith, moved, some, behind)

pub titles-preserved : goal.titles-preserved
titles-preserved g c = (
  let row = taken_bytes c.read_title.new.self in
      let keeps = rw c.offset-place.ensures.same at c.read_title.ensures.keeps in
      let takes = taken_all g.R.Read _ row _ _ c.new-taken.ensures keeps in
      let moved = takes.offset in
      let up = c.titles.invariant.0 in
      let begun = up.shows.takes.offset in
      let place = c.offset-place.ensures.value in
      let titled : IsTitle row c.in-Ok.header = rw c.in-Ok.is at c.read_title.ensures.title in
      let taken : IsTakenTitle c.args.spelling row c.in-Ok.header = rw c.in-Ok.is at
      c.read_title.ensures.taken in
      let title = c.in_ok-title.ensures.shows c.args.depth up.whole c.args.decoder.now.offset up.bytes
      up.due titled taken (omega (arith, place, begun)) (omega (arith, place, moved)) tt in
      record {
        bytes = up.bytes ++ (row ++ title.bytes);
        shows = up_title g.R.Read c.args.spelling c.args.depth up.whole _ _ _ _ _ up.bytes _ row _ _ _ _ _
            up.shows
            takes title;
        whole = _;
        due = title.due;
        came = λ alike.
            let come = up.came alike in
            let here = comes_alike g.R.Read c.args.spelling c.args.depth c.titles.walk _ _ come in
            let went = (rw (c.offset-place.ensures.same, c.in-Ok.is) at c.read_title.ensures.passes) here.none_waits in
            let at = come.passed.offset in
            let next = c.in_ok-title.ensures.shows c.args.depth 0 come.between.offset come.bytes
            come.due titled taken (omega (arith, place, at)) (omega (arith, place, moved)) tt in
            comes_next g.R.Read c.args.spelling c.args.depth c.titles.walk _ _ _ _ _ come row next.bytes
            went
            (next.passed (passes_alike g.R.Read c.args.spelling _ _ row went here)) next.due;
      },
  λ waits.
      let still = c.titles.invariant.1 waits in
      absurd (no_error _ _
      ((rw (c.offset-place.ensures.same, still.0, c.in-Ok.is) at c.read_title.ensures.waits) waits).0),
  reads_then g.R.Read _ _ _ (reads_then g.R.Read _ _ _ c.titles.invariant.2
      (rw (c.offset-place.ensures.same, c.in-Ok.is) at c.read_title.ensures.moves)) c.in_ok-title.ensures.moves,
)
