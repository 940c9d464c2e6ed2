use Rattle.std.proofs.Common.{◌≡◌, ◌+◌, ◌≤◌, ℕ, List, [], ◌++◌, length, arith, subst, sym, ◌∙◌}
use Rattle.ciborium_ll_grammar.specs.declared.spelling.Spelling.TheVariants.{Any}
use Rattle.cbor_dump.specs.Keys.{body_bytes, most_key}
use Rattle.cbor_dump.specs.Takings.{taken_bytes}
use Rattle.cbor_dump.specs.StringRows.{kind_of}
use Rattle.cbor_dump.proofs.DumpLaws.{not_taken, shows_none, shows_says}
use Rattle.ciborium_ll.proofs.DecodingLaws.{exit_is, ReadsPast-none}
use Rattle.cbor_dump.proofs.StringLaws.{taken_all, part_fails, part_shown, push_kept, writable_none}
use Rattle.cbor_dump.proofs.StringLaws.{body_stops}
use Rattle.cbor_dump.specs.Endings.{ending_of}
use Rattle.cbor_dump.specs.Levels.{Meant}
use Rattle.cbor_dump.proofs.LeaveLaws.{reads_on, reads_then, refused_stops, says_stops, stops_then}
use Rattle.cbor_dump.proofs.PullLaws.{passes_idle}
use Rattle.cbor_dump.proofs.RowLaws.{row_few}
use Rattle.cbor_dump.proofs.PartLaws.{part_behind}
use Rattle.cbor_dump.proofs.strings.body.Goals as goal

pub rows-init : goal.rows-init
rows-init g c = record {
  so_far = λ depth start opens nests outer title due p level at. record {
    shown = record {
      front = [];
      shows = shows_none g.R.Read depth start _ (outer ++ title) _;
      counted = omega arith;
      written = writable_none (kind_of c.args.kind);
      passed = λ none. ReadsPast-none g.R.Read c.args.decoder.now;
    };
    keeps = λ short. c.requires.none;
  };
  rises = omega arith;
  moves = reads_on g.R.Read c.args.decoder.now;
}

pub returns-in-Err : goal.returns-in-Err
returns-in-Err g c = record {
  shows = λ depth start opens nests outer title allowed due p level at all.
      let so_far = (c.rows.invariant.so_far depth start opens nests outer title due p level at).shown in
      let row = taken_bytes c.read_part.new.taken in
      let keeps = rw c.offset-offset.ensures.same at c.read_part.ensures.keeps in
      let takes = taken_all g.R.Read _ row _ _ c.new-taken.ensures keeps in
      record {
        behind = record {
          bytes = so_far.front ++ row;
          shows = shows_says g.R.Read allowed c.in-Err.error c.fault.result depth start _ _ (outer ++ title)
              (so_far.front ++ row) _ _ c.fault.ensures.says all
              (part_fails g.R.Read allowed c.in-Err.error depth start opens nests outer title (kind_of c.args.kind)
              c.args.len c.rows.left c.args.level c.offset-offset.result _ _ _ row _ _ _
              (record { due = due; is_title = p; below = level }) at so_far takes c.read_part.ensures.most
              c.offset-offset.ensures.value (c.fault.ensures.draws all)
              ((rw c.in-Err.is at c.read_part.ensures.row) c.rows-test.true) (row_few c.read_part.new.taken)
              c.rows-test.true
              ((rw (c.offset-offset.ensures.same, c.in-Err.is) at c.read_part.ensures.left) c.rows-test.true));
          whole = tt;
          passed = λ alike. tt;
          stops = λ alike.
              let idle = alike.none_waits in
              let passed = so_far.passed idle in
              let between = passes_idle g.R.Read _ _ so_far.front passed idle in
              let error = rw (c.offset-offset.ensures.same, c.in-Err.is) at c.read_part.ensures.reads in
              body_stops g.R.Read (kind_of c.args.kind) c.args.len c.args.place _ _ c.in-Err.error c.fault.result
              c.fault.ensures.says
              (part_behind g.R.Read (kind_of c.args.kind) c.args.len c.rows.left c.args.place so_far.front _ _ _
              c.in-Err.error passed so_far.written so_far.counted (error c.rows-test.true between));
        };
        keeps = tt;
      };
  rises =
      let keeps = rw c.offset-offset.ensures.same at c.read_part.ensures.keeps in
      let moved = keeps.takes.offset in
      let so_far = c.rows.invariant.rises in
      omega (arith, moved, so_far);
  refused = λ depth start opens nests outer title due p level at all.
      let so_far = (c.rows.invariant.so_far depth start opens nests outer title due p level at).shown in
      let row = taken_bytes c.read_part.new.taken in
      let keeps = rw c.offset-offset.ensures.same at c.read_part.ensures.keeps in
      let takes = taken_all g.R.Read _ row _ _ c.new-taken.ensures keeps in
      let but = c.fault.ensures.refused all in
      record {
        row = but.row;
        how = ending_of Any c.in-Err.error;
        bytes = so_far.front ++ row;
        shows = part_fails g.R.Read Any c.in-Err.error depth start opens nests outer title (kind_of c.args.kind)
            c.args.len c.rows.left c.args.level c.offset-offset.result _ _ _ row _ _ _
            (record { due = due; is_title = p; below = level }) at so_far takes c.read_part.ensures.most
            c.offset-offset.ensures.value but.draws
            ((rw c.in-Err.is at c.read_part.ensures.row) c.rows-test.true) (row_few c.read_part.new.taken)
            c.rows-test.true
            ((rw (c.offset-offset.ensures.same, c.in-Err.is) at c.read_part.ensures.left) c.rows-test.true);
      };
  moves = says_stops g.R.Read c.in-Err.error c.fault.result _ _ c.fault.ensures.says
      (stops_then g.R.Read c.in-Err.error _ _ _ c.rows.invariant.moves
      (rw (c.offset-offset.ensures.same, c.in-Err.is) at c.read_part.ensures.moves));
}

pub returns-in_err-shown : goal.returns-in_err-shown
returns-in_err-shown g c =
    let error = c.in_err-shown.field-0.0 in
    let same = exit_is c.from_residual.result error c.from_residual.ensures.1 in
    rw same (record {
      shows = λ depth start opens nests outer title allowed due p level at all.
          absurd (not_taken error c.in_err-shown.ensures.refusal all);
      rises =
          let keeps = rw c.offset-offset.ensures.same at c.read_part.ensures.keeps in
          let moved = keeps.takes.offset in
          let so_far = c.rows.invariant.rises in
          omega (arith, moved, so_far);
      refused = λ depth start opens nests outer title due p level at all.
          let so_far = (c.rows.invariant.so_far depth start opens nests outer title due p level at).shown in
          let row = taken_bytes c.read_part.new.taken in
          let keeps = rw c.offset-offset.ensures.same at c.read_part.ensures.keeps in
          let takes = taken_all g.R.Read _ row _ _ c.new-taken.ensures keeps in
          let ok = rw c.in_default.is at c.read_part.ensures.written in
          let full = rw c.in_default.is at c.read_part.ensures.full in
          let went = (rw (c.offset-offset.ensures.same, c.in_default.is) at c.read_part.ensures.reads) c.rows-test.true
          in
          let but = c.in_err-shown.ensures.refused c.in_err-shown.ensures.refusal in
          let shown = part_shown g.R.Read depth start opens nests outer title c.args.kind c.args.len c.rows.left
          c.args.level c.offset-offset.result _ _ _ row _ _ _ (record { due = due; is_title = p; below = level }) at
          so_far takes c.read_part.ensures.most c.offset-offset.ensures.value ok full went
          (rw c.meaning.ensures at but.draws)
          ((rw c.in_default.is at c.read_part.ensures.some) c.rows-test.true, row_few c.read_part.new.taken) in
          record { row = but.row; how = Meant; bytes = shown.0.front; shows = shown.0.shows };
      moves = refused_stops g.R.Read error _ _ c.in_err-shown.ensures.refusal
          (reads_then g.R.Read _ _ _ c.rows.invariant.moves
          (rw (c.offset-offset.ensures.same, c.in_default.is) at c.read_part.ensures.moves));
    })

pub rows-preserved : goal.rows-preserved
rows-preserved g c = record {
  so_far = λ depth start opens nests outer title due p level at.
      let up = c.rows.invariant.so_far depth start opens nests outer title due p level at in
      let so_far = up.shown in
      let row = taken_bytes c.read_part.new.taken in
      let keeps = rw c.offset-offset.ensures.same at c.read_part.ensures.keeps in
      let takes = taken_all g.R.Read _ row _ _ c.new-taken.ensures keeps in
      let ok = rw c.in_default.is at c.read_part.ensures.written in
      let full = rw c.in_default.is at c.read_part.ensures.full in
      let went = (rw (c.offset-offset.ensures.same, c.in_default.is) at c.read_part.ensures.reads) c.rows-test.true in
      let shown = part_shown g.R.Read depth start opens nests outer title c.args.kind c.args.len c.rows.left
      c.args.level
      c.offset-offset.result _ _ _ row _ _ _ (record { due = due; is_title = p; below = level }) at so_far takes
      c.read_part.ensures.most c.offset-offset.ensures.value ok full went
      (rw c.meaning.ensures at (c.in_ok-shown.ensures.draws tt))
      ((rw c.in_default.is at c.read_part.ensures.some) c.rows-test.true, row_few c.read_part.new.taken) in
      rw c.len-left.ensures.value (record {
        shown = shown.0;
        keeps = λ short. push_kept c.args.len c.rows.left so_far.front row c.rows.kept c.push.new.self so_far.counted
            c.read_part.ensures.most (up.keeps short)
            (subst (λ (z : List ℕ). length (body_bytes c.rows.kept) + length z ≤ most_key
            → body_bytes c.push.new.self ≡ body_bytes c.rows.kept ++ z) c.bytes.ensures c.push.ensures) short ∙ sym shown.1;
      });
  rises =
      let keeps = rw c.offset-offset.ensures.same at c.read_part.ensures.keeps in
      let moved = keeps.takes.offset in
      let so_far = c.rows.invariant.rises in
      omega (arith, moved, so_far);
  moves = reads_then g.R.Read _ _ _ c.rows.invariant.moves
      (rw (c.offset-offset.ensures.same, c.in_default.is) at c.read_part.ensures.moves);
}

pub returns : goal.returns
returns g c = record {
  shows = λ depth start opens nests outer title allowed due p level at all.
      let up = c.rows.invariant.so_far depth start opens nests outer title due p level at in
      let so_far = up.shown in
      let counted = so_far.counted in
      record {
        behind = record {
          bytes = so_far.front;
          shows = so_far.shows;
          whole = (omega (arith, counted), so_far.written);
          passed = λ alike. so_far.passed alike.none_waits;
          stops = λ alike. tt;
        };
        keeps = up.keeps;
      };
  rises = c.rows.invariant.rises;
  refused = λ depth start opens nests outer title due p level at never. absurd never;
  moves = c.rows.invariant.moves;
}
