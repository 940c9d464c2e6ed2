use Rattle.std.proofs.Common.{refl}
use Rattle.ciborium_ll.proofs.DecodingLaws.{exit_is}
use Rattle.cbor_dump.proofs.TitleLaws.{walk_line, nest_level, nest_place}
use Rattle.cbor_dump.proofs.DumpLaws.{not_taken}
use Rattle.cbor_dump.proofs.LeaveLaws.{refusal_alone}
use Rattle.cbor_dump.proofs.dump.nest.Goals as goal

pub returns-in_err-shown : goal.returns-in_err-shown
returns-in_err-shown g c =
    let error = c.in_err-shown.field-0.0 in
    let same = exit_is c.from_residual.result error c.from_residual.ensures.1 in
    rw same (record {
      draws = λ allowed depth whole start before due p taken at all.
          absurd (not_taken error c.in_err-shown.ensures.refusal all);
      refused = λ allowed depth whole start before due p at all.
          let but = c.in_err-shown.ensures.refused c.in_err-shown.ensures.refusal in
          record {
            row = but.row;
            lines = walk_line allowed depth whole start _ _ before _ c.args.header c.level-level.result c.args.place
                c.within-within.result
                c.args.walk.now due p (nest_level c.args.header due.nests 0 c.requires.nest)
                (nest_place depth c.args.header due.nests before _ c.requires.nest)
                c.level-level.ensures.value c.within-within.ensures at but.draws;
          };
      alone = refusal_alone error c.in_err-shown.ensures.refusal;
    })

pub returns-in-Deep : goal.returns-in-Deep
returns-in-Deep g c = record {
  draws = λ allowed depth whole start before due p taken at all. record {
    lines = walk_line allowed depth whole start _ _ before _ c.args.header c.level-level.result c.args.place
        c.within-within.result
        c.args.walk.now
        due p
        (nest_level c.args.header due.nests 0 c.requires.nest)
        (nest_place depth c.args.header due.nests before _ c.requires.nest) c.level-level.ensures.value c.within-within.ensures at
        (c.in_ok-shown.ensures.draws tt);
    due = tt;
    stops = (c.in-Deep.ensures allowed depth whole before _ due p taken, c.requires.nest, refl);
  };
  refused = λ allowed depth whole start before due p at never. absurd never;
  alone = tt;
}

pub returns-in-Within : goal.returns-in-Within
returns-in-Within g c = record {
  draws = λ allowed depth whole start before due p taken at all. record {
    lines = walk_line allowed depth whole start _ _ before _ c.args.header c.level-level.result c.args.place
        c.within-within.result
        c.args.walk.now
        due p
        (nest_level c.args.header due.nests 0 c.requires.nest)
        (nest_place depth c.args.header due.nests before _ c.requires.nest) c.level-level.ensures.value c.within-within.ensures at
        (c.in_ok-shown.ensures.draws tt);
    due = c.in-Within.ensures allowed depth whole before _ due p taken;
    stops = tt;
  };
  refused = λ allowed depth whole start before due p at never. absurd never;
  alone = tt;
}

pub returns-in-Empty : goal.returns-in-Empty
returns-in-Empty g c = record {
  draws = λ allowed depth whole start before due p taken at all. record {
    lines = walk_line allowed depth whole start _ _ before _ c.args.header c.level-level.result c.args.place
        c.within-within.result
        c.args.walk.now
        due p
        (nest_level c.args.header due.nests 0 c.requires.nest)
        (nest_place depth c.args.header due.nests before _ c.requires.nest) c.level-level.ensures.value c.within-within.ensures at
        (c.in_ok-shown.ensures.draws tt);
    due = c.item_done.ensures allowed depth whole _ (c.in-Empty.ensures allowed depth whole before _ due p taken);
    stops = tt;
  };
  refused = λ allowed depth whole start before due p at never. absurd never;
  alone = tt;
}
