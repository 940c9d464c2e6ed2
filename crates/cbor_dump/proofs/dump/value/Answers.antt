use Rattle.std.proofs.Common.{arith}
use Rattle.ciborium_ll.proofs.DecodingLaws.{exit_is}
use Rattle.cbor_dump.specs.Takings.{taken_bytes}
use Rattle.cbor_dump.proofs.TitleLaws.{walk_line, value_level, value_place, value_item, behind_alone}
use Rattle.cbor_dump.proofs.DumpLaws.{not_taken}
use Rattle.cbor_dump.proofs.LeaveLaws.{refusal_alone}
use Rattle.cbor_dump.proofs.dump.value.Goals as goal

pub returns-in_err-shown : goal.returns-in_err-shown
returns-in_err-shown g c =
    let error = c.in_err-shown.field-0.0 in
    let same = exit_is c.from_residual.result error c.from_residual.ensures.1 in
    rw same (record {
      draws = λ allowed depth whole start before due p taken at all.
          absurd (not_taken error c.in_err-shown.ensures.refusal all);
      refused = λ allowed depth whole start before due p at all.
          let but = c.in_err-shown.ensures.refused c.in_err-shown.ensures.refusal in
          record {
            row = but.row;
            lines = walk_line allowed depth whole start _ _ before _ c.args.header c.level-level.result c.args.place
                c.within-within.result
                c.args.walk.now due p (value_level c.args.header due.nests 0 c.requires.value)
                (value_place depth c.args.header due.nests before _ c.requires.value)
                c.level-level.ensures.value c.within-within.ensures at but.draws;
          };
      alone = refusal_alone error c.in_err-shown.ensures.refusal;
    })

pub returns : goal.returns
returns g c = record {
  draws = λ allowed depth whole start before due p taken at all. record {
    lines = walk_line allowed depth whole start _ _ before _ c.args.header c.level-level.result c.args.place
        c.within-within.result
        c.args.walk.now
        due p
        (value_level c.args.header due.nests 0 c.requires.value)
        (value_place depth c.args.header due.nests before _ c.requires.value) c.level-level.ensures.value c.within-within.ensures at
        (c.in_ok-shown.ensures.draws tt);
    due = c.item_done.ensures allowed depth whole _ (behind_alone allowed depth whole c.args.walk.now
        c.args.header _ before (taken_bytes c.args.taken.now) due (omega arith) p c.key_alone.ensures
        (value_item allowed c.args.header (taken_bytes c.args.taken.now) c.requires.value p taken));
    stops = tt;
  };
  refused = λ allowed depth whole start before due p at never. absurd never;
  alone = tt;
}
