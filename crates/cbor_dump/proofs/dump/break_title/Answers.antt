use Rattle.std.proofs.Common.{◌++◌, List, ℕ, subst, sym, refl, ◌∙◌}
use Rattle.ciborium_ll.proofs.DecodingLaws.{exit_is}
use Rattle.cbor_dump.specs.Takings.{taken_bytes}
use Rattle.cbor_dump.specs.declared.key.Key.TheVariants as k
use Rattle.cbor_dump.specs.Walks.{IsBehindItem}
use Rattle.cbor_dump.proofs.TitleLaws.{break_line, break_bytes}
use Rattle.cbor_dump.proofs.DumpLaws.{not_taken}
use Rattle.cbor_dump.proofs.LeaveLaws.{refusal_alone}
use Rattle.cbor_dump.proofs.dump.break_title.Goals as goal

pub returns-in_err-shown : goal.returns-in_err-shown
returns-in_err-shown g c =
    let error = c.in_err-shown.field-0.0 in
    let same = exit_is c.from_residual.result error c.from_residual.ensures.1 in
    rw same (record {
      draws = λ allowed depth whole start before due p at all.
          absurd (not_taken error c.in_err-shown.ensures.refusal all);
      refused = λ allowed depth whole start before due p at all.
          let but = c.in_err-shown.ensures.refused c.in_err-shown.ensures.refusal in
          record {
            row = but.row;
            lines = break_line allowed depth whole start _ _ before _ c.level-level.result c.args.place
                c.close-closed.result c.close-closed.new.self (c.close-closed.ensures allowed depth whole before due) p
                c.level-level.ensures.value at but.draws;
          };
      alone = refusal_alone error c.in_err-shown.ensures.refusal;
    })

pub returns-then-not-closed : goal.returns-then-not-closed
returns-then-not-closed g c = record {
  draws = λ allowed depth whole start before due p at all. record {
    lines = break_line allowed depth whole start _ _ before _ c.level-level.result c.args.place c.close-closed.result
        c.close-closed.new.self (c.close-closed.ensures allowed depth whole before due) p c.level-level.ensures.value at
        (c.in_ok-shown.ensures.draws tt);
    due = tt;
    stops =
        let breaks = c.close-closed.ensures allowed depth whole before due in (
          record { nests = breaks.nests; within = breaks.within; not_closable = breaks.may ∙ c.if-not-closed.true },
          refl,
          refl,
        );
  };
  refused = λ allowed depth whole start before due p at never. absurd never;
  alone = tt;
}

pub returns : goal.returns
returns g c = record {
  draws = λ allowed depth whole start before due p at all.
      let breaks = c.close-closed.ensures allowed depth whole before due in
      let title = taken_bytes c.args.taken.now in
      record {
        lines =
            break_line allowed depth whole start _ _ before _ c.level-level.result c.args.place c.close-closed.result
            c.close-closed.new.self breaks p c.level-level.ensures.value at
            (c.in_ok-shown.ensures.draws tt);
        due = c.item_done.ensures allowed depth whole _
            (subst (λ (z : List ℕ). IsBehindItem allowed depth whole c.close-closed.new.self k.Other (before ++ z))
            (sym (break_bytes title p)) (breaks.behind c.if-not-closed.false));
        stops = tt;
      };
  refused = λ allowed depth whole start before due p at never. absurd never;
  alone = tt;
}
