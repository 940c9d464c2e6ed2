use Rattle.std.proofs.Common.{◌++◌, ◌∷◌, [], ◌<◌, length, arith, refl, inl, inr}
use Rattle.std.proofs.lemmas.List.{take_rest, length-append}
use Rattle.capi.specs.declared.answer.CllAnswer.TheVariants as a
use Rattle.capi.specs.Titles.{no_titles}
use Rattle.capi.proofs.TitleRuns.{fill_step, fills_exactly, stops_exactly, step_within, titles_fill, titles_step}
use Rattle.capi.proofs.TitleRuns.{titles_stop}
use Rattle.capi.proofs.titles.fill.Goals as goal
use Rattle.capi.proofs.titles.fill.Goals.{then-titles-test+else-taken-bytes, else-titles-test}

pub titles-init : goal.titles-init
titles-init c = record {
  entries = [];
  run = no_titles;
  is_filled = refl;
  counted = refl;
  within = omega arith;
  in_room = omega arith;
}

pub titles-preserved : goal.titles-preserved
titles-preserved c =
    let kept = c.titles.invariant in
    let reads = rw (take_rest c.args.bytes.now c.titles.taken) at c.in-Some.ensures in
    let room : length kept.entries < length c.args.titles.now =
    omega (arith, c.titles-test.true, kept.counted, c.titles.auto.titles) in
    record {
      entries = kept.entries ++ c.in-Some.title ∷ [];
      run = titles_step c.args.bytes.now c.titles.taken c.in-Some.len c.in-Some.title reads kept.within kept.entries
          kept.run;
      is_filled = rw c.assign.ensures (fill_step c.args.titles.now c.titles.titles kept.entries c.titles.filled
          c.in-Some.title kept.is_filled kept.counted room);
      counted = omega (arith, kept.counted, length-append kept.entries (c.in-Some.title ∷ []));
      within = step_within c.args.bytes.now c.titles.taken c.in-Some.len c.in-Some.title reads kept.within;
      in_room = omega (arith, room, length-append kept.entries (c.in-Some.title ∷ []));
    }

pub returns-in-None-clause-filled : goal.returns-in-None-clause-filled
returns-in-None-clause-filled c =
    let kept = c.titles.invariant in
    let none = rw (take_rest c.args.bytes.now c.titles.taken) at c.in-None.ensures in
    titles_stop c.args.bytes.now c.args.titles.now c.titles.titles kept.entries c.titles.taken c.titles.filled
    c.stop.result c.stop.new.report kept.run c.if-taken-bytes.true kept.is_filled kept.counted
    (omega (arith, c.titles-test.true, kept.counted, c.titles.auto.titles)) none c.stop.ensures

pub returns-in-None-clause-exactly : goal.returns-in-None-clause-exactly
returns-in-None-clause-exactly c taken entries =
    fills_exactly c.args.bytes.now c.args.titles.now c.titles.titles c.stop.new.report c.stop.result
    (returns-in-None-clause-filled c) taken entries

pub returns-in-None-clause-stopped : goal.returns-in-None-clause-stopped
returns-in-None-clause-stopped c taken entries =
    stops_exactly c.args.bytes.now c.args.titles.now c.titles.titles c.stop.new.report c.stop.result
    (returns-in-None-clause-filled c) taken entries

pub returns-clause-filled : goal.returns-clause-filled
returns-clause-filled c =
    let kept = c.titles.invariant in
    titles_fill c.args.bytes.now c.args.titles.now c.titles.titles kept.entries c.titles.taken c.titles.filled
    c.say.new.self kept.run kept.within kept.is_filled kept.counted kept.in_room
    (elim c.titles-test.branch [
      | then-titles-test+else-taken-bytes w ↦ inr (omega (arith, w.if-taken-bytes.false, kept.within))
      | else-titles-test w ↦ inl
          (omega (arith, w.titles-test.false, kept.counted, kept.in_room, c.titles.auto.titles))
    ]) c.say.ensures

pub returns-clause-exactly : goal.returns-clause-exactly
returns-clause-exactly c taken entries =
    fills_exactly c.args.bytes.now c.args.titles.now c.titles.titles c.say.new.self a.Ok (returns-clause-filled c) taken
    entries

pub returns-clause-stopped : goal.returns-clause-stopped
returns-clause-stopped c taken entries =
    stops_exactly c.args.bytes.now c.args.titles.now c.titles.titles c.say.new.self a.Ok (returns-clause-filled c) taken
    entries
