use Rattle.std.proofs.Common.{drop, subst, arith}
use Rattle.std.proofs.lemmas.List.{take_rest, length-drop}
use Rattle.ciborium_ll_grammar.specs.declared.spelling.Spelling.TheVariants.{Any}
use Rattle.cbor_skip.specs.ItemFaults.{BeginsWithItem}
use Rattle.capi.proofs.TitleReads.{no_item, place_told, stops_short, stops_fault}
use Rattle.capi.proofs.titles.stop.Goals as goal
use Rattle.capi.proofs.titles.stop.Goals.{in-Short, in_default}

pub due_behind-place-requires-clause-cut : goal.due_behind-place-requires-clause-cut
due_behind-place-requires-clause-cut c = λ front.
    no_item (drop c.args.taken c.args.bytes.now) c.requires.none 1
    (subst (BeginsWithItem Any 1) (take_rest c.args.bytes.now c.args.taken) front)

pub overflow_add-place : goal.overflow_add-place
overflow_add-place c =
    let bytes = c.args.bytes.now in
    let skips = rw (take_rest bytes c.args.taken) at c.skip-answer.ensures.skipped in
    let most = place_told (drop c.args.taken bytes) c.requires.none c.skip-answer.result c.skip-answer.new.report skips
    c.in_default.not-Short in
    omega (arith, most, length-drop c.args.taken bytes)

pub returns : goal.returns
returns c =
    let bytes = c.args.bytes.now in
    let skips = rw (take_rest bytes c.args.taken) at c.skip-answer.ensures.skipped in
    elim c.match-answer.branch [
      | in-Short w ↦ (
          let lacks = rw (take_rest bytes c.args.taken) at w.due_behind-place.ensures in
          rw w.in-Short.is (stops_short bytes c.args.taken c.args.filled c.skip-answer.new.report c.say.new.self _
          (rw w.in-Short.is at skips) lacks (rw w.place-is at c.say.ensures))
          )
      | in_default w ↦ stops_fault bytes c.args.taken c.args.filled c.requires.none c.skip-answer.result
          c.skip-answer.new.report c.say.new.self c.match-answer.place skips w.in_default.not-Short w.place-is
          c.say.ensures
    ]
