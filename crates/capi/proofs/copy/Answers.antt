use Rattle.std.proofs.Common.{length, ap, ◌∙◌, [], refl, sym, arith}
use Rattle.ciborium_ll_grammar.specs.declared.spelling.Spelling.TheVariants.{Any}
use Rattle.capi.proofs.CopyLaws.{anyhow_said, copy_exactly, copy_said, ready_to_copy, stands_behind}
use Rattle.capi.proofs.CopyLaws.{told_to_copy}
use Rattle.capi.proofs.CountLaws.{counts_said}
use Rattle.ciborium_ll_recode.proofs.RecodeReadyLaws.{recode_exactly, recode_told}
use Rattle.ciborium_ll.specs.Sides.{sides}
use Rattle.ciborium_ll.specs.Transfer.{Target}
use Rattle.ciborium_ll.specs.RecodingTold.{HasRoom}
use Rattle.capi.proofs.copy.Goals as goal

pub returns : goal.returns
returns c =
    let due = c.args.bytes.now in
    let old = c.from-decoder.result in
    let writer = c.new-writer.result in
    let behind = c.copy_onto-copied.new.writer in
    let new = c.copy_onto-copied.new.decoder in
    let copied = c.copy_onto-copied.result in
    let all = c.copy_onto-copied.ensures.copied in
    let stop = c.stop_of_copy-answer in
    let output = c.written-written.ensures.written in
    let output_is = c.written-written.result.now in
    let target = c.copy_onto-copied.ensures.target in
    let loan = ap (λ (t : Target). t.loan) target in
    let ended = c.out-1.given.1.1 (sym c.new-writer.ensures.same_reference ∙ sym loan) in
    let stands = stands_behind behind writer output_is c.args.out.now _ target c.new-writer.ensures.before
    c.written-written.ensures.slice ended in
    let ready = λ (room : HasRoom c.args.count due (length c.args.out.now)).
    ready_to_copy _ _ Any c.args.count 1024 (length c.args.out.now) c.new.result old writer due
    c.from-decoder.ensures refl
    c.new.ensures.ahead c.new-writer.ensures.written c.new-writer.ensures.room room (omega arith) (omega arith) in
    record {
      copied = λ room.
          copy_said _ _ c.args.count due old new behind copied c.say_elements.new.self output_is c.args.out.now _
          stop.result.0 stop.result.1 c.offset.result
          (recode_told _ _ c.args.count 1024 (sides old writer) due [] (ready room) (sides new behind) copied all)
          c.from-decoder.ensures.offset output stop.ensures.answer stop.ensures.place c.offset.ensures.value
          c.say_elements.ensures.reports stands;
      exactly = λ room. copy_exactly copied stop.result.0 stop.ensures.answer
          (recode_exactly _ _ c.args.count 1024 (sides old writer) due [] (ready room) (sides new behind) copied
          all);
      anyhow =
          anyhow_said _ _ c.args.count due old new writer behind copied c.say_elements.new.self output_is c.args.out.now _
          stop.result.0 stop.result.1 c.offset.result all refl
          (told_to_copy _ _ Any c.new.result old writer due c.from-decoder.ensures c.new.ensures.ahead
          c.new-writer.ensures.written)
          c.new-writer.ensures.room (omega arith) c.from-decoder.ensures.offset output stop.ensures.answer
          stop.ensures.place c.offset.ensures.value c.say_elements.ensures.reports stands;
      counted =
          counts_said _ _ c.args.count due old new writer behind c.say_elements.new.self (length c.args.out.now) refl
          (told_to_copy _ _ Any c.new.result old writer due c.from-decoder.ensures c.new.ensures.ahead
          c.new-writer.ensures.written)
          (λ n room. ready_to_copy _ _ Any n 1024 (length c.args.out.now) c.new.result old writer due
          c.from-decoder.ensures refl c.new.ensures.ahead c.new-writer.ensures.written c.new-writer.ensures.room room
          (omega arith) (omega arith))
          (omega arith) c.from-decoder.ensures.offset
          (λ whole. whole ∙ sym (c.say_elements.ensures.reports.consumed_is ∙ c.offset.ensures.value))
          copied stop.result.0 _ _ _ output_is c.args.out.now _ c.copy_onto-copied.ensures.counted
          c.say_elements.ensures.elements stop.ensures.answer output c.say_elements.ensures.reports.written_is stands;
    }
