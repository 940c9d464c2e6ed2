use Rattle.std.proofs.Common.{ℕ, length, [], refl, sym, inr, arith, ◌∙◌}
use Rattle.ciborium_ll_grammar.specs.declared.spelling.Spelling.TheVariants.{Shortest}
use Rattle.ciborium_ll.specs.Sides.{sides}
use Rattle.ciborium_ll_recode.proofs.RecodeReadyLaws.{recode_told, recode_exactly}
use Rattle.capi.proofs.CopyLaws.{check_said, copy_exactly, ready_to_copy}
use Rattle.capi.proofs.CountLaws.{strictly_said}
use Rattle.capi.proofs.check.Goals as goal

pub returns : goal.returns
returns c =
    let due = c.args.bytes.now in
    let old = c.strict-decoder.result in
    let writer = c.new-writer.result in
    let new = c.copy_counted-copied.new.decoder in
    let behind = c.copy_counted-copied.new.writer in
    let copied = c.copy_counted-copied.result in
    let all = c.copy_counted-copied.ensures.copied in
    let stop = c.stop_of_copy-answer in
    let ready = λ (n : ℕ). ready_to_copy _ _ Shortest n 1024 (length due) c.new.result old writer due
    c.strict-decoder.ensures refl
    c.new.ensures.ahead c.new-writer.ensures.written c.new-writer.ensures.room (inr (omega arith)) (omega arith)
    (omega arith) in
    record {
      checked =
          check_said _ _ c.args.count due old new behind copied c.say_elements.new.self stop.result.0
          stop.result.1 c.offset.result
          (recode_told _ _ c.args.count 1024 (sides old writer) due [] (ready c.args.count)
          (sides new behind) copied all)
          c.strict-decoder.ensures.offset stop.ensures.answer stop.ensures.place c.offset.ensures.value
          c.say_elements.ensures.reports;
      exactly =
          copy_exactly copied stop.result.0 stop.ensures.answer
          (recode_exactly _ _ c.args.count 1024 (sides old writer) due [] (ready c.args.count)
          (sides new behind) copied all);
      counted =
          strictly_said _ _ c.args.count due old new writer behind c.say_elements.new.self ready
          c.strict-decoder.ensures.offset
          (λ whole. whole ∙ sym (c.say_elements.ensures.reports.consumed_is ∙ c.offset.ensures.value))
          copied stop.result.0 _ _ _ c.copy_counted-copied.ensures.counted c.say_elements.ensures.elements
          stop.ensures.answer;
    }
