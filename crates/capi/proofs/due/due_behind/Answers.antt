use Rattle.std.proofs.Common.{[], inl, inr, arith}
use Rattle.std.proofs.lemmas.List.{length-take-le}
use Rattle.capi.proofs.ItemDue.{some_lack, none_follow, none_ended}
use Rattle.capi.proofs.due.due_behind.Goals as goal

pub returns-in-More : goal.returns-in-More
returns-in-More c =
    let allowed = c.args.spelling in
    let depth = c.args.depth in
    let read = c.feed.ensures.read allowed depth [] c.with_spelling-checker.ensures in
    let tells = rw c.in-More.is at read.1.tells in
    let all = rw c.in-More.is at c.feed.ensures.all in
    let answers = rw c.in-More.is at c.feed.ensures.is in
    some_lack allowed depth c.args.bytes.now c.requires.cut c.feed.result.taken c.in-More.due c.feed.new.self
    (all (tt {0})) read.0 tells answers

pub returns-in-Ended : goal.returns-in-Ended
returns-in-Ended c =
    let allowed = c.args.spelling in
    let depth = c.args.depth in
    let bytes = c.args.bytes.now in
    let cut = c.requires.cut in
    let taken = c.feed.result.taken in
    let read = c.feed.ensures.read allowed depth [] c.with_spelling-checker.ensures in
    let tells = read.1.tells in
    elim c.in-Ended.is [
      | inl ended ↦ absurd (none_ended allowed depth bytes cut taken ended.0 (rw ended.1 at tells))
      | inr others ↦ (
          elim others [
            | inl fault ↦ none_follow allowed depth bytes cut taken fault.0 (rw fault.1 at tells)
            | inr long ↦ (
                let told = rw long at tells in
                let less = read.1.long long in
                let part = length-take-le taken bytes c.feed.ensures.taken in
                absurd (omega (arith, told.1, less, part))
                )
          ]
          )
    ]
