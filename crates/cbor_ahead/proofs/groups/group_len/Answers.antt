use Rattle.std.proofs.Common.{◌≡◌, ℕ, List, ◌+◌, ◌++◌, [], take, ap, sym, subst, ◌∙◌, arith}
use Rattle.std.proofs.Math.Seq.{take-length}
use Rattle.ciborium_ll_grammar.specs.Items.{IsItem}
use Rattle.cbor_checker.specs.Reading.{IsMore}
use Rattle.cbor_ahead.proofs.GroupLaws.{group_items}
use Rattle.cbor_ahead.proofs.groups.group_len.Goals.{in-More, in_default}
use Rattle.cbor_ahead.proofs.groups.group_len.Goals as goal

pub returns-in-Ended-clause-items : goal.returns-in-Ended-clause-items
returns-in-Ended-clause-items c = λ some.
    let s = c.args.spelling in
    let levels = c.min.result + 1 in
    let title = c.args.title.now in
    let rest = take c.feed-fed.result.taken c.args.bytes.now in
    let more : IsMore c.feed-begun.result.progress = elim c.match-matches.branch [
      | in-More w ↦ subst IsMore (sym w.in-More.is) tt
      | in_default w ↦ absurd cc
    ] in
    let all : take c.feed-begun.result.taken title ≡ title =
    ap (λ (n : ℕ). take n title) (c.feed-begun.ensures.all more) ∙ take-length title in
    let begun = c.feed-begun.ensures.read s levels [] c.with_spelling-checker.ensures in
    let read = c.feed-fed.ensures.read s levels _ begun.0 in
    let tells = rw c.in-Ended.is at read.1.tells in
    let item : IsItem s levels (title ++ rest) =
    subst (λ (z : List ℕ). IsItem s levels (z ++ rest)) all tells.0 in
    group_items s c.args.depth levels c.args.size rest c.requires.shallow (ap (λ (n : ℕ). n + 1) c.min.ensures)
    (omega (arith, c.ranges.size)) (rw c.requires.title at item)
