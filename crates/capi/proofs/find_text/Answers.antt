use Rattle.std.proofs.Common.{sym, ◌∙◌}
use Rattle.capi.proofs.TextFronts.{finds_all, finds_cut, finds_damage, found_exactly, found_pieces}
use Rattle.capi.proofs.find_text.Goals as goal
use Rattle.capi.proofs.find_text.Goals.{in-Between, in-Damaged, in_default}

pub returns-clause-found : goal.returns-clause-found
returns-clause-found c =
    let bytes = c.args.bytes.now in
    let front = c.text_front-behind.ensures.front in
    let state = c.text_front-behind.ensures.state in
    let said = c.say.ensures in
    elim c.match-behind.branch [
      | in-Between w ↦ rw w.answer-is
          (finds_all bytes _ _ front c.say.new.self (sym state ∙ w.in-Between.is) (rw w.answer-is at said))
      | in-Damaged w ↦ rw w.answer-is
          (finds_damage bytes _ _ front c.say.new.self (sym state ∙ w.in-Damaged.is) (rw w.answer-is at said))
      | in_default w ↦ rw w.answer-is
          (finds_cut bytes _ _ front c.say.new.self (λ is. w.in_default.not-Between (state ∙ is))
          (λ is. w.in_default.not-Damaged (state ∙ is)) (rw w.answer-is at said))
    ]

pub returns-clause-exactly : goal.returns-clause-exactly
returns-clause-exactly c = found_exactly c.args.bytes.now _ _ (returns-clause-found c)

pub returns-clause-pieces : goal.returns-clause-pieces
returns-clause-pieces c = found_pieces c.args.bytes.now _ _ (returns-clause-found c)
