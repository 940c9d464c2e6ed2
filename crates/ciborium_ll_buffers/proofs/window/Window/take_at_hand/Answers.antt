use Rattle.std.proofs.Common.{arith, rules, ◌≡◌, ◌≤◌, ◌%◌, ◌∷◌, ◌∙◌, take, length, ap, take-take, take_all}
use Rattle.std.proofs.Common.{slice_index}
use Rattle.ciborium_ll_buffers.specs.Buffers.{held}
use Rattle.ciborium_ll_buffers.proofs.window.Window.take_at_hand.Goals as goal

pub returns-clause-held : goal.returns-clause-held
returns-clause-held c =
    let waiting = held c.args.self.now in
    let first = c.in_ok-first.field-0-0.now in
    let rest = c.in_ok-first.rest.now in
    let count = c.from-2.result in
    let is = c.from-2.ensures ∙ ap (slice_index c.args.lens.now) c.from.ensures in
    let least : count ≤ 9 = rw is (c.requires (first % 32) (omega arith)) in
    let chunk : first ∷ rest ≡ take 9 waiting = search rules in
    let eight : length rest ≡ 8 = search rules in
    let affix : c.in_ok-affix.field-0.now ≡ rest =
    c.in_ok-affix.ensures.cases.same ∙ take_all 8 rest (omega (arith, eight)) in
    let front : take count (first ∷ rest) ≡ take count waiting =
    ap (take count) chunk ∙ take-take count 9 waiting least in
    rw (affix, ← is, front) c.skip.ensures.held
