use Rattle.std.proofs.Common.{arith, rules, ◌≡◌, ◌-◌, ◌≤◌, ◌%◌, ◌∷◌, ◌∙◌, take, drop, length, ap, sym}
use Rattle.std.proofs.Common.{length-drop, take-append-drop, take-take, take_all, slice_index}
use Rattle.ciborium_ll_io.proofs.io.slices.SliceReaderRead.read_at_hand.Goals as goal

pub returns-clause-bytes : goal.returns-clause-bytes
returns-clause-bytes c =
    let left = c.args.self.now.left.now in
    let first = c.in_ok-first.field-0-0.now in
    let rest = c.in_ok-first.rest.now in
    let count = c.from-2.result in
    let is = c.from-2.ensures ∙ ap (slice_index c.args.lens.now) c.from.ensures in
    let least : count ≤ 9 = rw is (c.requires (first % 32) (omega arith)) in
    let chunk : first ∷ rest ≡ take 9 left = search rules in
    let eight : length rest ≡ 8 = search rules in
    let affix : c.in_ok-affix.field-0.now ≡ rest =
    c.in_ok-affix.ensures.cases.same ∙ take_all 8 rest (omega (arith, eight)) in
    let front : take count (first ∷ rest) ≡ take count left = ap (take count) chunk ∙ take-take count 9 left least in
    let behind : take (length left - count) (drop count left) ≡ drop count left =
    take_all _ (drop count left) (omega (arith, length-drop count left)) in
    rw (affix, ← is, front, behind) (sym (take-append-drop count left))
