use Rattle.std.proofs.Common.{◌≡◌, ◌+◌, ◌-◌, ◌≤◌, [], length, length-take, take, ap, ◌∙◌, inl, refl, subst, sym, rules, arith}
use Rattle.std.proofs.lemmas.List.{length-take-le, take-take}
use Rattle.ciborium_ll_text.proofs.Lists.{below_take}
use Rattle.cbor_copier.specs.Copying.{spot_of}
use Rattle.cbor_copier.specs.Spots.{Spot}
use Rattle.cbor_copier.specs.Steps.{counted_by}
use Rattle.cbor_copier.proofs.KeptLaws.{body_kept, enters, entered_put, steps, given_grows}
use Rattle.cbor_copier.proofs.PieceLaws.{pieces_given}
use Rattle.cbor_copier.proofs.PlainLaws.{run_given}
use Rattle.cbor_copier.proofs.RunLaws.{body_given, first_on, title_given}
use Rattle.cbor_copier.proofs.copier.Copier.advance.Goals as goal

pub returns-in-Some-clause-copied : goal.returns-in-Some-clause-copied
returns-in-Some-clause-copied c = λ allowed count fed given is.
    let run = c.in-Some.kept in
    let spot = spot_of c.args.self.now in
    let xs = take run.len c.args.bytes.now in
    let fits : run.len ≤ length c.args.bytes.now = search rules in
    run_given allowed count (spot.left - run.left) run.last run.left xs spot (spot_of c.run_put-end.new.self) fed given
    (take c.args.at c.args.out.now) _ (search rules) (search rules) (search rules) (search rules) c.requires.given refl
    (search rules) c.run_put-end.ensures.put c.run_put-end.ensures.given is

pub returns-then-len-gt0-clause-copied : goal.returns-then-len-gt0-clause-copied
returns-then-len-gt0-clause-copied c = λ allowed count fed given is.
    let bytes = c.args.bytes.now in
    let most = c.min-most.result in
    let n = c.whole_len-len.result in
    let fits : most ≤ length bytes = search rules in
    let within : n ≤ most = omega (arith, length-take-le most bytes fits, c.whole_len-len.ensures.within) in
    let long = length-take-le n bytes (omega (arith, within, fits)) in
    let whole = rw (take-take n most bytes within) at c.whole_len-len.ensures.whole in
    body_given allowed c.in-Some-body.kind count c.in-Some-body.left (take n bytes) (spot_of c.args.self.now)
    (spot_of c.bytes_put.new.self) fed given (take c.args.at c.args.out.now) _
    (below_take n bytes (omega (arith, within, fits)) (λ i less. search rules)) (search rules) (search rules)
    c.requires.given (omega (arith, long, c.if-len-gt0.true))
    (omega (arith, long, within, c.min-most.ensures, c.min-in-Some-body.ensures)) whole
    c.bytes_put.ensures.put c.bytes_put.ensures.given is

pub returns-in-Some-title-clause-copied : goal.returns-in-Some-title-clause-copied
returns-in-Some-title-clause-copied c = λ allowed count fed given is.
    let n = c.in-Some-title.len in
    let bytes = c.args.bytes.now in
    let fits : n ≤ length bytes = search rules in
    title_given allowed count n (take n bytes) c.in-Some-title.header (spot_of c.args.self.now)
    (spot_of c.title_put.new.self) fed given (take c.args.at c.args.out.now) _ _
    (below_take n bytes fits (λ i less. search rules)) (search rules) (length-take-le n bytes fits) (search rules)
    (search rules) (search rules) (search rules) (search rules) c.requires.given c.title_put.ensures
    c.give.ensures.given is

pub returns-in-Some-title-clause-grown : goal.returns-in-Some-title-clause-grown
returns-in-Some-title-clause-grown c =
    let n = c.in-Some-title.len in
    let bytes = c.args.bytes.now in
    let spot = spot_of c.args.self.now in
    let counted = record spot { place = spot.offset; offset = spot.offset + n } in
    let new = spot_of c.title_put.new.self in
    let put = entered_put spot.within c.in-Some-title.header counted (take n bytes) (search rules) c.requires.given in
    let bare : spot.front ≡ [] = search rules in
    let front = ap length ((enters spot.within c.in-Some-title.header counted).front ∙ bare) in
    let long = length-take-le n bytes (search rules) in
    let grown = given_grows new c.args.at c.give.result n c.args.out.now c.give.new.out c.give.new.self
    (subst (λ (z : Spot). length z.put + length z.front ≤ n) (sym c.title_put.ensures)
    (omega (arith, put, front, long)))
    c.requires.room (search rules) c.give.ensures.given in
    omega (arith, grown)

pub returns-in-Some-pieces-clause-copied : goal.returns-in-Some-pieces-clause-copied
returns-in-Some-pieces-clause-copied c = λ allowed count fed given is.
    let pieces = c.in-Some-pieces.pieces in
    pieces_given allowed count pieces.last (take pieces.len c.args.bytes.now) (spot_of c.args.self.now)
    (spot_of c.kept_put-end.new.self) fed given (take c.args.at c.args.out.now) _ (search rules) (search rules)
    (search rules) c.requires.given c.kept_put-end.ensures.put c.kept_put-end.ensures.given is

pub returns-clause-copied : goal.returns-clause-copied
returns-clause-copied c = λ allowed count fed given is.
    first_on allowed count fed given (take c.args.at c.args.out.now) _ _ c.args.bytes.now (spot_of c.args.self.now)
    (spot_of c.step.new.self) c.requires.some (search rules) c.requires.given c.step.ensures c.give-2.ensures.given is

pub returns-clause-grown : goal.returns-clause-grown
returns-clause-grown c =
    let spot = spot_of c.args.self.now in
    let grown = given_grows (spot_of c.step.new.self) c.args.at c.give-2.result (length spot.front + 1) c.args.out.now
    c.give-2.new.out c.give-2.new.self (steps spot.phase spot (spot_of c.step.new.self) _ c.step.ensures).1
    c.requires.room (search rules) c.give-2.ensures.given in
    omega (arith, grown)

pub returns-then-len-gt0-clause-all : goal.returns-then-len-gt0-clause-all
returns-then-len-gt0-clause-all c =
    let len = length (take c.whole_len-len.result c.args.bytes.now) in
    let kept = body_kept c.in-Some-body.kind (c.in-Some-body.left - len) (counted_by len (spot_of c.args.self.now)) in
    inl (ap (λ (z : Spot). z.put) c.bytes_put.ensures.put ∙ (kept.2 ∙ c.requires.given))

pub returns-then-len-gt0-clause-grown : goal.returns-then-len-gt0-clause-grown
returns-then-len-gt0-clause-grown c =
    let len = length (take c.whole_len-len.result c.args.bytes.now) in
    let kept = body_kept c.in-Some-body.kind (c.in-Some-body.left - len) (counted_by len (spot_of c.args.self.now)) in
    let put = ap (λ (z : Spot). length z.put) c.bytes_put.ensures.put ∙ ap length (kept.2 ∙ c.requires.given) in
    let front = ap (λ (z : Spot). length z.front) c.bytes_put.ensures.put ∙ ap length kept.0 in
    omega (arith, put, front, c.bytes_put.ensures.end, length-take c.whole_len-len.result c.args.bytes.now)
