use Rattle.std.proofs.Common.{List, ℕ, ◌≤◌, ◌-◌, ◌≡◌, ◌++◌, [], length, take, arith, rules, subst, sym}
use Rattle.std.proofs.lemmas.List.{length-take-le}
use Rattle.ciborium_ll_text.specs.Text.{IsCharacters}
use Rattle.ciborium_ll_text.proofs.Lists.{length_zero}
use Rattle.cbor_parser.specs.declared.event.Event.TheVariants as e
use Rattle.cbor_parser.proofs.PushLaws.{pushes_of, text_tells}
use Rattle.cbor_parser.proofs.TextEnds.{front_within, part_front}
use Rattle.cbor_parser.proofs.parser.Parser.push_text.Goals as goal

pub returns-then-whole-gt0-clause-pushed : goal.returns-then-whole-gt0-clause-pushed
returns-then-whole-gt0-clause-pushed c = λ allowed before tokens is.
    let within : c.min-len.result ≤ length c.args.bytes.now = search rules in
    let most : c.min-len.result ≤ c.args.left = search rules in
    let few = front_within c.args.bytes.now c.text_front.result.0.now _ c.min-len.result within
    c.text_front.ensures.front in
    let taken : length c.text_front.result.0.now ≤ c.args.left = omega (arith, few, most) in
    let there : length c.text_front.result.0.now ≤ length c.args.bytes.now = omega (arith, few, within) in
    let long = length-take-le (length c.text_front.result.0.now) c.args.bytes.now there in
    let whole = part_front c.args.bytes.now c.text_front.result.0.now _ c.min-len.result within
    c.text_front.ensures.front in
    let none : c.args.self.now.front ≡ [] = length_zero c.args.self.now.front (search rules) in
    pushes_of allowed before tokens c.args.bytes.now _ _ (length c.text_front.result.0.now)
    (e.Text c.args.self.now.front (c.args.left - length c.text_front.result.0.now)) c.take_text.ensures.taken
    c.take_text.ensures.event
    (text_tells allowed before tokens c.args.self.now _ c.args.bytes.now
    (take (length c.text_front.result.0.now) c.args.bytes.now) (c.args.left - length c.text_front.result.0.now) is
    c.take_text.ensures.spelling (omega (arith, c.take_text.ensures.offset, long)) c.args.left c.args.place
    c.requires.phase
    (omega (arith, long, taken))
    (subst (λ (f : List ℕ). IsCharacters (f ++ take (length c.text_front.result.0.now) c.args.bytes.now)) (sym none)
    whole)
    c.take_text.ensures.point)
