use Rattle.std.proofs.Common.{◌≡◌, ℕ, ◌-◌, ◌<◌, ◌≤◌, true, false, List, ◌++◌, length, take, arith, rules}
use Rattle.std.proofs.Common.{ap, refl, subst, sym, ◌∙◌, length-append}
use Rattle.std.proofs.lemmas.List.{length-take-le, take_all}
use Rattle.ciborium_ll_text.specs.Text.{IsStuck}
use Rattle.ciborium_ll_text.specs.States.{may_end}
use Rattle.cbor_parser.specs.declared.event.Event.TheVariants as e
use Rattle.cbor_parser.specs.Parsing.{CanEnd, InText}
use Rattle.cbor_parser.specs.Pushing.{text_point}
use Rattle.cbor_parser.proofs.CharacterLaws.{goes, held, part_more, part_most, part_text, stops}
use Rattle.cbor_parser.proofs.PushLaws.{cut_tells, fault_tells, has_some, kept_stuck, pushes_of, text_tells}
use Rattle.cbor_parser.proofs.TextEnds.{kept_few, some_due}
use Rattle.cbor_parser.proofs.parser.Parser.push_character.Goals as goal

pub overflow_sub-taken : goal.overflow_sub-taken
overflow_sub-taken c =
    let front = c.text_front-behind.result.0.now in
    let there : c.min-len.result ≤ length c.args.bytes.now = search rules in
    let is : c.bytes.result.now ≡ c.args.self.now.front ++ take c.min-len.result c.args.bytes.now = search rules in
    let stuck = kept_stuck _ _ _ _ c.requires.phase c.args.self.now.stuck in
    let more = part_more c.args.self.now.front c.args.bytes.now c.bytes.result.now front c.text_front-behind.result.1
    c.min-len.result there is c.text_front-behind.ensures.front stuck (search rules) in
    let len : c.len.result ≡ length c.args.self.now.front = search rules in
    omega (arith, more, len)

pub returns-then-whole-gt0-clause-some : goal.returns-then-whole-gt0-clause-some
returns-then-whole-gt0-clause-some c =
    let front = c.text_front-behind.result.0.now in
    let there : c.min-len.result ≤ length c.args.bytes.now = search rules in
    let is : c.bytes.result.now ≡ c.args.self.now.front ++ take c.min-len.result c.args.bytes.now = search rules in
    let stuck = kept_stuck _ _ _ _ c.requires.phase c.args.self.now.stuck in
    let more = part_more c.args.self.now.front c.args.bytes.now c.bytes.result.now front c.text_front-behind.result.1
    c.min-len.result there is c.text_front-behind.ensures.front stuck (search rules) in
    let len : c.len.result ≡ length c.args.self.now.front = search rules in
    omega (arith, more, len, c.take_text.ensures.taken)

pub returns-then-whole-gt0-clause-pushed : goal.returns-then-whole-gt0-clause-pushed
returns-then-whole-gt0-clause-pushed c = λ allowed before tokens pushed.
    let kept = c.args.self.now.front in
    let piece = c.args.bytes.now in
    let front = c.text_front-behind.result.0.now in
    let there : c.min-len.result ≤ length c.args.bytes.now = search rules in
    let is : c.bytes.result.now ≡ c.args.self.now.front ++ take c.min-len.result c.args.bytes.now = search rules in
    let stuck = kept_stuck _ _ _ _ c.requires.phase c.args.self.now.stuck in
    let len : c.len.result ≡ length c.args.self.now.front = search rules in
    let some : 0 < length c.text_front-behind.result.0.now = search rules in
    let most : c.min-len.result ≤ c.args.left = search rules in
    let part = part_most kept piece c.bytes.result.now front c.text_front-behind.result.1 c.min-len.result there is
    c.text_front-behind.ensures.front in
    let whole = part_text kept piece c.bytes.result.now front c.text_front-behind.result.1 c.min-len.result there is
    c.text_front-behind.ensures.front stuck some in
    let size = ap (λ (k : ℕ). length c.text_front-behind.result.0.now - k) len in
    let long = length-take-le (length front - length kept) piece (omega (arith, part, there)) in
    pushes_of allowed before tokens piece _ _ (length front - length kept)
    (e.Text kept (c.args.left - (length front - length kept))) (c.take_text.ensures.taken ∙ size)
    (c.take_text.ensures.event ∙ ap (λ (k : ℕ). e.Text c.args.self.now.front (c.args.left - k)) size)
    (text_tells allowed before tokens c.args.self.now _ piece (take (length front - length kept) piece)
    (c.args.left - (length front - length kept)) pushed c.take_text.ensures.spelling
    (omega (arith, c.take_text.ensures.offset, long, size)) c.args.left c.args.place c.requires.phase
    (omega (arith, long, part, most)) whole
    (c.take_text.ensures.point
    ∙ ap (λ (k : ℕ). text_point c.args.self.now.within (c.args.left - k) c.args.place) size))

pub returns-then-not-may_end-clause-pushed : goal.returns-then-not-may_end-clause-pushed
returns-then-not-may_end-clause-pushed c = λ allowed before tokens pushed.
    let kept = c.args.self.now.front in
    let piece = c.args.bytes.now in
    let front = c.text_front-behind.result.0.now in
    let there : c.min-len.result ≤ length c.args.bytes.now = search rules in
    let is : c.bytes.result.now ≡ c.args.self.now.front ++ take c.min-len.result c.args.bytes.now = search rules in
    let none : length c.text_front-behind.result.0.now ≡ 0 = search rules in
    let never : may_end c.text_front-behind.result.1 (c.args.left - c.min-len.result) ≡ false = search rules in
    let most : c.min-len.result ≤ c.args.left = search rules in
    let long = length-take-le c.min-len.result piece there in
    fault_tells allowed before tokens c.args.self.now _ piece (take c.min-len.result piece)
    (c.args.left - c.min-len.result) pushed refl (omega (arith, long)) c.args.left c.args.place c.requires.phase
    (omega (arith, long, most))
    (held kept piece c.bytes.result.now front c.text_front-behind.result.1 c.min-len.result there is
    c.text_front-behind.ensures.front none)
    (stops kept piece c.bytes.result.now front c.text_front-behind.result.1 c.min-len.result there is
    c.text_front-behind.ensures.front c.text_front-behind.ensures.state (c.args.left - c.min-len.result) none never)
    refl

pub invariant_of-self-2 : goal.invariant_of-self-2
invariant_of-self-2 c =
    let kept = c.args.self.now.front in
    let piece = c.args.bytes.now in
    let front = c.text_front-behind.result.0.now in
    let there : c.min-len.result ≤ length c.args.bytes.now = search rules in
    let is : c.bytes.result.now ≡ c.args.self.now.front ++ take c.min-len.result c.args.bytes.now = search rules in
    let none : length c.text_front-behind.result.0.now ≡ 0 = search rules in
    let may : may_end c.text_front-behind.result.1 (c.args.left - c.min-len.result) ≡ true = search rules in
    let some : 0 < c.args.left = search rules in
    let whole : c.args.self.now.front ++ take c.min-len.result c.args.bytes.now ≡ c.add.new.few = search rules in
    let stays = subst IsStuck whole
    (held kept piece c.bytes.result.now front c.text_front-behind.result.1 c.min-len.result there is
    c.text_front-behind.ensures.front none) in
    let ends = subst (λ (x : List ℕ). CanEnd x (c.args.left - c.min-len.result)) whole
    (goes kept piece c.bytes.result.now front c.text_front-behind.result.1 c.min-len.result there is
    c.text_front-behind.ensures.front c.text_front-behind.ensures.state (c.args.left - c.min-len.result) none may) in
    let sum = ap length (sym whole) ∙ length-append c.args.self.now.front (take c.min-len.result c.args.bytes.now) in
    let long = length-take-le c.min-len.result c.args.bytes.now there in
    let due = some_due c.add.new.few (c.args.left - c.min-len.result)
    (omega (arith, sum, long, some, c.requires.some, c.min.ensures, c.min-len.ensures)) stays ends in
    record {
      left = has_some _ _ due;
      fits = kept_few c.add.new.few (c.args.left - c.min-len.result) stays ends;
      stuck = stays;
      counted = omega (arith, c.args.self.now.counted);
    }

pub returns-clause-pushed : goal.returns-clause-pushed
returns-clause-pushed c = λ allowed before tokens pushed.
    let kept = c.args.self.now.front in
    let piece = c.args.bytes.now in
    let front = c.text_front-behind.result.0.now in
    let there : c.min-len.result ≤ length c.args.bytes.now = search rules in
    let is : c.bytes.result.now ≡ c.args.self.now.front ++ take c.min-len.result c.args.bytes.now = search rules in
    let none : length c.text_front-behind.result.0.now ≡ 0 = search rules in
    let may : may_end c.text_front-behind.result.1 (c.args.left - c.min-len.result) ≡ true = search rules in
    let most : c.min-len.result ≤ c.args.left = search rules in
    let some : 0 < c.args.left = search rules in
    let whole : c.add.new.few ≡ c.args.self.now.front ++ take c.min-len.result c.args.bytes.now = search rules in
    let stays = held kept piece c.bytes.result.now front c.text_front-behind.result.1 c.min-len.result there is
    c.text_front-behind.ensures.front none in
    let ends = goes kept piece c.bytes.result.now front c.text_front-behind.result.1 c.min-len.result there is
    c.text_front-behind.ensures.front c.text_front-behind.ensures.state (c.args.left - c.min-len.result) none may in
    let sum = length-append c.args.self.now.front (take c.min-len.result c.args.bytes.now) in
    let long = length-take-le c.min-len.result c.args.bytes.now there in
    let due = some_due (kept ++ take c.min-len.result piece) (c.args.left - c.min-len.result)
    (omega (arith, sum, long, some, c.requires.some, c.min.ensures, c.min-len.ensures)) stays ends in
    let few = kept_few (kept ++ take c.min-len.result piece) (c.args.left - c.min-len.result) stays ends in
    cut_tells allowed before tokens c.args.self.now _ piece (take c.min-len.result piece)
    (c.args.left - c.min-len.result) pushed refl (omega (arith, long)) c.args.left c.args.place c.requires.phase
    (omega (arith, long, most))
    (take_all c.min-len.result piece (omega (arith, few, due, sum, long, c.min.ensures, c.min-len.ensures)))
    stays ends due
    (ap (λ (x : List ℕ). InText c.args.self.now.within x (c.args.left - c.min-len.result) c.args.place) whole)
