use Rattle.std.proofs.Common.{List, ℕ, ◌<◌, ◌≤◌, ◌+◌, ◌-◌, ◌≡◌, ◌++◌, ap, length, take, arith, refl, rules, ◌∙◌}
use Rattle.std.proofs.Common.{length-append}
use Rattle.std.proofs.lemmas.List.{length-take-le, take_all}
use Rattle.cbor_parser.specs.Parsing.{point_at}
use Rattle.cbor_parser.proofs.PushLaws.{first_same, need_tells, whole_tells}
use Rattle.cbor_parser.proofs.parser.Parser.push_title.Goals as goal

pub returns-then-bytes-due-clause-pushed : goal.returns-then-bytes-due-clause-pushed
returns-then-bytes-due-clause-pushed c = λ allowed before tokens pushed.
    let all = take_all (length c.args.bytes.now) c.args.bytes.now (omega arith) in
    let less : length c.args.bytes.now < c.title_due-due.result = search rules in
    let sum = length-append c.args.self.now.front c.args.bytes.now in
    let told = need_tells allowed before tokens c.args.self.now _ c.args.bytes.now c.args.bytes.now
    (c.title_due-due.result - length c.args.bytes.now) pushed refl refl c.requires.phase refl c.requires.some
    (omega (arith, less)) (omega (arith, sum, less, c.title_due-due.ensures.long))
    (ap (λ (x : List ℕ). point_at c.args.self.now.phase c.args.self.now.within x) c.add.ensures
    ∙ rw c.requires.phase refl) in
    rw all told

pub enter-requires-clause-long : goal.enter-requires-clause-long
enter-requires-clause-long c =
    let whole : c.bytes.result.now ≡ c.args.self.now.front ++ take c.title_due-due.result c.args.bytes.now =
    search rules in
    let there : c.title_due-due.result ≤ length c.args.bytes.now = search rules in
    let long = length-take-le c.title_due-due.result c.args.bytes.now there in
    let sum = length-append c.args.self.now.front (take c.title_due-due.result c.args.bytes.now) in
    let first = first_same c.args.self.now.front c.args.bytes.now c.title_due-due.result c.title_due-due.ensures.some in
    rw (whole, first) (omega (arith, sum, long, c.title_due-due.ensures.long))

pub returns-clause-pushed : goal.returns-clause-pushed
returns-clause-pushed c = λ allowed before tokens pushed.
    let whole : c.bytes.result.now ≡ c.args.self.now.front ++ take c.title_due-due.result c.args.bytes.now =
    search rules in
    let there : c.title_due-due.result ≤ length c.args.bytes.now = search rules in
    let long = length-take-le c.title_due-due.result c.args.bytes.now there in
    whole_tells allowed before tokens c.args.self.now c.enter.new.self c.args.bytes.now
    (take c.title_due-due.result c.args.bytes.now) 0 pushed c.enter.ensures.spelling
    (omega (arith, long, c.enter.ensures.offset)) c.bytes.result.now c.saturating_sub-start.result
    (c.args.self.now.offset + c.title_due-due.result) c.enter.result c.requires.phase whole (search rules)
    (omega (arith, long)) c.enter.ensures.entered
