use Rattle.std.proofs.Common.{◌≤◌, ◌-◌, length, take, arith, refl, rules}
use Rattle.std.proofs.lemmas.List.{length-take-le, take_all}
use Rattle.cbor_parser.proofs.PushLaws.{bytes_tells}
use Rattle.cbor_parser.proofs.parser.Parser.push_bytes.Goals as goal

pub returns-clause-pushed : goal.returns-clause-pushed
returns-clause-pushed c = λ allowed before tokens is.
    let within : c.min-taken.result ≤ length c.args.bytes.now = search rules in
    let most : c.min-taken.result ≤ c.args.left = search rules in
    let long = length-take-le c.min-taken.result c.args.bytes.now within in
    bytes_tells allowed before tokens c.args.self.now _ c.args.bytes.now (take c.min-taken.result c.args.bytes.now)
    (c.args.left - c.min-taken.result) is refl (omega (arith, long)) c.args.left c.requires.phase
    (omega (arith, long, most)) c.bytes_left-self.ensures.is refl c.clear.ensures
    (λ lacks. take_all c.min-taken.result c.args.bytes.now (omega (arith, lacks, c.min-taken.ensures)))
