use Rattle.std.proofs.Common.{◌≡◌, [], rules}
use Rattle.ciborium_ll_text.proofs.Lists.{length_zero}
use Rattle.cbor_parser.specs.declared.strings.Within.TheVariants as w
use Rattle.cbor_parser.specs.declared.phase.Phase.TheVariants as p
use Rattle.cbor_parser.proofs.ParseLaws.{whole_tokens}
use Rattle.cbor_parser.proofs.parser.Parser.is_between.Goals as goal

pub returns-in-Title-Nothing-clause-whole : goal.returns-in-Title-Nothing-clause-whole
returns-in-Title-Nothing-clause-whole c = λ allowed before tokens yes is.
    let phase : c.args.self.now.phase ≡ p.Title = search rules in
    let within : c.args.self.now.within ≡ w.Nothing = search rules in
    let none : c.args.self.now.front ≡ [] = length_zero c.args.self.now.front (search rules) in
    whole_tokens allowed before tokens w.Nothing (rw (phase, within, none) at is.parsed)
