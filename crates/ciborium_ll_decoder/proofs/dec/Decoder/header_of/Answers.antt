use Rattle.std.proofs.Common.{◌∙◌, inr, sym, rules, arith, ap, length}
use Rattle.ciborium_ll_grammar.proofs.TitleLaws.{shortest_no_longer}
use Rattle.ciborium_ll_decoder.proofs.StrictLaws.{open_pulled, parts_pulled, parts_turned_down, refuses_strictly}
use Rattle.ciborium_ll_decoder.proofs.StrictLaws.{takes_strictly}
use Rattle.ciborium_ll_decoder.proofs.dec.Decoder.header_of.Goals as goal

pub returns-in-Some-clause-header : goal.returns-in-Some-clause-header
returns-in-Some-clause-header g c = λ old at read.
    open_pulled g.R.Read old c.args.self.now c.args.begun.0 c.in-Some.header c.args.begun.1 (search rules)
    c.in-Some.ensures.open c.in-Some.ensures.some read

pub returns-in-Some-clause-covered : goal.returns-in-Some-clause-covered
returns-in-Some-clause-covered g c =
    let least = shortest_no_longer _ c.in-Some.header c.in-Some.ensures.some in
    omega (arith, least)

pub returns-then-refuses_number-clause-header : goal.returns-then-refuses_number-clause-header
returns-then-refuses_number-clause-header g c = λ old at read.
    let minor = c.numbered_minor-minor.ensures in
    let told = c.refuses_number.ensures _ minor.minor minor.code minor.number in
    let strict = refuses_strictly _ _ (sym told ∙ c.if-refuses_number.true) in
    inr (rw (← at) (parts_turned_down g.R.Read old c.args.self.now c.args.begun.0 _ _ (search rules) minor.minor
    minor.bytes strict.0 strict.1 read))

pub returns-else-refuses_number-clause-header : goal.returns-else-refuses_number-clause-header
returns-else-refuses_number-clause-header g c = λ old at read.
    let minor = c.numbered_minor-minor.ensures in
    let told = c.refuses_number.ensures _ minor.minor minor.code minor.number in
    parts_pulled g.R.Read old c.args.self.now c.args.begun.0 _ _ _ (search rules) minor.minor minor.bytes
    c.numbered_header.ensures (takes_strictly _ _ (sym told ∙ c.if-refuses_number.false)) read

pub returns-else-refuses_number-clause-covered : goal.returns-else-refuses_number-clause-covered
returns-else-refuses_number-clause-covered g c =
    rw (ap length c.numbered_minor-minor.ensures.bytes) at (shortest_no_longer _ _ c.numbered_header.ensures)
