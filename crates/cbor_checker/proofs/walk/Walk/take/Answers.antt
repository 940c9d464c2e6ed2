use Rattle.std.proofs.Common.{ap, length, arith, rules}
use Rattle.std.proofs.lemmas.List.{length-take-le}
use Rattle.cbor_checker.proofs.LeadLaws.{leads_counts, leads_fed, leads_stays, run_front}
use Rattle.cbor_checker.proofs.TellLaws.{fed_counts}
use Rattle.cbor_checker.proofs.walk.Walk.take.Goals as goal

pub returns-clause-full : goal.returns-clause-full
returns-clause-full c = λ less due.
    let most = length-take-le c.min-counted.result c.args.bytes.now (search rules) in
    let long = length-take-le _ _ c.run_all.ensures.within in
    let counts = leads_counts _ _ _ c.run_all.ensures.leads in
    omega (arith, counts, c.run_all.ensures.all due, most, long, c.min-counted.ensures, less)

pub returns-clause-fed : goal.returns-clause-fed
returns-clause-fed c = λ allowed depth fed is.
    leads_fed allowed depth fed _ _ _ is
    (run_front _ _ _ _ _ c.run_all.ensures.within (search rules) c.run_all.ensures.leads)

pub returns-clause-counted : goal.returns-clause-counted
returns-clause-counted c = λ allowed depth fed is.
    let most = length-take-le c.min-counted.result c.args.bytes.now (search rules) in
    omega (arith, fed_counts allowed depth fed _ is, most, c.run_all.ensures.within, c.min-counted.ensures)

pub returns-clause-stays : goal.returns-clause-stays
returns-clause-stays c = λ off.
    let stays = leads_stays _ _ _ off c.run_all.ensures.leads in
    let none = ap length stays.0 in
    (omega (arith, none, length-take-le _ _ c.run_all.ensures.within), stays.1)
