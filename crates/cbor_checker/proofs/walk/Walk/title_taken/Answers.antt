use Rattle.std.proofs.Common.{take, subst, sym, rules, arith}
use Rattle.cbor_checker.specs.Steps.{Leads}
use Rattle.cbor_checker.specs.Walking.{spot_at}
use Rattle.cbor_checker.proofs.ItemLeads.{front_whole, title_leads}
use Rattle.cbor_checker.proofs.walk.Walk.title_taken.Goals as goal
use Rattle.cbor_checker.proofs.walk.Walk.title_taken.Goals.{else-len-gt1-via-then-len-gt1+else-is_some}
use Rattle.cbor_checker.proofs.walk.Walk.title_taken.Goals.{else-len-gt1-via-else-len-gt1}

pub returns-in-Some-clause-yes : goal.returns-in-Some-clause-yes
returns-in-Some-clause-yes c = λ yes.
    let checker = c.args.self.now in
    subst (Leads (spot_at checker) (take c.args.len c.args.bytes.now)) (sym c.enter.ensures.spot)
    (title_leads c.args.bytes.now c.args.len (spot_at checker) c.in-Some.header (λ i less. search rules)
    c.requires.phase c.requires.fresh (search rules) c.requires.within (search rules) (search rules)
    (λ more. elim c.else-len-gt1.branch [
      | else-len-gt1-via-then-len-gt1+else-is_some w ↦
          record { kind = c.args.kind; is = c.requires.kind; free = search rules }
      | else-len-gt1-via-else-len-gt1 w ↦ absurd (omega (arith, more, w.if-len-gt1.false))
    ]))

pub taken_header-requires : goal.taken_header-requires
taken_header-requires c = front_whole c.args.bytes.now c.args.len c.requires.within c.requires.long
