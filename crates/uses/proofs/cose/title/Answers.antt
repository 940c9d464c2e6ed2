use Rattle.std.proofs.Common.{rules, ◌≡◌}
use Rattle.uses.proofs.CoseLaws.{took_pull}
use Rattle.uses.proofs.cose.title.Goals as goal

pub returns-then-eq-clause-took : goal.returns-then-eq-clause-took
returns-then-eq-clause-took g c =
    let same : c.in_ok-next.next ≡ c.args.header = search rules in
    let pulled = rw (c.offset-place.ensures.same, same) at c.in_ok-next.ensures.header in
    took_pull g.R.Read c.args.decoder.now c.pull.new.self c.args.header c.requires.strict c.requires.none_waits pulled
