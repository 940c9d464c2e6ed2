use Rattle.ciborium_ll_grammar.specs.Title.{shortest_title}
use Rattle.cbor_canonical.proofs.WriteRuns.{inserted}
use Rattle.cbor_canonical.proofs.title.insert_title.Goals as goal

pub returns-clause-written : goal.returns-clause-written
returns-clause-written c =
    inserted (shortest_title c.args.header) c.args.at c.args.end c.in_ok-after.after c.args.out.now c.put_title.new.out
    c.rotate_right.new.self c.requires.start c.requires.end c.in_ok-after.ensures.written c.rotate_right.ensures.after
