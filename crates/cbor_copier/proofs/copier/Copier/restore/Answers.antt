use Rattle.cbor_copier.proofs.SavedLaws.{found_copier, kept_copier, saved_copier}
use Rattle.cbor_copier.proofs.copier.Copier.restore.Goals as goal

pub returns-clause-kept : goal.returns-clause-kept
returns-clause-kept c = kept_copier c.args.snapshot.now c.load.result c.load.ensures.same

pub returns-clause-some : goal.returns-clause-some
returns-clause-some c = saved_copier c.args.snapshot.now c.load.result c.load.ensures.some

pub returns-clause-found : goal.returns-clause-found
returns-clause-found c = found_copier c.args.snapshot.now c.load.result c.load.ensures.same
