use Rattle.std.proofs.lemmas.List.{take_rest}
use Rattle.cbor_copier.proofs.plain.kept_len.Goals as goal

pub returns-clause-kept : goal.returns-clause-kept
returns-clause-kept c = λ more. rw (take_rest c.args.bytes.now c.args.at) at (c.title_len.ensures.kept more)
