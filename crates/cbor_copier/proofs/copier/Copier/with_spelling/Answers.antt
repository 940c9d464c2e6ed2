use Rattle.std.proofs.Common.{rules}
use Rattle.cbor_copier.specs.Copying.{HasCopied, spot_of}
use Rattle.cbor_copier.proofs.RunLaws.{fed_fresh}
use Rattle.cbor_copier.proofs.copier.Copier.with_spelling.Goals as goal

pub returns : goal.returns
unfolding HasCopied
returns c =
    fed_fresh c.args.spelling c.args.count (spot_of c.elements_due.new.self) c.elements_due.new.self.pending
    (search rules)
    (search rules)
