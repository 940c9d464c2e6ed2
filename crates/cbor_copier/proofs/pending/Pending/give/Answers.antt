use Rattle.std.proofs.Common.{◌≤◌, ◌∙◌, length, take, ap, rules}
use Rattle.std.proofs.lemmas.List.{length-take-le}
use Rattle.cbor_copier.proofs.PendingLaws.{given_more, behind_put}
use Rattle.cbor_copier.proofs.pending.Pending.give.Goals as goal

pub returns-clause-given : goal.returns-clause-given
returns-clause-given c =
    let known = c.bytes-bytes.ensures in
    let long = ap length known in
    let fits : c.min-count.result ≤ length c.args.self.now = search rules in
    let put = c.copy_from_slice.ensures.after ∙ ap (take c.min-count.result) known in
    given_more c.args.at c.min-count.result c.args.out.now c.copy_from_slice.new.self c.args.self.now _ c.requires put
    (ap length put ∙ length-take-le c.min-count.result c.args.self.now fits) c.skip.ensures

pub returns-clause-rest : goal.returns-clause-rest
returns-clause-rest c =
    let long = ap length c.bytes-bytes.ensures in
    let fits : c.min-count.result ≤ length c.bytes-bytes.result.now = search rules in
    behind_put c.args.at c.min-count.result c.args.out.now c.copy_from_slice.new.self c.requires
    (ap length c.copy_from_slice.ensures.after ∙ length-take-le c.min-count.result c.bytes-bytes.result.now fits)
