use Rattle.std.proofs.Common.{rules}
use Rattle.cbor_view.proofs.SearchLaws.{same_negative}
use Rattle.cbor_view.proofs.search.is_negative.Goals as goal

pub returns-in-Some : goal.returns-in-Some
returns-in-Some c =
    same_negative c.args.item.now.bytes.now c.in-Some.other c.args.number _ c.in-Some.ensures (search rules)
