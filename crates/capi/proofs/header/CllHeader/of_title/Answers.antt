use Rattle.std.proofs.Common.{rules}
use Rattle.capi.proofs.TitleParts.{says_alike}
use Rattle.capi.proofs.header.CllHeader.of_title.Goals as goal

pub returns-else-title-eq7 : goal.returns-else-title-eq7
returns-else-title-eq7 c =
    says_alike c.with_length.result c.args.title.major c.args.title.minor c.args.header (search rules)
    c.requires.parts.minor c.requires.title c.with_length.ensures.kind
    (rw c.length.ensures at c.with_length.ensures.value)
    (rw c.length.ensures at c.with_length.ensures.indefinite)
