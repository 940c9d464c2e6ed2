use Rattle.std.proofs.Common.{◌+◌, drop, arith, rules}
use Rattle.std.proofs.lemmas.List.{get_or-drop, take_rest}
use Rattle.cbor_checker.proofs.TagLaws.{tag_title}
use Rattle.cbor_checker.proofs.plain.tag_len.Goals as goal

pub returns-in-Some-Tag-clause-tag : goal.returns-in-Some-Tag-clause-tag
returns-in-Some-Tag-clause-tag c = λ more.
    let xs = c.args.bytes.now in
    let at = c.args.at in
    tag_title (drop at xs) (1 + c.len-len.result) c.in-Some-Tag.field-0-0 c.args.spelling
    (λ i less. omega (arith, get_or-drop at xs i 0, (c.type_inv.bytes (at + i)).fits)) more (search rules)
    (rw (c.in-Tag.is, take_rest xs at) at c.row_of-row.ensures.kind)
    (rw (take_rest xs at, c.in-Some-Tag.field-0-is) at c.in-Some-Tag.ensures.title)
    (rw (take_rest xs at, c.in-Some-Tag.field-0-is) at c.in-Some-Tag.ensures.taken)
