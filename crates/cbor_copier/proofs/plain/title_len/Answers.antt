use Rattle.std.proofs.Common.{rules}
use Rattle.ciborium_ll_text.proofs.Lists.{Below}
use Rattle.cbor_copier.proofs.PlainLaws.{front_kept, title_kept}
use Rattle.cbor_copier.proofs.plain.title_len.Goals as goal

pub returns-in-Some-clause-kept : goal.returns-in-Some-clause-kept
returns-in-Some-clause-kept c = λ more.
    let below : Below c.args.bytes.now = λ i less. (c.type_inv.bytes i).fits in
    front_kept c.args.bytes.now c.in-Some.front.now c.len_of-len.result below c.in-Some.ensures.cases
    c.len_of-len.ensures more c.requires.bytes c.requires.text
    (c.is_shortest_of.ensures.yes c.if-not-is_shortest_of.false)

pub returns-clause-kept : goal.returns-clause-kept
returns-clause-kept c = λ more.
    let below : Below c.args.bytes.now = λ i less. (c.type_inv.bytes i).fits in
    title_kept c.args.bytes.now c.len_of-len.result below c.requires.some c.len_of-len.ensures more
    (search rules) c.requires.text (search rules)
