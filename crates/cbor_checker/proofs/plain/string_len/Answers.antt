use Rattle.std.proofs.Common.{rules}
use Rattle.ciborium_ll_text.proofs.StateLaws.{ascii_stays}
use Rattle.cbor_checker.proofs.PlainLaws.{long_bytes, long_text}
use Rattle.cbor_checker.proofs.plain.string_len.Goals as goal

pub returns-in-88-clause-plain : goal.returns-in-88-clause-plain
returns-in-88-clause-plain c = λ allowed more.
    long_bytes c.args.bytes.now _ allowed (λ i less. search rules) (search rules) (search rules) (search rules)
    (search rules) (search rules)

pub returns-in-120-clause-plain : goal.returns-in-120-clause-plain
returns-in-120-clause-plain c = λ allowed more.
    long_text c.args.bytes.now _ allowed (λ i less. search rules) (search rules) (search rules) (search rules)
    (search rules) (search rules) (ascii_stays _ c.if-is_ascii.ensures.cases)
