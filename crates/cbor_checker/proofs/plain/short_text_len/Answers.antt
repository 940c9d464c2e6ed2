use Rattle.std.proofs.Common.{rules}
use Rattle.cbor_checker.proofs.PlainLaws.{short_text}
use Rattle.cbor_checker.proofs.plain.short_text_len.Goals as goal

pub returns-then-is_text-clause-plain : goal.returns-then-is_text-clause-plain
returns-then-is_text-clause-plain c = λ allowed more.
    short_text c.args.bytes.now _ allowed (λ i less. search rules) (search rules) (search rules) (search rules)
    (search rules) (search rules) (c.is_text.ensures c.if-is_text.true)
