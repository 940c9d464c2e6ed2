use Rattle.cbor_dump.proofs.KeyLaws.{kept_bytes, kept_text}
use Rattle.cbor_dump.proofs.named.key_string.Goals as goal

pub returns-in-Some-Text : goal.returns-in-Some-Text
returns-in-Some-Text c = λ rest keeps.
    kept_text c.args.len c.args.kind c.in-Some-Text.len c.args.kept rest c.in-Some-Text.is-0 c.in-Some-Text.is-1
    c.if-len-le-MOST_KEY.true keeps

pub returns-in-Some-Bytes : goal.returns-in-Some-Bytes
returns-in-Some-Bytes c = λ rest keeps.
    kept_bytes c.args.len c.args.kind c.in-Some-Bytes.len c.args.kept rest c.in-Some-Bytes.is-0 c.in-Some-Bytes.is-1
    c.if-len-le-MOST_KEY-2.true keeps
