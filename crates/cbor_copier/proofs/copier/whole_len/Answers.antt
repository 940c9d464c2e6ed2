use Rattle.std.proofs.Common.{length, length-append, take, drop, ap, ◌∙◌, arith}
use Rattle.std.proofs.Math.Seq.{take-append_seam}
use Rattle.cbor_copier.proofs.copier.whole_len.Goals as goal

pub returns-in-Text-clause-within : goal.returns-in-Text-clause-within
returns-in-Text-clause-within c =
    let front = c.text_front.result.0.now in
    let whole = ap length c.text_front.ensures.front.parts in
    omega (arith, whole, length-append front (drop (length front) c.args.bytes.now))

pub returns-in-Text-clause-whole : goal.returns-in-Text-clause-whole
returns-in-Text-clause-whole c =
    let front = c.text_front.result.0.now in
    let is = c.text_front.ensures.front in
    let same = ap (take (length front)) is.parts ∙ take-append_seam front (drop (length front) c.args.bytes.now) in
    rw (c.in-Text.is, same) is.text
