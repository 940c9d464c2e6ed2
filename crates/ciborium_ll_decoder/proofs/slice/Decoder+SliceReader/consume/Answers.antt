use Rattle.std.proofs.Common.{arith, length-take-le, refl, take}
use Rattle.ciborium_ll_decoder.proofs.DecodingLaws.{ReadsPast-given, consumes_front}
use Rattle.ciborium_ll_decoder.proofs.slice.Decoder+SliceReader.consume.Goals as goal

pub returns-clause-passed : goal.returns-clause-passed
returns-clause-passed c left told =
    let none = c.requires.none_waits in
    let len = c.args.len in
    let ahead = rw none at told in
    let within = rw told at c.requires.within in
    ReadsPast-given _ c.args.self.now _ (take len left) none none
    (consumes_front _ _ len left ahead (c.consume.ensures.ahead left ahead)) (omega (arith, length-take-le len left within))
    c.consume.ensures.failures refl (λ steady. steady)
