use Rattle.std.proofs.Common.{rules}
use Rattle.ciborium_ll_decoder.proofs.WholeBodyLaws.{all_in_front, front_of_all}
use Rattle.ciborium_ll_decoder.proofs.seg.chunked.TextChunked.is_body.Goals as goal

pub returns : goal.returns
returns c =
    let front = c.text_front-state.ensures.front in (
      λ is. all_in_front c.args.bytes.now _ _ front (search rules),
      λ whole. let same = front_of_all c.args.bytes.now _ _ front whole in search rules,
    )
