use Rattle.ciborium_ll_decoder.proofs.seg.chunked.finish_body.Goals as goal

pub returns-then-len-buffer : goal.returns-then-len-buffer
returns-then-len-buffer g c =
    let kept = c.finish_chunks.ensures in
    record {
      finishes = rw (c.offset.ensures.same, c.offset.ensures.value, c.title_len.ensures.value, c.header.ensures) at
          kept.finishes;
      moves_on = rw c.offset.ensures.same at kept.moves_on;
    }

pub returns : goal.returns
returns g c =
    let kept = c.finish_whole.ensures in
    record {
      finishes = rw (c.offset.ensures.same, c.offset.ensures.value, c.title_len.ensures.value, c.header.ensures) at
          kept.finishes;
      moves_on = rw c.offset.ensures.same at kept.moves_on;
    }
