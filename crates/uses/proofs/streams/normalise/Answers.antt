use Rattle.uses.proofs.StreamLaws.{told, ready, copies_so, room_told, error_told, error_anyhow, flush_told}
use Rattle.uses.proofs.StreamLaws.{flush_anyhow, recodes_from, flush_copies, error_copies}
use Rattle.uses.proofs.streams.normalise.Goals as goal
use Rattle.uses.proofs.streams.normalise.Goals.{in-Ok, in-Err}

pub returns-clause-copied : goal.returns-clause-copied
returns-clause-copied g c =
    let R = g.R.Read in
    let W = g.W.Write in
    let new = c.recode-copied.new.decoder in
    let recodes = c.recode-copied.ensures.copied in
    elim c.match-copied.branch [
      | in-Ok w ↦ (
          let copies = recodes_from R W c.args.count c.args.reader _ c.args.writer _ _ _ _ new _
          c.from-decoder.ensures c.into_inner-reader.ensures c.from-encoder.ensures c.into_inner-writer.ensures
          (rw w.in-Ok.is at recodes) in
          rw (w.writer-is, w.outcome-is) (flush_copies R W c.args.count c.args.reader _ c.args.writer _ _
          w.flush_writer-outcome.result copies w.flush_writer-outcome.ensures)
          )
      | in-Err w ↦ (
          let stops = recodes_from R W c.args.count c.args.reader _ c.args.writer _ _ _ _ new _
          c.from-decoder.ensures c.into_inner-reader.ensures c.from-encoder.ensures c.into_inner-writer.ensures
          (rw w.in-Err.is at recodes) in
          rw (w.writer-is, w.outcome-is) (error_copies R W c.args.count c.args.reader _ c.args.writer _
          w.in-Err.error stops)
          )
    ]

pub returns-clause-anyhow : goal.returns-clause-anyhow
returns-clause-anyhow g c = λ due written tell.
    let R = g.R.Read in
    let W = g.W.Write in
    let fresh = c.from-decoder.ensures in
    let old = c.from-decoder.result in
    let new = c.recode-copied.new.decoder in
    let same = c.into_inner-reader.ensures in
    let anyhow = c.recode-copied.ensures.anyhow _ due written
    (told R W c.args.reader c.args.writer _ _ due written fresh c.from-encoder.ensures tell) in
    elim c.match-copied.branch [
      | in-Ok w ↦ (
          let copied = rw w.in-Ok.is at anyhow in
          let copies = copies_so R W c.args.count due written c.args.reader _ c.args.writer _ new _ fresh same copied in
          rw (w.writer-is, w.outcome-is) (flush_anyhow R W c.args.count due written _ _ _
          (rw c.into_inner-writer.ensures copies) w.flush_writer-outcome.result w.flush_writer-outcome.ensures)
          )
      | in-Err w ↦ (
          let failed = rw w.in-Err.is at anyhow in
          let stops = rw w.in-Err.is at c.recode-copied.ensures.copied.copied in
          rw (w.writer-is, w.outcome-is) (rw c.into_inner-writer.ensures (error_anyhow R W c.args.count due written
          c.args.reader _ _ _ new _ fresh same w.in-Err.error stops failed))
          )
    ]

pub returns-clause-exactly : goal.returns-clause-exactly
returns-clause-exactly g c = λ due written are.
    let R = g.R.Read in
    let W = g.W.Write in
    let fresh = c.from-decoder.ensures in
    let new = c.recode-copied.new.decoder in
    let same = c.into_inner-reader.ensures in
    let from_writer = c.from-encoder.ensures in
    let is_ready = ready R W c.args.count c.args.reader c.args.writer _ _ due written fresh from_writer are in
    let copy = c.recode-copied.ensures.told _ due written is_ready in
    elim c.match-copied.branch [
      | in-Ok w ↦ (
          let copied = rw w.in-Ok.is at copy in
          let all = rw w.in-Ok.is at c.recode-copied.ensures.copied.copied in
          let copies = copies_so R W c.args.count due written c.args.reader _ c.args.writer _ new _ fresh same copied in
          let told = room_told R W c.args.count due written c.args.reader _ _ _ new _ fresh same
          is_ready.can_write.room is_ready.can_write.room-told all in
          rw (w.writer-is, w.outcome-is) (flush_told R W c.args.count due written _ _ _
          (rw c.into_inner-writer.ensures copies) (rw c.into_inner-writer.ensures told) w.flush_writer-outcome.result
          w.flush_writer-outcome.ensures)
          )
      | in-Err w ↦ (
          let failed = rw w.in-Err.is at copy in
          let stops = rw w.in-Err.is at c.recode-copied.ensures.copied.copied in
          rw (w.writer-is, w.outcome-is) (rw c.into_inner-writer.ensures (error_told R W c.args.count due written
          c.args.reader _ _ _ new _ fresh same w.in-Err.error stops failed))
          )
    ]
