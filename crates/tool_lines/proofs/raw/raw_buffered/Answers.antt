use Rattle.std.proofs.Common.{◌≡◌, ◌≤◌, List, ℕ, Some, length, subst, sym, ap, ◌∙◌, arith}
use Rattle.ciborium_ll_buffers.specs.Buffers.{buffered_ahead, buffered_kept_back, buffered_read_ahead, buffered_written}
use Rattle.tool_lines.specs.declared.ahead.ReadAhead.{ReadAhead}
use Rattle.tool_lines.specs.Raw.{TellsBehind, TellsFlushed}
use Rattle.tool_lines.proofs.RawLaws.{behind_known, flushed_known, handed_on, kept_known, raw_any}
use Rattle.tool_lines.proofs.RawLaws.{restored_outcome, told_ahead}
use Rattle.tool_lines.proofs.raw.raw_buffered.Goals as goal

pub returns : goal.returns
returns g c = λ due written told-due told-written.
    let remaining = g.R.Read.remaining in
    let contents = g.W.Write.contents in
    let tells = λ (r : ReadAhead g.row.R.Denot). buffered_ahead remaining r.reader in
    let old = c.from-decoder.result in
    let new = c.recode-copied.new.decoder in
    let first = c.from-encoder.result.writer in
    let last = c.recode-copied.new.encoder.writer in
    let inner = c.into_inner-reader.result.reader in
    let end = c.flush-flushed.new.self in
    let reader = c.into_parts-reader.result.0 in
    let writer = c.into_parts-writer.result.0 in
    let left = TellsBehind remaining 8192 in
    let got = TellsFlushed contents c.restore_flush.result in
    let told = told_ahead _ _ old first due written c.from-decoder.ensures.mode c.from-decoder.ensures.none_waits
    (ap tells c.from-decoder.ensures.reader ∙ c.new.ensures.ahead ∙ told-due)
    (ap (buffered_written contents) c.from-encoder.ensures ∙ c.new-2.ensures.written ∙ told-written) in
    let copies = raw_any _ _ c.args.count due written old new first last c.from-decoder.ensures.offset
    c.from-decoder.ensures.none_waits c.recode-copied.result c.recode-copied.ensures.copied.copied
    (c.recode-copied.ensures.anyhow _ due written told) in
    let held = rw c.into_parts-reader.ensures.read_ahead at c.into_parts-reader.ensures.within in
    let few : length (buffered_read_ahead inner) ≤ 8192 = omega (arith, held, c.into_inner-reader.result.bound) in
    let leaves = λ (bytes : List ℕ) (is : tells new.reader ≡ Some bytes).
    subst (λ (r : g.row.R.Denot). left r bytes) (sym c.into_parts-reader.ensures.source)
    (behind_known remaining 8192 inner.source (buffered_read_ahead inner) bytes few
    (ap tells c.into_inner-reader.ensures ∙ is)) in
    let gets = λ (bytes : List ℕ) (is : buffered_written contents last ≡ Some bytes).
    subst (λ (w : g.row.W.Denot). got w bytes) (sym c.into_parts-writer.ensures.sink)
    (flushed_known contents _ c.flush-flushed.result c.restore_flush.result end.sink (buffered_kept_back end) bytes
    c.restore_flush.ensures c.flush-flushed.ensures.sent
    (kept_known _ _ bytes c.flush-flushed.ensures.keeps (c.take_fault-write_fault.ensures.written
    ∙ ap (buffered_written contents) c.into_inner-writer.ensures ∙ is))) in
    restored_outcome left got c.args.count due written reader writer _ _ c.recode-copied.result c.restore_copy.result
    c.restore_copy.ensures
    (handed_on _ left _ got new.reader reader last writer leaves gets c.args.count due written c.recode-copied.result
    copies)
