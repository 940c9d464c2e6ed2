use Rattle.std.proofs.Common.{◌≡◌, ◌-◌, ap, length, Some, Ok, refl, sym, arith}
use Rattle.ciborium_ll.specs.Strings.{Bytes}
use Rattle.ciborium_ll_decoder.proofs.SkipLaws.{definite_skipped}
use Rattle.ciborium_ll.specs.Types.Header.TheVariants as h
use Rattle.ciborium_ll.specs.Title.{title_len}
use Rattle.cbor_diag.proofs.MemoryLaws.{held_cut, held_read, held_shown, one_written}
use Rattle.cbor_diag.proofs.memory.show_held.Goals as goal

pub returns-in-Ok-clause-reads : goal.returns-in-Ok-clause-reads
returns-in-Ok-clause-reads g c =
    let kept = rw c.offset.ensures.same at c.in-Ok.ensures.kept in
    held_read g.R.Read c.args.len c.show.result c.said.result c.said.ensures.same
    (definite_skipped g.R.Read Bytes c.args.len 64 c.args.decoder.now c.keep_body.new.decoder (Ok (tt {0}))
    c.title_len.ensures.range kept.0)

pub returns-in-Ok-clause-shown : goal.returns-in-Ok-clause-shown
returns-in-Ok-clause-shown g c =
    let kept = rw c.offset.ensures.same at c.in-Ok.ensures.kept in
    let body = one_written (sym c.written.ensures.written) (sym kept.1) in
    held_shown g.R.Read g.W.Write _ c.args.mark c.args.len c.args.line.now g.B.Bodies.strings c.args.depth
    (length c.args.memory.now) c.requires.held _ c.written.result.now c.args.decoder.now c.args.writer.now
    c.keep_body.new.decoder c.show.new.writer c.show.result c.said.result c.said.ensures.same kept.0 body
    (omega (
      arith,
      ap length body,
      kept.0.all,
      c.split_at_mut-space.ensures.front_len,
      c.split_at_mut-space.ensures.back_len,
    )) c.show.ensures

pub returns-in-Err-clause-shown : goal.returns-in-Err-clause-shown
returns-in-Err-clause-shown g c =
    let kept = rw c.offset.ensures.same at c.in-Err.ensures.kept in
    let place : c.offset.result - c.title_len.result ≡ c.args.decoder.now.offset - title_len (h.Bytes (Some c.args.len)) =
    rw (c.offset.ensures.value, c.title_len.ensures.value) refl in
    held_cut g.R.Read g.W.Write _ c.args.mark c.args.len c.args.line.now g.B.Bodies.strings c.args.depth
    (length c.args.memory.now) c.requires.held _ c.args.decoder.now c.args.writer.now c.keep_body.new.decoder
    c.in-Err.error place kept
