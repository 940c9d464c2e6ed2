use Rattle.std.proofs.Common.{rules, refl, subst, ◌≡◌, ℕ, None, Ok, Err, length}
use Rattle.ciborium_ll_decoder.specs.declared.copy.RecodeError.TheVariants as r
use Rattle.ciborium_ll_decoder.specs.Chunks.{SegmentPullAnswer}
use Rattle.ciborium_ll_decoder.proofs.DecodingLaws.{exit_is, MovesOn-none, MovesOn-then}
use Rattle.ciborium_ll_decoder.proofs.BodyCopyLaws.{so_far_start, so_far_chunk, so_far_unwritten, so_far_whole}
use Rattle.ciborium_ll_decoder.proofs.BodyCopyLaws.{so_far_error, write_refused}
use Rattle.ciborium_ll_decoder.proofs.copy.copy_chunks.Goals as goal

pub chunks-init : goal.chunks-init
chunks-init g c = record {
  same = refl;
  so_far = so_far_start g.R.Read g.W.Write c.args.segment.now c.args.writer.now;
  moves_on = MovesOn-none g.R.Read c.args.segment.now.decoder.now;
  target = refl;
}

pub chunks-preserved : goal.chunks-preserved
chunks-preserved g c =
    let wrote : c.write_all.result ≡ Ok (tt {0}) = search rules in
    record {
      same = search rules;
      so_far = (
          let kept = c.chunks.invariant in
          let pulled = c.in_ok-chunk.ensures in
          let gives = rw c.in-Some.is at pulled.chunk in
          so_far_chunk g.R.Read g.W.Write _ _ _ _ kept.so_far _ _ c.chunk.new.segment _ gives pulled.moves_on.steady
          (record {
            appended = rw wrote at c.write_all.ensures.bytes;
            room = rw wrote at c.write_all.ensures.fills;
            failures = rw wrote at c.write_all.ensures.ok;
          })
          );
      moves_on = MovesOn-then g.R.Read _ _ _ c.chunks.invariant.moves_on c.in_ok-chunk.ensures.moves_on;
      target = search rules;
    }

pub returns-clause-copied : goal.returns-clause-copied
returns-clause-copied g c =
    let none : c.in_ok-chunk.field-0 ≡ None = search rules in
    so_far_whole g.R.Read g.W.Write c.args.body _ _ _ _ c.requires.whole c.chunks.invariant.so_far
    c.chunk.new.segment (rw none at c.in_ok-chunk.ensures.chunk)

pub returns-in_err-chunk-clause-copied : goal.returns-in_err-chunk-clause-copied
returns-in_err-chunk-clause-copied g c =
    let same = exit_is c.from_residual.result (r.Read c.in_err-chunk.field-0.0) c.from_residual.ensures.1 in
    let pulled = c.in_err-chunk.ensures in
    let chunk = subst (λ (room : ℕ). SegmentPullAnswer g.R.Read room c.chunks.segment (Err c.in_err-chunk.field-0.0)
    c.chunk.new.segment) c.chunks.auto.buffer pulled.chunk in
    rw same (so_far_error g.R.Read g.W.Write c.args.body _ c.chunks.segment _ _ c.requires.whole
    c.chunks.invariant.so_far _ c.in_err-chunk.field-0.0 c.chunk.new.segment c.requires.room pulled.moves_on.steady
    chunk)

pub returns-in_err-map_err-clause-copied : goal.returns-in_err-map_err-clause-copied
returns-in_err-map_err-clause-copied g c =
    let error = c.in_err-map_err.field-0.0 in
    let failed = write_refused c.write_all.result c.map_err.result error c.in_err-map_err.was (search rules) in
    let wrote = failed.1 in
    let pulled = c.in_ok-chunk.ensures in
    let gives = rw c.chunks.auto.buffer at (rw c.in-Some.is at pulled.chunk) in
    let same = exit_is c.from_residual-in_err-map_err.result error c.from_residual-in_err-map_err.ensures.1 in
    rw (same, failed.2) (so_far_unwritten g.R.Read g.W.Write c.args.body _ _ _ _ c.requires.whole
    c.chunks.invariant.so_far (length c.args.buffer.now) _ c.chunk.new.segment _ gives c.requires.room
    pulled.moves_on.steady
    (record {
      front = rw wrote at c.write_all.ensures.front;
      full = rw wrote at c.write_all.ensures.full;
      failures = rw wrote at c.write_all.ensures.err;
    }))
