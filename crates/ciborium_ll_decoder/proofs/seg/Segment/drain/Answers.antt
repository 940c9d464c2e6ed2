use Rattle.std.proofs.Common.{rules, refl, ◌≡◌, true, subst, ℕ, Err}
use Rattle.std.specs.Option.{is_some}
use Rattle.ciborium_ll_decoder.specs.Chunks.{SegmentPullAnswer}
use Rattle.ciborium_ll_decoder.proofs.DecodingLaws.{exit_is, MovesOn-none, MovesOn-then}
use Rattle.ciborium_ll_decoder.proofs.FinishLaws.{rest_start, rest_pulled, rest_error}
use Rattle.ciborium_ll_decoder.proofs.seg.Segment.drain.Goals as goal

pub chunks-init : goal.chunks-init
chunks-init g c = record {
  same = refl;
  so_far = rest_start g.R.Read c.args.self.now;
  moves_on = MovesOn-none g.R.Read c.args.self.now.decoder.now;
}

pub chunks-preserved : goal.chunks-preserved
chunks-preserved g c =
    let kept = c.chunks.invariant in
    let pulled = c.in_ok-chunk.ensures in
    let some : is_some c.in_ok-chunk.field-0 ≡ true = search rules in
    record {
      same = search rules;
      so_far = rest_pulled g.R.Read _ c.chunks.self kept.so_far _ c.chunk.new.segment pulled.moves_on.steady
          c.in_ok-chunk.field-0 pulled.chunk some;
      moves_on = MovesOn-then g.R.Read _ _ _ kept.moves_on pulled.moves_on;
    }

pub returns-in_err-chunk-clause-finishes : goal.returns-in_err-chunk-clause-finishes
returns-in_err-chunk-clause-finishes g c =
    let pulled = c.in_err-chunk.ensures in
    let chunk = subst (λ (room : ℕ). SegmentPullAnswer g.R.Read room c.chunks.self (Err c.in_err-chunk.field-0.0)
    c.chunk.new.segment) c.chunks.auto.buffer pulled.chunk in
    rw (exit_is c.from_residual.result c.in_err-chunk.field-0.0 c.from_residual.ensures.1)
    (rest_error g.R.Read _ c.chunks.self c.chunks.invariant.so_far _ c.chunk.new.segment pulled.moves_on.steady
    c.in_err-chunk.field-0.0 c.requires.room chunk)
