use Rattle.std.proofs.Common.{rules, ◌≡◌, ℕ, get_or, refl, subst, ◌∙◌, arith, None, Ok, Err, length-take-le}
use Rattle.std.proofs.lemmas.List.{take_more, take_all}
use Rattle.ciborium_ll_decoder.specs.Chunks.{GivesChunk, SegmentPullAnswer}
use Rattle.ciborium_ll_decoder.proofs.BodyCopyLaws.{write_refused}
use Rattle.ciborium_ll_decoder.proofs.DecodingLaws.{exit_is, MovesOn-none, MovesOn-then}
use Rattle.ciborium_ll_io.proofs.WriteLaws.{WritesBytes-of}
use Rattle.ciborium_ll.specs.Drains.{none, more}
use Rattle.ciborium_ll.proofs.DrainLaws.{comes_at, front_long}
use Rattle.ciborium_ll.proofs.laws.drains.drain.Goals as goal

pub sizes-init : goal.sizes-init
sizes-init g c = record {
  same = search rules;
  each = none;
  moves_on = MovesOn-none g.R.Read c.args.segment.now.decoder.now;
  target = refl;
}

pub returns-in_default-clause-drains : goal.returns-in_default-clause-drains
returns-in_default-clause-drains g c =
    let sizes = c.args.sizes.now in
    let none : c.in_ok-chunk.field-0 ≡ None = search rules in
    record {
      size = get_or sizes c.sizes.index 0;
      between = c.sizes.segment;
      comes = comes_at g.R.Read g.W.Write sizes c.sizes.index 0 c.sizes-test.true c.sizes.invariant.each;
      counted = omega (arith, length-take-le c.sizes.index sizes (omega (arith, c.sizes-test.true)));
      ends = rw none at c.in_ok-chunk.ensures.chunk;
    }

pub returns-in_err-chunk-clause-drains : goal.returns-in_err-chunk-clause-drains
returns-in_err-chunk-clause-drains g c =
    let sizes = c.args.sizes.now in
    let room = front_long sizes _ c.sizes.buffer c.sizes.index c.requires.fit c.sizes.auto.buffer c.sizes-test.true in
    let error = c.in_err-chunk.field-0.0 in
    rw (exit_is _ _ c.from_residual.ensures.1) (record {
      size = get_or sizes c.sizes.index 0;
      between = c.sizes.segment;
      comes = comes_at g.R.Read g.W.Write sizes c.sizes.index 0 c.sizes-test.true c.sizes.invariant.each;
      fails = subst (λ (n : ℕ). SegmentPullAnswer g.R.Read n c.sizes.segment (Err error) c.chunk.new.segment) room
          c.in_err-chunk.ensures.chunk;
    })

pub returns-in_err-map_err-clause-drains : goal.returns-in_err-map_err-clause-drains
returns-in_err-map_err-clause-drains g c =
    let sizes = c.args.sizes.now in
    let room = front_long sizes _ c.sizes.buffer c.sizes.index c.requires.fit c.sizes.auto.buffer c.sizes-test.true in
    let failed = write_refused c.write_all.result c.map_err.result _ c.in_err-map_err.was (search rules) in
    let w = c.write_all.ensures in
    rw (rw failed.2 at (exit_is _ _ c.from_residual-in_err-map_err.ensures.1)) (record {
      size = get_or sizes c.sizes.index 0;
      between = c.sizes.segment;
      writer-between = c.sizes.sink.writer;
      comes = comes_at g.R.Read g.W.Write sizes c.sizes.index 0 c.sizes-test.true c.sizes.invariant.each;
      chunk = c.in-Some.chunk.now;
      gives = subst (λ (n : ℕ). GivesChunk g.R.Read n c.sizes.segment c.in-Some.chunk.now c.chunk.new.segment) room
          (rw c.in-Some.is at c.in_ok-chunk.ensures.chunk);
      stopped = rw failed.1 at
          (WritesBytes-of g.W.Write _ _ c.write_all.result _ w.bytes w.fills w.ok w.front w.full w.err);
    })

pub sizes-preserved : goal.sizes-preserved
sizes-preserved g c =
    let sizes = c.args.sizes.now in
    let room = front_long sizes _ c.sizes.buffer c.sizes.index c.requires.fit c.sizes.auto.buffer c.sizes-test.true in
    let pulled = c.in_ok-chunk.ensures in
    let wrote : c.write_all.result ≡ Ok (tt {0}) = search rules in
    let w = c.write_all.ensures in
    record {
      same = search rules;
      each = rw (take_more sizes c.sizes.index 0 c.sizes-test.true) (more c.sizes.invariant.each
          (subst (λ (n : ℕ). GivesChunk g.R.Read n c.sizes.segment c.in-Some.chunk.now c.chunk.new.segment) room
          (rw c.in-Some.is at pulled.chunk)) pulled.moves_on
          (rw wrote at (WritesBytes-of g.W.Write _ _ c.write_all.result _ w.bytes w.fills w.ok w.front w.full w.err)));
      moves_on = MovesOn-then g.R.Read _ _ _ c.sizes.invariant.moves_on pulled.moves_on;
      target = c.write_all.ensures.target ∙ c.sizes.invariant.target;
    }

pub returns-clause-drains : goal.returns-clause-drains
returns-clause-drains g c =
    let sizes = c.args.sizes.now in
    let all = take_all c.sizes.index sizes (omega (arith, c.sizes-test.false)) in
    record {
      each = rw all at c.sizes.invariant.each;
      counted = refl;
    }
