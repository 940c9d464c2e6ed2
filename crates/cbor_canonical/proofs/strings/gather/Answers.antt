use Rattle.std.proofs.Common.{arith, ◌-◌, ◌+◌, ℕ, ap, length, refl, take}
use Rattle.cbor_canonical.specs.Strings.{kind_of}
use Rattle.cbor_canonical.proofs.StringRuns.{gathering_start, gathering_closed, gathering_opened}
use Rattle.cbor_canonical.proofs.StringRuns.{gathering_more, gather_stuck, gather_over}
use Rattle.cbor_canonical.proofs.RoomStrings.{chunk_left, less_left}
use Rattle.cbor_canonical.proofs.WriteRuns.{adds_reach}
use Rattle.cbor_canonical.proofs.strings.gather.Goals as goal

pub steps-init : goal.steps-init
steps-init c = record {
  is = gathering_start (kind_of c.args.kind) c.args.bytes.now (take c.args.at c.args.out.now);
  from = omega arith;
  within = c.requires;
  fewer = omega arith;
}

pub steps-preserved-in-Some-Closed : goal.steps-preserved-in-Some-Closed
steps-preserved-in-Some-Closed c = record {
  is = gathering_closed (kind_of c.args.kind) c.args.bytes.now c.steps.rest.now c.in-Some-Closed.after.now
      (take c.args.at c.args.out.now) (take c.steps.end c.steps.out) c.steps.opens c.steps.due (c.steps.due - 1)
      c.steps.invariant.is (c.steps.opens - 1) (omega arith) (omega arith)
      (rw c.in-Some-Closed.field-0-is at c.in-Some-Closed.ensures);
  from = c.steps.invariant.from;
  within = c.steps.invariant.within;
  fewer = omega (
    arith,
    c.steps.invariant.fewer,
    ap (length {A = ℕ}) (rw c.in-Some-Closed.field-0-is at c.in-Some-Closed.ensures),
  );
}

pub steps-preserved-in-Some-Opened : goal.steps-preserved-in-Some-Opened
steps-preserved-in-Some-Opened c = record {
  is = gathering_opened (kind_of c.args.kind) c.args.bytes.now c.steps.rest.now c.in-Some-Opened.after.now
      (take c.args.at c.args.out.now) (take c.steps.end c.steps.out) c.steps.opens c.steps.due (c.steps.due - 1)
      c.steps.invariant.is (c.steps.opens + 1) refl (omega arith)
      (rw c.in-Some-Opened.field-0-is at c.in-Some-Opened.ensures);
  from = c.steps.invariant.from;
  within = c.steps.invariant.within;
  fewer = omega (
    arith,
    c.steps.invariant.fewer,
    less_left _ _ _ (rw c.in-Some-Opened.field-0-is at c.in-Some-Opened.ensures),
  );
}

pub steps-preserved : goal.steps-preserved
steps-preserved c =
    let put = c.in_ok-end-in-Some-Chunk.ensures.written in
    record {
      is = gathering_more (kind_of c.args.kind) c.args.bytes.now c.steps.rest.now c.in-Some-Chunk.after.now
          (take c.args.at c.args.out.now) (take c.steps.end c.steps.out) c.steps.opens c.steps.due (c.steps.due - 1)
          c.steps.invariant.is c.in-Some-Chunk.chunk.now _ (omega arith)
          (rw c.in-Some-Chunk.field-0-is at c.in-Some-Chunk.ensures) put.is;
      from = omega (arith, c.steps.invariant.from, put.from);
      within = put.within;
      fewer = omega (
        arith,
        c.steps.invariant.fewer,
        chunk_left (kind_of c.args.kind) c.in-Some-Chunk.chunk.now c.steps.rest.now c.in-Some-Chunk.after.now
            (rw c.in-Some-Chunk.field-0-is at c.in-Some-Chunk.ensures),
        adds_reach c.in-Some-Chunk.chunk.now c.steps.end _ c.steps.out _ c.steps.invariant.within put,
      );
    }

pub returns-in-None-clause-written : goal.returns-in-None-clause-written
returns-in-None-clause-written c =
    gather_stuck (kind_of c.args.kind) c.args.bytes.now c.steps.rest.now c.args.bytes.now
    (take c.args.at c.args.out.now) (take c.steps.end c.steps.out) c.steps.opens c.steps.due 0 c.steps.invariant.is
    c.in-None.ensures

pub returns-clause-written : goal.returns-clause-written
returns-clause-written c =
    gather_over (kind_of c.args.kind) c.args.bytes.now c.steps.rest.now c.args.bytes.now
    (take c.args.at c.args.out.now) (take c.steps.end c.steps.out) c.steps.opens c.steps.due 0 c.steps.invariant.is
    (omega (arith, c.steps-test.false))
