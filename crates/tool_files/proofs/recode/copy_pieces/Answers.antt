use Rattle.std.proofs.Common.{rules, sym, arith, ◌≡◌, ℕ, Ok, None, take, ap}
use Rattle.tool_files.proofs.RecodeRuns.{exit_is, held_next, read_ended, read_failed, read_long, read_refused}
use Rattle.tool_files.proofs.RecodeRuns.{send_failed, send_refused, stops}
use Rattle.tool_files.proofs.recode.copy_pieces.Goals as goal

pub returns-in_err-count : goal.returns-in_err-count
returns-in_err-count g c = λ due written tells all.
    let failed = read_refused c.read.result c.map_err.result _ c.in_err-count.was (search rules) in
    let held = c.pieces.invariant.held due written tells all in
    let keeps = rw failed.1 at c.read.ensures.bytes in
    rw (rw failed.2 at (exit_is _ _ c.from_residual.ensures.1))
    (read_failed _ _ c.args.depth c.args.most due written held c.read.new.self failed.0 keeps)

pub returns-then-count-eq0 : goal.returns-then-count-eq0
returns-then-count-eq0 g c = λ due written tells all.
    let held = c.pieces.invariant.held due written tells all in
    let read : c.read.result ≡ Ok c.in_ok-count.count = search rules in
    let got = rw read at c.read.ensures.bytes in
    let zero : c.in_ok-count.count ≡ 0 = omega (arith, c.if-count-eq0.true) in
    rw c.answer_end.ensures (read_ended _ _ c.args.depth c.args.most due written held c.read.new.self
    (take c.in_ok-count.count c.read.new.buf) got.0 (ap (λ (n : ℕ). take n c.read.new.buf) zero)
    (got.1 zero (omega (arith, c.pieces.invariant.piece))))

pub returns-then-count-read : goal.returns-then-count-read
returns-then-count-read g c = λ due written tells all.
    let held = c.pieces.invariant.held due written tells all in
    let read : c.read.result ≡ Ok c.in_ok-count.count = search rules in
    let got = rw read at c.read.ensures.bytes in
    let bound = rw read at c.read.ensures.bound in
    read_long _ _ c.args.depth c.args.most due written held c.read.new.self (take c.in_ok-count.count c.read.new.buf) got.0
    (omega (arith, c.if-count-read.true, bound.1, c.pieces.auto.read-fits))

pub returns-in_err-map_err : goal.returns-in_err-map_err
returns-in_err-map_err g c = λ due written tells all.
    let failed = send_refused c.send.result c.map_err-in-pieces.result _ c.in_err-map_err.was (search rules) in
    let held = c.pieces.invariant.held due written tells all in
    let read : c.read.result ≡ Ok c.in_ok-count.count = search rules in
    let got = rw read at c.read.ensures.bytes in
    let feeds = (rw c.pieces.invariant.depth at c.feed-written.ensures.feeds) c.args.most held.fed held.given held.stands
    held.long in
    rw (rw failed.2 at (exit_is _ _ c.from_residual-in_err-map_err.ensures.1))
    (send_failed _ _ c.args.depth c.args.most due written held c.read.new.self (take c.in_ok-count.count c.read.new.buf) got.0
    (take c.feed-written.result.0 c.feed-written.new.out) c.feed-written.result.1 c.feed-written.new.self.left c.feed-written.new.self.start
    c.feed-written.new.self.copier c.send.new.writer.sink feeds failed.0
    (rw failed.1 at (c.send.ensures.some _ held.all)))

pub returns-in-Some : goal.returns-in-Some
returns-in-Some g c = λ due written tells all.
    let held = c.pieces.invariant.held due written tells all in
    let read : c.read.result ≡ Ok c.in_ok-count.count = search rules in
    let got = rw read at c.read.ensures.bytes in
    let feeds = (rw c.pieces.invariant.depth at c.feed-written.ensures.feeds) c.args.most held.fed held.given held.stands
    held.long in
    let sent : c.send.result ≡ Ok (tt {0}) = search rules in
    stops _ _ c.args.depth c.args.most due written held c.read.new.self (take c.in_ok-count.count c.read.new.buf) got.0
    (take c.feed-written.result.0 c.feed-written.new.out) c.feed-written.result.1 c.feed-written.new.self.left c.feed-written.new.self.start
    c.feed-written.new.self.copier c.send.new.writer.sink feeds c.in-Some.answer c.in-Some.is
    (rw sent at (c.send.ensures.all _ held.all))

pub pieces-preserved : goal.pieces-preserved
pieces-preserved g c =
    let read : c.read.result ≡ Ok c.in_ok-count.count = search rules in
    let got = rw read at c.read.ensures.bytes in
    let bound = rw read at c.read.ensures.bound in
    let count = sym bound.1 in
    let none : c.feed-written.result.1 ≡ None = search rules in
    let sent : c.send.result ≡ Ok (tt {0}) = search rules in
    record {
      piece = search rules;
      out = search rules;
      depth = search rules;
      after = rw (count, c.feed-written.ensures.depth, c.pieces.invariant.depth)
          at (rw none at c.feed-written.ensures.after);
      held = λ due written tells all.
          let held = c.pieces.invariant.held due written tells all in
          let feeds = (rw c.pieces.invariant.depth at c.feed-written.ensures.feeds) c.args.most held.fed held.given held.stands
          held.long in
          rw count at (held_next _ _ c.args.depth c.args.most due written held c.read.new.self
          (take c.in_ok-count.count c.read.new.buf) got.0 (take c.feed-written.result.0 c.feed-written.new.out)
          c.feed-written.result.1 c.feed-written.new.self.left c.feed-written.new.self.start c.feed-written.new.self.copier c.send.new.writer.sink
          feeds none (rw sent at (c.send.ensures.all _ held.all)));
    }
