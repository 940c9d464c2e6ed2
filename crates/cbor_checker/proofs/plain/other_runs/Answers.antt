use Rattle.std.proofs.Common.{◌≡◌, ◌+◌, rules, arith}
use Rattle.cbor_checker.proofs.PlainRuns.{none_taken, plain_none, plain_runs}
use Rattle.cbor_checker.proofs.plain.other_runs.Goals as goal

pub runs-init : goal.runs-init
runs-init c =
    record {
      within = omega arith;
      most = omega arith;
      some = λ less. absurd (omega (arith, less));
      plain = plain_none c.args.spelling c.args.tags c.args.offset c.args.place.now c.args.most;
    }

pub runs-preserved : goal.runs-preserved
runs-preserved c =
    let xs = c.args.bytes.now in
    let run = c.runs.run in
    let others = c.other_run-others.result in
    let items = c.ascii_run-items.result in
    let allowed = c.args.spelling in
    let tags = c.args.tags in
    let one =
    plain_runs allowed tags c.args.offset c.args.place.now c.runs.place c.other_run-others.new.place c.args.most run.left
    others.left run.len others.len xs c.runs.invariant.within c.runs.invariant.most c.other_run-others.ensures.most
    c.runs.invariant.plain c.other_run-others.ensures.plain in
    record {
      within = search rules;
      most = omega (arith, c.runs.invariant.most, c.other_run-others.ensures.most, c.ascii_run-items.ensures.most);
      some = λ less. search rules;
      plain =
          plain_runs allowed tags c.args.offset c.args.place.now c.other_run-others.new.place
          c.ascii_run-items.new.place c.args.most others.left items.left (run.len + others.len) items.len xs
          (search rules) (omega (arith, c.runs.invariant.most, c.other_run-others.ensures.most))
          c.ascii_run-items.ensures.most one (c.ascii_run-items.ensures.plain tags);
    }

pub returns-then-others-eq0-clause-plain : goal.returns-then-others-eq0-clause-plain
returns-then-others-eq0-clause-plain c =
    let run = c.runs.run in
    let others = c.other_run-others.result in
    let none : others.len ≡ 0 = search rules in
    let same : others.left ≡ run.left =
    none_taken others.left run.left others.len c.other_run-others.ensures.most c.other_run-others.ensures.some none in
    let long : run.len + others.len ≡ run.len = omega (arith, none) in
    rw (same, long) at
    (plain_runs c.args.spelling c.args.tags c.args.offset c.args.place.now c.runs.place c.other_run-others.new.place
    c.args.most run.left others.left run.len others.len c.args.bytes.now c.runs.invariant.within c.runs.invariant.most
    c.other_run-others.ensures.most c.runs.invariant.plain c.other_run-others.ensures.plain)
