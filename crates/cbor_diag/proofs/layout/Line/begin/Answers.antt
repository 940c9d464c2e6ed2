use Rattle.std.proofs.Common.{◌≡◌, codes, arith}
use Rattle.ciborium_ll.proofs.EncodingLaws.{WritesBytes-stopped}
use Rattle.cbor_diag.specs.ItemTexts.{indent}
use Rattle.cbor_diag.proofs.ItemTextLaws.{line_more, line_stops}
use Rattle.cbor_diag.proofs.layout.Line.begin.Goals as goal

pub returns-in_err-put-2 : goal.returns-in_err-put-2
returns-in_err-put-2 g c =
    line_stops c.levels._level c.levels.invariant c.args.self.now.level _ c.from_residual-in_err-put-2.result
    c.levels-test.true c.from_residual-in_err-put-2.ensures.0 c.in_err-put-2.ensures

pub levels-preserved : goal.levels-preserved
levels-preserved g c = line_more c.levels._level c.levels.invariant c.in_ok-put-2.ensures

pub returns-in_err-put : goal.returns-in_err-put
returns-in_err-put g c =
    WritesBytes-stopped g.W.Write _ _ c.from_residual.result (codes "\n") (indent c.args.self.now.level)
    c.from_residual.ensures.0 c.in_err-put.ensures

pub levels-init : goal.levels-init
levels-init g c = c.in_ok-put.ensures

pub returns : goal.returns
returns g c =
    let all : c.levels._level ≡ c.args.self.now.level = omega (arith, c.levels-test.false, c.levels.auto._level-end) in
    rw all at c.levels.invariant
