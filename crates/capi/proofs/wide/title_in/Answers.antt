use Rattle.std.proofs.Common.{rules}
use Rattle.capi.proofs.WideLaws.{none_of, wide_of}
use Rattle.capi.proofs.wide.title_in.Goals as goal

pub returns : goal.returns
returns c =
    wide_of c.args.parts.now c.in_ok-header.field-0 c.args.width c.wide_title.result (search rules)
    c.in_ok-header.ensures.some c.wide_title.ensures

pub returns-in_err-header : goal.returns-in_err-header
returns-in_err-header c =
    rw c.from_residual.ensures (none_of c.args.parts.now c.args.width c.in_err-header.ensures.none)
