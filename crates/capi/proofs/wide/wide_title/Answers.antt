use Rattle.std.proofs.Common.{rules, sym, subst}
use Rattle.capi.specs.Widths.{Wide}
use Rattle.capi.proofs.WideLaws.{wide_found}
use Rattle.capi.proofs.wide.wide_title.Goals as goal

pub returns : goal.returns
returns c = subst (Wide c.args.header c.args.width) (sym c.title.ensures)
    (wide_found c.args.header c.args.width (search rules))
