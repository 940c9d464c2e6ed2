use Rattle.std.proofs.Common.{rules, [], refl, sym, ap, Some, append-nil, ◌∙◌}
use Rattle.tool_files.specs.Recodes.{enough_copied, none}
use Rattle.tool_files.proofs.RecodeLaws.{front_copied}
use Rattle.tool_files.proofs.recode.copy_most.Goals as goal

pub returns-in-Some-eq0 : goal.returns-in-Some-eq0
returns-in-Some-eq0 g c = λ due written tells all. (
  [],
  enough_copied (front_copied c.args.depth c.args.most 0 [] due due [] (search rules) none refl),
  all ∙ ap Some (sym (append-nil written)),
)
