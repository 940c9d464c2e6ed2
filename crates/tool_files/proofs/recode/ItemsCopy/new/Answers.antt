use Rattle.std.proofs.Common.{[], refl}
use Rattle.tool_files.specs.Recodes.{none}
use Rattle.tool_files.proofs.RecodeLaws.{first_left, fresh_stands}
use Rattle.tool_files.proofs.recode.ItemsCopy.new.Goals as goal

pub returns-clause-stands : goal.returns-clause-stands
returns-clause-stands c =
    fresh_stands c.args.depth c.args.most c.args.most 0 0 [] [] c.new.result c.new.ensures none refl
    (first_left c.args.most c.requires.some)
