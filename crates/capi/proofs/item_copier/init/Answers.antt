use Rattle.std.proofs.Common.{[], refl}
use Rattle.capi.proofs.item_copier.init.Goals as goal

pub returns : goal.returns
returns c = record {
  mark = refl;
  state = c.save.ensures.keeps c.args.spelling c.args.depth [] [] c.with_spelling.ensures;
}
