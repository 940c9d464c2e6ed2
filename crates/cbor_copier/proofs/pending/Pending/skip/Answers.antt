use Rattle.std.proofs.Common.{drop, sym, ap, ◌∙◌}
use Rattle.std.proofs.lemmas.List.{drop-drop}
use Rattle.cbor_copier.proofs.pending.Pending.skip.Goals as goal

pub returns : goal.returns
returns c =
    sym (drop-drop c.args.count c.self.inside.given c.self.inside.few) ∙ ap (drop c.args.count) c.self.view_is
