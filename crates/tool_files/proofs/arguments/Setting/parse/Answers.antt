use Rattle.tool_files.proofs.arguments.Setting.parse.Goals as goal

pub returns-in_err-setting-clause-none : goal.returns-in_err-setting-clause-none
returns-in_err-setting-clause-none c = rw c.from_residual.ensures (λ setting behind known spelled.
    c.in_err-setting.ensures.none setting behind spelled)
