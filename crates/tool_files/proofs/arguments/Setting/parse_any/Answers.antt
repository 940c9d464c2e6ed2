use Rattle.std.proofs.Common.{rules}
use Rattle.tool_files.specs.Arguments.{TakesValue, apart}
use Rattle.tool_files.proofs.ArgumentLaws.{shallow_valued, spells_none}
use Rattle.tool_files.proofs.arguments.Setting.parse_any.Goals as goal

pub returns-then-takes_value-clause-some : goal.returns-then-takes_value-clause-some
returns-then-takes_value-clause-some c =
    let valued = c.in_ok-setting.ensures.some in (
      shallow_valued c.in_ok-setting.setting c.as_str.result.now valued.1,
      apart c.in_ok-value.value.now valued.0 c.in_ok-value.ensures.cases.0 (rw c.as_str.ensures.value at valued.1),
    )

pub returns-in_err-parse_joined-in-None-clause-none : goal.returns-in_err-parse_joined-in-None-clause-none
returns-in_err-parse_joined-in-None-clause-none c =
    let no_value : TakesValue c.args.name.now → ⊥ = search rules in
    rw c.from_residual-in_err-parse_joined-in-None.ensures (spells_none c.args.name.now c.args.words.now no_value
    c.in-None.ensures.none c.in_err-parse_joined-in-None.ensures.none)
