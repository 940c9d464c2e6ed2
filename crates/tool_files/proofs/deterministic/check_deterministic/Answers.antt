use Rattle.std.proofs.Common.{refl, rules}
use Rattle.tool_verdicts.specs.Deterministic.{FindsDeterministic}
use Rattle.tool_files.specs.Given.{IsWhole}
use Rattle.tool_files.specs.Deterministic.{failed, found}
use Rattle.tool_files.specs.Orders.{chosen_order}
use Rattle.tool_files.proofs.CanonLaws.{given}
use Rattle.tool_files.proofs.deterministic.check_deterministic.Goals as goal

pub returns-in-Ok : goal.returns-in-Ok
returns-in-Ok g c =
    let bytes = c.read_to_end.new.buf.items in
    let all : IsWhole (g.R.Read.remaining c.args.reader) bytes =
    given _ c.new-bytes.result.items bytes c.new-bytes.ensures.items c.in-Ok.ensures.bytes in
    let finds : FindsDeterministic c.args.options.one (chosen_order c.args.options.order) c.args.options.depth bytes
    c.check_bytes.result =
    rw (c.key_order.ensures, c.as_slice.ensures.value) at ((c.check_bytes.ensures.exactly c.check_bytes.result).0
    refl) in
    found bytes all finds

pub returns : goal.returns
returns g c = failed (search rules)
