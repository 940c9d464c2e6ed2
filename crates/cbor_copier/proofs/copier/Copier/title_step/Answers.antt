use Rattle.std.proofs.Common.{rules}
use Rattle.cbor_parser.proofs.TakenLaws.{none_begins}
use Rattle.cbor_copier.specs.Copying.{spot_of}
use Rattle.cbor_copier.specs.Steps.{with_byte}
use Rattle.cbor_copier.proofs.KeptLaws.{step_early, step_cut, step_whole, step_none}
use Rattle.cbor_copier.proofs.copier.Copier.title_step.Goals as goal

pub returns-then-begins_none : goal.returns-then-begins_none
returns-then-begins_none c =
    let spot = with_byte c.args.byte (spot_of c.args.self.now) in
    step_none spot (spot_of c.refuse.new.self) (search rules) (search rules)

pub returns-then-blocks : goal.returns-then-blocks
returns-then-blocks c =
    let spot = with_byte c.args.byte (spot_of c.args.self.now) in
    step_early spot _ c.row_of-row.result.kind (search rules) (search rules) (search rules)
    (search rules) (search rules) (search rules)

pub returns-else-blocks : goal.returns-else-blocks
returns-else-blocks c =
    let spot = with_byte c.args.byte (spot_of c.args.self.now) in
    step_cut spot _ c.row_of-row.result.kind (search rules) (search rules) (search rules)
    (search rules) (search rules) (search rules)

pub returns-in-Some : goal.returns-in-Some
returns-in-Some c =
    let spot = with_byte c.args.byte (spot_of c.args.self.now) in
    step_whole spot (spot_of c.enter.new.self) c.in-Some.header (search rules) (search rules) (search rules)

pub returns-in-None : goal.returns-in-None
returns-in-None c =
    let spot = with_byte c.args.byte (spot_of c.args.self.now) in
    step_none spot (spot_of c.refuse-in-None.new.self) (none_begins spot.allowed spot.front (search rules))
    (search rules)
