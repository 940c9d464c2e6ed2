use Rattle.std.proofs.Common.{ap, Ok, refl}
use Rattle.cbor_skip.specs.Skipping.{StopsCounted}
use Rattle.tool_verdicts.specs.Parts.{index_behind, none_behind}
use Rattle.tool_verdicts.proofs.part.index_part.Goals as goal

pub returns-in-Err : goal.returns-in-Err
returns-in-Err g c =
    let stops : StopsCounted g.R.Read c.args.skip c.args.depth 512 c.args.decoder.now c.in-Err.error c.offset.new.self =
    rw c.offset.ensures.same c.in-Err.ensures.skipped in
    none_behind c.in-Err.error stops
    (ap Ok (rw c.offset.ensures.same (rw c.offset.ensures.value at c.fault_of.ensures))) refl

pub returns : goal.returns
returns g c =
    index_behind c.skip_items.new.decoder
    (record { reads = c.in_default.ensures.skipped; none = c.in_default.ensures.none }) c.index.ensures
