use Rattle.cbor_canonical.proofs.StringRuns.{chunk_there, no_title_step, other_step, body_step}
use Rattle.std.proofs.Common.{ap, ◌∙◌}
use Rattle.ciborium_ll_grammar.specs.Strings.{kind_header}
use Rattle.cbor_canonical.specs.Strings.{kind_of}
use Rattle.cbor_canonical.proofs.strings.next_step.Goals as goal

pub returns-in_default : goal.returns-in_default
returns-in_default c = no_title_step (kind_of c.args.kind) c.args.bytes.now c.in_default.ensures

pub returns-in-Some-take_body : goal.returns-in-Some-take_body
returns-in-Some-take_body c =
    chunk_there (kind_of c.args.kind) c.in-Some-Some.len c.in-Some-Some.field-0 c.in-Some.header c.args.bytes.now
    c.in-Some.rest.now c.in-Some-take_body.body.now c.in-Some-take_body.after.now c.in-Some.ensures
    c.in-Some-Some.ensures c.in-Some-Some.field-0-is c.in-Some-take_body.ensures

pub returns-in-None-take_body : goal.returns-in-None-take_body
returns-in-None-take_body c =
    body_step (kind_of c.args.kind) c.in-Some-Some.len c.in-Some.header c.args.bytes.now c.in-Some.rest.now
    c.in-Some.ensures (c.in-Some-Some.ensures ∙ ap (kind_header (kind_of c.args.kind)) c.in-Some-Some.field-0-is)
    c.in-None-take_body.ensures

pub returns-in-None : goal.returns-in-None
returns-in-None c =
    other_step (kind_of c.args.kind) c.in-Some.header c.args.bytes.now c.in-Some.rest.now c.in-Some.ensures
    c.in-None.ensures c.in_default-header.not-Break
