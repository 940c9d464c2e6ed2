use Rattle.std.proofs.Common.{refl}
use Rattle.std.proofs.lemmas.List.{take_rest}
use Rattle.capi.proofs.TitleReads.{body_follows, none_follows, none_pulled}
use Rattle.capi.proofs.titles.read_title.Goals as goal

pub returns-in_err-body-in-Ok : goal.returns-in_err-body-in-Ok
returns-in_err-body-in-Ok c =
    let bytes = c.args.bytes.now in
    let pulled = c.in-Ok.ensures in
    let none = rw (take_rest bytes c.pull.new.consumed) at c.in_err-body-in-Ok.ensures pulled.0.header pulled.1 in
    rw c.from_residual.ensures (none_follows bytes c.pull.new.consumed pulled.0 pulled.2 none)

pub returns-in_ok-body-in-Ok : goal.returns-in_ok-body-in-Ok
returns-in_ok-body-in-Ok c =
    let bytes = c.args.bytes.now in
    let pulled = c.in-Ok.ensures in
    let body = c.in_ok-body-in-Ok.body in
    let has = rw (take_rest bytes c.pull.new.consumed) at c.in_ok-body-in-Ok.ensures pulled.0.header pulled.1 in
    body_follows bytes c.pull.new.consumed pulled.0 pulled.2 c.args.start body _ has
    (record {
      kind_is = pulled.1.kind;
      value_is = pulled.1.value;
      indefinite_is = pulled.1.indefinite;
      start_is = refl;
      end_is = refl;
    })

pub returns-in_default : goal.returns-in_default
returns-in_default c = none_pulled c.args.bytes.now c.pull.result _ c.pull.new.header c.pull.new.consumed
    c.pull.ensures c.in_default.not-Ok
