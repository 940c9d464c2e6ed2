use Rattle.std.proofs.Common.{◌≡◌, true, false, refl, sym}
use Rattle.cbor_skip.specs.Remaining.{closes}
use Rattle.cbor_json.proofs.nests.at_break.Goals as goal

pub returns-then-closes : goal.returns-then-closes
returns-then-closes g c =
    let may : closes c.args.remaining ≡ true = sym c.if-closes.ensures in
    rw may refl

pub returns : goal.returns
returns g c =
    let may : closes c.args.remaining ≡ false = sym c.if-closes.ensures in
    rw may refl
