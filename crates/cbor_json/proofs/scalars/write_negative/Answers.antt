use Rattle.std.proofs.Common.{rules, ◌≡◌, List, ℕ, negsuc, subst}
use Rattle.std.specs.Fmt.{signed_decimal}
use Rattle.ciborium_ll.specs.Encoding.{WritesBytes}
use Rattle.cbor_json.proofs.scalars.write_negative.Goals as goal

pub returns : goal.returns
returns g c =
    let text : c.as_bytes.result.now ≡ signed_decimal (negsuc c.args.number) = search rules in
    subst (λ (z : List ℕ). WritesBytes g.W.Write c.args.writer.now c.put.result z c.put.new.writer) text c.put.ensures
