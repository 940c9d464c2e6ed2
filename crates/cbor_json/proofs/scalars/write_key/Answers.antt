use Rattle.cbor_json.proofs.ScalarLaws.{key_ends, key_stops, key_unopened}
use Rattle.cbor_json.proofs.scalars.write_key.Goals as goal

pub returns-in_err-put : goal.returns-in_err-put
returns-in_err-put g c =
    key_unopened g.W.Write c.args.header c.requires _ _ c.from_residual.result c.from_residual.ensures.0
    c.in_err-put.ensures

pub returns-in_err-write_value : goal.returns-in_err-write_value
returns-in_err-write_value g c =
    key_stops g.W.Write c.args.header c.in_ok-put.ensures _ c.from_residual-in_err-write_value.result
    _ c.from_residual-in_err-write_value.ensures.0 c.in_err-write_value.ensures

pub returns : goal.returns
returns g c =
    key_ends g.W.Write c.args.header c.in_ok-put.ensures _ _ c.put-2.result c.in_ok-write_value.ensures c.put-2.ensures
