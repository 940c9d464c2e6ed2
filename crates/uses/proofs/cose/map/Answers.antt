use Rattle.std.proofs.Common.{rules, ◌≡◌, refl}
use Rattle.ciborium_ll.proofs.DecodingLaws.{exit_is}
use Rattle.ciborium_ll.specs.Types.Header.TheVariants as h
use Rattle.uses.specs.declared.cose.CoseError.TheVariants as e
use Rattle.uses.proofs.CoseLaws.{took_map}
use Rattle.uses.proofs.cose.map.Goals as goal

pub returns-clause-took : goal.returns-clause-took
returns-clause-took g c =
    let is_map : c.in_ok-len.field-0 ≡ h.Map c.in-Map.len = search rules in
    let pulled = rw (c.offset-start.ensures.same, is_map) at c.in_ok-len.ensures.header in
    rw c.offset-end.ensures.same (took_map g.R.Read c.args.decoder.now _ _ c.in-Map.len _ c.requires.strict
    c.requires.none_waits pulled c.in_ok-pairs-in-Map.ensures c.offset-start.ensures.value c.offset-end.ensures.value)

pub returns-in_err-pairs-in-Map-clause-stops : goal.returns-in_err-pairs-in-Map-clause-stops
returns-in_err-pairs-in-Map-clause-stops g c =
    let residual = c.from_residual-in_err-pairs-in-Map in
    let same = exit_is residual.result (e.Skip c.in_err-pairs-in-Map.field-0.0) residual.ensures.1 in
    let is_map : c.in_ok-len.field-0 ≡ h.Map c.in-Map.len = search rules in
    rw same (record {
      len = c.in-Map.len;
      titled = c.pull.new.self;
      allowed = (c.in-Map.len, refl);
      pulled = rw (c.offset-start.ensures.same, is_map) at c.in_ok-len.ensures.header;
      fails = c.in_err-pairs-in-Map.ensures;
    })
