use Rattle.std.proofs.Common.{rules, ◌≡◌, Some, inr, refl}
use Rattle.ciborium_ll.proofs.DecodingLaws.{exit_is}
use Rattle.ciborium_ll.specs.Types.Header.TheVariants as h
use Rattle.uses.specs.declared.cose.CoseError.TheVariants as e
use Rattle.uses.proofs.CoseLaws.{took_string}
use Rattle.uses.proofs.cose.byte_string_or_null.Goals as goal

pub returns-in_ok-body-in-Bytes-Some-clause-took : goal.returns-in_ok-body-in-Bytes-Some-clause-took
returns-in_ok-body-in-Bytes-Some-clause-took g c =
    let string : c.in_ok-pull.field-0 ≡ h.Bytes (Some c.in-Bytes-Some.len) = search rules in
    let pulled = rw (c.offset-place.ensures.same, string) at c.in_ok-pull.ensures.header in
    let took = took_string g.R.Read c.args.decoder.now _ _ c.in-Bytes-Some.len c.in_ok-body-in-Bytes-Some.field-0
    c.requires.strict c.requires.none_waits pulled c.in_ok-body-in-Bytes-Some.ensures.took in
    record { bytes = took.bytes; is_payload = took.is_string; took = took.took }

pub returns-in_err-body-in-Bytes-Some-clause-stops : goal.returns-in_err-body-in-Bytes-Some-clause-stops
returns-in_err-body-in-Bytes-Some-clause-stops g c =
    let residual = c.from_residual-in_err-body-in-Bytes-Some in
    let same = exit_is residual.result (e.Read c.in_err-body-in-Bytes-Some.field-0.0) residual.ensures.1 in
    let string : c.in_ok-pull.field-0 ≡ h.Bytes (Some c.in-Bytes-Some.len) = search rules in
    let pulled = rw (c.offset-place.ensures.same, string) at c.in_ok-pull.ensures.header in
    rw same (inr (record {
      len = c.in-Bytes-Some.len;
      titled = c.pull.new.self;
      allowed = inr (c.in-Bytes-Some.len, refl);
      pulled = pulled;
      fails = c.in_err-body-in-Bytes-Some.ensures.fails;
    }))

-- The call takes a payload that is null.
pub returns-in-Simple-eq22-clause-stops : goal.returns-in-Simple-eq22-clause-stops
returns-in-Simple-eq22-clause-stops g c = tt
