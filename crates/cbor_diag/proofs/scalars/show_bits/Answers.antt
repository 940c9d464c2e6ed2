use Rattle.std.proofs.Common.{refl}
use Rattle.cbor_diag.proofs.scalars.show_bits.Goals as goal

pub returns-in-Single : goal.returns-in-Single
returns-in-Single g c = record {
  text = _;
  is_text = rw (c.in-Single.is, c.to_be_bytes-in-Single.ensures) refl;
  written = c.put_bits-in-Single.ensures;
}

pub returns-in-Double : goal.returns-in-Double
returns-in-Double g c = record {
  text = _;
  is_text = rw (c.in-Double.is, c.to_be_bytes-in-Double.ensures) refl;
  written = c.put_bits-in-Double.ensures;
}
