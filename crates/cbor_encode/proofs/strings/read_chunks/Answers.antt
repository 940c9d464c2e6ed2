use Rattle.std.proofs.Common.{arith}
use Rattle.cbor_encode.proofs.StringLaws.{chunks_begin}
use Rattle.cbor_encode.specs.Scalars.{kind_of}
use Rattle.cbor_encode.proofs.strings.read_chunks.Goals as goal

pub chunks-init : goal.chunks-init
chunks-init c = record {
  within = omega arith;
  counted = omega arith;
  chunks = rw c.new-strings.ensures.items (chunks_begin c.args.spelling (kind_of c.args.is_text));
}
