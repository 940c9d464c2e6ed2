use Rattle.std.proofs.Common.{◌≡◌, ◌++◌, take}
use Rattle.cbor_parser.proofs.title.add.Given as goal

abbrev pub invariant-bytes : goal.invariant-bytes
invariant-bytes l = record {
  so_far : l.few ≡ l.fn.few ++ take l.byte-index l.bytes;
}
