use Rattle.std.proofs.Common.{◌<◌, ◌↔◌, IsTrue, ℕ, slice_index}
use Rattle.cbor_escapes.specs.Escapes.{IsUnescaped}
use Rattle.cbor_escapes.proofs.are_unescaped.Given as goal

abbrev pub invariant-bytes : goal.invariant-bytes
invariant-bytes l = IsTrue l.are_unescaped ↔ ((i : ℕ) → i < l.byte-index → IsUnescaped (slice_index l.bytes i))
