-- Places within nests and strings, and the strings that are held in memory.
use Rattle.std.proofs.Common.{◌≡◌, ℕ, zero, suc, ◌-◌, refl, arith}
use Rattle.ciborium_ll.specs.Types.Header.{Header}
use Rattle.cbor_diag.specs.declared.layout.Line.{Line}
use Rattle.cbor_diag.specs.Places.{if_any, line_within, place_of, place_within}

one_less : (strings levels : ℕ) → if_any strings (levels - 1) ≡ if_any strings levels - 1
one_less zero levels = omega arith
one_less (suc strings) levels = refl

-- The place of the content of a header.
pub within_place : (header : Header) (line inner : Line) (strings levels room : ℕ) → inner ≡ line_within header line
    → place_of inner strings (levels - 1) room ≡ place_within header (place_of line strings levels room)
within_place header line inner strings levels room is = rw (is, one_less strings levels) refl
