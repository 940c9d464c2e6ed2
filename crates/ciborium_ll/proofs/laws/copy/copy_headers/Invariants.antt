use Rattle.std.proofs.Common.{◌≡◌, List, length}
use Rattle.ciborium_ll_grammar.specs.declared.hdr.Header.{Header}
use Rattle.ciborium_ll_decoder.specs.Decoding.{MovesOn}
use Rattle.ciborium_ll.specs.Copying.{Copies}
use Rattle.ciborium_ll_recode.specs.Sides.{sides_of}
use Rattle.ciborium_ll.proofs.laws.copy.copy_headers.Given as goal

abbrev pub invariant-headers : goal.invariant-headers
invariant-headers g l = (headers : List Header) × (length headers ≡ l._copied)
    × Copies g.R.Read g.W.Write headers (sides_of l.initial.decoder l.initial.encoder) (sides_of l.decoder l.encoder)
    × MovesOn g.R.Read l.initial.decoder l.decoder
    × (g.W.Write.target l.encoder.writer ≡ g.W.Write.target l.initial.encoder.writer)
