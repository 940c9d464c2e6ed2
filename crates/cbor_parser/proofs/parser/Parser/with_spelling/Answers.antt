use Rattle.std.proofs.Common.{arith, refl}
use Rattle.ciborium_ll_text.proofs.FrontLaws.{IsStuck-nil}
use Rattle.cbor_parser.proofs.ParseLaws.{nothing}
use Rattle.cbor_parser.proofs.parser.Parser.with_spelling.Goals as goal

pub invariant_of-result : goal.invariant_of-result
invariant_of-result c =
    record { left = refl; fits = rw c.new.ensures (omega arith); stuck = IsStuck-nil; counted = omega arith }

pub returns : goal.returns
returns c = record { parsed = nothing _ _ c.new.ensures; spelling = refl; offset = refl }
