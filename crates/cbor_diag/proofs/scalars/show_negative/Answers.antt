use Rattle.std.proofs.Common.{rules, ◌≡◌, ◌++◌, List, ℕ, negsuc, subst}
use Rattle.std.specs.Fmt.{signed_decimal}
use Rattle.ciborium_ll.specs.Encoding.{WritesBytes}
use Rattle.cbor_diag.specs.Marks.{mark_text}
use Rattle.cbor_diag.proofs.scalars.show_negative.Goals as goal

pub returns : goal.returns
returns g c =
    let text : c.as_bytes.result.now ≡ signed_decimal (negsuc c.args.number) = search rules in
    subst (λ (z : List ℕ). WritesBytes g.W.Write c.args.writer.now c.put_marked.result (z ++ mark_text c.args.mark)
    c.put_marked.new.writer) text c.put_marked.ensures
