use Rattle.std.proofs.Common.{◌++◌, codes, length, IsTrue, subst, arith}
use Rattle.ciborium_ll.proofs.DecodingLaws.{exit_is}
use Rattle.ciborium_ll.proofs.EncodingLaws.{WritesBytes-then}
use Rattle.cbor_diag.specs.HeldStops.{opening}
use Rattle.cbor_diag.specs.ItemTexts.{IsItemText}
use Rattle.cbor_diag.specs.Places.{Place}
use Rattle.cbor_diag.specs.Marks.{mark_text}
use Rattle.cbor_diag.proofs.EmbeddedLaws.{embedded_kept, embedded_stops, inside_place, quoted_kept}
use Rattle.cbor_diag.proofs.embedded.NestedBodies.show.Goals as goal

pub returns-then-not-is_one_item : goal.returns-then-not-is_one_item
returns-then-not-is_one_item g c = λ held.
    quoted_kept g.W.Write _ _ c.args.mark c.args.body.now _ _ c.put_quoted.result (omega arith)
    (λ is. absurd (grind (arith, c.is_one_item.ensures.1 is.1, c.if-not-is_one_item.ensures))) c.put_quoted.ensures

pub returns-in_err-put : goal.returns-in_err-put
returns-in_err-put g c = λ held.
    let item : IsTrue c.is_one_item.result = grind (arith, c.if-not-is_one_item.false) in
    rw (exit_is _ _ c.from_residual.ensures.1)
    (opening (held, c.is_one_item.ensures.0 item) c.in_err-put.ensures)

pub returns-in_err-show_embedded : goal.returns-in_err-show_embedded
returns-in_err-show_embedded g c = λ held.
    let item : IsTrue c.is_one_item.result = grind (arith, c.if-not-is_one_item.false) in
    rw (exit_is _ _ c.from_residual-in_err-show_embedded.ensures.1) (embedded_stops g.W.Write _ _ c.args.mark
    c.args.body.now _ _ _ _ (held, c.is_one_item.ensures.0 item) c.in_ok-put.ensures (inside_place c.args.line.now
    c.inside.result g.B.Bodies.strings c.args.depth (length c.args.body.now) (length c.args.memory.now) c.inside.ensures)
    c.in_err-show_embedded.ensures)

pub returns : goal.returns
returns g c = λ held.
    let item : IsTrue c.is_one_item.result = grind (arith, c.if-not-is_one_item.false) in
    let shown = c.in_ok-show_embedded.ensures in
    let place = inside_place c.args.line.now c.inside.result g.B.Bodies.strings c.args.depth (length c.args.body.now)
    (length c.args.memory.now) c.inside.ensures in
    embedded_kept g.W.Write _ _ c.args.mark c.args.body.now _ _ c.put_marked.result shown.0
    (held, c.is_one_item.ensures.0 item)
    (subst (λ (p : Place). IsItemText p c.args.body.now shown.0) place shown.1)
    (WritesBytes-then g.W.Write _ _ _ c.put_marked.result (codes "<<") _ c.in_ok-put.ensures
    (WritesBytes-then g.W.Write _ _ _ c.put_marked.result shown.0 (codes ">>" ++ mark_text c.args.mark) shown.2
    c.put_marked.ensures))
