use Rattle.std.proofs.Common.{◌≡◌, ◌∙◌, ◌<◌, ◌/◌, ◌%◌, [], ◌∷◌, Some, ap, arith, sym}
use Rattle.std.proofs.lemmas.Bool.Decides.{nat_tests}
use Rattle.std.specs.Fmt.{◌++?◌, styled_digits_output}
use Rattle.ciborium_ll_text.specs.Digits.{hex_text}
use Rattle.cbor_escapes.specs.Escapes.{escape_text, terminal_text}
use Rattle.cbor_escapes.proofs.WriteLaws.{hex_shown, shows}
use Rattle.cbor_escapes.proofs.write_shown.Goals as goal

pub returns-then-is_acted_on : goal.returns-then-is_acted_on
returns-then-is_acted_on g c =
    let code = c.from-code.result in
    let small : code < 65536 = grind (arith, nat_tests) in
    let text : terminal_text c.args.character ≡ escape_text code = grind (arith, nat_tests) in
    let high = hex_shown c.in_radix.result c.laid_out.result (code / 256) c.laid_out.ensures c.in_radix.ensures
    (omega arith) in
    let low = hex_shown c.in_radix-then-is_acted_on.result c.laid_out-then-is_acted_on.result (code % 256)
    c.laid_out-then-is_acted_on.ensures c.in_radix-then-is_acted_on.ensures (omega arith) in
    let begun = Some (92 ∷ 117 ∷ []) in
    let last = styled_digits_output c.in_radix-then-is_acted_on.result c.laid_out-then-is_acted_on.result in
    shows g.W.Write.write_str_gives c.args.f.now c.write.new.self c.write.result _ (terminal_text c.args.character)
    (ap (λ z. begun ++? (z ++? last)) high
    ∙ (ap (λ z. begun ++? (Some (hex_text (code / 256)) ++? z)) low ∙ ap Some (sym text))) c.write.ensures.writes
