use Rattle.std.proofs.Common.{length, Some, List, ℕ, sym, subst}
use Rattle.cbor_view.specs.Views.{IsTextOf}
use Rattle.cbor_view.proofs.OpenLaws.{as_header, text_told, text_is, text_header}
use Rattle.ciborium_ll_grammar.specs.declared.hdr.Header.TheVariants as h
use Rattle.cbor_view.proofs.item.Item.text.Goals as goal

pub text_of-requires : goal.text_of-requires
text_of-requires c =
    text_told c.args.self.now.depth c.in-Some.field-0 c.args.self.now.bytes.now c.open-header.result.1.now
    (as_header c.args.self.now.depth c.args.self.now.bytes.now c.open-header.result.0 (h.Text (Some c.in-Some.field-0))
    c.open-header.result.1.now c.open-header.ensures c.in-Some.ensures)

pub returns-in-Some : goal.returns-in-Some
returns-in-Some c =
    subst (λ (u : List ℕ). IsTextOf c.args.self.now.bytes.now u) (sym c.text_of.ensures)
    (text_is c.args.self.now.depth c.in-Some.field-0 c.args.self.now.bytes.now c.open-header.result.1.now
    (as_header c.args.self.now.depth c.args.self.now.bytes.now c.open-header.result.0 (h.Text (Some c.in-Some.field-0))
    c.open-header.result.1.now c.open-header.ensures c.in-Some.ensures))

pub returns-in-None : goal.returns-in-None
returns-in-None c body b =
    c.in-None.ensures (length body)
    (text_header c.args.self.now.depth c.args.self.now.bytes.now c.open-header.result.1.now body
    c.open-header.result.0 c.open-header.ensures b)
