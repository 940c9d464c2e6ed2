use Rattle.cbor_deterministic.proofs.ViewLaws.{as_head, text_is, text_told, text_header}
use Rattle.std.proofs.Common.{length, Some, subst, sym, List, ℕ}
use Rattle.cbor_deterministic.specs.Views.{IsTextOf}
use Rattle.ciborium_ll_grammar.specs.declared.hdr.Header.TheVariants as h
use Rattle.cbor_deterministic.proofs.view.Item.text.Goals as goal

pub text_of-requires : goal.text_of-requires
text_of-requires c =
    text_told c.args.self.now.depth c.in-Text.field-0 c.args.self.now.bytes.now c.open-header.result.1.now
    (as_head c.args.self.now.depth c.args.self.now.bytes.now c.open-header.result.0 (h.Text c.in-Text.field-0)
    c.open-header.result.1.now
    c.open-header.ensures c.in-Text.is)

pub returns-in-Text : goal.returns-in-Text
returns-in-Text c =
    subst (λ (u : List ℕ). IsTextOf c.args.self.now.bytes.now u) (sym c.text_of.ensures)
    (text_is c.args.self.now.depth c.in-Text.field-0 c.args.self.now.bytes.now c.open-header.result.1.now
    (as_head c.args.self.now.depth c.args.self.now.bytes.now c.open-header.result.0 (h.Text c.in-Text.field-0)
    c.open-header.result.1.now
    c.open-header.ensures c.in-Text.is))

pub returns-in_default : goal.returns-in_default
returns-in_default c body b =
    c.in_default.not-Text (Some (length body))
    (text_header c.args.self.now.depth c.args.self.now.bytes.now c.open-header.result.1.now body
    c.open-header.result.0 c.open-header.ensures b)
