use Rattle.std.proofs.Common.{◌≡◌, ◌∙◌, ap}
use Rattle.ciborium_ll_grammar.specs.declared.hdr.Header.TheVariants as h
use Rattle.ciborium_ll_grammar.specs.Parts.{minor_number}
use Rattle.ciborium_ll_grammar.proofs.PartsLaws.{bytes_parts, text_parts}
use Rattle.ciborium_ll_grammar.proofs.hdr.Title.element.Goals as goal

pub returns-in-2-clause-bytes : goal.returns-in-2-clause-bytes
returns-in-2-clause-bytes c = λ header length title e.
    let same : minor_number c.args.self.minor ≡ length = cc in
    bytes_parts c.args.self.minor header c.requires.minor (rw c.in-2.is at title) ∙ ap h.Bytes same

pub returns-in-3-clause-text : goal.returns-in-3-clause-text
returns-in-3-clause-text c = λ header length title e.
    let same : minor_number c.args.self.minor ≡ length = cc in
    text_parts c.args.self.minor header c.requires.minor (rw c.in-3.is at title) ∙ ap h.Text same
