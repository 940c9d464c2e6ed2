use Rattle.std.proofs.Common.{◌<◌, ◌∙◌, ap, sym, arith}
use Rattle.ciborium_ll_grammar.specs.declared.hdr.start.Start.TheVariants as s
use Rattle.ciborium_ll_grammar.specs.declared.hdr.Header.TheVariants as h
use Rattle.ciborium_ll_grammar.specs.Starts.{start_of}
use Rattle.ciborium_ll_grammar.proofs.PartsLaws.{bytes_parts, text_parts, array_parts, map_parts, tag_parts}
use Rattle.ciborium_ll_grammar.proofs.StartLaws.{number_value, other_value}
use Rattle.ciborium_ll_grammar.proofs.hdr.Title.start.Goals as goal

pub returns-in-2 : goal.returns-in-2
returns-in-2 c = ap s.Bytes c.length.ensures
    ∙ sym (ap start_of (bytes_parts _ _ c.requires.parts.minor (rw c.in-2.is at c.requires.title)))

pub returns-in-3 : goal.returns-in-3
returns-in-3 c = ap s.Text c.length-in-3.ensures
    ∙ sym (ap start_of (text_parts _ _ c.requires.parts.minor (rw c.in-3.is at c.requires.title)))

pub returns-in-4 : goal.returns-in-4
returns-in-4 c = ap (λ len. s.Nest (h.Array len)) c.length-in-4.ensures
    ∙ sym (ap start_of (array_parts _ _ c.requires.parts.minor (rw c.in-4.is at c.requires.title)))

pub returns-in-5 : goal.returns-in-5
returns-in-5 c = ap (λ len. s.Nest (h.Map len)) c.length-in-5.ensures
    ∙ sym (ap start_of (map_parts _ _ c.requires.parts.minor (rw c.in-5.is at c.requires.title)))

pub returns-in-Some : goal.returns-in-Some
returns-in-Some c = sym (ap start_of (tag_parts _ _ _ c.requires.parts.minor
    (sym c.number.ensures ∙ c.in-Some.is) (rw c.in-6.is at c.requires.title)))

pub returns-in_default-minor : goal.returns-in_default-minor
returns-in_default-minor c =
    sym (other_value c.args.self.minor c.args.header c.requires.parts.minor c.in_default-minor.not-Open
    (rw c.in-7.is at c.requires.title))

pub returns-in_default : goal.returns-in_default
returns-in_default c =
    let below : c.args.self.major < 2 = omega (arith, c.requires.parts.major, c.in_default) in
    sym (number_value c.args.self.major c.args.self.minor c.args.header below c.requires.parts.minor c.requires.title)
