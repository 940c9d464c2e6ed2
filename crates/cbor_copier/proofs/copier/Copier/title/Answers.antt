use Rattle.std.proofs.Common.{ℕ, ◌+◌, sym, ap, ◌∙◌}
use Rattle.ciborium_ll_text.proofs.Lists.{length_zero}
use Rattle.cbor_copier.proofs.RunLaws.{front_whole}
use Rattle.cbor_copier.proofs.copier.Copier.title.Goals as goal

pub taken_header-requires : goal.taken_header-requires
taken_header-requires c =
    let long = c.len-len.ensures _ c.row_of.ensures.affix in
    front_whole c.args.bytes.now (1 + c.len-len.result) c.if-len-bytes.false (ap (λ (z : ℕ). 1 + z) long)

pub returns-clause-due : goal.returns-clause-due
returns-clause-due c = (
  c.in-Title-Nothing-eq0.is-0,
  c.in-Title-Nothing-eq0.is-1,
  length_zero c.args.self.now.front (sym c.len.ensures ∙ c.in-Title-Nothing-eq0.is-2),
)
