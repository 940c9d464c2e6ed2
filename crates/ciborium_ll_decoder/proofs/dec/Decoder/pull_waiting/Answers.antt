use Rattle.std.proofs.Common.{sym, refl, ap, subst, List, ℕ, ◌+◌}
use Rattle.ciborium_ll_grammar.specs.Title.{IsTitle}
use Rattle.ciborium_ll_grammar.proofs.TitleLaws.{IsTitle-shortest}
use Rattle.ciborium_ll_decoder.proofs.DecodingLaws.{waiting_pulled}
use Rattle.ciborium_ll_decoder.proofs.dec.Decoder.pull_waiting.Goals as goal

pub returns-clause-header : goal.returns-clause-header
returns-clause-header g c =
    waiting_pulled g.R.Read c.args.self.now _ c.args.header c.title_len.ensures.range c.requires.waits refl refl
    (ap (λ (n : ℕ). c.args.self.now.offset + n) c.title_len.ensures.value) refl

pub returns-clause-title : goal.returns-clause-title
returns-clause-title g c =
    let header = c.args.header in
    subst (λ (bytes : List ℕ). IsTitle bytes header) (sym c.shortest.ensures.bytes)
    (IsTitle-shortest header c.shortest.ensures.range)
