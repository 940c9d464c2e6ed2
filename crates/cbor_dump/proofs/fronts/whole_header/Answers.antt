use Rattle.std.proofs.Common.{Option, subst, sym}
use Rattle.ciborium_ll.specs.Types.Header.{Header}
use Rattle.ciborium_ll.specs.Decoding.{spelling_of}
use Rattle.cbor_dump.specs.Takings.{AnswersTitle}
use Rattle.cbor_dump.proofs.TakingLaws.{whole_means}
use Rattle.cbor_dump.proofs.fronts.whole_header.Goals as goal

pub returns : goal.returns
returns g c = λ first affix bytes steady start none told parts long.
    subst (λ (z : Option Header). AnswersTitle (spelling_of c.args.decoder.now) bytes z) (sym c.ok.ensures.value)
    (whole_means g.R.Read c.args.decoder.now first affix bytes told parts long steady start none c.pull.result
    c.pull.new.self c.pull.ensures.header)
