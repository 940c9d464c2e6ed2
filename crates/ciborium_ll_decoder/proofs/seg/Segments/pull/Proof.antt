-- The proof of `pull` by hand. The walk in `Proof/Walk.antt` stands over the proofs of `advance` and `segment`. It has
-- its own file, so a change of a premise of `advance` needs no new check of it.
mod Walk
use contract.Running.{tables, tables_of}
use denote.Triple.Clauses.{closing}
use denote.Triple.Spec.{triple_of}
use denote.Triple.Table.{entered}
use Rattle.ciborium_ll_decoder.specs.contracts.seg.Segments.pull.Key.{name as #pull}
use Rattle.ciborium_ll_decoder.proofs.seg.Segments.advance.Met as advance_met
use Rattle.ciborium_ll_decoder.proofs.seg.Segments.segment.Met as lend_met
use Rattle.ciborium_ll_decoder.proofs.seg.Segments.pull.Statement.{statement}
use Rattle.ciborium_ll_decoder.proofs.seg.Segments.pull.Code as code
use Rattle.ciborium_ll_decoder.proofs.seg.Segments.pull.Proof.Walk.{arguments, function, ended, spec, meets}

pub pull_spec : {M : Type 1} → statement M
unfolding tables_of
pull_spec 𝓤 𝓛 𝓜 𝓡 wired R P E R-laws P-laws E-laws reads reads_dict kind kind_dict reads_met kind_met =
    let advances = advance_met.met 𝓤 𝓛 𝓜 𝓡 (code.calls-ciborium_ll_decoder::seg::Segments::advance 𝓡.env wired) R P
    E R-laws P-laws E-laws reads reads_dict kind kind_dict reads_met kind_met in
    let lends = lend_met.met 𝓤 𝓛 𝓜 𝓡 (code.calls-ciborium_ll_decoder::seg::Segments::segment 𝓡.env wired) R P E
    R-laws P-laws E-laws reads reads_dict kind kind_dict reads_met kind_met in
    let 𝓣' = tables 𝓤 𝓛.H 𝓜 𝓡 𝓡.env in
    entered 𝓤 𝓛.H (triple_of 𝓛 (ended R P E reads reads_dict kind kind_dict).signature
    (closing 𝓛 (ended R P E reads reads_dict kind kind_dict)
    (spec R P E reads reads_dict kind kind_dict R-laws P-laws E-laws 𝓛 𝓜 𝓡 advances lends))) 𝓣'.C 𝓣'.Λ
    (#pull (arguments R P E reads reads_dict kind kind_dict))
    (function R P E reads reads_dict kind kind_dict)
    (code.unfolded 𝓤 𝓛.H 𝓜 𝓡 wired (R, (P, (E, tt))) reads_dict kind_dict)
    (meets R P E reads reads_dict kind kind_dict R-laws P-laws E-laws 𝓛 𝓜 𝓡 advances lends)
