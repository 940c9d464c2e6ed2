use Rattle.std.proofs.Common.{[], ◌∷◌, ◌∙◌, refl, arith}
use Rattle.ciborium_ll_grammar.specs.Strings.{Bytes}
use Rattle.ciborium_ll_grammar.proofs.ValueLaws.{byte_pieces}
use Rattle.ciborium_ll_encoder.proofs.PieceLaws.{Leads, bytes_lead, bytes_last, Progress-more, Progress-stopped}
use Rattle.ciborium_ll_encoder.proofs.PieceLaws.{Progress-last}
use Rattle.ciborium_ll_encoder.proofs.enc.Encoder.byte_pieces.Given as given
use Rattle.ciborium_ll_encoder.proofs.enc.Encoder.byte_pieces.Goals as goal
use Rattle.ciborium_ll_encoder.proofs.enc.Encoder.byte_pieces.Goals.{After-split_at}

-- The piece that was split off goes before any pieces of the rest.
leads : (g : given.Over) (c : After-split_at g)
    → Leads Bytes c.args.limit c.pieces.rest.now (c.split_at.result.0.now ∷ []) c.split_at.result.1.now
leads g c = bytes_lead c.args.limit c.pieces.rest.now _ _ c.split_at.ensures.by_index.0 c.split_at.ensures.front_len

pub pieces-preserved : goal.pieces-preserved
pieces-preserved g c =
    let cut = (goal.at.pieces-preserved g c).After-split_at in
    record {
      some = omega arith;
      progress = Progress-more g.W.Write c.split_at.result.0.now _ refl c.pieces.invariant.progress _ (leads g cut)
          c.in_ok-string.ensures.bytes;
      target = c.in_ok-string.ensures.target ∙ c.pieces.invariant.target;
    }

pub returns-in_err-string-clause-pieces : goal.returns-in_err-string-clause-pieces
returns-in_err-string-clause-pieces g c =
    let cut = (goal.at.returns-in_err-string-clause-pieces g c).After-split_at in
    let others = byte_pieces c.split_at.result.1.now c.args.limit (omega arith) c.requires.some in
    Progress-stopped g.W.Write c.split_at.result.0.now _ refl c.pieces.invariant.progress c.from_residual.result
    c.from_residual.ensures.0 _ others.0 (leads g cut) others.1 c.in_err-string.ensures.bytes

pub returns-clause-pieces : goal.returns-clause-pieces
returns-clause-pieces g c =
    let rest = c.pieces.rest.now in
    Progress-last g.W.Write rest _ refl c.pieces.invariant.progress c.string-2.result refl
    (bytes_last c.args.limit rest c.pieces.invariant.some c.pieces-test.false) c.string-2.ensures.bytes
