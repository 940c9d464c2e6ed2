use Rattle.std.proofs.Common.{[], ◌∷◌, ◌∙◌, refl, arith}
use Rattle.std.specs.Str.{IsUtf8}
use Rattle.std.proofs.lemmas.Str.{IsUtf8-drop}
use Rattle.ciborium_ll_grammar.specs.Strings.{Text}
use Rattle.ciborium_ll_text.proofs.Utf8Laws.{from_std}
use Rattle.ciborium_ll_text.proofs.FullCutLaws.{full_cut}
use Rattle.ciborium_ll_encoder.proofs.PieceLaws.{Leads, text_leads, text_last, Progress-more, Progress-stopped}
use Rattle.ciborium_ll_encoder.proofs.PieceLaws.{Progress-last}
use Rattle.ciborium_ll_encoder.proofs.enc.Encoder.text_pieces.Given as given
use Rattle.ciborium_ll_encoder.proofs.enc.Encoder.text_pieces.Goals as goal
use Rattle.ciborium_ll_encoder.proofs.enc.Encoder.text_pieces.Goals.{After-split_at}

-- The piece that was split off goes before any pieces of the rest.
leads : (g : given.Over) (c : After-split_at g)
    → Leads Text c.args.limit c.pieces.rest.now (c.split_at.result.0.now ∷ []) c.split_at.result.1.now
leads g c =
    let first = c.piece_len.ensures in
    text_leads c.pieces.invariant.utf8 first.boundary first.longest c.split_at.ensures.front c.split_at.ensures.back
    first.within first.some

-- The rest after the piece is a text.
behind_is_text : (g : given.Over) (c : After-split_at g) → IsUtf8 c.split_at.result.1.now
behind_is_text g c =
    rw c.split_at.ensures.back
    (IsUtf8-drop c.pieces.rest.now c.piece_len.result c.pieces.invariant.utf8 c.piece_len.ensures.boundary)

pub pieces-preserved : goal.pieces-preserved
pieces-preserved g c =
    let cut = (goal.at.pieces-preserved g c).After-split_at in
    record {
      some = omega arith;
      utf8 = behind_is_text g cut;
      progress = Progress-more g.W.Write c.split_at.result.0.now _ c.as_bytes.ensures.value c.pieces.invariant.progress
          _ (leads g cut) c.in_ok-string.ensures.bytes;
      target = c.in_ok-string.ensures.target ∙ c.pieces.invariant.target;
    }

pub returns-in_err-string-clause-pieces : goal.returns-in_err-string-clause-pieces
returns-in_err-string-clause-pieces g c =
    let cut = (goal.at.returns-in_err-string-clause-pieces g c).After-split_at in
    let behind = c.split_at.result.1.now in
    let others = full_cut behind c.args.limit (from_std behind (behind_is_text g cut)) c.requires.four in
    Progress-stopped g.W.Write c.split_at.result.0.now _ c.as_bytes.ensures.value c.pieces.invariant.progress
    c.from_residual.result c.from_residual.ensures.0 behind others.0 (leads g cut) others.1
    c.in_err-string.ensures.bytes

pub returns-clause-pieces : goal.returns-clause-pieces
returns-clause-pieces g c =
    let rest = c.pieces.rest.now in
    Progress-last g.W.Write rest _ c.as_bytes-2.ensures.value c.pieces.invariant.progress c.string-2.result refl
    (text_last c.args.limit rest c.pieces.invariant.utf8 c.pieces.invariant.some c.pieces-test.false)
    c.string-2.ensures.bytes
