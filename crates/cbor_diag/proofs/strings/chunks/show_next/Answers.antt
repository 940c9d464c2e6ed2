use Rattle.std.proofs.Common.{◌≡◌, ◌∙◌, Err, refl, sym, subst, arith}
use Rattle.ciborium_ll_grammar.specs.declared.spelling.Spelling.TheVariants.{Any}
use Rattle.ciborium_ll.specs.Decoding.{DecoderPullAnswer, spelling_of}
use Rattle.ciborium_ll.proofs.DecodingLaws.{exit_is}
use Rattle.ciborium_ll_decoder.proofs.NestLaws.{title_some}
use Rattle.cbor_diag.specs.NextShows.{none}
use Rattle.cbor_diag.proofs.NextLaws.{next_break, next_break_stops, next_open, next_open_stops, next_other}
use Rattle.cbor_diag.proofs.NextLaws.{next_string, next_string_stops}
use Rattle.cbor_diag.proofs.strings.chunks.show_next.Goals as goal

pub returns-in_err-marked-clause-next : goal.returns-in_err-marked-clause-next
returns-in_err-marked-clause-next g c =
    let error = c.in_err-marked.field-0.0 in
    rw (exit_is _ _ c.from_residual.ensures.1) (none (subst (λ x. DecoderPullAnswer g.R.Read x (Err error)
    c.pull_marked.new.decoder) c.offset-place.ensures.same c.in_err-marked.ensures.pulls))

pub returns-in_err-show_chunk-in-String-clause-next : goal.returns-in_err-show_chunk-in-String-clause-next
returns-in_err-show_chunk-in-String-clause-next g c =
    let pulls = rw c.offset-place.ensures.same at c.in_ok-marked.ensures.pulls in
    let first = rw c.offset-place.ensures.same at c.in_ok-marked.ensures.moves_on in
    rw (exit_is _ _ c.from_residual-in_err-show_chunk-in-String.ensures.1) (next_string_stops g.R.Read g.W.Write
    g.P.Parser.kind 64 c.args.far.opens c.args.far.is_first c.args.decoder.now c.pull_marked.new.decoder
    c.args.writer.now c.in_ok-marked.marked pulls first.steady c.in-String.len c.offset-place.result _ _
    c.in-String.ensures c.offset-place.ensures.value c.in_err-show_chunk-in-String.ensures.text)

pub returns-in_ok-show_chunk-in-String-clause-next : goal.returns-in_ok-show_chunk-in-String-clause-next
returns-in_ok-show_chunk-in-String-clause-next g c =
    let pulls = rw c.offset-place.ensures.same at c.in_ok-marked.ensures.pulls in
    let first = rw c.offset-place.ensures.same at c.in_ok-marked.ensures.moves_on in
    next_string g.R.Read g.W.Write g.P.Parser.kind 64 c.args.far.opens c.args.far.is_first c.args.decoder.now
    c.pull_marked.new.decoder c.args.writer.now c.in_ok-marked.marked pulls first.steady c.in-String.len
    c.offset-place.result _ _ c.in-String.ensures c.offset-place.ensures.value
    c.in_ok-show_chunk-in-String.ensures.text refl refl

pub returns-in_err-open-in-Open-clause-next : goal.returns-in_err-open-in-Open-clause-next
returns-in_err-open-in-Open-clause-next g c =
    let pulls = rw c.offset-place.ensures.same at c.in_ok-marked.ensures.pulls in
    rw (exit_is _ _ c.from_residual-in_err-open-in-Open.ensures.1) (next_open_stops g.R.Read g.W.Write
    g.P.Parser.kind 64 c.args.far.opens c.args.far.is_first c.args.decoder.now c.pull_marked.new.decoder
    c.args.writer.now c.in_ok-marked.marked pulls _ _ c.in-Open.ensures.0 c.in_err-open-in-Open.ensures.written)

pub returns-in_ok-open-in-Open-clause-next : goal.returns-in_ok-open-in-Open-clause-next
returns-in_ok-open-in-Open-clause-next g c =
    let pulls = rw c.offset-place.ensures.same at c.in_ok-marked.ensures.pulls in
    let first = rw c.offset-place.ensures.same at c.in_ok-marked.ensures.moves_on in
    let loose : spelling_of c.args.decoder.now ≡ Any =
    sym c.spelling-spelling.ensures ∙ c.in-Open.ensures.1 in
    next_open g.R.Read g.W.Write g.P.Parser.kind 64 c.args.far.opens c.args.far.is_first c.args.decoder.now
    c.pull_marked.new.decoder c.args.writer.now c.in_ok-marked.marked pulls first.steady _ _ c.in-Open.ensures.0
    loose c.in_ok-open-in-Open.ensures.written refl refl

pub returns-in_err-close-in-Break-clause-next : goal.returns-in_err-close-in-Break-clause-next
returns-in_err-close-in-Break-clause-next g c =
    let pulls = rw c.offset-place.ensures.same at c.in_ok-marked.ensures.pulls in
    rw (exit_is _ _ c.from_residual-in_err-close-in-Break.ensures.1) (next_break_stops g.R.Read g.W.Write
    g.P.Parser.kind 64 c.args.far.opens c.args.far.is_first c.args.decoder.now c.pull_marked.new.decoder
    c.args.writer.now c.in_ok-marked.marked pulls c.args.quotes _ _ c.in-Break.ensures c.requires.kind
    c.in_err-close-in-Break.ensures.written)

pub returns-in_ok-close-in-Break-clause-next : goal.returns-in_ok-close-in-Break-clause-next
returns-in_ok-close-in-Break-clause-next g c =
    let pulls = rw c.offset-place.ensures.same at c.in_ok-marked.ensures.pulls in
    let first = rw c.offset-place.ensures.same at c.in_ok-marked.ensures.moves_on in
    next_break g.R.Read g.W.Write g.P.Parser.kind 64 c.args.far.opens c.args.far.is_first c.args.decoder.now
    c.pull_marked.new.decoder c.args.writer.now c.in_ok-marked.marked pulls first.steady c.args.quotes _ _
    c.in-Break.ensures c.requires.kind c.in_ok-close-in-Break.ensures.written refl refl

pub returns-in-Other-clause-next : goal.returns-in-Other-clause-next
returns-in-Other-clause-next g c =
    let pulls = rw c.offset-place.ensures.same at c.in_ok-marked.ensures.pulls in
    next_other g.R.Read g.W.Write g.P.Parser.kind 64 c.args.far.opens c.args.far.is_first c.args.decoder.now
    c.pull_marked.new.decoder c.args.writer.now c.in_ok-marked.marked pulls c.offset-place.result
    c.offset-place.ensures.value (rw c.spelling-spelling.ensures at c.in-Other.ensures)

pub returns-in_ok-show_chunk-in-String-clause-rises : goal.returns-in_ok-show_chunk-in-String-clause-rises
returns-in_ok-show_chunk-in-String-clause-rises g c =
    let pulls = rw c.offset-place.ensures.same at c.in_ok-marked.ensures.pulls in
    let some = title_some pulls.pulled.title c.in_ok-marked.marked.header pulls.pulled.is_title in
    omega (arith, some, pulls.pulled.offset, c.show_chunk.ensures.moves_on.rises)
