use Rattle.std.proofs.Common.{◌≡◌, ◌∙◌, ◌∷◌, ap, sym, subst}
use Rattle.ciborium_ll.specs.Sides.{sides}
use Rattle.ciborium_ll.specs.Transfer.{Target}
use Rattle.cbor_diag.specs.Quoting.{failure_count, quotes_code}
use Rattle.cbor_diag.proofs.BodyShowLaws.{same_target}
use Rattle.cbor_diag.proofs.QuotedLaws.{none_failed, quoted_ends, same_quotes}
use Rattle.cbor_json.specs.StringWrites.{CopiesQuoted}
use Rattle.cbor_json.proofs.ContentQuotes.{content_quoted}
use Rattle.cbor_json.proofs.strings.copy_quoted.Goals as goal

pub returns-clause-copied : goal.returns-clause-copied
returns-clause-copied g c = λ opened len range settled back.
    let begun = c.new-quoted.result in
    let made = c.new-quoted.ensures in
    let behind = c.copy_bodies-copied.new.writer in
    let new = c.copy_bodies-copied.new.segments.decoder.now in
    let writer = c.args.writer.now in
    -- The loan and the kind of quotes are the same, and both began at the same writer.
    let target = same_target c.copy_bodies-copied.ensures.target in
    let loan = ap (λ (t : Target). t.loan) target in
    let before : quotes_code behind.quotes ∷ behind.began.bytes ≡ quotes_code begun.quotes ∷ begun.began.bytes =
    ap (λ (t : Target). t.before) target in
    let kind = same_quotes behind.quotes begun.quotes (cc) ∙ made.quotes in
    let told : behind.began.bytes ≡ begun.began.bytes = cc in
    let none = begun.counted ∙ ap failure_count made.failed in
    let ends = quoted_ends g.W.Write behind.began.bytes c.args.quotes behind.quotes behind.failed behind.given.bytes
    writer behind.writer.now begun.failures.count _ (told ∙ made.began) kind behind.quoted none behind.counted in
    let ended = c.writer-1.given.1 (sym made.same_reference ∙ sym loan) in
    subst (λ w. CopiesQuoted g.R.Read g.W.Write g.P.Parser.kind c.args.quotes len 64 (sides opened writer)
    c.copy_bodies-copied.result c.held.result (sides new w)) (sym ended)
    (content_quoted g.R.Read g.W.Write (λ q. q.given.bytes) (λ q. q.failures.count) _ _ g.P.Parser.kind c.args.quotes
    len 64 opened new begun behind writer behind.writer.now made.given ends.0 ends.1 c.held.result
    c.copy_bodies-copied.result
    (λ same. c.held.ensures
    ∙ rw kind at (behind.holds (none_failed behind.failed (sym behind.counted ∙ (same ∙ none)))))
    (c.copy_bodies-copied.ensures.copied opened len range settled back))
