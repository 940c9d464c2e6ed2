use Rattle.std.proofs.Common.{[], Ok, Some, rules}
use Rattle.ciborium_ll.specs.Finishing.{EndsBody}
use Rattle.ciborium_ll.specs.Skipping.{SkipsString}
use Rattle.ciborium_ll.proofs.DecodingLaws.{exit_is}
use Rattle.ciborium_ll.proofs.SkipLaws.{definite_skipped}
use Rattle.cbor_diag.proofs.ShowLaws.{string_stops, string_whole}
use Rattle.cbor_diag.proofs.StringShowLaws.{lone_said, lone_stops}
use Rattle.cbor_diag.proofs.strings.definite.show_definite.Goals as goal

pub returns-in_err-show_alone-clause-text : goal.returns-in_err-show_alone-clause-text
returns-in_err-show_alone-clause-text g c =
    rw (exit_is _ _ c.from_residual.ensures.1) (lone_stops g.R.Read g.W.Write g.P.Parser.kind c.args.quotes
    c.args.body.length c.args.decoder.now c.args.writer.now c.args.mark 64 c.args.body.place _ _
    c.in_err-show_alone.ensures.text)

pub returns-in_err-show_alone-clause-reads : goal.returns-in_err-show_alone-clause-reads
returns-in_err-show_alone-clause-reads g c =
    let kind = g.P.Parser.kind in
    let len = c.args.body.length in
    let old = c.args.decoder.now in
    let new = c.show_alone.new.decoder in
    rw (exit_is _ _ c.from_residual.ensures.1) (string_stops
    (λ answer. EndsBody g.R.Read kind [] len 64 c.args.body.place old answer new)
    (λ answer. SkipsString g.R.Read kind (Some len) 64 old answer new) _
    (λ fault ends. rw c.requires.place at ends) c.in_err-show_alone.ensures.reads)

pub returns-clause-text : goal.returns-clause-text
returns-clause-text g c =
    lone_said g.R.Read g.W.Write g.P.Parser.kind c.args.quotes c.args.body.length c.args.decoder.now c.args.writer.now
    c.args.mark 64 c.args.body.place (search rules) c.in_ok-show_alone.ensures.text c.say_mark.result
    c.say_mark.new.writer c.say_mark.ensures.written

pub returns-clause-reads : goal.returns-clause-reads
returns-clause-reads g c =
    let kind = g.P.Parser.kind in
    let len = c.args.body.length in
    let old = c.args.decoder.now in
    let new = c.show_alone.new.decoder in
    string_whole (λ answer. SkipsString g.R.Read kind (Some len) 64 old answer new) c.say_mark.result
    (definite_skipped g.R.Read kind len 64 old new (Ok (tt {0})) (search rules) c.in_ok-show_alone.ensures.reads)
    c.say_mark.ensures.writing
