use Rattle.std.proofs.Common.{rules, length}
use Rattle.ciborium_ll_grammar.specs.Strings.{Text}
use Rattle.ciborium_ll_decoder.proofs.SkipLaws.{definite_skipped}
use Rattle.ciborium_ll_decoder.proofs.skip.skip_text.Goals as goal

pub returns-in-Some : goal.returns-in-Some
returns-in-Some g c = rw c.in-Some.is (record {
  skipped = definite_skipped g.R.Read Text c.in-Some.length (length c.args.buffer.now) c.args.decoder.now
      c.finish_body.new.decoder c.finish_body.result (search rules) c.finish_body.ensures.finishes;
  moves_on = c.finish_body.ensures.moves_on;
})
