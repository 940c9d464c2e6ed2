use Rattle.std.proofs.Common.{None, rules}
use Rattle.ciborium_ll.specs.Types.Header.TheVariants as h
use Rattle.ciborium_ll.specs.Strings.{Bytes}
use Rattle.cbor_diag.specs.declared.strings.quotes.Quotes.TheVariants as q
use Rattle.cbor_diag.proofs.MoveLaws.{moved_back, string_rises}
use Rattle.cbor_diag.proofs.strings.show_bytes_bodies.Goals as goal

pub returns-in-None-clause-text : goal.returns-in-None-clause-text
returns-in-None-clause-text g c = search (rules, c.show_segments.ensures.text c.args.decoder.now c.args.mark)

pub returns-in-None-clause-moves_on : goal.returns-in-None-clause-moves_on
returns-in-None-clause-moves_on g c =
    let rises = string_rises g.R.Read g.W.Write Bytes q.Hex None c.args.mark 64 _ _ c.show_segments.result
    (c.show_segments.ensures.text c.args.decoder.now c.args.mark (search rules) (search rules) (search rules)) in
    search (
      rules,
      rises,
      c.show_segments.ensures.moves_on,
      moved_back g.R.Read (h.Bytes None) c.args.decoder.now c.bytes.result.decoder.now,
    )
