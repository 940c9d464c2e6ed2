use Rattle.std.proofs.Common.{rules}
use Rattle.ciborium_ll.specs.Types.Header.TheVariants as h
use Rattle.ciborium_ll.specs.Strings.{Bytes}
use Rattle.cbor_diag.proofs.MoveLaws.{moved_back}
use Rattle.cbor_json.specs.StringTexts.{string_opening, string_quotes}
use Rattle.cbor_json.proofs.MoveLaws.{string_rises}
use Rattle.cbor_json.proofs.strings.write_bytes.Goals as goal

pub returns-clause-written : goal.returns-clause-written
returns-clause-written g c = search (rules, c.write_segments.ensures.written c.args.decoder.now c.args.len)

pub returns-clause-moves_on : goal.returns-clause-moves_on
returns-clause-moves_on g c =
    let rises = string_rises g.R.Read g.W.Write Bytes (string_quotes Bytes c.args.base) c.args.len (string_opening Bytes c.args.base) 64 _ _ c.write_segments.result
    (returns-clause-written g c) in
    search (
      rules,
      rises,
      c.write_segments.ensures.moves_on,
      moved_back g.R.Read (h.Bytes c.args.len) c.args.decoder.now
          c.bytes-segments.result.decoder.now,
    )
