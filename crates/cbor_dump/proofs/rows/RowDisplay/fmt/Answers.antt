use Rattle.std.proofs.Common.{◌++◌, refl}
use Rattle.std.proofs.lemmas.Grind.{put_two}
use Rattle.cbor_dump.specs.RowTexts.{row_text}
use Rattle.cbor_dump.proofs.RowTextLaws.{known_written}
use Rattle.cbor_dump.proofs.rows.RowDisplay.fmt.Goals as goal

pub returns-clause-text : goal.returns-clause-text
returns-clause-text g c = λ plain ok.
    let first = c.in_ok-front.ensures plain refl in
    let next = c.value.ensures first.plain ok in
    record {
      text = row_text c.args.self.now ++ next.text;
      is_text = record { value = next.text; is_value = next.is_text; is = refl };
      written = put_two g.W.Write.write_str_gives _ _ _ _ _ _ first next.written refl;
    }

pub returns-clause-writes : goal.returns-clause-writes
returns-clause-writes g c =
    known_written g.W.Write.write_str_gives c.args.self.now _ _ c.value.result (returns-clause-text g c)
