use Rattle.std.proofs.Common.{List, ℕ, subst}
use Rattle.cbor_escapes.specs.Escapes.{AreUnescaped}
use Rattle.cbor_dump.proofs.RowTextLaws.{bare_fits, text_cut, text_fits, text_is}
use Rattle.cbor_dump.proofs.TableLaws.{plain_shown}
use Rattle.cbor_dump.proofs.rows.text_key.Goals as goal

pub returns-then-are_unescaped : goal.returns-then-are_unescaped
returns-then-are_unescaped g c = λ plain ok.
    let text = c.text_of-text.result.now in
    let bare = subst (λ (z : List ℕ). AreUnescaped z) c.as_bytes.ensures.value
    (c.are_unescaped.ensures.0 c.if-are_unescaped.true) in
    text_is g.W.Write.write_str_gives _ _ _ _
    (bare_fits c.args.most c.args.bytes.now text c.text_of-text.ensures (plain_shown text bare))
    (c.bare_key.ensures plain ok)

pub returns-then-not-has_columns : goal.returns-then-not-has_columns
returns-then-not-has_columns g c = λ plain ok.
    text_is g.W.Write.write_str_gives _ _ _ _
    (text_cut c.args.most c.args.bytes.now c.text_of-text.result.now c.has_columns.result
    c.text_of-text.ensures c.has_columns.ensures
    c.if-not-has_columns.true) (c.write_str.ensures.writes plain ok)

pub returns : goal.returns
returns g c = λ plain ok.
    text_is g.W.Write.write_str_gives _ _ _ _
    (text_fits c.args.most c.args.bytes.now c.text_of-text.result.now c.has_columns.result
    c.text_of-text.ensures c.has_columns.ensures
    c.if-not-has_columns.false) (c.quoted.ensures plain ok)
