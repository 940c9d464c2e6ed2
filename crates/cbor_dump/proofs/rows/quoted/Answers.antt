use Rattle.std.proofs.Common.{[], ◌∷◌, refl}
use Rattle.std.proofs.lemmas.Grind.{put_three}
use Rattle.std.specs.Str.{chars}
use Rattle.cbor_dump.specs.RowTexts.{characters_text}
use Rattle.cbor_dump.proofs.rows.quoted.Goals as goal

pub returns : goal.returns
returns g c = λ plain ok.
    let first = c.in_ok-write_str.ensures.writes plain refl in
    let next = c.in_ok-characters.ensures first.plain refl in
    let last = c.write_str-2.ensures.writes next.plain ok in
    put_three g.W.Write.write_str_gives _ _ _ _ (34 ∷ []) (characters_text (chars c.args.text.now)) (34 ∷ []) _
    first next last refl
