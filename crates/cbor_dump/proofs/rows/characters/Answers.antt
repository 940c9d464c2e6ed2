use Rattle.std.proofs.Common.{◌≡◌, ◌∙◌, List, ℕ, map-id, refl, subst, sym}
use Rattle.std.proofs.lemmas.Iterator.{YieldsList-from_chars}
use Rattle.std.proofs.lemmas.Iterator.Consumers.{YieldsList-end}
use Rattle.std.specs.Fmt.{HasWritten}
use Rattle.std.specs.Str.{chars}
use Rattle.cbor_escapes.specs.Escapes.{AreUnescaped}
use Rattle.cbor_dump.specs.RowTexts.{character_text, characters_text}
use Rattle.cbor_dump.proofs.RowTextLaws.{characters_more, text_is, then_written}
use Rattle.cbor_dump.proofs.TableLaws.{plain_shown}
use Rattle.cbor_dump.proofs.rows.characters.Goals as goal

pub returns-then-are_unescaped : goal.returns-then-are_unescaped
returns-then-are_unescaped g c = λ plain ok.
    text_is g.W.Write.write_str_gives _ _ _ _ (plain_shown c.args.text.now
    (subst (λ (z : List ℕ). AreUnescaped z) c.as_bytes.ensures.value (c.are_unescaped.ensures.0 c.if-are_unescaped.true)))
    (c.write_str.ensures.writes plain ok)

pub characters-preserved : goal.characters-preserved
characters-preserved g c =
    then_written g.W.Write.write_str_gives _ _ _ (characters_text c.characters.yielded) (character_text c.in-Some.c) _
    c.characters.invariant (λ plain. c.in_ok-character.ensures plain refl)
    (sym (characters_more c.characters.yielded c.in-Some.c))

pub returns : goal.returns
returns g c = λ plain ok.
    let ended = YieldsList-end (YieldsList-from_chars c.args.text.now c.utf8.text cc) c.characters.yielded _
    c.characters.yielded_by _ _ c.in-None.is c.next.ensures.steps in
    let all : c.characters.yielded ≡ chars c.args.text.now = sym (map-id c.characters.yielded) ∙ ended.0 in
    subst (λ (z : List ℕ). HasWritten g.W.Write.write_str_gives c.args.f.now (characters_text z) c.characters.f) all
    (c.characters.invariant plain)
