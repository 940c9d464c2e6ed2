use Rattle.std.proofs.Common.{◌≡◌, ◌∙◌, ◌-◌, ◌^◌, List, ℕ, ap, length, map-id, min, sym}
use Rattle.std.proofs.lemmas.Iterator.{YieldsList-from_chars}
use Rattle.std.proofs.lemmas.Iterator.Consumers.{YieldsList-end}
use Rattle.std.specs.Str.{chars}
use Rattle.cbor_dump.specs.RowTexts.{characters_text}
use Rattle.cbor_dump.proofs.RowTextLaws.{at_most, more_columns}
use Rattle.cbor_dump.proofs.rows.has_columns.Goals as goal

pub characters-preserved : goal.characters-preserved
characters-preserved c =
    more_columns c.characters.yielded c.in-Some.c c.characters.len c.character_len.result c.saturating_add-len.result
    c.characters.invariant c.character_len.ensures c.saturating_add-len.ensures

pub returns : goal.returns
returns c =
    let ended = YieldsList-end (YieldsList-from_chars c.args.text.now c.utf8.text cc) c.characters.yielded _
    c.characters.yielded_by _ _ c.in-None.is c.next.ensures.steps in
    let all : c.characters.yielded ≡ chars c.args.text.now = sym (map-id c.characters.yielded) ∙ ended.0 in
    at_most c.characters.len (length (characters_text (chars c.args.text.now))) c.args.most
    (c.characters.invariant ∙ ap (λ (z : List ℕ). min (length (characters_text z)) (2 ^ 64 - 1)) all) c.requires.few
