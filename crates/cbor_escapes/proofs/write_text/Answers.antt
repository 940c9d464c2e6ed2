use Rattle.std.proofs.Common.{◌≡◌, ◌∙◌, List, ℕ, map-id, refl, subst, sym}
use Rattle.std.proofs.lemmas.Grind.{put_two}
use Rattle.std.proofs.lemmas.Iterator.{YieldsList-from_chars}
use Rattle.std.proofs.lemmas.Iterator.Consumers.{YieldsList-end}
use Rattle.std.specs.Fmt.{HasWritten}
use Rattle.std.specs.Str.{chars}
use Rattle.cbor_escapes.specs.Escapes.{terminal_text, terminal_texts}
use Rattle.cbor_escapes.proofs.WriteLaws.{texts_more}
use Rattle.cbor_escapes.proofs.write_text.Goals as goal

pub characters-preserved : goal.characters-preserved
characters-preserved g c = λ plain.
    let done = c.characters.invariant plain in
    put_two g.W.Write.write_str_gives _ _ _ (terminal_texts c.characters.yielded) (terminal_text c.in-Some.character) _
    done (c.in_ok-write_shown.ensures done.plain refl) (sym (texts_more c.characters.yielded c.in-Some.character))

pub returns : goal.returns
returns g c = λ plain ok.
    let ended = YieldsList-end (YieldsList-from_chars c.args.text.now c.utf8.text cc) c.characters.yielded _
    c.characters.yielded_by _ _ c.in-None.is c.next.ensures.steps in
    let all : c.characters.yielded ≡ chars c.args.text.now = sym (map-id c.characters.yielded) ∙ ended.0 in
    subst (λ (z : List ℕ). HasWritten g.W.Write.write_str_gives c.args.f.now (terminal_texts z) c.characters.f) all
    (c.characters.invariant plain)
