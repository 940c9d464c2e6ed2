use Rattle.std.proofs.Common.{◌≡◌, ℕ, ◌%◌, ◌<◌, List, [], length, ap, sym, ◌∙◌, arith}
use Rattle.ciborium_ll_text.proofs.Lists.{length_zero}
use Rattle.ciborium_ll_grammar.specs.Title.{affix_len}
use Rattle.ciborium_ll_grammar.proofs.AffixLaws.{one_byte}
use Rattle.ciborium_ll_grammar.proofs.titles.minor_of.Goals as goal

-- A minor below 24 has no affix.
no_affix : (a : ℕ) (bytes : List ℕ) → a < 24 → length bytes ≡ affix_len a → [] ≡ bytes
no_affix a bytes small long = let none : affix_len a ≡ 0 = grind arith in sym (length_zero bytes (long ∙ none))

pub returns-in-Within-clause-affix : goal.returns-in-Within-clause-affix
returns-in-Within-clause-affix c = no_affix _ _ (rw c.in-Within.is at c.requires.affix) c.requires.long

pub returns-in-One-clause-affix : goal.returns-in-One-clause-affix
returns-in-One-clause-affix c =
    let one : c.args.first % 32 ≡ 24 = rw c.in-One.is at c.requires.affix in
    rw c.from-in-One.ensures (one_byte _ (c.requires.long ∙ ap affix_len one) ((c.type_inv.bytes 0).fits))

pub returns-in-Open-clause-affix : goal.returns-in-Open-clause-affix
returns-in-Open-clause-affix c =
    let none : c.args.first % 32 ≡ 31 = rw c.in-Open.is at c.requires.affix in
    sym (length_zero _ (c.requires.long ∙ ap affix_len none))
