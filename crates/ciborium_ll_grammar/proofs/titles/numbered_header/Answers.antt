use Rattle.std.proofs.Common.{◌≡◌, ◌/◌, refl, arith}
use Rattle.ciborium_ll_grammar.specs.Title.{Array, ByteString, Map, Negative, Tag, TextString, Unsigned}
use Rattle.ciborium_ll_grammar.proofs.PartsLaws.{affixed_parts}
use Rattle.ciborium_ll_grammar.proofs.titles.numbered_header.Goals as goal

pub returns-in-0 : goal.returns-in-0
returns-in-0 c =
    affixed_parts Unsigned _ _ _ _ c.requires.minor c.requires.number (rw c.from.ensures at c.in-0.is) (λ s. refl)

pub returns-in-1 : goal.returns-in-1
returns-in-1 c =
    affixed_parts Negative _ _ _ _ c.requires.minor c.requires.number (rw c.from.ensures at c.in-1.is) (λ s. refl)

pub returns-in-2 : goal.returns-in-2
returns-in-2 c =
    affixed_parts ByteString _ _ _ _ c.requires.minor c.requires.number (rw c.from.ensures at c.in-2.is) (λ s. refl)

pub returns-in-3 : goal.returns-in-3
returns-in-3 c =
    affixed_parts TextString _ _ _ _ c.requires.minor c.requires.number (rw c.from.ensures at c.in-3.is) (λ s. refl)

pub returns-in-4 : goal.returns-in-4
returns-in-4 c =
    affixed_parts Array _ _ _ _ c.requires.minor c.requires.number (rw c.from.ensures at c.in-4.is) (λ s. refl)

pub returns-in-5 : goal.returns-in-5
returns-in-5 c =
    affixed_parts Map _ _ _ _ c.requires.minor c.requires.number (rw c.from.ensures at c.in-5.is) (λ s. refl)

pub returns-in_default : goal.returns-in_default
returns-in_default c =
    let tag : c.args.first / 32 ≡ 6 = omega arith in
    affixed_parts Tag _ _ _ _ c.requires.minor c.requires.number tag (λ s. refl)
