use Rattle.std.proofs.Common.{arith, inl, inr}
use Rattle.ciborium_ll_grammar.specs.Title.{Small, One, Two, Four, Eight}
use Rattle.capi.proofs.TitleParts.{says_parts}
use Rattle.capi.proofs.header.CllHeader.of_other.Goals as goal

pub returns-in-Small : goal.returns-in-Small
returns-in-Small c =
    elim c.in-Small.is [
      | inl small ↦ (
          says_parts c.definite-in-Small.result 7 Small c.in-Small.n c.args.header (omega (arith))
          (rw small at c.requires.minor) (rw small at c.requires.title) c.definite-in-Small.ensures.kind
          c.definite-in-Small.ensures.value c.definite-in-Small.ensures.definite
          )
      | inr one ↦ (
          says_parts c.definite-in-Small.result 7 One c.in-Small.n c.args.header (omega (arith))
          (rw one at c.requires.minor) (rw one at c.requires.title) c.definite-in-Small.ensures.kind
          c.definite-in-Small.ensures.value c.definite-in-Small.ensures.definite
          )
    ]

pub returns-in-Two : goal.returns-in-Two
returns-in-Two c =
    says_parts c.definite.result 7 Two c.in-Two.n c.args.header (omega (arith))
    (rw c.in-Two.is at c.requires.minor) (rw c.in-Two.is at c.requires.title) c.definite.ensures.kind
    c.definite.ensures.value c.definite.ensures.definite

pub returns-in-Four : goal.returns-in-Four
returns-in-Four c =
    says_parts c.definite-in-Four.result 7 Four c.in-Four.n c.args.header (omega (arith))
    (rw c.in-Four.is at c.requires.minor) (rw c.in-Four.is at c.requires.title) c.definite-in-Four.ensures.kind
    c.definite-in-Four.ensures.value c.definite-in-Four.ensures.definite

pub returns-in-Eight : goal.returns-in-Eight
returns-in-Eight c =
    says_parts c.definite-in-Eight.result 7 Eight c.in-Eight.n c.args.header (omega (arith))
    (rw c.in-Eight.is at c.requires.minor) (rw c.in-Eight.is at c.requires.title) c.definite-in-Eight.ensures.kind
    c.definite-in-Eight.ensures.value c.definite-in-Eight.ensures.definite
