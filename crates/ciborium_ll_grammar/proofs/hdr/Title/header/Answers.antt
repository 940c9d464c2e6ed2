use Rattle.std.proofs.Common.{◌≡◌, ℕ, ◌+◌, ◌*◌, [], ◌∷◌, Option, Some, None, refl, sym, ◌∙◌, arith}
use Rattle.std.specs.Prelude.{IfSome, IfNone}
use Rattle.ciborium_ll_grammar.specs.declared.hdr.Header.{Header}
use Rattle.ciborium_ll_grammar.specs.declared.hdr.Minor.{Minor}
use Rattle.ciborium_ll_grammar.specs.declared.hdr.Minor.TheVariants as m
use Rattle.ciborium_ll_grammar.specs.declared.hdr.table.TitleKind.{TitleKind}
use Rattle.ciborium_ll_grammar.specs.Title.{IsTitle, IsNeverOpen, Unsigned, Negative, ByteString}
use Rattle.ciborium_ll_grammar.specs.Title.{TextString, Array, Map, Tag}
use Rattle.ciborium_ll_grammar.specs.Parts.{minor_code, minor_number, parts_bytes}
use Rattle.ciborium_ll_grammar.specs.TitleRows.{IsTitleKind}
use Rattle.ciborium_ll_grammar.proofs.PartsLaws.{numbered_parts, some_named}
use Rattle.ciborium_ll_grammar.proofs.hdr.Title.header.Goals as goal

-- A minor with no number is `Open`.
open_minor : (minor : Minor) → minor_number minor ≡ None → minor ≡ m.Open
open_minor minor e = grind arith

some_open : (found : Option Header) (kind : TitleKind) (major : ℕ) (minor : Minor) → minor_number minor ≡ None
    → IsTitleKind kind major (minor_code minor)
    → IfSome found (λ header. (m : ℕ) → IsTitleKind kind m 31 → IsTitle ((32 * m + 31) ∷ []) header)
    → IfSome found (IsTitle (parts_bytes major minor))
some_open None kind major minor e is found = tt
some_open (Some header) kind major minor e is found =
    rw (open_minor minor e) (found major (rw (open_minor minor e) at is))

none_open : (found : Option Header) (kind : TitleKind) (major : ℕ) (minor : Minor) → minor_number minor ≡ None
    → IsTitleKind kind major (minor_code minor) → IfNone found ((m : ℕ) → IsTitleKind kind m 31 → IsNeverOpen m)
    → IfNone found ((minor_code minor ≡ 31) × IsNeverOpen major)
none_open (Some header) kind major minor e is none = tt
none_open None kind major minor e is none =
    rw (open_minor minor e) (refl, none major (rw (open_minor minor e) at is))

pub returns-in_default-clause-some : goal.returns-in_default-clause-some
returns-in_default-clause-some c =
    some_open c.open_header.result c.args.kind c.args.self.major c.args.self.minor
    (sym c.number.ensures ∙ c.in_default.is) c.requires.kind c.open_header.ensures.some

pub returns-in_default-clause-none : goal.returns-in_default-clause-none
returns-in_default-clause-none c =
    none_open c.open_header.result c.args.kind c.args.self.major c.args.self.minor
    (sym c.number.ensures ∙ c.in_default.is) c.requires.kind c.open_header.ensures.none

pub returns-in-Positive-clause-some : goal.returns-in-Positive-clause-some
returns-in-Positive-clause-some c = numbered_parts Unsigned _ _ _ _ c.requires.parts.minor
    (sym c.number.ensures ∙ c.in-Some.is) (rw c.in-Positive.is at c.requires.kind) (λ s. refl)

pub returns-in-Negative-clause-some : goal.returns-in-Negative-clause-some
returns-in-Negative-clause-some c = numbered_parts Negative _ _ _ _ c.requires.parts.minor
    (sym c.number.ensures ∙ c.in-Some.is) (rw c.in-Negative.is at c.requires.kind) (λ s. refl)

pub returns-in-Bytes-clause-some : goal.returns-in-Bytes-clause-some
returns-in-Bytes-clause-some c = numbered_parts ByteString _ _ _ _ c.requires.parts.minor
    (sym c.number.ensures ∙ c.in-Some.is) (rw c.in-Bytes.is at c.requires.kind) (λ s. refl)

pub returns-in-Text-clause-some : goal.returns-in-Text-clause-some
returns-in-Text-clause-some c = numbered_parts TextString _ _ _ _ c.requires.parts.minor
    (sym c.number.ensures ∙ c.in-Some.is) (rw c.in-Text.is at c.requires.kind) (λ s. refl)

pub returns-in-Array-clause-some : goal.returns-in-Array-clause-some
returns-in-Array-clause-some c = numbered_parts Array _ _ _ _ c.requires.parts.minor
    (sym c.number.ensures ∙ c.in-Some.is) (rw c.in-Array.is at c.requires.kind) (λ s. refl)

pub returns-in-Map-clause-some : goal.returns-in-Map-clause-some
returns-in-Map-clause-some c = numbered_parts Map _ _ _ _ c.requires.parts.minor
    (sym c.number.ensures ∙ c.in-Some.is) (rw c.in-Map.is at c.requires.kind) (λ s. refl)

pub returns-in-Tag-clause-some : goal.returns-in-Tag-clause-some
returns-in-Tag-clause-some c = numbered_parts Tag _ _ _ _ c.requires.parts.minor
    (sym c.number.ensures ∙ c.in-Some.is) (rw c.in-Tag.is at c.requires.kind) (λ s. refl)

pub returns-in-Other-clause-some : goal.returns-in-Other-clause-some
returns-in-Other-clause-some c = rw (rw c.in-Other.is at c.requires.kind).0 c.other_header.ensures

pub returns-in-Refused-clause-some : goal.returns-in-Refused-clause-some
returns-in-Refused-clause-some c =
    absurd (some_named c.args.self.minor c.args.self.major c.in-Some.n c.requires.parts.minor
    (sym c.number.ensures ∙ c.in-Some.is) (rw c.in-Refused.is at c.requires.kind))
