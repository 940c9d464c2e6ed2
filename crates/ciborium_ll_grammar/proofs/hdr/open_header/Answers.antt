use Rattle.std.proofs.Common.{◌≡◌, ℕ, ◌⊎◌, refl, None, arith}
use Rattle.ciborium_ll_grammar.specs.declared.hdr.Header.TheVariants as h
use Rattle.ciborium_ll_grammar.specs.declared.hdr.table.TitleKind.{TitleKind}
use Rattle.ciborium_ll_grammar.specs.declared.hdr.table.TitleKind.TheVariants as k
use Rattle.ciborium_ll_grammar.specs.Title.{IsNeverOpen, alone, ByteString, TextString, Array, Map, Other}
use Rattle.ciborium_ll_grammar.specs.TitleRows.{IsTitleKind}
use Rattle.ciborium_ll_grammar.proofs.hdr.open_header.Goals as goal

-- The major type of these kinds has no indefinite form.
never_open : (kind : TitleKind) (major : ℕ)
    → (kind ≡ k.Positive) ⊎ ((kind ≡ k.Negative) ⊎ ((kind ≡ k.Tag) ⊎ (kind ≡ k.Refused))) → IsTitleKind kind major 31
    → IsNeverOpen major
never_open kind major of is = grind arith

pub returns-in-Bytes-clause-some : goal.returns-in-Bytes-clause-some
returns-in-Bytes-clause-some c = λ major is. rw (rw c.in-Bytes.is at is).0 (alone ByteString (h.Bytes None) refl)

pub returns-in-Text-clause-some : goal.returns-in-Text-clause-some
returns-in-Text-clause-some c = λ major is. rw (rw c.in-Text.is at is).0 (alone TextString (h.Text None) refl)

pub returns-in-Array-clause-some : goal.returns-in-Array-clause-some
returns-in-Array-clause-some c = λ major is. rw (rw c.in-Array.is at is).0 (alone Array (h.Array None) refl)

pub returns-in-Map-clause-some : goal.returns-in-Map-clause-some
returns-in-Map-clause-some c = λ major is. rw (rw c.in-Map.is at is).0 (alone Map (h.Map None) refl)

pub returns-in-Other-clause-some : goal.returns-in-Other-clause-some
returns-in-Other-clause-some c = λ major is. rw (rw c.in-Other.is at is).0 (alone Other h.Break refl)

pub returns-in-Positive-clause-none : goal.returns-in-Positive-clause-none
returns-in-Positive-clause-none c = λ major is. never_open c.args.kind major c.in-Positive.is is
