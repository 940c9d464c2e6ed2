-- The parts of a title tell if the title is strict.
use Rattle.std.proofs.Common.{◌≡◌, ℕ, ◌<◌, true, false, Option, Some, None, refl, arith}
use Rattle.ciborium_ll_grammar.specs.declared.hdr.Header.{Header}
use Rattle.ciborium_ll_grammar.specs.declared.hdr.Minor.{Minor}
use Rattle.ciborium_ll_grammar.specs.declared.hdr.Minor.TheVariants as m
use Rattle.ciborium_ll_grammar.specs.Title.{Major, major_code, Size, Small, One, Two, Four, Eight, size_limit}
use Rattle.ciborium_ll_grammar.specs.Title.{numbered_title, numbered_header, IsTitle, IsStrictTitle}
use Rattle.ciborium_ll_grammar.specs.Parts.{IsMinor, parts_bytes, refused_when_strict}
use Rattle.ciborium_ll_grammar.proofs.PartsLaws.{means, means_title, means_back}
use Rattle.ciborium_ll_grammar.proofs.AffixLaws.{major_with}

-- The minor of a number in a size.
abbrev pub minor_as : Size → ℕ → Minor
minor_as Small n = m.Small n
minor_as One n = m.One n
minor_as Two n = m.Two n
minor_as Four n = m.Four n
minor_as Eight n = m.Eight n

-- Parts that a strict decoder does not refuse are a strict title of their header.
strict_parts : (k : Major) (b : Minor) (x : Header) → IsMinor b → means k b ≡ Some x
    → refused_when_strict (major_code k) b ≡ false → IsStrictTitle (parts_bytes (major_code k) b) x
strict_parts k (m.Small n) x p e f = grind arith
strict_parts k (m.One n) x p e f = grind arith
strict_parts k (m.Two n) x p e f = grind arith
strict_parts k (m.Four n) x p e f = grind arith
strict_parts k (m.Eight n) x p e f = grind arith
strict_parts k m.Open x p e f = grind arith

-- Parts that a strict decoder refuses are no strict title of their header.
loose_parts : (k : Major) (b : Minor) (x : Header) → IsMinor b → means k b ≡ Some x
    → refused_when_strict (major_code k) b ≡ true → IsStrictTitle (parts_bytes (major_code k) b) x → ⊥
loose_parts k b x p e f strict = grind arith

-- Parts that a strict decoder refuses mean a header.
some_header : (k : Major) (b : Minor) (o : Option Header) → means k b ≡ o → refused_when_strict (major_code k) b ≡ true
    → (x : Header) × (means k b ≡ Some x)
some_header k b None e f = absurd (grind arith)
some_header k b (Some x) e f = (x, e)

pub taken : (k : Major) (s : Size) (n : ℕ) → n < size_limit s → refused_when_strict (major_code k) (minor_as s n) ≡ false
    → IsStrictTitle (numbered_title k s n) (numbered_header k s n)
taken k s n p e = grind (arith, strict_parts k (minor_as s n) (numbered_header k s n))

pub refused : (k : Major) (s : Size) (n : ℕ) → n < size_limit s → refused_when_strict (major_code k) (minor_as s n) ≡ true
    → IsStrictTitle (numbered_title k s n) (numbered_header k s n) → ⊥
refused k s n p e strict = grind arith

-- If a strict decoder does not refuse the parts of a title, the title is strict.
pub parts_taken : (major : ℕ) (b : Minor) (x : Header) → major < 8 → IsMinor b → IsTitle (parts_bytes major b) x
    → refused_when_strict major b ≡ false → IsStrictTitle (parts_bytes major b) x
parts_taken major b x l p q e =
    let k = major_with major l in
    rw k.1 at (strict_parts k.0 b x p (means_back k.0 b x p (rw (← k.1) at q)) (rw (← k.1) at e))

-- If a strict decoder refuses the parts of a title, the title is not strict.
pub parts_refused : (major : ℕ) (b : Minor) (x : Header) → major < 8 → IsMinor b → IsTitle (parts_bytes major b) x
    → refused_when_strict major b ≡ true → IsStrictTitle (parts_bytes major b) x → ⊥
parts_refused major b x l p q e strict =
    let k = major_with major l in
    loose_parts k.0 b x p (means_back k.0 b x p (rw (← k.1) at q)) (rw (← k.1) at e) (rw (← k.1) at strict)

-- Parts that a strict decoder refuses are a title of some header.
pub parts_header : (major : ℕ) (b : Minor) → major < 8 → IsMinor b → refused_when_strict major b ≡ true → (x : Header)
    × IsTitle (parts_bytes major b) x
parts_header major b l p e =
    let k = major_with major l in
    let x = some_header k.0 b _ refl (rw (← k.1) at e) in
    (x.0, rw k.1 at (means_title k.0 b x.0 p x.1))
