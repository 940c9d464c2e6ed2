-- A title in the parts that the code uses: a major type, and a minor with its number. By a law of `proofs/`, these
-- parts are a title.
use Rattle.std.specs.Prelude.{ℕ, ◌<◌, List, [], ◌∷◌, Option, Some, None, Bool, false, if◌then◌else◌}
use Rattle.std.specs.Prelude.{nat_lt, ◌==◌}
use Rattle.ciborium_ll_grammar.specs.declared.hdr.Minor.{Minor}
use Rattle.ciborium_ll_grammar.specs.declared.hdr.Minor.TheVariants as m
use Rattle.ciborium_ll_grammar.specs.declared.hdr.Title.{Title}
use Rattle.ciborium_ll_grammar.specs.Title.{Small, One, Two, Four, Eight, size_limit, byte_of, minor_of, affix_of}

-- The minor in the lower five bits of the first byte, as `minor_of` defines it (RFC 7049, 2.1). For `One 200` it is 24.
abbrev pub minor_code : Minor → ℕ
minor_code (m.Small n) = minor_of Small n
minor_code (m.One n) = minor_of One n
minor_code (m.Two n) = minor_of Two n
minor_code (m.Four n) = minor_of Four n
minor_code (m.Eight n) = minor_of Eight n
minor_code m.Open = 31

-- The bytes of the affix, as `affix_of` defines them (RFC 7049, 2.1). For `Two 256` they are `01 00`.
abbrev pub minor_affix : Minor → List ℕ
minor_affix (m.Small n) = affix_of Small n
minor_affix (m.One n) = affix_of One n
minor_affix (m.Two n) = affix_of Two n
minor_affix (m.Four n) = affix_of Four n
minor_affix (m.Eight n) = affix_of Eight n
minor_affix m.Open = []

-- The number that a minor and its affix hold, or `None` for the minor 31 (RFC 7049, 2.1). In `18 c8` it is 200.
abbrev pub minor_number : Minor → Option ℕ
minor_number (m.Small n) = Some n
minor_number (m.One n) = Some n
minor_number (m.Two n) = Some n
minor_number (m.Four n) = Some n
minor_number (m.Eight n) = Some n
minor_number m.Open = None

-- The minor's number is below the `size_limit` of its size (RFC 7049, 2.1). `Small 23` is a minor, and `Small 24` is
-- none.
abbrev pub IsMinor : Minor → Type 0
IsMinor (m.Small n) = n < size_limit Small
IsMinor (m.One n) = n < size_limit One
IsMinor (m.Two n) = n < size_limit Two
IsMinor (m.Four n) = n < size_limit Four
IsMinor (m.Eight n) = n < size_limit Eight
IsMinor m.Open = Unit {0}

-- The first byte of a title in parts (RFC 7049, 2.1). For the major type 2 and `Small 3` it is `43`.
abbrev pub parts_first : ℕ → Minor → ℕ
parts_first major minor = byte_of major (minor_code minor)

-- The bytes of a title in parts: the first byte and the affix (RFC 7049, 2.1). For the major type 0 and `One 200` they
-- are `18 c8`.
abbrev pub parts_bytes : ℕ → Minor → List ℕ
parts_bytes major minor = parts_first major minor ∷ minor_affix minor

-- The bytes of a title (RFC 7049, 2.1). For the major type 4 and `Two 256` they are `99 01 00`.
abbrev pub title_bytes : Title → List ℕ
title_bytes t = parts_bytes t.major t.minor

-- The major type is below 8, and the number fits its size (RFC 7049, 2.1). So it is with 7 and `Open`, as in `ff`, and
-- not with 8 and `Open`. The parts 0 and `Open` are such parts too, but `1f` is no title.
pub record IsParts (t : Title) : Type 0 where
  pub major : t.major < 8
  pub minor : IsMinor t.minor

-- A smaller form holds the number, or the minor is a simple value below 32 in two bytes (RFC 7049, 2.3 and 3.9). By a
-- lemma, these are exactly the parts of the titles that are not strict. `18 17` and `f8 1f` are such titles.
abbrev pub refused_when_strict : ℕ → Minor → Bool
refused_when_strict major (m.Small n) = false
refused_when_strict major (m.One n) = nat_lt n (if major == 7 then 32 else 24)
refused_when_strict major (m.Two n) = if major == 7 then false else nat_lt n (size_limit One)
refused_when_strict major (m.Four n) = if major == 7 then false else nat_lt n (size_limit Two)
refused_when_strict major (m.Eight n) = if major == 7 then false else nat_lt n (size_limit Four)
refused_when_strict major m.Open = false
