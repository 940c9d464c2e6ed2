-- The parts of a title alone give its header.
use Rattle.std.proofs.Common.{◌≡◌, ℕ, zero, suc, ◌<◌, ◌+◌, ◌*◌, List, [], ◌∷◌, None, subst, refl, arith}
use Rattle.std.proofs.Common.{◌∙◌, inl, inr}
use Rattle.std.specs.Prelude.{if◌then◌else◌, ◌==◌}
use Rattle.ciborium_ll.specs.Types.Header.{Header}
use Rattle.ciborium_ll_grammar.specs.declared.hdr.Header.TheVariants as h
use Rattle.ciborium_ll_grammar.specs.declared.hdr.Minor.{Minor}
use Rattle.ciborium_ll_grammar.specs.declared.hdr.Minor.TheVariants as m
use Rattle.ciborium_ll_grammar.specs.Title.{IsTitle, numbered, alone, Major, Unsigned, Negative, ByteString}
use Rattle.ciborium_ll_grammar.specs.Title.{TextString, Array, Map, Tag, Other, major_code, Size, Small, One, Two}
use Rattle.ciborium_ll_grammar.specs.Title.{Four, Eight, numbered_header, numbered_title, size_limit}
use Rattle.ciborium_ll_grammar.specs.Title.{affix_of, first_byte, minor_of}
use Rattle.ciborium_ll_grammar.specs.Parts.{IsMinor, minor_number, parts_bytes}
use Rattle.ciborium_ll_grammar.proofs.TitleLaws.{one_title, title_refused}
use Rattle.capi.specs.declared.header.CllHeader.{CllHeader}
use Rattle.capi.specs.Headers.{Says, indefinite_of, length_or_none}

-- The first number for the major type 7, and the second for any other.
abbrev pub under : ℕ → ℕ → ℕ → ℕ
under major other n = if major == 7 then other else n

-- The kind of a title: its major type, or this kind if the major type is 7.
abbrev pub kind_under : ℕ → ℕ → ℕ
kind_under major other = under major other major

-- The kind that the major type 7 has for a number of this size.
abbrev pub other_kind : Size → ℕ
other_kind Small = 7
other_kind One = 7
other_kind Two = 8
other_kind Four = 9
other_kind Eight = 10

-- These parts are those of the header of a number of this size.
says_number : (parts : CllHeader) (major : Major) (size : Size) (n : ℕ)
    → parts.kind ≡ kind_under (major_code major) (other_kind size) → parts.value ≡ n → parts.indefinite ≡ 0
    → Says parts (numbered_header major size n)
says_number parts Unsigned size n kind value definite = record { kind = kind; value = value; indefinite = definite }
says_number parts Negative size n kind value definite = record { kind = kind; value = value; indefinite = definite }
says_number parts ByteString size n kind value definite = record { kind = kind; value = value; indefinite = definite }
says_number parts TextString size n kind value definite = record { kind = kind; value = value; indefinite = definite }
says_number parts Array size n kind value definite = record { kind = kind; value = value; indefinite = definite }
says_number parts Map size n kind value definite = record { kind = kind; value = value; indefinite = definite }
says_number parts Tag size n kind value definite = record { kind = kind; value = value; indefinite = definite }
says_number parts Other Small n kind value definite = record { kind = kind; value = value; indefinite = definite }
says_number parts Other One n kind value definite = record { kind = kind; value = value; indefinite = definite }
says_number parts Other Two n kind value definite = record { kind = kind; value = value; indefinite = definite }
says_number parts Other Four n kind value definite = record { kind = kind; value = value; indefinite = definite }
says_number parts Other Eight n kind value definite = record { kind = kind; value = value; indefinite = definite }

-- A title has only one header.
one_header : (title : List ℕ) (mine header : Header) → IsTitle title mine → IsTitle title header → mine ≡ header
one_header title mine header is given = (one_title title title [] [] mine header is given refl).1

-- These parts are those of the header of a title with a number of this size.
says_numbered : (parts : CllHeader) (major : Major) (size : Size) (n : ℕ) (header : Header) → n < size_limit size
    → IsTitle (numbered_title major size n) header → parts.kind ≡ kind_under (major_code major) (other_kind size)
    → parts.value ≡ n → parts.indefinite ≡ 0 → Says parts header
says_numbered parts major size n header below title kind value definite =
    subst (Says parts) (one_header _ (numbered_header major size n) header (numbered major size n below) title)
    (says_number parts major size n kind value definite)

-- A major type below 8 has a name.
named : (major : ℕ) → major < 8 → (name : Major) × (major ≡ major_code name)
named zero below = (Unsigned, refl)
named (suc zero) below = (Negative, refl)
named (suc (suc zero)) below = (ByteString, refl)
named (suc (suc (suc zero))) below = (TextString, refl)
named (suc (suc (suc (suc zero)))) below = (Array, refl)
named (suc (suc (suc (suc (suc zero))))) below = (Map, refl)
named (suc (suc (suc (suc (suc (suc zero)))))) below = (Tag, refl)
named (suc (suc (suc (suc (suc (suc (suc zero))))))) below = (Other, refl)
named (suc (suc (suc (suc (suc (suc (suc (suc major)))))))) below = absurd (omega (arith, below))

-- These parts are those of a title's header, if the major type is below 8.
pub says_parts : (parts : CllHeader) (major : ℕ) (size : Size) (n : ℕ) (header : Header) → major < 8
    → n < size_limit size → IsTitle ((32 * major + minor_of size n) ∷ affix_of size n) header
    → parts.kind ≡ kind_under major (other_kind size) → parts.value ≡ n → parts.indefinite ≡ 0 → Says parts header
says_parts parts major size n header below fits title kind value definite =
    let name = named major below in
    says_numbered parts name.0 size n header fits
    (subst (λ (x : ℕ). IsTitle ((32 * x + minor_of size n) ∷ affix_of size n) header) name.1 title)
    (subst (λ (x : ℕ). parts.kind ≡ kind_under x (other_kind size)) name.1 kind) value definite

-- These parts are those of the header of a title of minor 31.
says_alone : (parts : CllHeader) (major : Major) (header : Header) → IsTitle (first_byte major 31 ∷ []) header
    → parts.kind ≡ kind_under (major_code major) 11 → parts.value ≡ 0
    → parts.indefinite ≡ (if major_code major == 7 then 0 else 1) → Says parts header
says_alone parts Unsigned header title kind value form =
    absurd (title_refused _ [] header title (inr (refl, inl refl)))
says_alone parts Negative header title kind value form =
    absurd (title_refused _ [] header title (inr (refl, inr (inl refl))))
says_alone parts ByteString header title kind value form =
    subst (Says parts) (one_header _ (h.Bytes None) header (alone ByteString (h.Bytes None) refl) title)
    (record { kind = kind; value = value; indefinite = form })
says_alone parts TextString header title kind value form =
    subst (Says parts) (one_header _ (h.Text None) header (alone TextString (h.Text None) refl) title)
    (record { kind = kind; value = value; indefinite = form })
says_alone parts Array header title kind value form =
    subst (Says parts) (one_header _ (h.Array None) header (alone Array (h.Array None) refl) title)
    (record { kind = kind; value = value; indefinite = form })
says_alone parts Map header title kind value form =
    subst (Says parts) (one_header _ (h.Map None) header (alone Map (h.Map None) refl) title)
    (record { kind = kind; value = value; indefinite = form })
says_alone parts Tag header title kind value form =
    absurd (title_refused _ [] header title (inr (refl, inr (inr refl))))
says_alone parts Other header title kind value form =
    subst (Says parts) (one_header _ h.Break header (alone Other h.Break refl) title)
    (record { kind = kind; value = value; indefinite = form })

-- These parts are those of such a header, if the major type is below 8.
pub says_open : (parts : CllHeader) (major : ℕ) (header : Header) → major < 8
    → IsTitle ((32 * major + 31) ∷ []) header → parts.kind ≡ kind_under major 11 → parts.value ≡ 0
    → parts.indefinite ≡ (if major == 7 then 0 else 1) → Says parts header
says_open parts major header below title kind value form =
    let name = named major below in
    says_alone parts name.0 header (subst (λ (x : ℕ). IsTitle ((32 * x + 31) ∷ []) header) name.1 title)
    (subst (λ (x : ℕ). parts.kind ≡ kind_under x 11) name.1 kind) value
    (subst (λ (x : ℕ). parts.indefinite ≡ (if x == 7 then 0 else 1)) name.1 form)

-- A major type below 7 is not 7.
not_7 : (major other n : ℕ) → major < 7 → n ≡ under major other n
not_7 zero other n below = refl
not_7 (suc zero) other n below = refl
not_7 (suc (suc zero)) other n below = refl
not_7 (suc (suc (suc zero))) other n below = refl
not_7 (suc (suc (suc (suc zero)))) other n below = refl
not_7 (suc (suc (suc (suc (suc zero))))) other n below = refl
not_7 (suc (suc (suc (suc (suc (suc zero)))))) other n below = refl
not_7 (suc (suc (suc (suc (suc (suc (suc major))))))) other n below = absurd (omega (arith, below))

-- These parts are those of the header of a title of a major type below 7.
pub says_alike : (parts : CllHeader) (major : ℕ) (minor : Minor) (header : Header) → major < 7 → IsMinor minor
    → IsTitle (parts_bytes major minor) header → parts.kind ≡ major
    → parts.value ≡ length_or_none (minor_number minor) → parts.indefinite ≡ indefinite_of (minor_number minor)
    → Says parts header
says_alike parts major (m.Small n) header below fits title kind value form =
    says_parts parts major Small n header (omega (arith, below)) fits title
    (kind ∙ not_7 major (other_kind Small) major below) value form
says_alike parts major (m.One n) header below fits title kind value form =
    says_parts parts major One n header (omega (arith, below)) fits title
    (kind ∙ not_7 major (other_kind One) major below) value form
says_alike parts major (m.Two n) header below fits title kind value form =
    says_parts parts major Two n header (omega (arith, below)) fits title
    (kind ∙ not_7 major (other_kind Two) major below) value form
says_alike parts major (m.Four n) header below fits title kind value form =
    says_parts parts major Four n header (omega (arith, below)) fits title
    (kind ∙ not_7 major (other_kind Four) major below) value form
says_alike parts major (m.Eight n) header below fits title kind value form =
    says_parts parts major Eight n header (omega (arith, below)) fits title
    (kind ∙ not_7 major (other_kind Eight) major below) value form
says_alike parts major m.Open header below fits title kind value form =
    says_open parts major header (omega (arith, below)) title (kind ∙ not_7 major 11 major below) value
    (form ∙ not_7 major 0 1 below)
