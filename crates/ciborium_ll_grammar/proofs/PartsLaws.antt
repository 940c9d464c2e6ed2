-- The parts that the code reads as a title are a title.
use Rattle.std.proofs.Common.{◌≡◌, ℕ, ◌<◌, ◌⊎◌, List, [], Option, Some, refl, arith}
use Rattle.ciborium_ll_grammar.specs.declared.hdr.Header.{Header}
use Rattle.ciborium_ll_grammar.specs.declared.hdr.Header.TheVariants as h
use Rattle.ciborium_ll_grammar.specs.declared.hdr.Minor.{Minor}
use Rattle.ciborium_ll_grammar.specs.declared.hdr.Minor.TheVariants as m
use Rattle.ciborium_ll_grammar.specs.Title.{IsTitle, numbered, alone, Major, ByteString, TextString, Array, Map, Tag}
use Rattle.ciborium_ll_grammar.specs.Title.{Other, major_code, Size, Small, One, Two, Four, Eight, numbered_header}
use Rattle.ciborium_ll_grammar.specs.Title.{NamesNoTitle, open_header, minor_of, affix_of, least_size, shortest_title}
use Rattle.ciborium_ll_grammar.specs.Parts.{IsMinor, minor_number, minor_code, minor_affix, parts_bytes}
use Rattle.ciborium_ll_grammar.specs.TitleRows.{NamesTitle}
use Rattle.ciborium_ll_grammar.proofs.TitleLaws.{minor_below, one_title}
use Rattle.ciborium_ll_grammar.proofs.AffixLaws.{major_with}

-- The header that the parts of a title mean.
abbrev pub means : Major → Minor → Option Header
means major (m.Small n) = Some (numbered_header major Small n)
means major (m.One n) = Some (numbered_header major One n)
means major (m.Two n) = Some (numbered_header major Two n)
means major (m.Four n) = Some (numbered_header major Four n)
means major (m.Eight n) = Some (numbered_header major Eight n)
means major m.Open = open_header major

titled : (w : List ℕ) (x y : Header) → IsTitle w x → Some x ≡ Some y → IsTitle w y
titled w x y t e = let same : x ≡ y = cc in rw same at t

-- Parts that mean a header are a title of the header.
pub means_title : (k : Major) (minor : Minor) (header : Header) → IsMinor minor → means k minor ≡ Some header
    → IsTitle (parts_bytes (major_code k) minor) header
means_title k (m.Small n) header p e = titled _ _ header (numbered k Small n p) e
means_title k (m.One n) header p e = titled _ _ header (numbered k One n p) e
means_title k (m.Two n) header p e = titled _ _ header (numbered k Two n p) e
means_title k (m.Four n) header p e = titled _ _ header (numbered k Four n p) e
means_title k (m.Eight n) header p e = titled _ _ header (numbered k Eight n p) e
means_title k m.Open header p e = alone k header e

-- Parts that mean a header are a title of no other header.
one_meaning : (k : Major) (minor : Minor) (x y : Header) → IsMinor minor → means k minor ≡ Some y
    → IsTitle (parts_bytes (major_code k) minor) x → y ≡ x
one_meaning k minor x y p e t = (one_title _ _ [] [] y x (means_title k minor y p e) t refl).1

opened : (k : Major) (w : List ℕ) (x : Header) → IsTitle w x → w ≡ parts_bytes (major_code k) m.Open
    → open_header k ≡ Some x
opened k w x t e = grind (arith, minor_below)

pub means_back : (k : Major) (minor : Minor) (x : Header) → IsMinor minor → IsTitle (parts_bytes (major_code k) minor) x
    → means k minor ≡ Some x
means_back k minor x p t = grind (arith, one_meaning, opened)

-- A minor with a number means the header of this number, if the major type gives each size the same header.
pub numbered_parts : (code : Major) (major : ℕ) (minor : Minor) (n : ℕ) (header : Header) → IsMinor minor
    → minor_number minor ≡ Some n → NamesTitle (major_code code) major (minor_code minor)
    → ((size : Size) → numbered_header code size n ≡ header) → IsTitle (parts_bytes major minor) header
numbered_parts code major minor n header p e named f = rw named.0 (means_title code minor header p (grind arith))

-- A minor with a number and a major type are parts of a title.
pub some_named : (minor : Minor) (major n : ℕ) → IsMinor minor → minor_number minor ≡ Some n
    → NamesNoTitle major (minor_code minor) → ⊥
some_named minor major n small is refused = grind arith

-- A minor means the header of its number, if the major type gives each size the same header.
pub affixed_parts : (code : Major) (major : ℕ) (minor : Minor) (n : ℕ) (header : Header) → IsMinor minor
    → minor_number minor ≡ Some n → major ≡ major_code code → ((size : Size) → numbered_header code size n ≡ header)
    → IsTitle (parts_bytes major minor) header
affixed_parts code major minor n header p e is f =
    numbered_parts code major minor n header p e (is, some_named minor major n p e) f

-- The least size gives the shortest title under a major type below 7.
shortens_alike : (major : Major) (minor least : Minor) (n : ℕ) (header : Header) → major_code major < 7
    → IsMinor minor → minor_number minor ≡ Some n → minor_code least ≡ minor_of (least_size n) n
    → minor_affix least ≡ affix_of (least_size n) n → IsTitle (parts_bytes (major_code major) minor) header
    → parts_bytes (major_code major) least ≡ shortest_title header
shortens_alike major minor least n header l p e code affix t = grind (arith, means_back major minor header p t)

pub shortens_number : (major : ℕ) (minor least : Minor) (n : ℕ) (header : Header) → major < 7 → IsMinor minor
    → minor_number minor ≡ Some n → minor_code least ≡ minor_of (least_size n) n
    → minor_affix least ≡ affix_of (least_size n) n → IsTitle (parts_bytes major minor) header
    → parts_bytes major least ≡ shortest_title header
shortens_number major minor least n header l p e c a t =
    let k = major_with major (omega arith) in
    rw k.1 at (shortens_alike k.0 minor least n header (rw k.1 l) p e c a (rw (← k.1) at t))

-- The least size gives the shortest title of a simple value.
pub shortens_simple : (minor least : Minor) (n : ℕ) (header : Header) → IsMinor minor
    → (minor ≡ m.Small n) ⊎ (minor ≡ m.One n) → minor_code least ≡ minor_of (least_size n) n
    → minor_affix least ≡ affix_of (least_size n) n → IsTitle (parts_bytes 7 minor) header
    → parts_bytes 7 least ≡ shortest_title header
shortens_simple minor least n header p is c a t = grind (arith, means_back Other minor header p t)

-- The title of a float or of a break is the shortest title.
pub keeps_other : (minor : Minor) (header : Header) → IsMinor minor → ((n : ℕ) → minor ≡ m.Small n → ⊥)
    → ((n : ℕ) → minor ≡ m.One n → ⊥) → IsTitle (parts_bytes 7 minor) header
    → parts_bytes 7 minor ≡ shortest_title header
keeps_other minor header p small one t = grind (arith, means_back Other minor header p t)

-- ---- the element that a title begins

-- The parts of a string's title give the length of the string.

pub bytes_parts : (minor : Minor) (header : Header) → IsMinor minor → IsTitle (parts_bytes 2 minor) header
    → header ≡ h.Bytes (minor_number minor)
bytes_parts minor header p t = grind (arith, means_back ByteString minor header p t)

pub text_parts : (minor : Minor) (header : Header) → IsMinor minor → IsTitle (parts_bytes 3 minor) header
    → header ≡ h.Text (minor_number minor)
text_parts minor header p t = grind (arith, means_back TextString minor header p t)

pub array_parts : (minor : Minor) (header : Header) → IsMinor minor → IsTitle (parts_bytes 4 minor) header
    → header ≡ h.Array (minor_number minor)
array_parts minor header p t = grind (arith, means_back Array minor header p t)

pub map_parts : (minor : Minor) (header : Header) → IsMinor minor → IsTitle (parts_bytes 5 minor) header
    → header ≡ h.Map (minor_number minor)
map_parts minor header p t = grind (arith, means_back Map minor header p t)

-- The number in the parts of a tag's title is the number of the tag.
pub tag_parts : (minor : Minor) (n : ℕ) (header : Header) → IsMinor minor → minor_number minor ≡ Some n
    → IsTitle (parts_bytes 6 minor) header → header ≡ h.Tag n
tag_parts minor n header p e t = grind (arith, means_back Tag minor header p t)
