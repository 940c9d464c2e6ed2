-- Titles (RFC 7049, 2.1 to 2.3), and the headers that they mean. An item begins with a *title*: a first byte and its
-- *affix* of 0, 1, 2, 4 or 8 bytes. `19 01 00` is the title of the number 256, and its affix is `01 00`. A *header* is
-- the meaning of a title. A body may follow, which is no part of the title. Numbers here have no range. `IsInRange
-- header` says that a header's numbers fit their Rust types.
use Rattle.std.specs.Prelude.{◌≡◌, ℕ, ◌+◌, ◌*◌, ◌/◌, ◌%◌, ◌<◌, ◌≤◌, ◌^◌, ◌⊎◌, List, [], ◌∷◌, length, Option, Some}
use Rattle.std.specs.Prelude.{None, IfSome, if◌then◌else◌, nat_lt, ◌==◌, ◌++◌}
use Rattle.std.specs.List.{AllByRecursion}
use Rattle.std.specs.Int.{to_be_bytes, w8, w16, w32, w64}
use Rattle.ciborium_ll_grammar.specs.declared.hdr.Header.{Header}
use Rattle.ciborium_ll_grammar.specs.declared.hdr.Header.TheVariants as h
use Rattle.ciborium_ll_grammar.specs.declared.hdr.Float.{Float}
use Rattle.ciborium_ll_grammar.specs.declared.hdr.Float.TheVariants as f

-- The eight major types. The upper three bits of a first byte give the major type (RFC 7049, 2.1). In `61` they give
-- `TextString`.
pub data Major : Type 0 where
  Unsigned Negative ByteString TextString Array Map Tag Other : Major

-- The number of a major type, from 0 to 7 (RFC 7049, 2.1). An array has 4.
abbrev pub major_code : Major → ℕ
major_code Unsigned = 0
major_code Negative = 1
major_code ByteString = 2
major_code TextString = 3
major_code Array = 4
major_code Map = 5
major_code Tag = 6
major_code Other = 7

-- The first byte 32 * major + minor: the major type in the upper three bits, the minor in the lower five (RFC 7049,
-- 2.1). The major type 4 and the minor 3 give `83`.
abbrev pub byte_of : ℕ → ℕ → ℕ
byte_of major minor = 32 * major + minor

-- The first byte of a major type and a minor (RFC 7049, 2.1). `Array` and 3 give `83`.
abbrev pub first_byte : Major → ℕ → ℕ
first_byte major minor = byte_of (major_code major) minor

-- The place of a title's number: the minor itself, or an affix of 1, 2, 4 or 8 bytes (RFC 7049, 2.1). `18 c8` has the
-- size `One`.
pub data Size : Type 0 where
  Small One Two Four Eight : Size

-- The numbers of a size are below this limit: 24, 2^8, 2^16, 2^32 or 2^64 (RFC 7049, 2.1). For `One` it is 2^8, so
-- `18 ff` has the greatest number.
abbrev pub size_limit : Size → ℕ
size_limit Small = 24
size_limit One = 2 ^ 8
size_limit Two = 2 ^ 16
size_limit Four = 2 ^ 32
size_limit Eight = 2 ^ 64

-- The minor of a size: the number itself, or 24 to 27 for an affix of 1, 2, 4 or 8 bytes (RFC 7049, 2.1). In `18 c8` it
-- is 24.
abbrev pub minor_of : Size → ℕ → ℕ
minor_of Small n = n
minor_of One n = 24
minor_of Two n = 25
minor_of Four n = 26
minor_of Eight n = 27

-- The affix of a size: the number, the most significant byte first (RFC 7049, 2.1). The size `Two` and 256 give
-- `01 00`.
abbrev pub affix_of : Size → ℕ → List ℕ
affix_of Small n = []
affix_of One n = to_be_bytes w8 n
affix_of Two n = to_be_bytes w16 n
affix_of Four n = to_be_bytes w32 n
affix_of Eight n = to_be_bytes w64 n

-- The title of a number under a major type: the first byte and its affix (RFC 7049, 2.1). `Array`, `One` and 200 give
-- `98 c8`.
abbrev pub numbered_title : Major → Size → ℕ → List ℕ
numbered_title major size n = first_byte major (minor_of size n) ∷ affix_of size n

-- The header of a number under the major type 7: a simple value in the sizes small and one, otherwise a float of 16, 32
-- or 64 bits (RFC 7049, 2.3). `f6` is the simple value 22, and `f9 3c 00` is the float 1.0 in 16 bits.
abbrev pub other_header : Size → ℕ → Header
other_header Small n = h.Simple n
other_header One n = h.Simple n
other_header Two n = h.Float (f.Half n)
other_header Four n = h.Float (f.Single n)
other_header Eight n = h.Float (f.Double n)

-- The header of a number under each major type (RFC 7049, 2.1, 2.3 and 2.4). `83` is an array of three items, and `20`
-- is the integer -1.
abbrev pub numbered_header : Major → Size → ℕ → Header
numbered_header Unsigned size n = h.Positive n
numbered_header Negative size n = h.Negative n
numbered_header ByteString size n = h.Bytes (Some n)
numbered_header TextString size n = h.Text (Some n)
numbered_header Array size n = h.Array (Some n)
numbered_header Map size n = h.Map (Some n)
numbered_header Tag size n = h.Tag n
numbered_header Other size n = other_header size n

-- The header of the minor 31: the four indefinite forms and the break. The major types 0, 1 and 6 have none (RFC 7049,
-- 2.2). `9f` is an array of indefinite length, and `ff` is the break.
abbrev pub open_header : Major → Option Header
open_header Unsigned = None
open_header Negative = None
open_header ByteString = Some (h.Bytes None)
open_header TextString = Some (h.Text None)
open_header Array = Some (h.Array None)
open_header Map = Some (h.Map None)
open_header Tag = None
open_header Other = Some h.Break

-- The bytes are a title of the header: a first byte with its number, or a first byte of minor 31 alone (RFC 7049, 2.1
-- to 2.4). `01`, `18 01` and `19 00 01` are titles of the integer 1.
pub data IsTitle : List ℕ → Header → Type 0 where
  numbered : (major : Major) (size : Size) (n : ℕ) → n < size_limit size
      → IsTitle (numbered_title major size n) (numbered_header major size n)
  alone : (major : Major) (header : Header) → open_header major ≡ Some header
      → IsTitle (first_byte major 31 ∷ []) header

-- ---- the shortest title

-- The smallest size that holds the number (RFC 7049, 3.9). For 23 it is `Small`, and for 24 it is `One`.
abbrev pub least_size : ℕ → Size
least_size n =
    if nat_lt n 24 then Small else (if nat_lt n (2 ^ 8) then One else
    (if nat_lt n (2 ^ 16) then Two else (if nat_lt n (2 ^ 32) then Four else Eight)))

-- The title of a number under a major type, in the smallest size that holds it (RFC 7049, 3.9). `Unsigned` and 24 give
-- `18 18`.
abbrev pub shortest_numbered : Major → ℕ → List ℕ
shortest_numbered major n = numbered_title major (least_size n) n

-- The title of a length in the smallest size, or of the indefinite form for `None` (RFC 7049, 2.2 and 3.9). `Array`
-- gives `83` for 3, and `9f` for `None`.
abbrev pub shortest_with_length : Major → Option ℕ → List ℕ
shortest_with_length major (Some n) = shortest_numbered major n
shortest_with_length major None = first_byte major 31 ∷ []

-- The only title of a float (RFC 7049, 2.3). For 1.0 in 16 bits it is `f9 3c 00`.
abbrev pub float_title : Float → List ℕ
float_title (f.Half n) = numbered_title Other Two n
float_title (f.Single n) = numbered_title Other Four n
float_title (f.Double n) = numbered_title Other Eight n

-- The title of a header that is shorter than its other titles, as the law `shortest_titles` says (RFC 7049, 3.9).
-- Numbers have the smallest size, indefinite forms the first byte of minor 31, and floats their only title. The integer
-- 1 has the shortest title `01`.
abbrev pub shortest_title : Header → List ℕ
shortest_title (h.Positive n) = shortest_numbered Unsigned n
shortest_title (h.Negative n) = shortest_numbered Negative n
shortest_title (h.Float float) = float_title float
shortest_title (h.Simple n) = shortest_numbered Other n
shortest_title (h.Tag n) = shortest_numbered Tag n
shortest_title h.Break = first_byte Other 31 ∷ []
shortest_title (h.Bytes len) = shortest_with_length ByteString len
shortest_title (h.Text len) = shortest_with_length TextString len
shortest_title (h.Array len) = shortest_with_length Array len
shortest_title (h.Map len) = shortest_with_length Map len

-- The number of bytes of a header's shortest title. For the integer 256 it is 3, as in `19 01 00`.
abbrev pub title_len : Header → ℕ
title_len header = length (shortest_title header)

-- A simple value from 24 to 31, which takes two bytes. RFC 7049, 2.3, gives it no meaning. `f8 18` is the simple value
-- 24.
abbrev pub IsSmallSimple : Header → Type 0
IsSmallSimple (h.Simple n) = (24 ≤ n) × (n < 32)
IsSmallSimple header = ⊥

-- A strict decoder takes this title: the shortest of its header (RFC 7049, 3.9), and of no simple value from 24 to 31
-- (2.3). `17` is strict, and `18 17` is a longer title of the same integer 23.
pub record IsStrictTitle (title : List ℕ) (header : Header) : Type 0 where
  pub shortest : title ≡ shortest_title header
  pub meant : IsSmallSimple header → ⊥

-- The length of the waiting header's shortest title, or 0 if no header waits. For the header of `19 01 00` it is 3.
abbrev pub waiting_len : Option Header → ℕ
waiting_len None = 0
waiting_len (Some header) = title_len header

-- ---- the numbers of a header are in the ranges of their types

-- The float's bits fit its width (RFC 7049, 2.3). The 16 bits of `Half` hold 65535, and not 65536.
abbrev pub IsFloatInRange : Float → Type 0
IsFloatInRange (f.Half n) = n < 2 ^ 16
IsFloatInRange (f.Single n) = n < 2 ^ 32
IsFloatInRange (f.Double n) = n < 2 ^ 64

-- Each number fits its Rust type: 8 bits for a simple value, the width of a float, and otherwise 64 bits (RFC 7049, 2.1
-- and 2.3). The simple value 255 fits, and 256 does not.
abbrev pub IsInRange : Header → Type 0
IsInRange (h.Positive n) = n < 2 ^ 64
IsInRange (h.Negative n) = n < 2 ^ 64
IsInRange (h.Float float) = IsFloatInRange float
IsInRange (h.Simple n) = n < 2 ^ 8
IsInRange (h.Tag n) = n < 2 ^ 64
IsInRange h.Break = Unit {0}
IsInRange (h.Bytes len) = IfSome len (λ n. n < 2 ^ 64)
IsInRange (h.Text len) = IfSome len (λ n. n < 2 ^ 64)
IsInRange (h.Array len) = IfSome len (λ n. n < 2 ^ 64)
IsInRange (h.Map len) = IfSome len (λ n. n < 2 ^ 64)

-- ---- bytes that begin no title

-- The minor is reserved: 28, 29 or 30 (RFC 7049, 2.1). The byte `1c` has the minor 28.
abbrev pub IsReserved : ℕ → Type 0
IsReserved minor = (28 ≤ minor) × (minor ≤ 30)

-- The major type has no indefinite form: it is 0, 1 or 6 (RFC 7049, 2.2). So `df`, of the major type 6, begins no
-- title.
abbrev pub IsNeverOpen : ℕ → Type 0
IsNeverOpen major = (major ≡ 0) ⊎ ((major ≡ 1) ⊎ (major ≡ 6))

-- No title has this major type and minor: the minor is reserved, or it is 31 and the major type has no indefinite form
-- (RFC 7049, 2.1 and 2.2). `1f` has the major type 0 and the minor 31.
abbrev pub NamesNoTitle : ℕ → ℕ → Type 0
NamesNoTitle major minor = IsReserved minor ⊎ ((minor ≡ 31) × IsNeverOpen major)

-- No title begins with this byte, by its major type and minor: 27 of the 256 bytes (RFC 7049, 2.1 and 2.2). By the law
-- `refused_first_bytes`, these are the `refused_bytes`. `1c` and `df` are two of them.
abbrev pub IsRefused : ℕ → Type 0
IsRefused byte = NamesNoTitle (byte / 32) (byte % 32)

-- The list begins with a refused byte, as `1c 01` does.
abbrev pub BeginsRefused : List ℕ → Type 0
BeginsRefused [] = ⊥
BeginsRefused (byte ∷ rest) = IsRefused byte

-- The number of bytes of the affix that a minor announces (RFC 7049, 2.1). The minor 25 announces two, as in
-- `19 01 00`.
abbrev pub affix_len : ℕ → ℕ
affix_len minor = if minor == 24 then 1 else (if minor == 25 then 2 else
    (if minor == 26 then 4 else (if minor == 27 then 8 else 0)))

-- The bytes end before a title or within it: there are none, or fewer follow the first byte than it announces. By the
-- law `cut_titles`, one or more further bytes complete exactly these lists of bytes to a title. `19 01` is a cut title.
abbrev pub IsCutTitle : List ℕ → Type 0
IsCutTitle [] = Unit {0}
IsCutTitle (byte ∷ rest) = length rest < affix_len (byte % 32)

-- The bytes begin with no title: they end before it or within it, or their first byte begins none (RFC 7049, 2.1).
-- `19 01` and `1c` begin with no title.
abbrev pub HasNoTitle : List ℕ → Type 0
HasNoTitle bytes = IsCutTitle bytes ⊎ BeginsRefused bytes

-- The bytes are a title of this header, and then this rest (RFC 7049, 2.1). `82 01 02` is the title `82` and the rest
-- `01 02`.
pub record HasFirstTitle (bytes : List ℕ) (header : Header) (rest : List ℕ) : Type 0 where
  pub title : List ℕ
  pub is_title : IsTitle title header
  pub whole : bytes ≡ title ++ rest

-- Each element of the list is a byte: 255 may be one, and 256 may not.
abbrev pub AreBytes : List ℕ → Type 0
AreBytes bytes = AllByRecursion (λ byte. byte < 256) bytes

-- The 27 refused bytes, in order (RFC 7049, 2.1 and 2.2): `1c` is the first, and `fe` the last.
abbrev pub refused_bytes : List ℕ
refused_bytes =
    0x1c ∷ 0x1d ∷ 0x1e ∷ 0x1f ∷ 0x3c ∷ 0x3d ∷ 0x3e ∷ 0x3f ∷ 0x5c ∷ 0x5d ∷ 0x5e ∷ 0x7c ∷ 0x7d ∷ 0x7e ∷ 0x9c ∷ 0x9d ∷
    0x9e ∷ 0xbc ∷ 0xbd ∷ 0xbe ∷ 0xdc ∷ 0xdd ∷ 0xde ∷ 0xdf ∷ 0xfc ∷ 0xfd ∷ 0xfe ∷ []
