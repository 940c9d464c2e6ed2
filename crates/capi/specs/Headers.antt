-- A header in the parts by which C knows it.
use Rattle.std.specs.Prelude.{◌≡◌, ◌==◌, ◌%◌, ◌^◌, ℕ, Option, Some, None, if◌then◌else◌}
use Rattle.ciborium_ll.specs.Types.Header.{Header}
use Rattle.ciborium_ll.specs.Types.Header.TheVariants as h
use Rattle.ciborium_ll.specs.Types.Float.TheVariants as f
use Rattle.ciborium_ll.specs.Title.{IsInRange}
use Rattle.capi.specs.declared.header.CllHeader.{CllHeader}

-- The number of a header's kind (RFC 7049, 2.1 to 2.4). An array has 4.
abbrev pub kind_number : Header → ℕ
kind_number (h.Positive n) = 0
kind_number (h.Negative n) = 1
kind_number (h.Bytes len) = 2
kind_number (h.Text len) = 3
kind_number (h.Array len) = 4
kind_number (h.Map len) = 5
kind_number (h.Tag n) = 6
kind_number (h.Simple n) = 7
kind_number (h.Float (f.Half bits)) = 8
kind_number (h.Float (f.Single bits)) = 9
kind_number (h.Float (f.Double bits)) = 10
kind_number h.Break = 11

-- A length, as 3 for `43`, or 0 for the indefinite form.
abbrev pub length_or_none : Option ℕ → ℕ
length_or_none (Some len) = len
length_or_none None = 0

-- The number of a header, its length or count, or the bits of its float (RFC 7049, 2.1 to 2.4). It is 256 for
-- `19 01 00`.
abbrev pub value_of : Header → ℕ
value_of (h.Positive n) = n
value_of (h.Negative n) = n
value_of (h.Bytes len) = length_or_none len
value_of (h.Text len) = length_or_none len
value_of (h.Array len) = length_or_none len
value_of (h.Map len) = length_or_none len
value_of (h.Tag n) = n
value_of (h.Simple n) = n
value_of (h.Float (f.Half bits)) = bits
value_of (h.Float (f.Single bits)) = bits
value_of (h.Float (f.Double bits)) = bits
value_of h.Break = 0

-- 1 for the indefinite form, as for `5f`, and 0 otherwise, as for `43`.
abbrev pub indefinite_of : Option ℕ → ℕ
indefinite_of (Some len) = 0
indefinite_of None = 1

-- 1 for a header of the indefinite form, as of `9f`, and 0 otherwise, as of the break `ff` (RFC 7049, 2.2).
abbrev pub open_of : Header → ℕ
open_of (h.Bytes len) = indefinite_of len
open_of (h.Text len) = indefinite_of len
open_of (h.Array len) = indefinite_of len
open_of (h.Map len) = indefinite_of len
open_of header = 0

-- The parts are those of the header: its kind, its number, and 1 for its indefinite form (RFC 7049, 2.1 to 2.4).
-- `19 03 e8` has kind 0, value 1000 and form 0.
pub record Says (parts : CllHeader) (header : Header) : Type 0 where
  pub kind : parts.kind ≡ kind_number header
  pub value : parts.value ≡ value_of header
  pub indefinite : parts.indefinite ≡ open_of header

-- The length that a form and a value say: none for the indefinite form. The form 0 and the value 3 say 3.
abbrev pub len_from : ℕ → ℕ → Option ℕ
len_from form n = if form == 0 then Some n else None

-- The header that a kind, a form and a value make, if the kind is one. The value is cut to the bits of the kind: kind 7
-- with value 277 makes the simple value 21.
abbrev pub rebuilt : ℕ → ℕ → ℕ → Option Header
rebuilt kind form n =
    if kind == 0 then Some (h.Positive n) else
    (if kind == 1 then Some (h.Negative n) else
    (if kind == 2 then Some (h.Bytes (len_from form n)) else
    (if kind == 3 then Some (h.Text (len_from form n)) else
    (if kind == 4 then Some (h.Array (len_from form n)) else
    (if kind == 5 then Some (h.Map (len_from form n)) else
    (if kind == 6 then Some (h.Tag n) else
    (if kind == 7 then Some (h.Simple (n % 2 ^ 8)) else
    (if kind == 8 then Some (h.Float (f.Half (n % 2 ^ 16))) else
    (if kind == 9 then Some (h.Float (f.Single (n % 2 ^ 32))) else
    (if kind == 10 then Some (h.Float (f.Double n)) else
    (if kind == 11 then Some h.Break else None)))))))))))

-- No header has these parts. So it is with kind 12, and with kind 7 and value 256.
abbrev pub IsNoHeader : CllHeader → Type 0
IsNoHeader parts = (header : Header) → IsInRange header → Says parts header → ⊥
