-- How an item is written as JSON, by what contains it (RFC 8949, section 6.1).
use Rattle.std.specs.Prelude.{ℕ, ◌==◌, Bool, true, false, ◌&&◌, ◌||◌, not, if◌then◌else◌}
use Rattle.std.specs.Float.{float_is_finite}
use Rattle.ciborium_ll.specs.Types.Header.{Header}
use Rattle.ciborium_ll.specs.Types.Header.TheVariants as h
use Rattle.cbor_floats.specs.Floats.{float_value}
use Rattle.cbor_json.specs.declared.role.Base.{Base}
use Rattle.cbor_json.specs.declared.role.Base.TheVariants as b
use Rattle.cbor_json.specs.declared.role.Mode.{Mode}
use Rattle.cbor_json.specs.declared.role.Mode.TheVariants as m
use Rattle.cbor_json.specs.declared.role.Role.{Role}

-- ---- byte strings

-- How a byte string is written that is not the content of a bignum's tag: as its tags say, and otherwise by base64url.
-- In `c3 81 41 01` the tag 3 says nothing of the byte string within the array.
abbrev pub plain_base : Base → Base
plain_base b.Negative = b.Url
plain_base base = base

-- How byte strings within a tag are written (RFC 8949, 3.4.5.2 and 6.1). Tag 21 means base64url, 22 base64, and 23
-- base16. A bignum, which has the tag 2 or 3, is written by base64url, and a negative one has a `~`. Another tag
-- changes nothing: `d6 c1 41 01` is written by base64.
abbrev pub tag_base : Base → ℕ → Base
tag_base base number =
    if number == 2 || number == 21 then b.Url
    else (if number == 3 then b.Negative
    else (if number == 22 then b.Standard
    else (if number == 23 then b.Sixteen
    else plain_base base)))

-- ---- roles

-- The role of an item that nothing contains: it is no key, and byte strings are written by base64url.
abbrev pub first_role : Mode → Role
first_role mode = record { mode = mode; is_key = false; base = b.Url }

-- The role of an item within a tag, an array or a map of this role, by whether the item is the value of a pair. In `a1
-- 01 02` the item `01` is a key. The content of a key's tag is a key.
abbrev pub item_role : Role → Header → Bool → Role
item_role role (h.Tag number) value =
    record { mode = role.mode; is_key = role.is_key; base = tag_base role.base number }
item_role role (h.Map len) value = record { mode = role.mode; is_key = not value; base = plain_base role.base }
item_role role header value = record { mode = role.mode; is_key = false; base = plain_base role.base }

-- ---- items that have JSON

-- Whether the mode replaces items that JSON has no form for: `Lossy` does.
abbrev pub is_lossy : Mode → Bool
is_lossy m.Strict = false
is_lossy m.Lossy = true

-- Whether JSON has a value for a float or a simple value (RFC 8259, 3 and 6): for each finite float, and for the three
-- simple values `false`, `true` and `null`. It has one for `f4`, and none for `f7` and `f9 7c 00`.
abbrev pub has_value : Header → Bool
has_value (h.Float float) = float_is_finite (float_value float)
has_value (h.Simple number) = number == 20 || (number == 21 || number == 22)
has_value header = false

-- Whether the item of this role and header has JSON. A text has. An array and a map have unless they are keys (RFC
-- 8259, 4). A byte string and a tag have if the mode replaces them (RFC 8949, 6.1). An integer has unless it is a key;
-- as a key it has if the mode replaces it. A float and a simple value have if they are no key, and JSON has a value for
-- them or the mode replaces them. In strict mode `01` has, and `41 01` has none.
abbrev pub has_json : Role → Header → Bool
has_json role (h.Text len) = true
has_json role (h.Array len) = not role.is_key
has_json role (h.Map len) = not role.is_key
has_json role (h.Bytes len) = is_lossy role.mode
has_json role (h.Tag number) = is_lossy role.mode
has_json role h.Break = false
has_json role (h.Positive number) = is_lossy role.mode || not role.is_key
has_json role (h.Negative number) = is_lossy role.mode || not role.is_key
has_json role (h.Float float) = not role.is_key && (is_lossy role.mode || has_value (h.Float float))
has_json role (h.Simple number) = not role.is_key && (is_lossy role.mode || has_value (h.Simple number))

-- The header is that of an integer. `20` has such a header, and `f4` has none.
abbrev pub IsInteger : Header → Type 0
IsInteger (h.Positive number) = Unit {0}
IsInteger (h.Negative number) = Unit {0}
IsInteger header = ⊥

-- The header is that of an integer, a float or a simple value, which is the whole item. `01` has such a header, and
-- `81` has none.
abbrev pub IsScalar : Header → Type 0
IsScalar (h.Positive number) = Unit {0}
IsScalar (h.Negative number) = Unit {0}
IsScalar (h.Float float) = Unit {0}
IsScalar (h.Simple number) = Unit {0}
IsScalar header = ⊥
