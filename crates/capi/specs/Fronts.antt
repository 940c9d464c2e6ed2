-- The parts of a header by the first byte of its title and the eight bytes after it.
use Rattle.std.specs.Prelude.{ℕ, ◌/◌, ◌%◌, ◌^◌, ◌==◌, nat_lt, if◌then◌else◌}

-- The number of a title, by its minor and the eight bytes after its first byte as one number (RFC 7049, 2.1). For the
-- minor 25 and eight bytes that begin with `03 e8` it is 1000. It is 0 for the minor 31, as of `9f`.
abbrev pub number_in : ℕ → ℕ → ℕ
number_in minor word = if nat_lt minor 24 then minor else (if minor == 24 then word / 2 ^ 56 else
    (if minor == 25 then word / 2 ^ 48 else (if minor == 26 then word / 2 ^ 32 else
    (if minor == 27 then word else 0))))

-- The kind of a title of the major type 7, by its minor (RFC 7049, 2.3). `f9` begins a half, of the kind 8.
abbrev pub other_kind_in : ℕ → ℕ
other_kind_in minor = if nat_lt minor 25 then 7 else (if minor == 25 then 8 else
    (if minor == 26 then 9 else (if minor == 27 then 10 else 11)))

-- The number of the kind of a title, by its first byte (RFC 7049, 2.1 to 2.3). `9f` begins an array, of the kind 4.
abbrev pub kind_in : ℕ → ℕ
kind_in first = if nat_lt first 0xe0 then first / 32 else other_kind_in (first % 32)

-- 1 if the first byte begins an indefinite form, as `9f` does, and 0 otherwise (RFC 7049, 2.2). For the break `ff` it is
-- 0.
abbrev pub form_in : ℕ → ℕ
form_in first = if first % 32 == 31 then (if nat_lt first 0xe0 then 1 else 0) else 0
