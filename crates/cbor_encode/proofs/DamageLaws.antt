-- Texts that are not UTF-8.
use Rattle.std.proofs.Common.{◌≡◌, ◌≤◌, ℕ, ◌+◌, ◌-◌, ◌∙◌, List, [], ◌∷◌, length, take, drop, refl, ap, arith}
use Rattle.std.proofs.Common.{append-nil, length-append, sym}
use Rattle.ciborium_ll_text.specs.Text.{IsCharacters, IsFront}
use Rattle.ciborium_ll_text.proofs.TextLaws.{one_front}
use Rattle.cbor_encode.specs.declared.Expected.TheVariants as x
use Rattle.cbor_encode.specs.declared.cursor.Stop.{Stop}
use Rattle.cbor_encode.specs.Places.{IsFaultIn, NamesDamage, column_after, line_after}

-- The lengths of a front and of the rest.
parted : (text front rest : List ℕ) → IsFront text front rest → length text ≡ length front + length rest
parted text front rest is = ap (length {A = ℕ}) is.parts ∙ length-append front rest

-- The stop after the longest front names the damage.
pub damage_named : (text front : List ℕ) (len : ℕ) → IsFront text front (drop (length front) text)
    → len ≡ length front → NamesDamage text (record { expected = x.Text; left = length text - len })
damage_named text front len is same = λ other rest parts some.
    let one = one_front text other rest front (drop (length front) text) parts is in
    (refl, omega (arith, same, parted text other rest parts, ap (length {A = ℕ}) one.0))

empty_list : (rest : List ℕ) → length rest ≡ 0 → rest ≡ []
empty_list [] none = refl
empty_list (byte ∷ rest) none = absurd (omega (arith, none))

-- A text that is UTF-8 has no damage.
pub none_damaged : (text : List ℕ) (stop : Stop) → IsCharacters text → NamesDamage text stop
none_damaged text stop is = λ front rest parts some.
    let all = parts.longest text [] (sym (append-nil text)) is in
    let none : length rest ≡ 0 = omega (arith, all, parted text front rest parts) in
    absurd (some (empty_list rest none))

-- A stop in a text is an error at a place.
pub fault_at : (text : List ℕ) (stop : Stop) (place line column : ℕ) → stop.left ≤ length text
    → NamesDamage text stop → place ≡ length text - stop.left → line ≡ line_after 1 (take place text)
    → column ≡ column_after 1 (take place text)
    → IsFaultIn text (record { expected = stop.expected; place = place; line = line; column = column })
fault_at text stop place line column within names place_is line_is column_is = record {
  within = omega (arith, place_is);
  damage = λ front rest parts some.
      let named = names front rest parts some in
      (named.0, omega (arith, place_is, named.1, parted text front rest parts));
  line = line_is;
  column = column_is;
}
