-- The items that byte strings of a dump contain (RFC 8949, 3.4.5.1).
use Rattle.std.specs.Prelude.{◌==◌, ℕ, ◌+◌, Bool, true, false, ◌&&◌, List, [], ◌∷◌, ◌++◌, length}
use Rattle.std.specs.Prelude.{nat_le, nat_lt, Option}
use Rattle.cbor_embedded.specs.declared.Embedded.{Embedded}
use Rattle.cbor_embedded.specs.declared.Embedded.TheVariants as b
use Rattle.ciborium_ll.specs.Types.Header.TheVariants as h
use Rattle.cbor_dump.specs.declared.rows.Meaning.{Meaning}
use Rattle.cbor_dump.specs.declared.rows.Meaning.TheVariants as m
use Rattle.cbor_dump.specs.declared.rows.Within.TheVariants as w
use Rattle.cbor_dump.specs.Dumps.{Draws}
use Rattle.cbor_dump.specs.Levels.{Line}

-- A byte string is asked for as an item, by whether it stands right under tag 24. With `--embedded` each is. With
-- `--embedded=tagged` the string `41 00` is after `d8 18`, and not after `81`.
abbrev pub is_asked : Embedded → Bool → Bool
is_asked b.Nowhere tagged = false
is_asked b.Tagged tagged = tagged
is_asked b.Everywhere tagged = true

-- How the next title stands: whether it is right under tag 24, within how many strings of indefinite length, and within
-- how many levels. After `81 d8 18` it is right under the tag, and within two levels.
pub record Standing : Type 0 where
  pub tagged : Bool
  pub opens : ℕ
  pub level : ℕ

-- The body of a byte string is held until it is whole. The string is asked for, it is no part of a string of indefinite
-- length, a level is left for the item, and the memory has room for the body. With one level it is so for `41 00`, and
-- not for the same string in `81 41 00`.
abbrev pub is_held : Embedded → Standing → (depth strings room len : ℕ) → Bool
is_held embedded place depth strings room len =
    is_asked embedded place.tagged
    && (place.opens == 0 && (nat_lt place.level depth && (nat_le len room && nat_lt 0 strings)))

-- The meaning is that of a title of tag 24. The meaning of `d8 18` is, and that of `c1` is not.
abbrev pub is_item_tag : Meaning → Bool
is_item_tag (m.Header (h.Tag number)) = number == 24
is_item_tag meaning = false

-- Lines of the bytes of a body from this offset on. Each has the level. The bytes of the lines are those of the body, and
-- the offsets go on. At the level 1 and the offset 2 the bytes `00 01` are such a line.
pub data AreBodyLines (level : ℕ) : ℕ → List ℕ → List Line → Type 0 where
  none : {offset : ℕ} → AreBodyLines level offset [] []
  more : {offset : ℕ} {front : List ℕ} {lines : List Line} (bytes : List ℕ) → AreBodyLines level offset front lines
      → AreBodyLines level offset (front ++ bytes) (lines ++ (record {
        level = level;
        offset = offset + length front;
        bytes = bytes;
        meaning = m.Bytes;
        within = w.Nothing;
      } ∷ []))

-- The bytes of a body were handed on in lines of this level, from the offset on. None of `00 01` is lost.
pub record HandsOn (level offset : ℕ) (old new : Option (List Line)) (bytes : List ℕ) : Type 0 where
  pub lines : List Line
  pub drawn : Draws old new lines
  pub are : AreBodyLines level offset bytes lines
