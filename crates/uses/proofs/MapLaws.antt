-- Laws of a map that is written pair by pair.
use Rattle.std.proofs.Common.{◌≡◌, ℕ, List, [], ◌∷◌, length, Option, Some, None, Result, Ok, IsErr, refl, sym, subst}
use Rattle.std.proofs.Common.{arith}
use Rattle.std.proofs.KnownBytes.{Appends-nil}
use Rattle.ciborium_ll.specs.Types.Write.{Ghosts}
use Rattle.ciborium_ll.specs.Types.Header.TheVariants as h
use Rattle.ciborium_ll.specs.Title.{shortest_title}
use Rattle.ciborium_ll.specs.Transfer.{Shrinks}
use Rattle.ciborium_ll.specs.Encoding.{WritesAll, WritesBytes, WritesFront}
use Rattle.ciborium_ll.proofs.EncodingLaws.{WritesBytes-stopped, WritesBytes-then}
pub use Rattle.ciborium_ll.proofs.EncodingLaws.{bytes_bytes, text_bytes}
use Rattle.uses.specs.declared.maps.Entry.{Entry}
use Rattle.uses.specs.Maps.{entry_bytes, entries_bytes, map_bytes}

Shrinks-nothing : (room : Option ℕ) → Shrinks room room 0
Shrinks-nothing None = tt
Shrinks-nothing (Some n) = omega arith

module _ {W F : Type 0} (sink : Ghosts W F) where
  -- The title and the first pairs were written. A write of the other pairs then makes a write of the map.
  pub record Midway (entries rest : List Entry) (old now : W) : Type 0 where
    pub goes_on : (result : Result (Unit {0}) F) (new : W) → WritesBytes sink now result (entries_bytes rest) new
        → WritesBytes sink old result (map_bytes entries) new

  pub midway_first : (entries : List Entry) (old now : W)
      → WritesAll sink old (shortest_title (h.Map (Some (length entries)))) now → Midway entries entries old now
  midway_first entries old now wrote = record {
    goes_on = λ result new w.
        WritesBytes-then sink old now new result (shortest_title (h.Map (Some (length entries))))
        (entries_bytes entries)
        wrote w;
  }

  -- The next pair was written, and the other pairs are left.
  pub midway_more : (entries rest behind : List Entry) (entry : Entry) (old now new : W) → rest ≡ entry ∷ behind
      → Midway entries rest old now → WritesAll sink now (entry_bytes entry) new → Midway entries behind old new
  midway_more entries rest behind entry old now new split m wrote = record {
    goes_on = λ result last w.
        m.goes_on result last
        (subst (λ (z : List Entry). WritesBytes sink now result (entries_bytes z) last) (sym split)
        (WritesBytes-then sink now new last result (entry_bytes entry) (entries_bytes behind) wrote w));
  }

  -- If the write of the next pair fails, the write of the map fails.
  pub midway_stops : (entries rest behind : List Entry) (entry : Entry) (old now new : W)
      (result : Result (Unit {0}) F) → IsErr result → rest ≡ entry ∷ behind → Midway entries rest old now
      → WritesFront sink now (entry_bytes entry) new → WritesBytes sink old result (map_bytes entries) new
  midway_stops entries rest behind entry old now new result fails split m wrote =
      m.goes_on result new
      (subst (λ (z : List Entry). WritesBytes sink now result (entries_bytes z) new) (sym split)
      (WritesBytes-stopped sink now new result (entry_bytes entry) (entries_bytes behind) fails wrote))

  -- If no pair is left, the map was written.
  pub midway_last : (entries rest : List Entry) (old now : W) → rest ≡ [] → Midway entries rest old now
      → WritesAll sink old (map_bytes entries) now
  midway_last entries rest old now none m =
      let nothing : WritesAll sink now [] now = record {
        appended = Appends-nil (sink.written now);
        room = Shrinks-nothing (sink.room now);
        failures = refl;
      } in
      m.goes_on (Ok (tt {0})) now (subst (λ (z : List Entry). WritesAll sink now (entries_bytes z) now) (sym none)
      nothing)
