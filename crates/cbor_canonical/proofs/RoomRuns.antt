-- How much memory a rewriting takes.
use Rattle.std.proofs.Common.{◌≡◌, ℕ, ◌+◌, ◌-◌, ◌*◌, ◌<◌, ◌≤◌, inl, inr, Bool, true, false, nat_lt}
use Rattle.std.proofs.Common.{List, length, refl, arith}
use Rattle.std.proofs.lemmas.Bool.Decides.{nat_tests}
use Rattle.ciborium_ll_grammar.specs.declared.hdr.Header.{Header}
use Rattle.ciborium_ll_grammar.specs.Title.{Major, IsTitle, shortest_numbered, title_len}
use Rattle.ciborium_ll_grammar.proofs.TitleLaws.{shortest_no_longer}
use Rattle.ciborium_ll_grammar.proofs.AloneLaws.{title_some}
use Rattle.cbor_canonical.specs.declared.Stop.{Stop}
use Rattle.cbor_canonical.specs.declared.Stop.TheVariants as st
use Rattle.cbor_canonical.specs.Room.{room_of, places_of, IsTooSmall, Grows, LacksRoom}

-- ---- numbers

-- A title of a length has at most a byte more than two for 256 of that length.
pub title_grows : (m : Major) (n : ℕ) → 256 * length (shortest_numbered m n) ≤ 512 + n
title_grows m n = grind (arith, nat_tests)

-- Room that is enough for a number of bytes is enough for fewer.
fewer_places : (n m places : ℕ) → m ≤ n → places_of n ≤ places → places_of m ≤ places
fewer_places n m places l p = omega (arith, l, p)

-- What was written fits room that is enough for what was read.
pub grown_fits : (k n m at end room : ℕ) → Grows k n m at end → at + room_of n ≤ room → end ≤ room
grown_fits k n m at end room g l = omega (arith, g.wrote, g.read, l)

-- After a part was read and written, room that is enough for all is enough for the rest.
rest_fits : (k n m at end room : ℕ) → Grows k n m at end → at + room_of n ≤ room → end + room_of m ≤ room
rest_fits k n m at end room g l = omega (arith, g.wrote, g.read, l)

-- ---- items one after the other

pub grows_none : (n at : ℕ) → Grows 0 n n at at
grows_none n at = record { read = omega arith; wrote = omega arith }

pub grows_more : (k j n m p at mid end : ℕ) → Grows k n m at mid → Grows j m p mid end → Grows (k + j) n p at end
grows_more k j n m p at mid end f g = record {
  read = omega (arith, f.read, g.read);
  wrote = omega (arith, f.wrote, g.wrote);
}

pub grows_pair : (done n m p at mid end : ℕ) → Grows (2 * done) n m at mid → Grows 2 m p mid end
    → Grows (2 * (done + 1)) n p at end
grows_pair done n m p at mid end f g = record {
  read = omega (arith, f.read, g.read);
  wrote = omega (arith, f.wrote, g.wrote);
}

-- Room that ends within the bytes that are read is too small.
pub lacks_bytes : (n at room all places k : ℕ) (stop : Stop) → room < at + k → k ≤ n
    → LacksRoom n at room all places stop
lacks_bytes n at room all places k stop l m e r p = omega (arith, l, m, r)

-- ---- titles

module _ (t : List ℕ) (x : Header) (p : IsTitle t x) where
  -- A title and what follows it.
  pub grows_titled : (k n m left at start end : ℕ) → m ≤ left → start ≡ at + title_len x → Grows k n left start end
      → Grows 1 (length t + n) m at end
  grows_titled k n m left at start end l e g =
      let least = shortest_no_longer t x p in
      let some = title_some t x p in
      record { read = omega (arith, some, l, g.read); wrote = omega (arith, least, some, l, e, g.wrote) }

  pub lacks_titled : (n at start room held places : ℕ) (stop : Stop) → start ≡ at + title_len x → held ≤ 1 + n
      → LacksRoom n start room held places stop → LacksRoom (length t + n) at room (length t + n) places stop
  lacks_titled n at start room held places stop e l f is r q =
      let least = shortest_no_longer t x p in
      let some = title_some t x p in
      f is (omega (arith, least, e, r)) (fewer_places (length t + n) held places (omega (arith, l, some)) q)

  -- A title that has no room.
  pub lacks_title : (n at room all places : ℕ) (stop : Stop) → room < at + title_len x
      → LacksRoom (length t + n) at room all places stop
  lacks_title n at room all places stop l =
      lacks_bytes (length t + n) at room all places (title_len x) stop l (omega (arith, shortest_no_longer t x p))

  -- A shorter title alone, as of a float in a smaller width.
  pub grows_alone : (n at end k : ℕ) → k ≤ title_len x → end ≡ at + k → Grows 1 (length t + n) n at end
  grows_alone n at end k l e =
      let least = shortest_no_longer t x p in
      let some = title_some t x p in
      record { read = omega (arith, some); wrote = omega (arith, least, some, l, e) }

  pub lacks_alone : (n at room all places k : ℕ) (stop : Stop) → k ≤ title_len x → room < at + k
      → LacksRoom (length t + n) at room all places stop
  lacks_alone n at room all places k stop l m =
      lacks_title n at room all places stop (omega (arith, l, m))

  -- ---- a nest without a count

  -- The title of a number is put before the contents, and a break follows them.
  pub grows_opened : (k n m at end after long count : ℕ) → 256 * long ≤ 512 + count → count ≤ k
      → Grows k n (m + 1) at end → after ≡ end + long → Grows 1 (length t + n) m at after
  grows_opened k n m at end after long count l c g e =
      let some = title_some t x p in
      record { read = omega (arith, some, g.read); wrote = omega (arith, some, l, c, e, g.wrote) }

  pub lacks_opened : (k n m at end long count room all places : ℕ) (stop : Stop) → 256 * long ≤ 512 + count → count ≤ k
      → Grows k n (m + 1) at end → room < end + long → LacksRoom (length t + n) at room all places stop
  lacks_opened k n m at end long count room all places stop l c g f is r q =
      let whole = grown_fits 1 (length t + n) m at (end + long) room
      (grows_opened k n m at end (end + long) long count l c g refl) r in
      omega (arith, f, whole)

  -- ---- strings

  -- A string of the length in its title.
  pub grows_told : (n m at end body : ℕ) → n ≡ body + m → end ≡ at + (title_len x + body)
      → Grows 1 (length t + n) m at end
  grows_told n m at end body b e =
      let least = shortest_no_longer t x p in
      let some = title_some t x p in
      record { read = omega (arith, some, b); wrote = omega (arith, least, some, b, e) }

  -- A string without a length, whose bodies stand from one offset to another.
  pub grows_gathered : (n m at end after long : ℕ) → 256 * long ≤ 512 + (end - at) → at ≤ end → end + m < at + n
      → after ≡ end + long → Grows 1 (length t + n) m at after
  grows_gathered n m at end after long l f g e =
      let some = title_some t x p in
      record { read = omega (arith, some, f, g); wrote = omega (arith, some, l, f, g, e) }

  pub lacks_gathered : (n m at end long room all places : ℕ) (stop : Stop) → 256 * long ≤ 512 + (end - at) → at ≤ end
      → end + m < at + n → room < end + long → LacksRoom (length t + n) at room all places stop
  lacks_gathered n m at end long room all places stop l f g h is r q =
      let whole = grown_fits 1 (length t + n) m at (end + long) room
      (grows_gathered n m at end (end + long) long l f g refl) r in
      omega (arith, h, whole)

-- ---- pairs

-- Places that are too few for the bytes of the pairs are too few for the map.
pub lacks_order : (k n m at end room places : ℕ) (stop : Stop) → Grows k n m at end → 2 * places < end - at
    → LacksRoom n at room (1 + n) places stop
lacks_order k n m at end room places stop g l is r q = omega (arith, g.wrote, g.read, l, q)

-- ---- the answer

-- The memory is too small for an item if the call stops for that.
pub too_small : (n room places : ℕ) (stop : Stop) → stop ≡ st.Room → LacksRoom n 0 room n places stop
    → IsTooSmall n room places
too_small n room places stop e f = go (nat_lt room (room_of n)) refl (nat_lt places (places_of n)) refl
  where
    go : (a : Bool) → nat_lt room (room_of n) ≡ a → (b : Bool) → nat_lt places (places_of n) ≡ b
        → IsTooSmall n room places
    go true i b j = inl (grind (arith, nat_tests))
    go false i true j = inr (grind (arith, nat_tests))
    go false i false j =
        let k : room_of n ≤ room = grind (arith, nat_tests) in
        let l : places_of n ≤ places = grind (arith, nat_tests) in
        absurd (f e (omega (arith, k)) l)
