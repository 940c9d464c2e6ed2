-- The end of the last character of some bytes is the end of the longest front that is text. Inside a further character
-- it is at most three bytes back.
use Rattle.std.proofs.Common.{◌≡◌, ℕ, zero, suc, ◌+◌, ◌-◌, ◌<◌, ◌≤◌, List, length, take, drop, get_or, refl, sym}
use Rattle.std.proofs.Common.{ap, ◌∙◌, arith}
use Rattle.std.proofs.lemmas.Bool.Decides.{nat_tests}
use Rattle.std.proofs.lemmas.List.{take_all, take-take, take-append-drop, length-take-le}
use Rattle.ciborium_ll_text.specs.declared.state.State.{State}
use Rattle.ciborium_ll_text.specs.declared.state.State.TheVariants as s
use Rattle.ciborium_ll_text.specs.States.{is_from, after_first, after_next, after_byte, after, IsLastEnd, tail_due}
use Rattle.ciborium_ll_text.specs.Text.{IsStuck, IsFront}
use Rattle.ciborium_ll_text.proofs.TextLaws.{front_at}
use Rattle.ciborium_ll_text.proofs.StateLaws.{after-run, after-rest}
use Rattle.ciborium_ll_text.proofs.StateLaws.{text_ends, text_from}

-- ---- the end of the last character

-- The bytes up to the last end are the longest front.
pub front_at_end : (x : List ℕ) (n : ℕ) → IsLastEnd x n → IsFront x (take n x) (drop n x)
front_at_end x n l =
    front_at x n l.within (text_from (take n x) l.ends) (λ m k r u. l.last m k r (text_ends (take m x) u))

-- The byte after which `left` bytes are due begins a character or continues one.
pub data Back (state : State) (b : ℕ) (left : ℕ) : Type 0 where
  begins : 0xc0 ≤ b → state ≡ s.Between → Back state b left
  goes_on : b < 0xc0 → tail_due state ≡ left + 1 → Back state b left

-- Each byte after which bytes are due begins a character or continues one.
pub back : (state : State) (b : ℕ) → 0 < tail_due (after_byte state b) → Back state b (tail_due (after_byte state b))
unfolding is_from after_first after_next
back state b d = grind (arith, nat_tests, begins, goes_on)

-- Bytes are due in each state but `Between` and `Damaged`.
inside_due : (state : State) → (state ≡ s.Between → ⊥) → (state ≡ s.Damaged → ⊥) → 0 < tail_due state
inside_due state n d = grind arith

-- At most three bytes are due.
due-le : (state : State) → tail_due state ≤ 3
due-le state = grind arith

module _ (x : List ℕ) where
  -- The number of bytes that are due after the first `i` bytes.
  abbrev due : ℕ → ℕ
  due i = tail_due (after s.Between (take i x))

  -- Bytes are due only after at least one byte.
  some_at : (i : ℕ) → 0 < due i → 0 < i
  some_at zero d = absurd (omega arith)
  some_at (suc i) d = omega arith

  -- The last byte before a place at which bytes are due begins a character or continues one.
  last_byte : (i j : ℕ) → i ≡ j + 1 → i ≤ length x → 0 < due i
      → Back (after s.Between (take j x)) (get_or x j 0) (due i)
  last_byte i j e l d =
      let same = ap (λ (z : ℕ). after s.Between (take z x)) e ∙ after-run s.Between x j (omega arith) in
      rw same (back (after s.Between (take j x)) (get_or x j 0) (rw same at d))

  -- If the last byte is at least c0, the state before it is between two characters. Otherwise one byte more is due
  -- before it.
  begins_at : (i j : ℕ) → i ≡ j + 1 → i ≤ length x → 0 < due i → 0xc0 ≤ get_or x j 0
      → after s.Between (take j x) ≡ s.Between
  begins_at i j e l d h = let b = last_byte i j e l d in grind arith

  later_at : (i j : ℕ) → i ≡ j + 1 → i ≤ length x → 0 < due i → get_or x j 0 < 0xc0 → due j ≡ due i + 1
  later_at i j e l d h = let b = last_byte i j e l d in grind arith

  -- A place between two characters is the last end if bytes are due at each later place.
  ends_at : (n : ℕ) → n ≤ length x → after s.Between (take n x) ≡ s.Between
      → ((m : ℕ) → n < m → m ≤ length x → 0 < due m) → IsLastEnd x n
  ends_at n l e d = record { within = l; ends = e; last = λ m k r f. omega (arith, d m k r, ap tail_due f) }

-- The last end before a cut character, which begins with the last byte, the one before, or the one before that.
pub record CutCharacter (x : List ℕ) : Type 0 where
  pub some : 0 < length x
  pub one : 0xc0 ≤ get_or x (length x - 1) 0 → IsLastEnd x (length x - 1)
  pub more : get_or x (length x - 1) 0 < 0xc0 → 1 < length x
  pub two : get_or x (length x - 1) 0 < 0xc0 → 0xc0 ≤ get_or x (length x - 2) 0 → IsLastEnd x (length x - 2)
  pub most : get_or x (length x - 1) 0 < 0xc0 → get_or x (length x - 2) 0 < 0xc0 → 2 < length x
  pub three : get_or x (length x - 1) 0 < 0xc0 → get_or x (length x - 2) 0 < 0xc0 → IsLastEnd x (length x - 3)

-- Bytes that end inside a character end with a cut character.
pub cut_character : (x : List ℕ) (state : State) → state ≡ after s.Between x
    → (state ≡ s.Between → ⊥) × (state ≡ s.Damaged → ⊥) → CutCharacter x
cut_character x state told inside =
    let n = length x in
    let d = rw told at (inside_due state inside.0 inside.1) in
    let d1 : 0 < due x n = rw (take_all n x (omega arith)) d in
    let some = some_at x n d1 in
    let second : get_or x (n - 1) 0 < 0xc0 → due x (n - 1) ≡ due x n + 1 =
    later_at x n (n - 1) (omega arith) (omega arith) d1 in
    let more : get_or x (n - 1) 0 < 0xc0 → 1 < n = λ h.
    omega (arith, second h, some_at x (n - 1) (omega (arith, second h))) in
    let third : get_or x (n - 1) 0 < 0xc0 → get_or x (n - 2) 0 < 0xc0 → due x (n - 2) ≡ due x n + 2 = λ h k.
    omega (
      arith,
      second h,
      later_at x (n - 1) (n - 2) (omega (arith, more h)) (omega arith) (omega (arith, second h)) k,
    ) in
    let most : get_or x (n - 1) 0 < 0xc0 → get_or x (n - 2) 0 < 0xc0 → 2 < n = λ h k.
    omega (arith, third h k, some_at x (n - 2) (omega (arith, third h k))) in
    record {
      some = some;
      one = λ h. ends_at x (n - 1) (omega arith) (begins_at x n (n - 1) (omega arith) (omega arith) d1 h)
          (λ m a b. grind arith);
      more = more;
      two = λ h k. let q = second h in
          ends_at x (n - 2) (omega arith)
          (begins_at x (n - 1) (n - 2) (omega (arith, more h)) (omega arith) (omega (arith, q)) k)
          (λ m a b. grind arith);
      most = most;
      three = λ h k. let q = second h in
          let r = third h k in
          let l = most h k in
          let least = due-le (after s.Between (take (n - 3) x)) in
          let later = later_at x (n - 2) (n - 3) (omega arith) (omega arith) (omega (arith, r)) in
          let first : 0xc0 ≤ get_or x (n - 3) 0 = grind arith in
          ends_at x (n - 3) (omega arith)
          (begins_at x (n - 2) (n - 3) (omega arith) (omega arith) (omega (arith, r)) first)
          (λ m a b. grind arith);
    }

-- If a character ends with the next byte, the last end moves there.
pub end_moves : (x : List ℕ) (i : ℕ) → i < length x → after s.Between (take (i + 1) x) ≡ s.Between
    → IsLastEnd (take (i + 1) x) (i + 1)
end_moves x i l e = grind (arith, length-take-le, take-take)

-- If no character ends with the next byte, the last end stays.
pub end_stays : (x : List ℕ) (i e : ℕ) → i < length x → IsLastEnd (take i x) e
    → (after s.Between (take (i + 1) x) ≡ s.Between → ⊥) → IsLastEnd (take (i + 1) x) e
end_stays x i e l last inner = grind (arith, length-take-le, take-take)

-- The last end of a text is its length.
pub end_of_text : (x : List ℕ) → after s.Between x ≡ s.Between → IsLastEnd x (length x)
end_of_text x e = grind (arith, take_all)

-- The bytes up to the last end are the longest front, and the bytes after it are the rest.
pub front_of_end : (x : List ℕ) (n : ℕ) → IsLastEnd x n → IsFront x (take n x) (drop (length (take n x)) x)
front_of_end x n l = rw (length-take-le n x l.within) (front_at_end x n l)

-- The bytes after the last end lead to the same state as all bytes.
pub state_of_end : (x : List ℕ) (n : ℕ) → IsLastEnd x n
    → after s.Between x ≡ after s.Between (drop (length (take n x)) x)
state_of_end x n l = rw (length-take-le n x l.within) (after-rest x n l.ends)

-- In bytes that are stuck, no character ends.
pub stuck_end : (x : List ℕ) → IsStuck x → IsLastEnd x 0
stuck_end x stuck = record {
  within = omega arith;
  ends = refl;
  last = λ m a b e. omega (
    arith,
    length-take-le m x b,
    ap length (stuck (take m x) (drop m x) (sym (take-append-drop m x)) (text_from (take m x) e)),
  );
}
