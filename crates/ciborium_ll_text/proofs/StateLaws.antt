-- Bytes are text exactly if the state after them is between two characters.
use Rattle.std.proofs.Common.{◌≡◌, ℕ, zero, suc, ◌+◌, ◌-◌, ◌<◌, ◌≤◌, ◌⊎◌, List, [], ◌∷◌, ◌++◌, length, take, drop}
use Rattle.std.proofs.Common.{get_or, refl, sym, ap, ◌∙◌, arith, length-append}
use Rattle.std.proofs.lemmas.Bool.Decides.{nat_tests}
use Rattle.std.proofs.lemmas.List.{take_more, take-append-drop, take_rest}
use Rattle.std.proofs.lemmas.Str.{IsUtf8-from_ascii}
use Rattle.std.specs.Str.{IsAscii}
use Rattle.std.specs.List.{AllByRecursion}
use Rattle.ciborium_ll_text.specs.declared.state.State.{State}
use Rattle.ciborium_ll_text.specs.declared.state.State.TheVariants as s
use Rattle.ciborium_ll_text.specs.States.{is_from, after_first, after_next, after_byte, after}
use Rattle.ciborium_ll_text.specs.Text.{IsFrom, IsCharacter, row1, row2, row3, row4, row5, row6, row7, row8}
use Rattle.ciborium_ll_text.specs.Text.{row9, joined, IsCharacters}
use Rattle.ciborium_ll_text.proofs.Utf8Laws.{from_std}
use Rattle.ciborium_ll_text.proofs.TextLaws.{IsCharacters-append, IsCharacters-nil, character_is_text}

-- ---- one byte

-- A first byte and the state after it, by the rows of the table. A byte of no row damages the text.
pub data First : ℕ → State → Type 0 where
  ascii : {a : ℕ} → IsFrom 0x00 0x7f a → First a s.Between
  two : {a : ℕ} → IsFrom 0xc2 0xdf a → First a s.OneDue
  e0 : {a : ℕ} → IsFrom 0xe0 0xe0 a → First a s.BehindE0
  three_low : {a : ℕ} → IsFrom 0xe1 0xec a → First a s.TwoDue
  ed : {a : ℕ} → IsFrom 0xed 0xed a → First a s.BehindEd
  three_high : {a : ℕ} → IsFrom 0xee 0xef a → First a s.TwoDue
  f0 : {a : ℕ} → IsFrom 0xf0 0xf0 a → First a s.BehindF0
  four : {a : ℕ} → IsFrom 0xf1 0xf3 a → First a s.ThreeDue
  f4 : {a : ℕ} → IsFrom 0xf4 0xf4 a → First a s.BehindF4
  none : {a : ℕ} → (a < 0xc2) ⊎ (0xf4 < a) → First a s.Damaged

-- Each byte is the first byte of a row, or of none.
pub first_view : (a : ℕ) → First a (after_first a)
unfolding is_from after_first
first_view a = grind (arith, nat_tests, ascii, two, e0, three_low, ed, three_high, f0, four, f4, none)

-- A later byte and the state after it: the byte is within its range, or it damages the text.
pub data Next (lowest highest : ℕ) (state : State) (b : ℕ) : State → Type 0 where
  inside : IsFrom lowest highest b → Next lowest highest state b state
  outside : Next lowest highest state b s.Damaged

-- Each later byte is within its range or outside it.
pub next_view : (lowest highest : ℕ) (state : State) (b : ℕ)
    → Next lowest highest state b (after_next lowest highest state b)
unfolding is_from after_next
next_view lowest highest state b = grind (arith, nat_tests, inside, outside)

-- ---- lists

-- The second list leads on from the state after the first list.
pub after-append : (state : State) (x y : List ℕ) → after state (x ++ y) ≡ after (after state x) y
after-append state [] y = refl
after-append state (b ∷ x) y = after-append (after_byte state b) x y

-- A damaged text stays damaged.
pub after-damaged : (x : List ℕ) → after s.Damaged x ≡ s.Damaged
after-damaged [] = refl
after-damaged (b ∷ x) = after-damaged x

-- The byte at index `i` leads from the state after `i` bytes to the state after `i + 1` bytes.
pub after-run : (state : State) (x : List ℕ) (i : ℕ) → i < length x
    → after state (take (i + 1) x) ≡ after_byte (after state (take i x)) (get_or x i 0)
after-run state x i l = ap (after state) (take_more x i 0 l) ∙ after-append state (take i x) (get_or x i 0 ∷ [])

-- The new bytes lead from the state after the kept bytes to the state after all bytes.
pub after-whole : (x : List ℕ) (k : ℕ) (state : State) → state ≡ after s.Between (take k x)
    → after state (drop k x) ≡ after s.Between x
after-whole x k state e =
    ap (λ (z : State). after z (drop k x)) e
    ∙ (sym (after-append s.Between (take k x) (drop k x)) ∙ ap (after s.Between) (take-append-drop k x))

-- The bytes after a text lead to the same state as all bytes.
pub after-rest : (x : List ℕ) (n : ℕ) → after s.Between (take n x) ≡ s.Between
    → after s.Between x ≡ after s.Between (drop n x)
after-rest x n e = sym (after-whole x n s.Between (sym e))

-- One step of a loop gives the state after one more byte.
pub run_on : (state so_far next : State) (x : List ℕ) (i : ℕ) → next ≡ after_byte so_far (get_or x i 0)
    → so_far ≡ after state (take i x) → i < length x
    → next ≡ after state (take (i + 1) x)
run_on state so_far next x i e f l = grind (arith, nat_tests, after-run)

-- The state after the new bytes is the state after all bytes.
pub told_whole : (x : List ℕ) (k : ℕ) (state behind : State)
    → behind ≡ after state (take (length x - k) (drop k x)) → state ≡ after s.Between (take k x)
    → behind ≡ after s.Between x
told_whole x k state behind e f = e ∙ (ap (after state) (take_rest x k) ∙ after-whole x k state f)

-- ---- a text ends between two characters

-- A character leads from `Between` to `Between`.
character_ends : (x : List ℕ) → IsCharacter x → after s.Between x ≡ s.Between
unfolding is_from after_first after_next
character_ends x (row1 {a} p) = grind (arith, nat_tests)
character_ends x (row2 {a} {b} p q) = grind (arith, nat_tests)
character_ends x (row3 {a} {b} {c} p q r) = grind (arith, nat_tests)
character_ends x (row4 {a} {b} {c} p q r) = grind (arith, nat_tests)
character_ends x (row5 {a} {b} {c} p q r) = grind (arith, nat_tests)
character_ends x (row6 {a} {b} {c} p q r) = grind (arith, nat_tests)
character_ends x (row7 {a} {b} {c} {d} p q r t) = grind (arith, nat_tests)
character_ends x (row8 {a} {b} {c} {d} p q r t) = grind (arith, nat_tests)
character_ends x (row9 {a} {b} {c} {d} p q r t) = grind (arith, nat_tests)

-- Joined characters lead from `Between` to `Between`.
characters_end : (cs : List (List ℕ)) → AllByRecursion IsCharacter cs → after s.Between (joined cs) ≡ s.Between
characters_end [] each = refl
characters_end (c ∷ cs) each =
    after-append s.Between c (joined cs)
    ∙ (ap (λ (z : State). after z (joined cs)) (character_ends c each.0) ∙ characters_end cs each.1)

-- A text leads from `Between` to `Between`.
pub text_ends : (t : List ℕ) → IsCharacters t → after s.Between t ≡ s.Between
text_ends t u = ap (after s.Between) u.whole ∙ characters_end u.characters u.each

-- ---- bytes that end between two characters are a text

-- The ranges of the bytes that are due in a state. No byte is in the range of a damaged text.
abbrev ranges : State → List (ℕ × ℕ)
ranges s.Between = []
ranges s.OneDue = (0x80, 0xbf) ∷ []
ranges s.TwoDue = (0x80, 0xbf) ∷ (0x80, 0xbf) ∷ []
ranges s.ThreeDue = (0x80, 0xbf) ∷ (0x80, 0xbf) ∷ (0x80, 0xbf) ∷ []
ranges s.BehindE0 = (0xa0, 0xbf) ∷ (0x80, 0xbf) ∷ []
ranges s.BehindEd = (0x80, 0x9f) ∷ (0x80, 0xbf) ∷ []
ranges s.BehindF0 = (0x90, 0xbf) ∷ (0x80, 0xbf) ∷ (0x80, 0xbf) ∷ []
ranges s.BehindF4 = (0x80, 0x8f) ∷ (0x80, 0xbf) ∷ (0x80, 0xbf) ∷ []
ranges s.Damaged = (1, 0) ∷ []

-- Each byte is in its range.
data AreWithin : List (ℕ × ℕ) → List ℕ → Type 0 where
  nil : AreWithin [] []
  cons : {range : ℕ × ℕ} {others : List (ℕ × ℕ)} {b : ℕ} {x : List ℕ} → IsFrom range.0 range.1 b
      → AreWithin others x → AreWithin (range ∷ others) (b ∷ x)

-- The bytes are those that are due, and then bytes that end between two characters.
record Comes (due : List (ℕ × ℕ)) (x : List ℕ) : Type 0 where
  tail : List ℕ
  rest : List ℕ
  is : x ≡ tail ++ rest
  within : AreWithin due tail
  ends : after s.Between rest ≡ s.Between

-- A damaged text never ends between two characters.
no_end : {A : Type 0} → (x : List ℕ) → after s.Damaged x ≡ s.Between → A
no_end x e = let d = after-damaged x in absurd (cc (d, e))

-- From a state inside a character, a byte of the first range comes, and then bytes of the other ranges.
comes_first : {lowest highest : ℕ} {others : List (ℕ × ℕ)} {to : State} (state : State) (x : List ℕ)
    → (state ≡ s.Between → ⊥) → ((b : ℕ) → after_byte state b ≡ after_next lowest highest to b)
    → ((y : List ℕ) → after to y ≡ s.Between → Comes others y) → after state x ≡ s.Between
    → Comes ((lowest, highest) ∷ others) x
comes_first state [] inner step more e = absurd (inner e)
comes_first {lowest} {highest} {others} {to} state (b ∷ x) inner step more e =
    go (after_next lowest highest to b) (next_view lowest highest to b) (rw step at e)
  where
    go : (next : State) → Next lowest highest to b next → after next x ≡ s.Between
        → Comes ((lowest, highest) ∷ others) (b ∷ x)
    go next (inside p) e =
        let m = more x e in
        record { tail = b ∷ m.tail; rest = m.rest; is = cc m.is; within = cons p m.within; ends = m.ends }
    go next outside e = no_end x e

-- If bytes end between two characters, they begin with the bytes that are due: none, one or two.
comes_none : (x : List ℕ) → after s.Between x ≡ s.Between → Comes (ranges s.Between) x
comes_none x e = record { tail = []; rest = x; is = refl; within = nil; ends = e }

comes_one : (x : List ℕ) → after s.OneDue x ≡ s.Between → Comes (ranges s.OneDue) x
comes_one x e = comes_first s.OneDue x (λ e. cc) (λ b. refl) comes_none e

comes_two : (x : List ℕ) → after s.TwoDue x ≡ s.Between → Comes (ranges s.TwoDue) x
comes_two x e = comes_first s.TwoDue x (λ e. cc) (λ b. refl) comes_one e

-- From each state, bytes that end between two characters begin with the bytes that are due.
comes : (state : State) (x : List ℕ) → after state x ≡ s.Between → Comes (ranges state) x
comes s.Between x e = comes_none x e
comes s.OneDue x e = comes_one x e
comes s.TwoDue x e = comes_two x e
comes s.ThreeDue x e = comes_first s.ThreeDue x (λ e. cc) (λ b. refl) comes_two e
comes s.BehindE0 x e = comes_first s.BehindE0 x (λ e. cc) (λ b. refl) comes_one e
comes s.BehindEd x e = comes_first s.BehindEd x (λ e. cc) (λ b. refl) comes_one e
comes s.BehindF0 x e = comes_first s.BehindF0 x (λ e. cc) (λ b. refl) comes_two e
comes s.BehindF4 x e = comes_first s.BehindF4 x (λ e. cc) (λ b. refl) comes_two e
comes s.Damaged x e = no_end x e

-- A first byte and the bytes that are due after it are a character.
one_row : (a : ℕ) (state : State) (tail : List ℕ) → First a state → AreWithin (ranges state) tail
    → IsCharacter (a ∷ tail)
one_row a s.Between tail (ascii p) nil = row1 p
one_row a s.OneDue tail (two p) (cons q nil) = row2 p q
one_row a s.BehindE0 tail (e0 p) (cons q (cons r nil)) = row3 p q r
one_row a s.TwoDue tail (three_low p) (cons q (cons r nil)) = row4 p q r
one_row a s.BehindEd tail (ed p) (cons q (cons r nil)) = row5 p q r
one_row a s.TwoDue tail (three_high p) (cons q (cons r nil)) = row6 p q r
one_row a s.BehindF0 tail (f0 p) (cons q (cons r (cons t nil))) = row7 p q r t
one_row a s.ThreeDue tail (four p) (cons q (cons r (cons t nil))) = row8 p q r t
one_row a s.BehindF4 tail (f4 p) (cons q (cons r (cons t nil))) = row9 p q r t
one_row a s.Damaged tail (none p) (cons q nil) = absurd (omega (arith, q))

-- Bytes that end between two characters are a text, by induction on their length.
text_within : (n : ℕ) (x : List ℕ) → length x ≤ n → after s.Between x ≡ s.Between → IsCharacters x
text_within n [] l e = IsCharacters-nil
text_within zero (a ∷ x) l e = absurd (omega arith)
text_within (suc n) (a ∷ x) l e =
    let m = comes (after_first a) x e in
    let character = one_row a (after_first a) m.tail (first_view a) m.within in
    rw m.is (IsCharacters-append (a ∷ m.tail) m.rest (character_is_text (a ∷ m.tail) character)
    (text_within n m.rest (omega (arith, ap length m.is, length-append m.tail m.rest)) m.ends))

-- Bytes that end between two characters are a text.
pub text_from : (x : List ℕ) → after s.Between x ≡ s.Between → IsCharacters x
text_from x e = text_within (length x) x (omega arith) e

-- ASCII bytes lead from `Between` to `Between`.
pub ascii_stays : (x : List ℕ) → IsAscii x → s.Between ≡ after s.Between x
ascii_stays x a = sym (text_ends x (from_std x (IsUtf8-from_ascii x a)))

-- ---- texts that begin with given bytes

-- No text begins with bytes that lead to `Damaged`.
pub none_goes_on : (x more : List ℕ) → after s.Between x ≡ s.Damaged → IsCharacters (x ++ more) → ⊥
none_goes_on x more e u = cc (after-append s.Between x more, e, after-damaged more, text_ends (x ++ more) u)

-- From each state but `Damaged`, some bytes lead to the end of a character.
to_end : (state : State) → (state ≡ s.Damaged → ⊥) → (more : List ℕ) × (after state more ≡ s.Between)
unfolding is_from after_next
to_end s.Between n = ([], refl)
to_end s.OneDue n = (0x80 ∷ [], refl)
to_end s.TwoDue n = (0x80 ∷ 0x80 ∷ [], refl)
to_end s.ThreeDue n = (0x80 ∷ 0x80 ∷ 0x80 ∷ [], refl)
to_end s.BehindE0 n = (0xa0 ∷ 0x80 ∷ [], refl)
to_end s.BehindEd n = (0x80 ∷ 0x80 ∷ [], refl)
to_end s.BehindF0 n = (0x90 ∷ 0x80 ∷ 0x80 ∷ [], refl)
to_end s.BehindF4 n = (0x80 ∷ 0x80 ∷ 0x80 ∷ [], refl)
to_end s.Damaged n = absurd (n refl)

-- A text begins with any bytes that do not lead to `Damaged`.
pub some_goes_on : (x : List ℕ) → (after s.Between x ≡ s.Damaged → ⊥) → (more : List ℕ) × IsCharacters (x ++ more)
some_goes_on x n =
    let end = to_end (after s.Between x) n in
    (end.0, text_from (x ++ end.0) (after-append s.Between x end.0 ∙ end.1))
