-- Characters that are cut, and the bytes that may end them.
use Rattle.std.proofs.Common.{◌≡◌, ℕ, zero, suc, ◌+◌, ◌-◌, ◌<◌, ◌≤◌, true, false, List, [], ◌∷◌, ◌++◌, length, take}
use Rattle.std.proofs.Common.{drop}
use Rattle.std.proofs.Common.{refl, sym, ap, subst, ◌∙◌, arith, le-leb, append-nil, append_assoc, length-append}
use Rattle.std.proofs.lemmas.Bool.Decides.{nat_tests}
use Rattle.std.proofs.lemmas.List.{length-take-le, take-append-drop}
use Rattle.ciborium_ll_text.specs.Text.{IsCharacters, IsFront, IsStuck}
use Rattle.ciborium_ll_text.specs.declared.state.State.{State}
use Rattle.ciborium_ll_text.specs.declared.state.State.TheVariants as s
use Rattle.ciborium_ll_text.specs.States.{is_from, after_first, after_next, after_byte, after, may_end}
use Rattle.ciborium_ll_text.proofs.EndLaws.{none_left, text_may_end}
use Rattle.ciborium_ll_text.proofs.FrontLaws.{IsFront-stuck, IsStuck-rest}
use Rattle.std.proofs.Common.{inl, inr}
use Rattle.std.proofs.lemmas.Bool.{cases_lt}
use Rattle.ciborium_ll_text.proofs.Lists.{front_of, front_of_front, length_zero, same_front}
use Rattle.ciborium_ll_text.proofs.StateLaws.{after-append, text_ends, text_from}
use Rattle.ciborium_ll_text.proofs.TextLaws.{no_text_begins}
use Rattle.cbor_parser.specs.Parsing.{CanEnd}

-- ---- the end of a text

-- Some byte continues a text that may end with `n + 1` more bytes.
some_byte : (state : State) (n : ℕ) → may_end state (suc n) ≡ true → (b : ℕ) × (may_end (after_byte state b) n ≡ true)
unfolding is_from after_first after_next
some_byte s.Between n may = (0, le-leb 0 n (omega arith))
some_byte s.BehindE0 n may = (0xa0, grind (arith, nat_tests))
some_byte s.BehindF0 n may = (0x90, grind (arith, nat_tests))
some_byte state n may = (0x80, grind (arith, nat_tests))

some_body : (state : State) (n : ℕ) → may_end state n ≡ true
    → (b : List ℕ) × (length b ≡ n) × (after state b ≡ s.Between)
some_body state zero may = ([], refl, none_left state may)
some_body state (suc n) may =
    let (b, goes) = some_byte state n may in
    let (body, long, ends) = some_body (after_byte state b) n goes in (b ∷ body, omega (arith, long), ends)

-- If the state allows it, some bytes end the text.
pub can_end : (x : List ℕ) (n : ℕ) → may_end (after s.Between x) n ≡ true → CanEnd x n
can_end x n may =
    let (more, long, ends) = some_body (after s.Between x) n may in
    (more, long, text_from (x ++ more) (after-append s.Between x more ∙ ends))

-- If the state does not allow it, no bytes end the text.
pub cannot_end : (x : List ℕ) (n : ℕ) → may_end (after s.Between x) n ≡ false → CanEnd x n → ⊥
cannot_end x n never (more, long, text) =
    let ends : after (after s.Between x) more ≡ s.Between =
    sym (after-append s.Between x more) ∙ text_ends (x ++ more) text in
    let may : may_end (after s.Between x) n ≡ true =
    subst (λ (k : ℕ). may_end (after s.Between x) k ≡ true) long (text_may_end (after s.Between x) more ends) in
    absurd cc

-- Any number of bytes may follow no bytes.
pub any_end : (n : ℕ) → CanEnd [] n
any_end n = can_end [] n (le-leb 0 n (omega arith))

-- ---- a character that is cut

-- It has at most three bytes.
pub kept_few : (x : List ℕ) (n : ℕ) → IsStuck x → CanEnd x n → length x ≤ 3
kept_few x n stuck (more, long, text) = (elim (cases_lt 3 (length x)) [
  | inl l ↦ absurd (no_text_begins (x ++ []) [] x more (IsFront-stuck x stuck) l (rw append-nil text))
  | inr l ↦ l
])

-- It lacks a byte.
pub some_due : (x : List ℕ) (n : ℕ) → 0 < length x → IsStuck x → CanEnd x n → 0 < n
some_due x zero some stuck (more, long, text) =
    let none = length_zero more long in
    let is : IsCharacters x = subst IsCharacters (ap (λ (z : List ℕ). x ++ z) none ∙ append-nil x) text in
    let empty = ap length (stuck x [] (sym (append-nil x)) is) in
    absurd (omega (arith, some, empty))
some_due x (suc n) some stuck can = omega arith

-- The bytes of an empty front are stuck.
pub stuck_whole : (x front : List ℕ) → IsFront x front (drop (length front) x) → length front ≡ 0 → IsStuck x
stuck_whole x front is none =
    let e = length_zero front none in
    IsStuck-rest x [] x (subst (λ (f : List ℕ). IsFront x f (drop (length f) x)) e is)

-- The front of a cut character and more bytes has all of that character.
pub longer : (carried part front rest : List ℕ) → IsStuck carried → IsFront (carried ++ part) front rest
    → 0 < length front → length carried < length front
longer carried part front rest stuck is some = (elim (cases_lt (length carried) (length front)) [
  | inl l ↦ l
  | inr l ↦ (let (m, e, o) = front_of_front front carried rest part (sym is.parts) l in
      let empty = ap length (stuck front m e is.text) in absurd (omega (arith, some, empty)))
])

-- Such a front is the cut character and the bytes at the beginning of the piece.
pub part_of : (carried piece front rest : List ℕ) (n : ℕ) → n ≤ length piece
    → IsFront (carried ++ take n piece) front rest → length carried ≤ length front
    → IsCharacters (carried ++ take (length front - length carried) piece)
part_of carried piece front rest n within is long =
    let (m, e, o) = front_of_front carried front (take n piece) rest is.parts long in
    let l : length front ≡ length carried + length m = ap length e ∙ length-append carried m in
    let whole : carried ++ take n piece ≡ carried ++ (m ++ rest) =
    is.parts ∙ (ap (λ (z : List ℕ). z ++ rest) e ∙ append_assoc carried m rest) in
    let parts = (same_front carried carried (take n piece) (m ++ rest) refl whole).1 in
    let all : piece ≡ m ++ (rest ++ drop n piece) =
    sym (take-append-drop n piece)
    ∙ (ap (λ (z : List ℕ). z ++ drop n piece) parts ∙ append_assoc m rest (drop n piece)) in
    let same : take (length front - length carried) piece ≡ m =
    front_of (length front - length carried) piece m (rest ++ drop n piece) all (omega (arith, l)) in
    subst IsCharacters (e ∙ ap (λ (z : List ℕ). carried ++ z) (sym same)) is.text

-- That many bytes are there.
pub part_within : (carried piece front rest : List ℕ) (n : ℕ) → n ≤ length piece
    → IsFront (carried ++ take n piece) front rest → length front - length carried ≤ n
part_within carried piece front rest n within is =
    let l = ap length is.parts in
    omega (arith, l, length-append carried (take n piece), length-append front rest, length-take-le n piece within)

-- Without a cut character, the front is the bytes at the beginning of the piece.
pub part_front : (piece front rest : List ℕ) (n : ℕ) → n ≤ length piece → IsFront (take n piece) front rest
    → IsCharacters (take (length front) piece)
part_front piece front rest n within is =
    let all : piece ≡ front ++ (rest ++ drop n piece) =
    sym (take-append-drop n piece)
    ∙ (ap (λ (z : List ℕ). z ++ drop n piece) is.parts ∙ append_assoc front rest (drop n piece)) in
    subst IsCharacters (sym (front_of (length front) piece front (rest ++ drop n piece) all refl)) is.text

-- The state after bytes without a front tells if they can end.
pub ends_so : (x front : List ℕ) (state : State) (n : ℕ) → length front ≡ 0
    → state ≡ after s.Between (drop (length front) x) → may_end state n ≡ true → CanEnd x n
ends_so x front state n none is may =
    let e : drop (length front) x ≡ x = ap (λ (k : ℕ). drop k x) none in
    can_end x n (subst (λ (q : State). may_end q n ≡ true) (is ∙ ap (after s.Between) e) may)

pub stops_so : (x front : List ℕ) (state : State) (n : ℕ) → length front ≡ 0
    → state ≡ after s.Between (drop (length front) x) → may_end state n ≡ false → CanEnd x n → ⊥
stops_so x front state n none is may =
    let e : drop (length front) x ≡ x = ap (λ (k : ℕ). drop k x) none in
    cannot_end x n (subst (λ (q : State). may_end q n ≡ false) (is ∙ ap (after s.Between) e) may)

-- A front is no longer than the bytes that are looked at.
pub front_within : (piece front rest : List ℕ) (n : ℕ) → n ≤ length piece → IsFront (take n piece) front rest
    → length front ≤ n
front_within piece front rest n within is =
    let l = ap length is.parts in omega (arith, l, length-append front rest, length-take-le n piece within)
