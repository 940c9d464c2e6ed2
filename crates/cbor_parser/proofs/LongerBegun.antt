-- The bytes that begin a title that is the shortest of its header.
use Rattle.std.proofs.Common.{◌≡◌, ℕ, zero, suc, ◌-◌, ◌<◌, ◌≤◌, ◌%◌, ◌⊎◌, inl, inr, true, List, [], ◌∷◌}
use Rattle.std.proofs.Common.{◌++◌, length, get_or, refl, ap, arith, length-append, slice_index}
use Rattle.std.proofs.Math.ListN.{replicate}
use Rattle.std.proofs.lemmas.Bool.{false_from_ne_true}
use Rattle.std.proofs.lemmas.Bool.Decides.{nat_tests}
use Rattle.std.proofs.Math.Seq.{get_or-append_right}
use Rattle.std.proofs.lemmas.List.{length-replicate, get_or_append_left, get_or-replicate}
use Rattle.ciborium_ll_grammar.specs.declared.spelling.Spelling.{Spelling}
use Rattle.ciborium_ll_grammar.specs.declared.spelling.Spelling.TheVariants.{Any, Shortest}
use Rattle.ciborium_ll_grammar.specs.declared.hdr.Header.{Header}
use Rattle.ciborium_ll_grammar.specs.Title.{Major, major_code, first_byte, Size, size_limit, affix_len, numbered_title}
use Rattle.ciborium_ll_grammar.specs.Title.{IsTitle, numbered, alone, IsStrictTitle, AreBytes}
use Rattle.ciborium_ll_grammar.specs.Parts.{refused_when_strict}
use Rattle.ciborium_ll_grammar.proofs.LongerLaws.{minor_as, taken, refused}
use Rattle.ciborium_ll_grammar.proofs.AffixLaws.{title_or_refused, refused_affix, cut_begins, AreBytes-append}
use Rattle.cbor_parser.specs.Longer.{BeginsLonger}
use Rattle.cbor_parser.specs.Titles.{NoneTaken, SomeTaken}

ruleset tests = (arith, nat_tests)

-- ---- a number whose first half is 0 has a smaller form

-- Two lists that begin the same bytes agree at each index that both have.
same_at : (a m t r : List ℕ) → a ++ m ≡ t ++ r → (i : ℕ) → i < length a → i < length t → get_or a i 0 ≡ get_or t i 0
same_at a m t r e i la lt = cc (get_or_append_left t r 0 i lt, get_or_append_left a m 0 i la)

-- A title that begins longer is not the shortest of its header.
by_title : (front m t r : List ℕ) (x : Header) → BeginsLonger front → 0 < length front → IsTitle t x
    → front ++ m ≡ t ++ r → IsStrictTitle t x → ⊥
by_title front m t r x longer some (numbered k s n p) e allowed =
    let at = same_at front m (numbered_title k s n) r e in refused k s n p (grind tests) allowed
by_title front m t r x longer some (alone k y o) e allowed =
    let first = same_at front m (first_byte k 31 ∷ []) r e 0 some (omega arith) in omega arith

-- No strict title begins with bytes that begin a longer title.
pub longer_none : (front : List ℕ) → 0 < length front → BeginsLonger front → NoneTaken Shortest front
longer_none front some longer = λ more title rest header is_title allowed e.
    by_title front more title rest header longer some is_title e allowed

-- ---- other bytes begin a shortest title

-- Numbers of 255 are bytes.
AreBytes-full : (n : ℕ) → AreBytes (replicate n 255)
AreBytes-full zero = tt
AreBytes-full (suc n) = (omega arith, AreBytes-full n)

-- A title whose missing bytes are 255 has a number that needs its size.
module _ (a : List ℕ) (k : ℕ) (some : 0 < length a) (more : 0 < k) (never : BeginsLonger a → ⊥) where
  abbrev Whole : List ℕ
  Whole = a ++ replicate k 255

  -- Each byte of this title came before, or is 255.
  byte_at : (t : List ℕ) → t ≡ Whole → (i : ℕ) → i < length t
      → ((i < length a) × (get_or a i 0 ≡ get_or t i 0)) ⊎ ((length a ≤ i) × (get_or t i 0 ≡ 255))
  byte_at t e i lt =
      let long = ap length e in
      let whole = length-append a (replicate k 255) in
      rw e (grind (arith, get_or_append_left, get_or-append_right, get_or-replicate, length-replicate))

  not_longer : (m : Major) (s : Size) (n : ℕ) → n < size_limit s → numbered_title m s n ≡ Whole
      → refused_when_strict (major_code m) (minor_as s n) ≡ true → ⊥
  not_longer m s n p e longer =
      let at = byte_at (numbered_title m s n) e in let long = ap length e in
      grind (tests, length-append, length-replicate)

  whole_taken : (t : List ℕ) (x : Header) → IsTitle t x → t ≡ Whole → IsStrictTitle t x
  whole_taken t x (numbered m s n p) e = taken m s n p (false_from_ne_true _ (not_longer m s n p e))
  whole_taken t x (alone m y o) e =
      absurd (omega (arith, ap length e, length-append a (replicate k 255), length-replicate {A = ℕ} k 255, some, more))

-- Bytes that begin no longer title begin the shortest title of some header.
longer_some : (b : ℕ) (a : List ℕ) → b < 256 → AreBytes a → length a < affix_len (b % 32)
    → (BeginsLonger (b ∷ a) → ⊥) → SomeTaken Shortest (b ∷ a)
longer_some b a byte bytes less never =
    let k = affix_len (b % 32) - length a in
    let whole = a ++ replicate k 255 in
    let long : length whole ≡ affix_len (b % 32) = omega
    (arith, length-append a (replicate k 255), length-replicate {A = ℕ} k 255, less) in
    elim (title_or_refused b whole byte (AreBytes-append a (replicate k 255) bytes (AreBytes-full k)) long) [
      | inl r ↦ absurd (omega (arith, refused_affix b r, less))
      | inr t ↦ (
        replicate k 255,
        t.0,
        t.1,
        whole_taken (b ∷ a) k (omega arith) (omega (arith, less)) never (b ∷ whole) t.0 t.1 refl,
      )
    ]

-- ---- as the code has them

are_bytes : (xs : List ℕ) → ((i : ℕ) → get_or xs i 0 < 256) → AreBytes xs
are_bytes [] f = tt
are_bytes (x ∷ xs) f = (f 0, are_bytes xs (λ i. f (suc i)))

pub strict_some : (xs : List ℕ) → ((i : ℕ) → get_or xs i 0 < 256) → 0 < length xs
    → length xs ≤ affix_len (slice_index xs 0 % 32) → (BeginsLonger xs → ⊥) → SomeTaken Shortest xs
strict_some [] f some short never = absurd (omega (arith, some))
strict_some (b ∷ a) f some short never =
    longer_some b a (f 0) (are_bytes a (λ i. f (suc i))) (omega (arith, short)) never

-- If any spelling is taken, each beginning of a title begins a title that is taken.
pub any_some : (s : Spelling) (xs : List ℕ) → s ≡ Any → ((i : ℕ) → get_or xs i 0 < 256) → 0 < length xs
    → length xs ≤ affix_len (slice_index xs 0 % 32) → SomeTaken s xs
any_some s [] any f some short = absurd (omega (arith, some))
any_some s (b ∷ a) any f some short =
    let o = cut_begins (b ∷ a) (are_bytes (b ∷ a) f) (omega (arith, short)) in
    rw any (o.byte ∷ o.more, o.header, o.title, tt)
