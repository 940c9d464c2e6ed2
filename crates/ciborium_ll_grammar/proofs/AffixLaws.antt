-- The first byte of a title announces the number of affix bytes. Any bytes of this number make a title, if the first
-- byte is not refused.
use Rattle.std.proofs.Common.{◌≡◌, ℕ, zero, suc, ◌-◌, ◌/◌, ◌%◌, ◌<◌, ◌≤◌, ◌⊎◌, List, [], ◌∷◌, ◌++◌, length, take}
use Rattle.std.proofs.Common.{slice_index, Option, Some, None, refl, sym, ap, ◌∙◌, arith, inl, inr}
use Rattle.std.specs.Int.{w8, w16, w32, w64, to_be_bytes, from_be_bytes}
use Rattle.std.proofs.Math.ListN.{replicate}
use Rattle.std.proofs.lemmas.List.{length-append, length-replicate}
use Rattle.std.proofs.lemmas.Nat.{be_bytes_2, be_bytes_4, be_bytes_8}
use Rattle.ciborium_ll_grammar.specs.declared.hdr.Header.{Header}
use Rattle.ciborium_ll_grammar.specs.declared.hdr.Header.TheVariants as h
use Rattle.ciborium_ll_grammar.specs.Title.{Major, Unsigned, Negative, ByteString, TextString, Array, Map, Tag, Other}
use Rattle.ciborium_ll_grammar.specs.Title.{major_code, first_byte, Size, Small, One, Two, Four, Eight, size_limit}
use Rattle.ciborium_ll_grammar.specs.Title.{minor_of, affix_of, numbered_header, open_header, IsTitle, numbered, alone}
use Rattle.ciborium_ll_grammar.specs.Title.{IsNeverOpen, IsRefused, affix_len, IsCutTitle, AreBytes}
use Rattle.ciborium_ll_text.proofs.Lists.{length_zero}
use Rattle.ciborium_ll_grammar.proofs.TitleLaws.{minor_below, title_refused}

-- ---- the length of an affix

-- An affix has as many bytes as its minor announces.
affix_length : (s : Size) (n : ℕ) → n < size_limit s → length (affix_of s n) ≡ affix_len (minor_of s n)
affix_length s n p = grind arith

-- The remainder of a first byte by 32 is its minor.
minor_back : (m : Major) (a : ℕ) → a < 32 → a ≡ first_byte m a % 32
minor_back m a p = omega arith

-- A title: its first byte, and as many bytes as this byte announces.
pub record InFront (w : List ℕ) : Type 0 where
  pub byte : ℕ
  pub affix : List ℕ
  pub is : w ≡ byte ∷ affix
  pub long : length affix ≡ affix_len (byte % 32)

-- A title has as many bytes after its first byte as this byte announces.
pub announced : (w : List ℕ) (x : Header) → IsTitle w x → InFront w
announced w x (numbered m s n p) =
    let long = affix_length s n p ∙ ap affix_len (minor_back m _ (omega (arith, minor_below s n p))) in
    record { byte = _; affix = _; is = refl; long = long }
announced w x (alone m y o) =
    record { byte = _; affix = []; is = refl; long = ap affix_len (minor_back m 31 (omega arith)) }

-- ---- titles that are cut

-- A title without its last byte or more bytes is a cut title.
pub cut_before : (s : List ℕ) (b : ℕ) (more : List ℕ) (x : Header) → IsTitle (s ++ b ∷ more) x → IsCutTitle s
cut_before s b more x t = grind (arith, announced (s ++ b ∷ more) x t, length-append {A = ℕ})

-- A list that begins with a title is no cut title.
pub title_not_cut : (t r : List ℕ) (x : Header) → IsTitle t x → IsCutTitle (t ++ r) → ⊥
title_not_cut t r x p c = grind (arith, announced t x p, length-append {A = ℕ})

-- ---- bytes that make a title

-- Each code below 8 is the code of a major type.
pub major_with : (k : ℕ) → k < 8 → (m : Major) × (major_code m ≡ k)
major_with zero p = (Unsigned, refl)
major_with (suc zero) p = (Negative, refl)
major_with (suc (suc zero)) p = (ByteString, refl)
major_with (suc (suc (suc zero))) p = (TextString, refl)
major_with (suc (suc (suc (suc zero)))) p = (Array, refl)
major_with (suc (suc (suc (suc (suc zero))))) p = (Map, refl)
major_with (suc (suc (suc (suc (suc (suc zero)))))) p = (Tag, refl)
major_with (suc (suc (suc (suc (suc (suc (suc zero))))))) p = (Other, refl)
major_with (suc (suc (suc (suc (suc (suc (suc (suc k)))))))) p = absurd (omega arith)

-- Each index into a list of bytes gives a number below 256.
pub byte_at : (bytes : List ℕ) → AreBytes bytes → (i : ℕ) → slice_index bytes i < 256
byte_at [] f i = omega arith
byte_at (b ∷ bytes) f zero = f.0
byte_at (b ∷ bytes) f (suc i) = byte_at bytes f.1 i

-- A list of one byte is a number in one byte.
pub one_byte : (bytes : List ℕ) → length bytes ≡ 1 → slice_index bytes 0 < 256
    → to_be_bytes w8 (slice_index bytes 0) ≡ bytes
one_byte [] l p = absurd (omega arith)
one_byte (b ∷ []) l p = let e : b % 256 ≡ b = omega arith in cc
one_byte (b ∷ c ∷ bytes) l p = absurd (omega arith)

-- The byte and the bytes after it are a title.
abbrev pub Titled : ℕ → List ℕ → Type 0
Titled b bytes = (x : Header) × IsTitle (b ∷ bytes) x

-- A first byte and the affix of its number are a title.
by_number : (b : ℕ) (bytes : List ℕ) (m : Major) (s : Size) (n : ℕ) → n < size_limit s → affix_of s n ≡ bytes
    → first_byte m (minor_of s n) ≡ b → IsRefused b ⊎ Titled b bytes
by_number b bytes m s n p is e = inr (numbered_header m s n, rw (← e, ← is) (numbered m s n p))

-- A major type with no header for the minor 31 has no indefinite form.
never_open : (m : Major) (code : ℕ) → open_header m ≡ None → major_code m ≡ code → IsNeverOpen code
never_open m code none c = grind arith

-- A first byte of the minor 31 is refused or is a title.
open_or_refused : (b : ℕ) (m : Major) (o : Option Header) → open_header m ≡ o → b % 32 ≡ 31 → major_code m ≡ b / 32
    → IsRefused b ⊎ Titled b []
open_or_refused b m None none e c = inl (inr (e, never_open m (b / 32) none c))
open_or_refused b m (Some x) some e c =
    let same : first_byte m 31 ≡ b = omega arith in
    inr (x, rw same at (alone m x some))

-- The cases of a minor: a number, 24 to 27, reserved, or 31.
abbrev pub MinorCases : ℕ → Type 0
MinorCases a = (a < 24) ⊎ (a ≡ 24) ⊎ (a ≡ 25) ⊎ (a ≡ 26) ⊎ (a ≡ 27) ⊎ (28 ≤ a) × (a ≤ 30) ⊎ (a ≡ 31)

pub minor_cases : (a : ℕ) → a < 32 → MinorCases a
minor_cases a p = grind arith

no_affix : (a : ℕ) → (a < 24) ⊎ (27 < a) → affix_len a ≡ 0
no_affix a o = grind arith

by_minor : (b : ℕ) (bytes : List ℕ) (m : Major) → major_code m ≡ b / 32 → ((i : ℕ) → slice_index bytes i < 256)
    → length bytes ≡ affix_len (b % 32) → MinorCases (b % 32) → IsRefused b ⊎ Titled b bytes
by_minor b bytes m c at l (inl p) =
    by_number b bytes m Small (b % 32) p (sym (length_zero bytes (l ∙ no_affix (b % 32) (inl p)))) (omega arith)
by_minor b bytes m c at l (inr (inl e)) =
    by_number b bytes m One (slice_index bytes 0) (at 0) (one_byte bytes (l ∙ ap affix_len e) (at 0)) (omega arith)
by_minor b bytes m c at l (inr (inr (inl e))) = by_number b bytes m Two (from_be_bytes w16 bytes)
    (omega (arith, at 0, at 1)) (be_bytes_2 bytes _ (l ∙ ap affix_len e) at refl) (omega arith)
by_minor b bytes m c at l (inr (inr (inr (inl e)))) = by_number b bytes m Four (from_be_bytes w32 bytes)
    (omega (arith, at 0, at 1, at 2, at 3)) (be_bytes_4 bytes _ (l ∙ ap affix_len e) at refl) (omega arith)
by_minor b bytes m c at l (inr (inr (inr (inr (inl e))))) = by_number b bytes m Eight (from_be_bytes w64 bytes)
    (omega (arith, at 0, at 1, at 2, at 3, at 4, at 5, at 6, at 7)) (be_bytes_8 bytes _ (l ∙ ap affix_len e) at refl)
    (omega arith)
by_minor b bytes m c at l (inr (inr (inr (inr (inr (inl r)))))) = inl (inl r)
by_minor b bytes m c at l (inr (inr (inr (inr (inr (inr e)))))) =
    rw (length_zero bytes (l ∙ ap affix_len e)) (open_or_refused b m (open_header m) refl e c)

-- If a byte is not refused, the byte and as many bytes as it announces are a title.
pub title_or_refused : (b : ℕ) (bytes : List ℕ) → b < 256 → AreBytes bytes → length bytes ≡ affix_len (b % 32)
    → IsRefused b ⊎ Titled b bytes
title_or_refused b bytes lt f l = let m = major_with (b / 32) (omega arith) in
    by_minor b bytes m.0 m.1 (byte_at bytes f) l (minor_cases (b % 32) (omega arith))

-- ---- bytes that are too few begin a title

-- Zeros are bytes.
pub AreBytes-zeros : (n : ℕ) → AreBytes (replicate n 0)
AreBytes-zeros zero = tt
AreBytes-zeros (suc n) = (omega arith, AreBytes-zeros n)

-- Two lists of bytes joined are a list of bytes.
pub AreBytes-append : (a b : List ℕ) → AreBytes a → AreBytes b → AreBytes (a ++ b)
AreBytes-append [] b f g = g
AreBytes-append (x ∷ a) b f g = (f.0, AreBytes-append a b f.1 g)

-- A front of a list of bytes is a list of bytes.
pub AreBytes-take : (n : ℕ) (a : List ℕ) → AreBytes a → AreBytes (take n a)
AreBytes-take zero a f = tt
AreBytes-take (suc n) [] f = tt
AreBytes-take (suc n) (x ∷ a) f = (f.0, AreBytes-take n a f.1)

-- A refused byte announces no bytes.
pub refused_affix : (b : ℕ) → IsRefused b → affix_len (b % 32) ≡ 0
refused_affix b r = no_affix (b % 32) (inr (omega (arith, r)))

-- A title that begins with `s` and has at least one byte more.
pub record Begun (s : List ℕ) : Type 0 where
  pub byte : ℕ
  pub more : List ℕ
  pub header : Header
  pub title : IsTitle (s ++ byte ∷ more) header

-- Each cut title begins a title.
pub cut_begins : (s : List ℕ) → AreBytes s → IsCutTitle s → Begun s
cut_begins [] f c =
    record { byte = 0; more = []; header = h.Positive 0; title = numbered Unsigned Small 0 (omega arith) }
cut_begins (b ∷ s) f c =
    let k = affix_len (b % 32) - length s - 1 in
    let whole = s ++ replicate (suc k) 0 in
    let long : length whole ≡ affix_len (b % 32) = omega
    (arith, length-append s (replicate (suc k) 0), length-replicate {A = ℕ} k 0, c) in
    elim (title_or_refused b whole f.0 (AreBytes-append s (replicate (suc k) 0) f.1
    (AreBytes-zeros (suc k))) long) [
      | inl r ↦ absurd (omega (arith, refused_affix b r, c))
      | inr t ↦ record { byte = 0; more = replicate k 0; header = t.0; title = t.1 }
    ]

-- ---- the refused bytes

-- No title begins with a refused byte.
pub refused_begins_none : (b : ℕ) (w : List ℕ) (x : Header) → IsRefused b → IsTitle (b ∷ w) x → ⊥
refused_begins_none b w x r p = title_refused (b ∷ w) [] x p r

-- Each other byte begins a title.
pub refused_or_begins : (b : ℕ) → b < 256 → IsRefused b ⊎ ((w : List ℕ) × (x : Header) × IsTitle (b ∷ w) x)
refused_or_begins b lt =
    elim (title_or_refused b (replicate (affix_len (b % 32)) 0) lt (AreBytes-zeros (affix_len (b % 32)))
    (length-replicate {A = ℕ} (affix_len (b % 32)) 0)) [
      | inl r ↦ inl r
      | inr t ↦ inr (replicate (affix_len (b % 32)) 0, t.0, t.1)
    ]
