-- No title begins another title, and the shortest title is strictly shorter than the others of its header.
use Rattle.std.proofs.Common.{◌≡◌, ℕ, ◌<◌, ◌≤◌, ◌^◌, ◌⊎◌, List, [], ◌∷◌, ◌++◌, length, Some, None, refl, sym, arith}
use Rattle.std.proofs.lemmas.Nat.{from_be_bytes-to_be_bytes_2, from_be_bytes-to_be_bytes_4, from_be_bytes-to_be_bytes_8}
use Rattle.ciborium_ll_grammar.specs.declared.hdr.Header.{Header}
use Rattle.ciborium_ll_grammar.specs.declared.hdr.Header.TheVariants as h
use Rattle.ciborium_ll_grammar.specs.declared.hdr.Float.TheVariants as f
use Rattle.ciborium_ll_grammar.specs.Title.{Major, Unsigned, Negative, ByteString, TextString, Array, Map, Tag, Other}
use Rattle.ciborium_ll_grammar.specs.Title.{first_byte, Size, Two, Four, Eight, size_limit, minor_of}
use Rattle.ciborium_ll_grammar.specs.Title.{numbered_title, numbered_header, open_header, IsTitle, numbered, alone}
use Rattle.ciborium_ll_grammar.specs.Title.{least_size, shortest_title, IsInRange, BeginsRefused}

-- ---- first bytes

-- The minor of a number is below 28.
pub minor_below : (s : Size) (n : ℕ) → n < size_limit s → minor_of s n < 28
minor_below s n p = grind arith

-- ---- titles

-- The bytes, the headers and the rests are the same.
abbrev pub Same : List ℕ → List ℕ → Header → Header → List ℕ → List ℕ → Type 0
Same w w' h h' v v' = (w ≡ w') × (h ≡ h') × (v ≡ v')

-- No title of a number begins another title of a number.
same_number : (m m' : Major) (s s' : Size) (n n' : ℕ) (v v' : List ℕ) → n < size_limit s → n' < size_limit s'
    → numbered_title m s n ++ v ≡ numbered_title m' s' n' ++ v'
    → Same (numbered_title m s n) (numbered_title m' s' n') (numbered_header m s n) (numbered_header m' s' n') v v'
same_number m m' s s' n n' v v' p p' e =
    grind (arith, minor_below, from_be_bytes-to_be_bytes_2, from_be_bytes-to_be_bytes_4, from_be_bytes-to_be_bytes_8)

-- No title of a number begins the same bytes as a title of the minor 31.
not_alone : (m m' : Major) (s : Size) (n : ℕ) (v v' : List ℕ) → n < size_limit s
    → numbered_title m s n ++ v ≡ first_byte m' 31 ∷ v' → ⊥
not_alone m m' s n v v' p e = grind (arith, minor_below s n p)

-- No title of the minor 31 begins another one, and each has one header.
same_alone : (m m' : Major) (h h' : Header) (v v' : List ℕ) → open_header m ≡ Some h → open_header m' ≡ Some h'
    → first_byte m 31 ∷ v ≡ first_byte m' 31 ∷ v' → Same (first_byte m 31 ∷ []) (first_byte m' 31 ∷ []) h h' v v'
same_alone m m' h h' v v' p p' e = grind arith

-- No title begins another title, and each title has one header.
pub one_title : (w w' v v' : List ℕ) (h h' : Header) → IsTitle w h → IsTitle w' h' → w ++ v ≡ w' ++ v'
    → Same w w' h h' v v'
one_title w w' v v' h h' (numbered m s n p) (numbered m' s' n' p') e = same_number m m' s s' n n' v v' p p' e
one_title w w' v v' h h' (numbered m s n p) (alone m' x' o') e = absurd (not_alone m m' s n v v' p e)
one_title w w' v v' h h' (alone m x o) (numbered m' s' n' p') e = absurd (not_alone m' m s' n' v' v p' (sym e))
one_title w w' v v' h h' (alone m x o) (alone m' x' o') e = same_alone m m' x x' v v' o o' e

-- ---- the shortest title

-- A number fits into its least size.
pub least_fits : (n : ℕ) → n < 2 ^ 64 → n < size_limit (least_size n)
least_fits n p = grind arith

-- In its least size, the number of a simple value means this simple value.
least_simple : (n : ℕ) → n < 2 ^ 8 → numbered_header Other (least_size n) n ≡ h.Simple n
least_simple n p = grind arith

-- The shortest title of a header is a title of the header.
pub IsTitle-shortest : (header : Header) → IsInRange header → IsTitle (shortest_title header) header
IsTitle-shortest (h.Positive n) p = numbered Unsigned _ n (least_fits n p)
IsTitle-shortest (h.Negative n) p = numbered Negative _ n (least_fits n p)
IsTitle-shortest (h.Float (f.Half n)) p = numbered Other Two n p
IsTitle-shortest (h.Float (f.Single n)) p = numbered Other Four n p
IsTitle-shortest (h.Float (f.Double n)) p = numbered Other Eight n p
IsTitle-shortest (h.Simple n) p =
    rw (least_simple n p) at (numbered Other _ n (least_fits n (omega arith)))
IsTitle-shortest (h.Tag n) p = numbered Tag _ n (least_fits n p)
IsTitle-shortest h.Break p = alone Other h.Break refl
IsTitle-shortest (h.Bytes None) p = alone ByteString (h.Bytes None) refl
IsTitle-shortest (h.Bytes (Some n)) p = numbered ByteString _ n (least_fits n p)
IsTitle-shortest (h.Text None) p = alone TextString (h.Text None) refl
IsTitle-shortest (h.Text (Some n)) p = numbered TextString _ n (least_fits n p)
IsTitle-shortest (h.Array None) p = alone Array (h.Array None) refl
IsTitle-shortest (h.Array (Some n)) p = numbered Array _ n (least_fits n p)
IsTitle-shortest (h.Map None) p = alone Map (h.Map None) refl
IsTitle-shortest (h.Map (Some n)) p = numbered Map _ n (least_fits n p)

-- The first list is the second, or longer.
abbrev pub LeastOr : List ℕ → List ℕ → Type 0
LeastOr w w' = (w ≡ w') ⊎ (length w' < length w)

-- A title of a number is the shortest title of its header, or longer.
number_shortest : (m : Major) (s : Size) (n : ℕ) → n < size_limit s
    → LeastOr (numbered_title m s n) (shortest_title (numbered_header m s n))
number_shortest m s n p = grind arith

-- A title of the minor 31 is the shortest title of its header, or longer.
alone_shortest : (m : Major) (x : Header) → open_header m ≡ Some x → LeastOr (first_byte m 31 ∷ []) (shortest_title x)
alone_shortest m x o = grind arith

-- A title is the shortest title of its header, or longer.
pub shortest_or_longer : (header : Header) (w : List ℕ) → IsTitle w header → LeastOr w (shortest_title header)
shortest_or_longer header w (numbered m s n p) = number_shortest m s n p
shortest_or_longer header w (alone m x o) = alone_shortest m x o

-- No title of a header is shorter than its shortest title.
pub shortest_no_longer : (t : List ℕ) (h : Header) → IsTitle t h → length (shortest_title h) ≤ length t
shortest_no_longer t h p = grind (arith, shortest_or_longer h t p)

-- The shortest title has at least one byte.
pub shortest_some : (h : Header) → 0 < length (shortest_title h)
shortest_some h = grind arith

-- ---- refused first bytes, and the ranges of headers

-- No title begins bytes whose first byte is refused.
pub title_refused : (w v : List ℕ) (x : Header) → IsTitle w x → BeginsRefused (w ++ v) → ⊥
title_refused w v x p r = grind arith

-- The numbers of a title's header are in range.
pub title_in_range : (w : List ℕ) (x : Header) → IsTitle w x → IsInRange x
title_in_range w x p = grind arith
