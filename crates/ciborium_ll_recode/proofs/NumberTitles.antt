-- The titles of a number in `Shortens` are the titles of its header.
use Rattle.std.proofs.Common.{◌≡◌, ℕ, ◌+◌, ◌*◌, ◌<◌, ◌≤◌, ◌^◌, List, [], ◌∷◌, length, Option, Some, None}
use Rattle.std.proofs.Common.{refl, sym, ap, ◌∙◌, arith, IfSome}
use Rattle.std.proofs.lemmas.Bool.Decides.{nat_tests}
use Rattle.ciborium_ll_grammar.specs.declared.spelling.Spelling.{Spelling}
use Rattle.ciborium_ll_grammar.specs.declared.spelling.Spelling.TheVariants.{Shortest}
use Rattle.ciborium_ll_grammar.specs.declared.hdr.Header.{Header}
use Rattle.ciborium_ll_grammar.specs.declared.hdr.Header.TheVariants as h
use Rattle.ciborium_ll_grammar.specs.declared.hdr.Float.TheVariants as f
use Rattle.ciborium_ll_grammar.specs.Title.{Major, Unsigned, Negative, ByteString, TextString, Array, Map, Tag, Other}
use Rattle.ciborium_ll_grammar.specs.Title.{major_code, first_byte, Size, Two, Four, Eight, size_limit, numbered_header}
use Rattle.ciborium_ll_grammar.specs.Title.{minor_of, affix_of, numbered_title, open_header, IsTitle, numbered, alone}
use Rattle.ciborium_ll_grammar.specs.Title.{least_size, shortest_numbered}
use Rattle.ciborium_ll_grammar.specs.Shortening.{SaysNumber, small, one, two, four, eight, IsNumberTitle}
use Rattle.ciborium_ll_grammar.proofs.TitleLaws.{least_fits}

-- ---- the titles that a header has

abbrev pub HasNumber : Major → ℕ → List ℕ → Type 0
HasNumber major n title = (size : Size) × (n < size_limit size) × (title ≡ numbered_title major size n)

abbrev pub HasLength : Major → Option ℕ → List ℕ → Type 0
HasLength major (Some n) title = HasNumber major n title
HasLength major None title = title ≡ first_byte major 31 ∷ []

abbrev pub IsTitleOf : Header → List ℕ → Type 0
IsTitleOf (h.Positive n) title = HasNumber Unsigned n title
IsTitleOf (h.Negative n) title = HasNumber Negative n title
IsTitleOf (h.Bytes len) title = HasLength ByteString len title
IsTitleOf (h.Text len) title = HasLength TextString len title
IsTitleOf (h.Array len) title = HasLength Array len title
IsTitleOf (h.Map len) title = HasLength Map len title
IsTitleOf (h.Tag n) title = HasNumber Tag n title
IsTitleOf (h.Simple n) title = (numbers : HasNumber Other n title) × (length title ≤ 2)
IsTitleOf (h.Float (f.Half n)) title = title ≡ numbered_title Other Two n
IsTitleOf (h.Float (f.Single n)) title = title ≡ numbered_title Other Four n
IsTitleOf (h.Float (f.Double n)) title = title ≡ numbered_title Other Eight n
IsTitleOf h.Break title = title ≡ first_byte Other 31 ∷ []

alone_of : (major : Major) → IfSome (open_header major) (λ header. IsTitleOf header (first_byte major 31 ∷ []))
alone_of major = grind arith

numbered_is : (m : Major) (s : Size) (n : ℕ) → n < size_limit s
    → IsTitleOf (numbered_header m s n) (numbered_title m s n)
numbered_is m s n below = grind arith

pub title_of : (title : List ℕ) (header : Header) → IsTitle title header → IsTitleOf header title
title_of title header (numbered major size n below) = numbered_is major size n below
title_of title header (alone major named is) = rw is at (alone_of major)

-- ---- the bytes of a number by its size

-- The minor and the affix of a size say its number.
pub says_of : (s : Size) (n : ℕ) → n < size_limit s → SaysNumber (minor_of s n) (affix_of s n) n
says_of s n l = grind (arith, small, one, two, four, eight)

-- A number of a size is below 2^64.
pub size_below : (s : Size) (n : ℕ) → n < size_limit s → n < 2 ^ 64
size_below s n l = grind arith

-- Each title that says a number has a size.
sized : (m : Major) (n minor : ℕ) (affix : List ℕ) → SaysNumber minor affix n
    → HasNumber m n ((32 * major_code m + minor) ∷ affix)
sized m n minor affix says = grind arith

pub has_number : (b : Spelling) (m : Major) (n : ℕ) (title : List ℕ) → IsNumberTitle b (major_code m) n title
    → HasNumber m n title
has_number b m n title p = let z = sized m n p.minor p.affix p.says in (z.0, z.1, p.is ∙ z.2)

-- The affix of the least size has the fewest bytes.
least_fewest : (s : Size) (n : ℕ) → n < size_limit s → length (affix_of (least_size n) n) ≤ length (affix_of s n)
least_fewest s n below = grind (arith, nat_tests)

fewest_least : (s : Size) (n : ℕ) → n < size_limit s → length (affix_of s n) ≤ length (affix_of (least_size n) n)
    → s ≡ least_size n
fewest_least s n below few = grind (arith, nat_tests)

-- A title of a size is a title of its number. With the least size, it is the shortest title.
pub taken_title : (b : Spelling) (m : Major) (n : ℕ) (title : List ℕ) → HasNumber m n title
    → (b ≡ Shortest → title ≡ shortest_numbered m n) → IsNumberTitle b (major_code m) n title
taken_title b m n title z least =
    record {
      minor = minor_of z.0 n;
      affix = affix_of z.0 n;
      says = says_of z.0 n z.1;
      is = z.2;
      fewest = λ on minor other says. (
          let s = sized m n minor other says in
          omega (arith, ap length (sym z.2 ∙ least on), ap length s.2, least_fewest s.0 n s.1)
          );
    }

pub least_title : (b : Spelling) (m : Major) (n : ℕ) → n < 2 ^ 64
    → IsNumberTitle b (major_code m) n (shortest_numbered m n)
least_title b m n below =
    taken_title b m n (shortest_numbered m n) (least_size n, least_fits n below, refl) (λ on. refl)

-- A title with the fewest bytes has the least size.
pub fewest_is : (m : Major) (n : ℕ) (title : List ℕ) → IsNumberTitle Shortest (major_code m) n title
    → title ≡ shortest_numbered m n
fewest_is m n title p =
    let z = has_number Shortest m n title p in
    let least = least_size n in
    let few = p.fewest refl _ _ (says_of least n (least_fits n (size_below z.0 n z.1))) in
    let same = fewest_least z.0 n z.1 (omega (arith, few, ap length (sym p.is ∙ z.2))) in
    z.2 ∙ ap (λ (s : Size). numbered_title m s n) same
