-- The title of a header in a width. A header has at most one title of a width.
use Rattle.std.proofs.Common.{◌≡◌, ℕ, suc, ◌%◌, ◌^◌, ◌<◌, ◌≤◌, Bool, true, false, List, [], ◌∷◌, ◌++◌, length, refl}
use Rattle.std.proofs.Common.{drop}
use Rattle.std.proofs.Common.{Option, Some, None, sym, ap, subst, ◌∙◌, arith}
use Rattle.std.specs.Prelude.{if◌then◌else◌, nat_lt, ◌==◌}
use Rattle.std.proofs.lemmas.Bool.{eqb-true, eqb-false, ltb-true, ltb-false}
use Rattle.ciborium_ll.specs.Types.Header.{Header}
use Rattle.ciborium_ll.specs.Types.Header.TheVariants as h
use Rattle.ciborium_ll.specs.Types.Float.TheVariants as f
use Rattle.ciborium_ll_grammar.specs.declared.hdr.Minor.{Minor}
use Rattle.ciborium_ll_grammar.specs.declared.hdr.Minor.TheVariants as m
use Rattle.ciborium_ll_grammar.specs.declared.hdr.Title.{Title}
use Rattle.ciborium_ll_grammar.specs.Parts.{IsMinor, IsParts, title_bytes}
use Rattle.ciborium_ll_grammar.specs.Title.{IsTitle, IsInRange, numbered, alone, Major, Unsigned, Negative, ByteString}
use Rattle.ciborium_ll_grammar.specs.Title.{TextString, Array, Map, Tag, Other, major_code, Size, Small, One, Two}
use Rattle.ciborium_ll_grammar.specs.Title.{Four, Eight, numbered_title, size_limit, affix_of, first_byte, open_header}
use Rattle.ciborium_ll_grammar.proofs.TitleLaws.{title_in_range}
use Rattle.ciborium_ll_recode.proofs.NumberTitles.{HasNumber, title_of}
use Rattle.capi.specs.declared.answer.CllAnswer.{CllAnswer}
use Rattle.capi.specs.declared.answer.CllAnswer.TheVariants as a
use Rattle.capi.specs.declared.answer.CllReport.{CllReport}
use Rattle.capi.specs.declared.header.CllHeader.{CllHeader}
use Rattle.capi.specs.Answers.{Reports}
use Rattle.capi.specs.Headers.{IsNoHeader, Says, kind_number, open_of, rebuilt, value_of}
use Rattle.capi.specs.Pushing.{Puts}
use Rattle.capi.specs.Widths.{PushesWide, Wide, WideOf, WideTitle, minor_where, minor_in, with_major, numbered_in}
use Rattle.capi.specs.Widths.{open_in, title_in}

-- ---- a number in a width

abbrev sized : Size → ℕ → Minor
sized Small n = m.Small n
sized One n = m.One n
sized Two n = m.Two n
sized Four n = m.Four n
sized Eight n = m.Eight n

-- A minor of this width holds the number, or no minor of this width does.
abbrev Decided : ℕ → ℕ → Option Minor → Type 0
Decided width n (Some minor) =
    (size : Size) × (n < size_limit size) × (minor ≡ sized size n) × (length (affix_of size n) ≡ width)
Decided width n None = (size : Size) → n < size_limit size → length (affix_of size n) ≡ width → ⊥

none_decided : (width n : ℕ) → (width ≡ 0 → 24 ≤ n) → (width ≡ 1 → 2 ^ 8 ≤ n) → (width ≡ 2 → 2 ^ 16 ≤ n)
    → (width ≡ 4 → 2 ^ 32 ≤ n) → (width ≡ 8 → 2 ^ 64 ≤ n) → Decided width n None
none_decided width n small one two four eight Small below same = omega (arith, below, small (sym same))
none_decided width n small one two four eight One below same = omega (arith, below, one (sym same))
none_decided width n small one two four eight Two below same = omega (arith, below, two (sym same))
none_decided width n small one two four eight Four below same = omega (arith, below, four (sym same))
none_decided width n small one two four eight Eight below same = omega (arith, below, eight (sym same))

choose : {A : Type 0} (P : A → Type 0) (test : Bool) (x y : A) → (test ≡ true → P x) → (test ≡ false → P y)
    → P (if test then x else y)
choose P true x y first second = first refl
choose P false x y first second = second refl

hold : (P : Option Minor → Type 0) (test : Bool) (minor : Minor) → (test ≡ true → P (Some minor))
    → (test ≡ false → P None) → P (minor_where test minor)
hold P true minor first second = first refl
hold P false minor first second = second refl

-- A test of the number decides whether a width of this size holds the number.
at_width : (size : Size) (width n : ℕ) → length (affix_of size n) ≡ width
    → (size_limit size ≤ n → Decided width n None)
    → Decided width n (minor_where (nat_lt n (size_limit size)) (sized size n))
at_width size width n wide none = hold (Decided width n) (nat_lt n (size_limit size)) (sized size n)
    (λ fits. (size, ltb-true n (size_limit size) fits, refl, wide))
    (λ fails. none (ltb-false n (size_limit size) fails))

decided : (width n : ℕ) → n < 2 ^ 64 → Decided width n (minor_in width n)
decided width n below =
    choose (Decided width n) (width == 0) _ _
    (λ is. let w = eqb-true width 0 is in at_width Small width n (sym w) (λ over.
    none_decided width n (λ e. over) (λ e. omega (arith, w, e)) (λ e. omega (arith, w, e)) (λ e. omega (arith, w, e))
    (λ e. omega (arith, w, e))))
    (λ not. let n0 = eqb-false width 0 not in
    choose (Decided width n) (width == 1) _ _
    (λ is. let w = eqb-true width 1 is in at_width One width n (sym w) (λ over.
    none_decided width n (λ e. omega (arith, w, e)) (λ e. over) (λ e. omega (arith, w, e)) (λ e. omega (arith, w, e))
    (λ e. omega (arith, w, e))))
    (λ not. let n1 = eqb-false width 1 not in
    choose (Decided width n) (width == 2) _ _
    (λ is. let w = eqb-true width 2 is in at_width Two width n (sym w) (λ over.
    none_decided width n (λ e. omega (arith, w, e)) (λ e. omega (arith, w, e)) (λ e. over) (λ e. omega (arith, w, e))
    (λ e. omega (arith, w, e))))
    (λ not. let n2 = eqb-false width 2 not in
    choose (Decided width n) (width == 4) _ _
    (λ is. let w = eqb-true width 4 is in at_width Four width n (sym w) (λ over.
    none_decided width n (λ e. omega (arith, w, e)) (λ e. omega (arith, w, e)) (λ e. omega (arith, w, e)) (λ e. over)
    (λ e. omega (arith, w, e))))
    (λ not. let n4 = eqb-false width 4 not in
    choose (Decided width n) (width == 8) _ _
    (λ is. let w = eqb-true width 8 is in (Eight, below, refl, sym w))
    (λ not. let n8 = eqb-false width 8 not in
    none_decided width n (λ e. absurd (n0 e)) (λ e. absurd (n1 e)) (λ e. absurd (n2 e)) (λ e. absurd (n4 e))
    (λ e. absurd (n8 e)))))))

-- ---- the title in a width

code_below : (major : Major) → major_code major < 8
code_below Unsigned = omega arith
code_below Negative = omega arith
code_below ByteString = omega arith
code_below TextString = omega arith
code_below Array = omega arith
code_below Map = omega arith
code_below Tag = omega arith
code_below Other = omega arith

minor_held : (size : Size) (n : ℕ) → n < size_limit size → IsMinor (sized size n)
minor_held Small n below = below
minor_held One n below = below
minor_held Two n below = below
minor_held Four n below = below
minor_held Eight n below = below

numbered_parts : (major : Major) (size : Size) (n : ℕ) → n < size_limit size
    → IsParts (record { major = major_code major; minor = sized size n })
numbered_parts major size n below = record { major = code_below major; minor = minor_held size n below }

numbered_bytes : (major : Major) (size : Size) (n : ℕ)
    → title_bytes (record { major = major_code major; minor = sized size n }) ≡ numbered_title major size n
numbered_bytes major Small n = refl
numbered_bytes major One n = refl
numbered_bytes major Two n = refl
numbered_bytes major Four n = refl
numbered_bytes major Eight n = refl

-- A number under a major type is a title, if each of its widths is one of the header's.
wide_number : (major : Major) (header : Header) (width n : ℕ) (minor : Option Minor) → Decided width n minor
    → ((size : Size) → n < size_limit size → length (affix_of size n) ≡ width
    → IsTitle (numbered_title major size n) header)
    → ((title : List ℕ) → IsTitle title header → HasNumber major n title)
    → Wide header width (with_major (major_code major) minor)
wide_number major header width n (Some minor) found gives only =
    let size = found.0 in
    let bytes = numbered_bytes major size n in
    let at : Wide header width (with_major (major_code major) (Some (sized size n))) = (
      numbered_parts major size n found.1,
      subst (λ (x : List ℕ). IsTitle x header) (sym bytes) (gives size found.1 found.3),
      ap length bytes ∙ ap suc found.3,
    ) in
    subst (λ (x : Minor). Wide header width (with_major (major_code major) (Some x))) (sym found.2) at
wide_number major header width n None none gives only = λ wide.
    let has = only wide.title wide.is_title in
    none has.0 has.1 (let counted = sym (ap length has.2) ∙ wide.wide in omega (arith, counted))

-- The title of an indefinite form or of a break has no bytes after its first one.
wide_open : (major : Major) (header : Header) (width : ℕ) → open_header major ≡ Some header
    → ((title : List ℕ) → IsTitle title header → title ≡ first_byte major 31 ∷ [])
    → Wide header width (open_in (major_code major) width)
wide_open major header width is only =
    choose (Wide header width) (width == 0) _ _
    (λ zero. (
      record { major = code_below major; minor = tt },
      alone major header is,
      ap suc (sym (eqb-true width 0 zero)),
    ))
    (λ not wide.
    let counted = sym (ap length (only wide.title wide.is_title)) ∙ wide.wide in
    eqb-false width 0 not (omega (arith, counted)))

-- The titles of the header have only one width.
wide_only : (header : Header) (width only : ℕ) (found : Option Title) → (width ≡ only → Wide header width found)
    → (WideTitle header width → width ≡ only) → Wide header width (if width == only then found else None)
wide_only header width only found there must =
    choose (Wide header width) (width == only) found None (λ is. there (eqb-true width only is))
    (λ not wide. eqb-false width only not (must wide))

-- The title of a float has the width of its size.
float_title_of : (size : Size) (header : Header) (width n : ℕ) → WideTitle header width
    → ((title : List ℕ) → IsTitle title header → title ≡ numbered_title Other size n)
    → width ≡ length (affix_of size n)
float_title_of size header width n wide only =
    let counted = sym (ap length (only wide.title wide.is_title)) ∙ wide.wide in omega (arith, counted)

-- A simple value stands in the first byte or in one byte after it.
simple_title : (size : Size) (n : ℕ) → n < size_limit size → length (affix_of size n) < 2
    → IsTitle (numbered_title Other size n) (h.Simple n)
simple_title Small n fits few = numbered Other Small n fits
simple_title One n fits few = numbered Other One n fits
simple_title Two n fits few = absurd (omega (arith, few))
simple_title Four n fits few = absurd (omega (arith, few))
simple_title Eight n fits few = absurd (omega (arith, few))

half_title : (size : Size) (n : ℕ) → n < size_limit size → length (affix_of size n) ≡ 2
    → IsTitle (numbered_title Other size n) (h.Float (f.Half n))
half_title Small n fits few = absurd (omega (arith, few))
half_title One n fits few = absurd (omega (arith, few))
half_title Two n fits few = numbered Other Two n fits
half_title Four n fits few = absurd (omega (arith, few))
half_title Eight n fits few = absurd (omega (arith, few))

single_title : (size : Size) (n : ℕ) → n < size_limit size → length (affix_of size n) ≡ 4
    → IsTitle (numbered_title Other size n) (h.Float (f.Single n))
single_title Small n fits few = absurd (omega (arith, few))
single_title One n fits few = absurd (omega (arith, few))
single_title Two n fits few = absurd (omega (arith, few))
single_title Four n fits few = numbered Other Four n fits
single_title Eight n fits few = absurd (omega (arith, few))

double_title : (size : Size) (n : ℕ) → n < size_limit size → length (affix_of size n) ≡ 8
    → IsTitle (numbered_title Other size n) (h.Float (f.Double n))
double_title Small n fits few = absurd (omega (arith, few))
double_title One n fits few = absurd (omega (arith, few))
double_title Two n fits few = absurd (omega (arith, few))
double_title Four n fits few = absurd (omega (arith, few))
double_title Eight n fits few = numbered Other Eight n fits

pub wide_found : (header : Header) (width : ℕ) → IsInRange header → Wide header width (title_in header width)
wide_found (h.Positive n) width below =
    wide_number Unsigned (h.Positive n) width n (minor_in width n) (decided width n below)
    (λ size fits wide. numbered Unsigned size n fits) (λ title is. title_of title (h.Positive n) is)
wide_found (h.Negative n) width below =
    wide_number Negative (h.Negative n) width n (minor_in width n) (decided width n below)
    (λ size fits wide. numbered Negative size n fits) (λ title is. title_of title (h.Negative n) is)
wide_found (h.Bytes (Some n)) width below =
    wide_number ByteString (h.Bytes (Some n)) width n (minor_in width n) (decided width n below)
    (λ size fits wide. numbered ByteString size n fits) (λ title is. title_of title (h.Bytes (Some n)) is)
wide_found (h.Bytes None) width below =
    wide_open ByteString (h.Bytes None) width refl (λ title is. title_of title (h.Bytes None) is)
wide_found (h.Text (Some n)) width below =
    wide_number TextString (h.Text (Some n)) width n (minor_in width n) (decided width n below)
    (λ size fits wide. numbered TextString size n fits) (λ title is. title_of title (h.Text (Some n)) is)
wide_found (h.Text None) width below =
    wide_open TextString (h.Text None) width refl (λ title is. title_of title (h.Text None) is)
wide_found (h.Array (Some n)) width below =
    wide_number Array (h.Array (Some n)) width n (minor_in width n) (decided width n below)
    (λ size fits wide. numbered Array size n fits) (λ title is. title_of title (h.Array (Some n)) is)
wide_found (h.Array None) width below =
    wide_open Array (h.Array None) width refl (λ title is. title_of title (h.Array None) is)
wide_found (h.Map (Some n)) width below =
    wide_number Map (h.Map (Some n)) width n (minor_in width n) (decided width n below)
    (λ size fits wide. numbered Map size n fits) (λ title is. title_of title (h.Map (Some n)) is)
wide_found (h.Map None) width below =
    wide_open Map (h.Map None) width refl (λ title is. title_of title (h.Map None) is)
wide_found (h.Tag n) width below =
    wide_number Tag (h.Tag n) width n (minor_in width n) (decided width n below)
    (λ size fits wide. numbered Tag size n fits) (λ title is. title_of title (h.Tag n) is)
wide_found (h.Simple n) width below =
    choose (Wide (h.Simple n) width) (nat_lt width 2) (numbered_in 7 width n) None
    (λ less. wide_number Other (h.Simple n) width n (minor_in width n) (decided width n (omega (arith, below)))
    (λ size fits wide. simple_title size n fits (omega (arith, wide, ltb-true width 2 less)))
    (λ title is. (title_of title (h.Simple n) is).0))
    (λ more wide. let short = (title_of wide.title (h.Simple n) wide.is_title).1 in
    omega (arith, short, wide.wide, ltb-false width 2 more))
wide_found (h.Float (f.Half n)) width below =
    let header = h.Float (f.Half n) in
    wide_only header width 2 (numbered_in 7 width n)
    (λ is. wide_number Other header width n (minor_in width n) (decided width n (omega (arith, below)))
    (λ size fits wide. half_title size n fits (wide ∙ is))
    (λ title is. (Two, below, title_of title header is)))
    (λ wide. float_title_of Two header width n wide (λ title is. title_of title header is))
wide_found (h.Float (f.Single n)) width below =
    let header = h.Float (f.Single n) in
    wide_only header width 4 (numbered_in 7 width n)
    (λ is. wide_number Other header width n (minor_in width n) (decided width n (omega (arith, below)))
    (λ size fits wide. single_title size n fits (wide ∙ is))
    (λ title is. (Four, below, title_of title header is)))
    (λ wide. float_title_of Four header width n wide (λ title is. title_of title header is))
wide_found (h.Float (f.Double n)) width below =
    let header = h.Float (f.Double n) in
    wide_only header width 8 (numbered_in 7 width n)
    (λ is. wide_number Other header width n (minor_in width n) (decided width n below)
    (λ size fits wide. double_title size n fits (wide ∙ is))
    (λ title is. (Eight, below, title_of title header is)))
    (λ wide. float_title_of Eight header width n wide (λ title is. title_of title header is))
wide_found h.Break width below = wide_open Other h.Break width refl (λ title is. title_of title h.Break is)

-- ---- the header that has the parts

rebuilt_of : (header : Header) → IsInRange header → rebuilt (kind_number header) (open_of header) (value_of header)
    ≡ Some header
rebuilt_of (h.Positive n) below = refl
rebuilt_of (h.Negative n) below = refl
rebuilt_of (h.Bytes (Some n)) below = refl
rebuilt_of (h.Bytes None) below = refl
rebuilt_of (h.Text (Some n)) below = refl
rebuilt_of (h.Text None) below = refl
rebuilt_of (h.Array (Some n)) below = refl
rebuilt_of (h.Array None) below = refl
rebuilt_of (h.Map (Some n)) below = refl
rebuilt_of (h.Map None) below = refl
rebuilt_of (h.Tag n) below = refl
rebuilt_of (h.Simple n) below =
    let same : n % 2 ^ 8 ≡ n = omega (arith, below) in ap (λ (x : ℕ). Some (h.Simple x)) same
rebuilt_of (h.Float (f.Half n)) below =
    let same : n % 2 ^ 16 ≡ n = omega (arith, below) in ap (λ (x : ℕ). Some (h.Float (f.Half x))) same
rebuilt_of (h.Float (f.Single n)) below =
    let same : n % 2 ^ 32 ≡ n = omega (arith, below) in ap (λ (x : ℕ). Some (h.Float (f.Single x))) same
rebuilt_of (h.Float (f.Double n)) below = refl
rebuilt_of h.Break below = refl

said : (parts : CllHeader) (header : Header) → IsInRange header → Says parts header
    → rebuilt parts.kind parts.indefinite parts.value ≡ Some header
said parts header below says = rw says.kind (rw says.indefinite (rw says.value (rebuilt_of header below)))

-- Only one header has these parts.
says_one : (parts : CllHeader) (one other : Header) → IsInRange one → IsInRange other → Says parts one
    → Says parts other → one ≡ other
says_one parts one other first second mine given =
    let same : Some one ≡ Some other = sym (said parts one first mine) ∙ said parts other second given in cc

-- A title of the header that has the parts is a title of the parts.
pub wide_of : (parts : CllHeader) (header : Header) (width : ℕ) (found : Option Title) → IsInRange header
    → Says parts header → Wide header width found → WideOf parts width found
wide_of parts header width (Some title) below says wide = (header, says, wide)
wide_of parts header width None below says none = λ other given wide.
    let same = says_one parts header other below (title_in_range wide.title other wide.is_title) says given in
    none (subst (λ (x : Header). WideTitle x width) (sym same) wide)

pub none_of : (parts : CllHeader) (width : ℕ) → IsNoHeader parts → WideOf parts width None
none_of parts width none = λ header says wide. none header (title_in_range wide.title header wide.is_title) says

-- ---- the bytes of a title

pub puts_wide : (parts : CllHeader) (width : ℕ) (title : Title) (old new : List ℕ) (answer : CllAnswer)
    (report : CllReport) → WideOf parts width (Some title) → Puts (title_bytes title) old answer new report
    → PushesWide parts width old answer new report
puts_wide parts width title old new a.Ok report of put = (
  of.0,
  of.1,
  record { title = title_bytes title; is_title = of.2.1; wide = of.2.2 },
  subst (λ (n : ℕ). new ≡ title_bytes title ++ drop n old) of.2.2 put.0,
  subst (λ (n : ℕ). Reports report 0 n 0) of.2.2 put.1,
)
puts_wide parts width title old new a.Room report of put = (
  of.0,
  of.1,
  record { title = title_bytes title; is_title = of.2.1; wide = of.2.2 },
  (let wide = of.2.2 in let less = put.0 in omega (arith, wide, less)),
  put.1,
  put.2,
)
puts_wide parts width title old new a.Short report of put = absurd put
puts_wide parts width title old new a.Syntax report of put = absurd put
puts_wide parts width title old new a.TooLong report of put = absurd put
puts_wide parts width title old new a.BreakDue report of put = absurd put
puts_wide parts width title old new a.TooDeep report of put = absurd put
puts_wide parts width title old new a.Argument report of put = absurd put
puts_wide parts width title old new a.NotShortest report of put = absurd put
puts_wide parts width title old new a.Indefinite report of put = absurd put
puts_wide parts width title old new a.KeyOrder report of put = absurd put
puts_wide parts width title old new a.DuplicateKey report of put = absurd put
puts_wide parts width title old new a.Absent report of put = absurd put
