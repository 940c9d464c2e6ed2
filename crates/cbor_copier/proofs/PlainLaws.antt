-- Elements that a copy keeps as they are: the table's entries for first bytes, and the spots that these elements lead
-- to.
use Rattle.std.proofs.Common.{◌⊎◌, false, get_or-take, length-drop, ◌^◌, ◌≡◌, ◌≢◌, ℕ, zero, suc, ◌+◌, ◌-◌, ◌*◌, ◌/◌}
use Rattle.std.proofs.Common.{◌%◌, ◌<◌, ◌≤◌, Bool, true, List, [], ◌∷◌}
use Rattle.std.proofs.Common.{◌++◌, ◌&&◌, ◌||◌, inl, inr, eqb, ltb, get_or, length, take, drop, slice_index, refl, sym}
use Rattle.std.proofs.Common.{ap, ◌∙◌, arith, append_assoc, append-nil, length-append, not, Some}
use Rattle.std.proofs.lemmas.Bool.{agree_below_at}
use Rattle.std.proofs.lemmas.Bool.Decides.{nat_tests}
use Rattle.std.proofs.lemmas.List.{length-take-le}
use Rattle.std.proofs.Math.Seq.{take-add}
use Rattle.std.specs.Array.{IsFirstChunk}
use Rattle.std.proofs.Common.{get_or-drop}
use Rattle.std.specs.Str.{IsAscii}
use Rattle.ciborium_ll_grammar.specs.declared.spelling.Spelling.{Spelling}
use Rattle.ciborium_ll_grammar.specs.declared.spelling.Spelling.TheVariants.{Any, Shortest}
use Rattle.ciborium_ll_grammar.specs.declared.hdr.Header.{Header}
use Rattle.ciborium_ll_grammar.specs.Items.{IsTakenTitle}
use Rattle.ciborium_ll_grammar.specs.declared.hdr.Header.TheVariants as h
use Rattle.ciborium_ll_grammar.specs.Title.{IsSmallSimple, IsStrictTitle}
use Rattle.ciborium_ll_grammar.specs.Title.{IsTitle, Major, Unsigned, Negative, ByteString, TextString, Array, Map, Tag}
use Rattle.ciborium_ll_grammar.specs.Title.{Other, Small, major_code, numbered, numbered_header, shortest_title}
use Rattle.ciborium_ll_grammar.specs.Title.{Size, One, Two, Four, Eight, least_size, affix_len, affix_of, alone}
use Rattle.ciborium_ll_grammar.specs.Title.{first_byte, minor_of, numbered_title, size_limit}
use Rattle.ciborium_ll_grammar.specs.declared.hdr.Minor.TheVariants as m
use Rattle.ciborium_ll_grammar.specs.Parts.{refused_when_strict}
use Rattle.ciborium_ll_grammar.proofs.AffixLaws.{refused_affix, title_or_refused}
use Rattle.ciborium_ll_grammar.proofs.TitleLaws.{minor_below}
use Rattle.ciborium_ll_grammar.specs.Title.{AreBytes}
use Rattle.ciborium_ll_grammar.proofs.LongerLaws.{minor_as, taken}
use Rattle.ciborium_ll_grammar.proofs.TightLaws.{tight_title}
use Rattle.ciborium_ll_grammar.proofs.TitleLaws.{shortest_some}
use Rattle.ciborium_ll_text.specs.declared.state.State.{State}
use Rattle.ciborium_ll_text.specs.declared.state.State.TheVariants as s
use Rattle.ciborium_ll_text.specs.States.{after}
use Rattle.ciborium_ll_text.specs.Text.{IsCharacters}
use Rattle.ciborium_ll_text.proofs.Lists.{Below, below_rest, below_take}
use Rattle.ciborium_ll_text.proofs.StateLaws.{ascii_stays, text_ends, text_from}
use Rattle.cbor_copier.specs.declared.phase.Phase.{Phase}
use Rattle.cbor_copier.specs.declared.phase.Phase.TheVariants as p
use Rattle.cbor_parser.specs.declared.strings.StringKind.{StringKind}
use Rattle.cbor_parser.specs.declared.strings.StringKind.TheVariants as k
use Rattle.cbor_parser.specs.declared.strings.Within.TheVariants as w
use Rattle.cbor_copier.specs.declared.plain.TheConstants.{LENS}
use Rattle.cbor_copier.specs.Plain.{AreKept, IsKept, IsLen, StaysShort, bare, one, more, string_of}
use Rattle.cbor_copier.specs.Spots.{Spot, IsPutOut, at_phase, body_due, body_phase, element_done, elements_due, entered}
use Rattle.cbor_copier.specs.Spots.{header_entered, putting}
use Rattle.cbor_copier.specs.Steps.{IsFed, counted_by}
use Rattle.cbor_copier.proofs.RunLaws.{body_given, title_given}
use Rattle.cbor_copier.proofs.StepLaws.{fed_allowed}

-- ---- the table

abbrev no_string : ℕ → Bool
no_string first = not (eqb (first / 32) 2) && not (eqb (first / 32) 3)

abbrev len_test : ℕ → ℕ → Bool
len_test first len =
    (eqb len 0 && not (ltb (first % 32) 24))
    || ((eqb len 1 && (ltb (first % 32) 24 && no_string first))
    || ((eqb len (1 + first % 32) && (ltb (first % 32) 24 && (eqb (first / 32) 2 || eqb (first / 32) 3)))
    || (eqb len (1 + affix_len (first % 32)) && (not (ltb (first % 32) 24) && (ltb (first % 32) 28 && no_string first)))))

len_tells : (first len : ℕ) → len_test first len ≡ true → IsLen first len
len_tells first len e = grind (arith, nat_tests)

-- The table has a true number for each of the 256 first bytes.
pub len_says : (first len : ℕ) → first < 256 → len ≡ get_or LENS first 0 → IsLen first len
len_says first len l len_is =
    let passes = agree_below_at (λ (b : ℕ). len_test b (get_or LENS b 0)) (λ (b : ℕ). true) 256 first refl l in
    len_tells first len (ap (λ (z : ℕ). len_test first z) len_is ∙ passes)

-- ---- text

-- ASCII bytes are a text.
pub ascii_text : (x : List ℕ) → IsAscii x → IsCharacters x
ascii_text x ascii = text_from x (sym (ascii_stays x ascii))

-- Bytes that end between two characters are a text.
pub state_text : (x : List ℕ) (state : State) → state ≡ after s.Between x → state ≡ s.Between → IsCharacters x
state_text x state behind between = text_from x (sym behind ∙ between)

-- Bytes that end inside a character, or are damaged, are no text.
pub state_no_text : (x : List ℕ) (state : State) → state ≡ after s.Between x → (state ≡ s.Between → ⊥)
    → IsCharacters x → ⊥
state_no_text x state behind inside text = inside (behind ∙ text_ends x text)

pub ruleset state_told = (state_text, state_no_text)

-- ---- the spot after an element

due_put : (left : ℕ) (out : List ℕ) (spot : Spot) → (elements_due left (putting out spot)).put ≡ out
due_put zero out spot = refl
due_put (suc left) out spot = refl

due_clear : (allowed : Spelling) (left n place offset : ℕ) (out : List ℕ)
    → putting [] (elements_due left (putting out (bare allowed n place offset)))
    ≡ elements_due left (bare allowed n place offset)
due_clear allowed zero n place offset out = refl
due_clear allowed (suc left) n place offset out = refl

due_left : (allowed : Spelling) (left n m place offset : ℕ)
    → elements_due left (bare allowed n place offset) ≡ elements_due left (bare allowed m place offset)
due_left allowed zero n m place offset = refl
due_left allowed (suc left) n m place offset = refl

bare_put : (allowed : Spelling) (left n place offset : ℕ) → (elements_due left (bare allowed n place offset)).put ≡ []
bare_put allowed zero n place offset = refl
bare_put allowed (suc left) n place offset = refl

bare_clear : (allowed : Spelling) (left n place offset : ℕ)
    → putting [] (elements_due left (bare allowed n place offset)) ≡ elements_due left (bare allowed n place offset)
bare_clear allowed zero n place offset = refl
bare_clear allowed (suc left) n place offset = refl

due_none : (allowed : Spelling) (left n place offset : ℕ) (phase : Phase)
    → (elements_due left (at_phase phase (bare allowed n place offset))).put ≡ []
due_none allowed zero n place offset phase = refl
due_none allowed (suc left) n place offset phase = refl

pub first_below : (b : ℕ) (xs : List ℕ) → Below (b ∷ xs) → Below (b ∷ [])
first_below b xs below zero less = below zero (omega arith)
first_below b xs below (suc i) less = absurd (omega (arith, less))

due_phase : (allowed : Spelling) (left n place offset : ℕ) (phase : Phase)
    → putting [] (elements_due left (at_phase phase (bare allowed n place offset)))
    ≡ elements_due left (bare allowed n place offset)
due_phase allowed zero n place offset phase = refl
due_phase allowed (suc left) n place offset phase = refl

-- A strict title is taken in both spellings.
pub strictly_taken : (allowed : Spelling) (title : List ℕ) (header : Header) → IsStrictTitle title header
    → IsTakenTitle allowed title header
strictly_taken Any title header strict = tt
strictly_taken Shortest title header strict = strict

-- A strict title that begins no string is kept.
kept_title : (title : List ℕ) (header : Header) → Below title → 0 < length title → IsTitle title header
    → IsStrictTitle title header → ((spot : Spot) → header_entered header spot ≡ element_done spot) → IsKept title
kept_title title header below some is strict ends allowed count left place offset fed out led =
    let n = length title in
    let at = bare allowed left offset (offset + n) in
    let new = element_done (putting (shortest_title header) at) in
    let put : title ++ [] ≡ [] ++ new.put =
    append-nil title ∙ (strict.shortest ∙ sym (due_put (left - 1) (shortest_title header) at)) in
    let gone = title_given allowed count n title header (bare allowed left place offset) new fed out [] title [] below
    some refl is (strictly_taken allowed title header strict) refl
    refl refl refl (sym (ends (putting (shortest_title header) at))) put
    (rw (append-nil (out ++ []), append-nil out) led) in
    rw (append-nil (out ++ title), due_clear allowed (left - 1) left offset (offset + n) (shortest_title header)) at
    gone

string_meant : (kind : StringKind) (len : ℕ) → IsSmallSimple (string_of kind len) → ⊥
string_meant k.Bytes len small = small
string_meant k.Text len small = small

-- A title of one byte that begins a string is the only one that a strict copier takes.
pub string_strict : (kind : StringKind) (len b : ℕ) → IsTitle (b ∷ []) (string_of kind len)
    → IsStrictTitle (b ∷ []) (string_of kind len)
string_strict k.Bytes len b q =
    record { shortest = tight_title (b ∷ []) _ q (shortest_some (h.Bytes (Some len))); meant = λ small. small }
string_strict k.Text len b q =
    record { shortest = tight_title (b ∷ []) _ q (shortest_some (h.Text (Some len))); meant = λ small. small }

enters_string : (kind : StringKind) (len : ℕ) (spot : Spot) → header_entered (string_of kind len) spot
    ≡ body_due kind len (record spot { place = spot.offset - length (shortest_title (string_of kind len)) })
enters_string k.Bytes len spot = refl
enters_string k.Text len spot = refl

body_put : (allowed : Spelling) (kind : StringKind) (len : ℕ) (out : List ℕ) (left place offset : ℕ)
    → (body_due kind len (putting out (bare allowed left place offset))).put ≡ out
body_put allowed kind zero out left place offset = due_put (left - 1) out (bare allowed left place offset)
body_put allowed kind (suc len) out left place offset = refl

-- After the title of a string, its body leads to the spot after the element.
string_on : (kind : StringKind) (title body : List ℕ) → Below body → IsPutOut kind body
    → (allowed : Spelling) (count left offset : ℕ) (fed out put : List ℕ)
    → IsFed allowed count (fed ++ title)
    (putting [] (body_due kind (length body) (putting put (bare allowed left offset (offset + length title)))))
    (out ++ title)
    → IsFed allowed count (fed ++ (title ++ body)) (elements_due (left - 1)
    (bare allowed left offset (offset + length (title ++ body))))
    (out ++ (title ++ body))
string_on kind title [] below whole allowed count left offset fed out put led =
    rw (append-nil title) (rw (due_clear allowed (left - 1) left offset (offset + length title) put) at led)
string_on kind title (x ∷ xs) below whole allowed count left offset fed out put led =
    let n = length (x ∷ xs) in
    let m = length title in
    let phase = body_phase kind n in
    let spot = at_phase phase (bare allowed left offset (offset + m)) in
    let far : offset + length (title ++ (x ∷ xs)) ≡ (offset + m) + n = omega (arith, length-append title (x ∷ xs)) in
    let none : n - n ≡ 0 = omega arith in
    let new = element_done (counted_by n spot) in
    let gone = body_given allowed kind count n (x ∷ xs) spot new (fed ++ title) (out ++ title) [] (x ∷ xs)
    below refl refl refl (omega arith) (omega arith) whole (rw none refl) refl
    (rw (append-nil ((out ++ title) ++ []), append-nil (out ++ title)) led) in
    rw (
      far,
      ← append_assoc fed title (x ∷ xs),
      ← append_assoc out title (x ∷ xs),
      ← due_phase allowed (left - 1) left offset
          ((offset + m) + n) phase,
    )
    (rw (due_none allowed (left - 1) left offset ((offset + m) + n) phase, append-nil ((out ++ title) ++ (x ∷ xs))) at
    gone)

-- A string with a strict title is kept.
kept_titled : (kind : StringKind) (title body : List ℕ) → Below title → Below body → 0 < length title
    → IsTitle title (string_of kind (length body)) → IsStrictTitle title (string_of kind (length body))
    → IsPutOut kind body → IsKept (title ++ body)
kept_titled kind title body below within some is strict whole allowed count left place offset fed out led =
    let header = string_of kind (length body) in
    let n = length title in
    let out1 = shortest_title header in
    let at = bare allowed left offset (offset + n) in
    let new = body_due kind (length body) (putting out1 at) in
    let long : n ≡ length out1 = ap (length {A = ℕ}) strict.shortest in
    let here : (offset + n) - length out1 ≡ offset = omega (arith, long) in
    let there : new ≡ entered w.Nothing header at =
    sym (enters_string kind (length body) (putting out1 at)
    ∙ ap (λ (z : ℕ). body_due kind (length body) (record (putting out1 at) { place = z })) here) in
    let put : title ++ [] ≡ [] ++ new.put =
    append-nil title ∙ (strict.shortest ∙ sym (body_put allowed kind (length body) out1 left offset (offset + n))) in
    let gone = title_given allowed count n title header (bare allowed left place offset) new fed out [] title []
    below some refl is (strictly_taken allowed title header strict) refl refl refl refl there put
    (rw (append-nil (out ++ []), append-nil out) led) in
    string_on kind title body within whole allowed count left offset fed out out1
    (rw (append-nil (out ++ title)) at gone)

kept_string : (kind : StringKind) (b : ℕ) (body : List ℕ) → Below (b ∷ body)
    → IsTitle (b ∷ []) (string_of kind (length body)) → IsPutOut kind body → IsKept (b ∷ body)
kept_string kind b body below is whole =
    kept_titled kind (b ∷ []) body (first_below b body below) (below_rest b body below) (omega arith) is
    (string_strict kind (length body) b is) whole

-- ---- titles that begin no string

-- A major type that begins no string.
record PlainMajor (code : ℕ) : Type 0 where
  major : Major
  is : major_code major ≡ code
  ends : (n : ℕ) (spot : Spot) → header_entered (numbered_header major Small n) spot ≡ element_done spot

major_of : (code : ℕ) → code < 8 → code ≢ 2 → code ≢ 3 → PlainMajor code
major_of zero less two three = record { major = Unsigned; is = refl; ends = λ n s. refl }
major_of (suc zero) less two three = record { major = Negative; is = refl; ends = λ n s. refl }
major_of (suc (suc zero)) less two three = absurd (two refl)
major_of (suc (suc (suc zero))) less two three = absurd (three refl)
major_of (suc (suc (suc (suc zero)))) less two three = record { major = Array; is = refl; ends = λ n s. refl }
major_of (suc (suc (suc (suc (suc zero))))) less two three = record { major = Map; is = refl; ends = λ n s. refl }
major_of (suc (suc (suc (suc (suc (suc zero)))))) less two three = record { major = Tag; is = refl; ends = λ n s. refl }
major_of (suc (suc (suc (suc (suc (suc (suc zero))))))) less two three =
    record { major = Other; is = refl; ends = λ n s. refl }
major_of (suc (suc (suc (suc (suc (suc (suc (suc code)))))))) less two three = absurd (omega (arith, less))

pub small_title : (b : ℕ) (major : Major) → major_code major ≡ b / 32 → b % 32 < 24
    → IsTitle (b ∷ []) (numbered_header major Small (b % 32))
small_title b major is small =
    let parts : 32 * major_code major + b % 32 ≡ b = omega (arith, is) in
    rw parts at (numbered major Small (b % 32) small)

small_strict : (b : ℕ) (major : Major) → major_code major ≡ b / 32 → b % 32 < 24
    → IsStrictTitle (b ∷ []) (numbered_header major Small (b % 32))
small_strict b major is small =
    let parts : 32 * major_code major + b % 32 ≡ b = omega (arith, is) in
    rw parts at (taken major Small (b % 32) small refl)

-- ---- elements one after another

-- One more kept element follows the kept elements before.
pub kept_more : (last most left at len : ℕ) (xs : List ℕ) → at ≤ length xs → 0 < left → left ≤ most
    → (at ≡ 0 → left ≡ most) → (0 < at → AreKept (most - left) last (take at xs)) → IsKept (take len (drop at xs))
    → AreKept (most - (left - 1)) at (take (at + len) xs)
kept_more last most left zero len xs le some fits none so_far item =
    let all : left ≡ most = none refl in
    let count : 1 ≡ most - (left - 1) = omega (arith, all, some) in
    let far : len ≡ 0 + len = omega arith in
    rw (← count, ← far) (one item)
kept_more last most left (suc at) len xs le some fits none so_far item =
    let count : suc (most - left) ≡ most - (left - 1) = omega (arith, some, fits) in
    rw (take-add (suc at) len xs) (rw (count, length-take-le (suc at) xs le) at (more (so_far (omega arith)) item))

-- Kept elements lead to the spot after them, and go out as they are.
pub kept_run : (n last : ℕ) (xs : List ℕ) → AreKept n last xs → (allowed : Spelling) (count left place offset : ℕ)
    (fed out : List ℕ) → n ≤ left → IsFed allowed count fed (bare allowed left place offset) out
    → IsFed allowed count (fed ++ xs)
    (elements_due (left - n) (bare allowed left (offset + last) (offset + length xs))) (out ++ xs)
kept_run n last xs (one item) allowed count left place offset fed out some led =
    let here : offset ≡ offset + 0 = omega arith in
    rw (← here) (item allowed count left place offset fed out led)
kept_run n last xs (more {count = before} {last = last'} {bytes} {item} run kept) allowed count left place offset fed
    out
    some led =
    let m = left - suc before in
    let still : left - before ≡ suc m = omega (arith, some) in
    let less : before ≤ left = omega (arith, some) in
    let back : suc m - 1 ≡ m = omega arith in
    let far : (offset + length bytes) + length item ≡ offset + length (bytes ++ item) =
    omega (arith, length-append bytes item) in
    let gone = kept_run before last' bytes run allowed count left place offset fed out less led in
    let next = kept allowed count (suc m) (offset + last') (offset + length bytes) (fed ++ bytes) (out ++ bytes)
    (rw still at gone) in
    rw (← append_assoc fed bytes item, ← append_assoc out bytes item)
    (rw (back, due_left allowed m (suc m) left (offset + length bytes) ((offset + length bytes) + length item), far) at
    next)

-- A run of kept elements is given at once. `front` is the part of the room that was written before, and `end` is the
-- part that is written then.
pub run_given : (allowed : Spelling) (count n last left : ℕ) (xs : List ℕ) (spot new : Spot)
    (fed given front end : List ℕ) → AreKept n last xs
    → spot.phase ≡ p.Title → spot.within ≡ w.Nothing → spot.front ≡ [] → spot.put ≡ [] → n ≡ spot.left - left
    → left ≤ spot.left
    → new ≡ elements_due left (record spot { place = spot.offset + last; offset = spot.offset + length xs })
    → end ≡ front ++ xs → IsFed allowed count fed (putting [] spot) ((given ++ front) ++ spot.put)
    → IsFed allowed count (fed ++ xs) (putting [] new) ((given ++ end) ++ new.put)
run_given allowed count n last left xs spot new fed given front end run at inside clear none counts fits e all is =
    let same : spot.allowed ≡ allowed = fed_allowed allowed count fed _ (putting [] spot) is in
    let begin : putting [] spot ≡ bare allowed spot.left spot.place spot.offset = rw (at, inside, clear, same) in
    let still : spot.left - n ≡ left = omega (arith, counts, fits) in
    let there : new ≡ elements_due left (bare allowed spot.left (spot.offset + last) (spot.offset + length xs)) =
    e ∙ rw (at, inside, clear, none, same) in
    let behind = kept_run n last xs run allowed count spot.left spot.place spot.offset fed (given ++ front)
    (omega (arith, counts)) (rw (begin, none, append-nil (given ++ front)) at is) in
    rw (
      there,
      all,
      bare_put allowed left spot.left (spot.offset + last) (spot.offset + length xs),
      bare_clear allowed left spot.left (spot.offset + last) (spot.offset + length xs),
      append-nil (given ++ (front ++ xs)),
      ← append_assoc given front xs,
    ) (rw still at behind)

-- ---- longer titles

short_one : (k n b : ℕ) → n < 2 ^ 8 → 32 * k + 24 ≡ b → 24 ≤ n → (224 ≤ b → 32 ≤ n) → refused_when_strict k (m.One n) ≡ false
short_one k n b fits parts least simple = grind (arith, nat_tests)

short_two : (k n b : ℕ) → n < 2 ^ 16 → 32 * k + 25 ≡ b → k < 8 → (b < 224 → 2 ^ 8 ≤ n) → refused_when_strict k (m.Two n) ≡ false
short_two k n b fits parts major least = grind (arith, nat_tests)

short_four : (k n b : ℕ) → n < 2 ^ 32 → 32 * k + 26 ≡ b → k < 8 → (b < 224 → 2 ^ 16 ≤ n) → refused_when_strict k (m.Four n) ≡ false
short_four k n b fits parts major least = grind (arith, nat_tests)

short_eight : (k n b : ℕ) → n < 2 ^ 64 → 32 * k + 27 ≡ b → k < 8 → (b < 224 → 2 ^ 32 ≤ n) → refused_when_strict k (m.Eight n) ≡ false
short_eight k n b fits parts major least = grind (arith, nat_tests)

code_below : (k : Major) → major_code k < 8
code_below k = grind arith

short_by : (k : Major) (s : Size) (n b : ℕ) (v : List ℕ) → n < size_limit s → first_byte k (minor_of s n) ≡ b
    → affix_of s n ≡ v → StaysShort b v → refused_when_strict (major_code k) (minor_as s n) ≡ false
short_by k Small n b v fits head tail stays = refl
short_by k One n b v fits head tail stays =
    let at : b % 32 ≡ 24 = omega (arith, head) in
    let x : get_or v 0 0 ≡ n % 256 = ap (λ (z : List ℕ). get_or z 0 0) (sym tail) in
    short_one (major_code k) n b fits head (omega (arith, (stays.0 at).0, x, fits)) (λ high. omega (arith, (stays.0 at).1 high, x, fits))
short_by k Two n b v fits head tail stays =
    let at : b % 32 ≡ 25 = omega (arith, head) in
    let x : get_or v 0 0 ≡ n / 256 % 256 = ap (λ (z : List ℕ). get_or z 0 0) (sym tail) in
    short_two (major_code k) n b fits head (code_below k) (λ low. omega (arith, stays.1 at low, x))
short_by k Four n b v fits head tail stays =
    let at : b % 32 ≡ 26 = omega (arith, head) in
    let x : get_or v 0 0 ≡ n / 16777216 % 256 = ap (λ (z : List ℕ). get_or z 0 0) (sym tail) in
    let y : get_or v 1 0 ≡ n / 65536 % 256 = ap (λ (z : List ℕ). get_or z 1 0) (sym tail) in
    short_four (major_code k) n b fits head (code_below k) (λ low. omega (arith, stays.2 at low, x, y))
short_by k Eight n b v fits head tail stays =
    let at : b % 32 ≡ 27 = omega (arith, head) in
    let x : get_or v 0 0 ≡ n / 2 ^ 56 % 256 = ap (λ (z : List ℕ). get_or z 0 0) (sym tail) in
    let y : get_or v 1 0 ≡ n / 2 ^ 48 % 256 = ap (λ (z : List ℕ). get_or z 1 0) (sym tail) in
    let z : get_or v 2 0 ≡ n / 2 ^ 40 % 256 = ap (λ (z : List ℕ). get_or z 2 0) (sym tail) in
    let w : get_or v 3 0 ≡ n / 2 ^ 32 % 256 = ap (λ (z : List ℕ). get_or z 3 0) (sym tail) in
    short_eight (major_code k) n b fits head (code_below k) (λ low. omega (arith, stays.3 at low, x, y, z, w))

ends_plain : (k : Major) (s : Size) (n : ℕ) → major_code k ≢ 2 → major_code k ≢ 3 → (spot : Spot)
    → header_entered (numbered_header k s n) spot ≡ element_done spot
ends_plain Unsigned s n two three spot = refl
ends_plain Negative s n two three spot = refl
ends_plain ByteString s n two three spot = absurd (two refl)
ends_plain TextString s n two three spot = absurd (three refl)
ends_plain Array s n two three spot = refl
ends_plain Map s n two three spot = refl
ends_plain Tag s n two three spot = refl
ends_plain Other Small n two three spot = refl
ends_plain Other One n two three spot = refl
ends_plain Other Two n two three spot = refl
ends_plain Other Four n two three spot = refl
ends_plain Other Eight n two three spot = refl

kept_wide : (t : List ℕ) (header : Header) (b : ℕ) (v : List ℕ) → IsTitle t header → t ≡ b ∷ v → Below t
    → 24 ≤ b % 32 → b % 32 < 28 → b / 32 ≢ 2 → b / 32 ≢ 3 → StaysShort b v → IsKept t
kept_wide t header b v (alone k x o) e below least most two three stays =
    let head : first_byte k 31 ≡ b = cc in
    absurd (omega (arith, head, most))
kept_wide t header b v (numbered k s n fits) e below least most two three stays =
    let head : first_byte k (minor_of s n) ≡ b = cc in
    let tail : affix_of s n ≡ v = cc in
    let code : major_code k ≡ b / 32 = omega (arith, head, minor_below s n fits) in
    kept_title (numbered_title k s n) (numbered_header k s n) below (omega arith) (numbered k s n fits)
    (taken k s n fits (short_by k s n b v fits head tail stays))
    (ends_plain k s n (λ is. two (sym code ∙ is)) (λ is. three (sym code ∙ is)))

none_long : (minor : ℕ) → 24 ≤ minor → minor < 28 → affix_len minor ≡ 0 → ⊥
none_long minor least most none = grind (arith, nat_tests)

bytes_of : (xs : List ℕ) → Below xs → AreBytes xs
bytes_of [] below = tt
bytes_of (x ∷ xs) below = (below 0 (omega arith), bytes_of xs (below_rest x xs below))

front_at : (b : ℕ) (n : ℕ) (xs : List ℕ) → 0 < length xs → slice_index xs 0 ≡ b
    → take (suc n) xs ≡ b ∷ take n (drop 1 xs)
front_at b n [] some first = absurd (omega (arith, some))
front_at b n (x ∷ xs) some first = rw first refl

-- A title with an affix is kept, if the title begins no string and is the shortest of its header.
kept_long : (xs : List ℕ) (n b : ℕ) → Below xs → suc n ≤ length xs → slice_index xs 0 ≡ b
    → n ≡ affix_len (b % 32) → 24 ≤ b % 32 → b % 32 < 28 → b / 32 ≢ 2 → b / 32 ≢ 3
    → StaysShort b (take n (drop 1 xs)) → IsKept (take (suc n) xs)
kept_long xs n b below le first long least most two three stays =
    let v = take n (drop 1 xs) in
    let front = front_at b n xs (omega (arith, le)) first in
    let within : Below (take (suc n) xs) = below_take (suc n) xs le below in
    let all : Below (b ∷ v) = rw front at within in
    let fits : b < 256 = all 0 (omega arith) in
    let far : n ≤ length (drop 1 xs) = omega (arith, length-drop 1 xs, le) in
    let count : length v ≡ affix_len (b % 32) = length-take-le n (drop 1 xs) far ∙ long in
    rw front (elim (title_or_refused b v fits (bytes_of v (below_rest b v all)) count) [
      | inl refused ↦ absurd (none_long (b % 32) least most (refused_affix b refused))
      | inr titled ↦ kept_wide (b ∷ v) titled.0 b v titled.1 refl all least most two three stays
    ])

-- The same of the bytes of the affix alone.
stays_taken : (b n : ℕ) (xs : List ℕ) → n ≡ affix_len (b % 32) → StaysShort b xs → StaysShort b (take n xs)
stays_taken b n xs long stays =
    let same : (i : ℕ) → i < n → slice_index (take n xs) i ≡ slice_index xs i = λ i less. get_or-take n xs i 0 less in (
      λ at. let fits : 0 < n = rw (long, at) (omega arith) in rw (same 0 fits) (stays.0 at),
      λ at. let fits : 0 < n = rw (long, at) (omega arith) in rw (same 0 fits) (stays.1 at),
      λ at.
          let fits : 1 < n = rw (long, at) (omega arith) in rw (same 0 (omega (arith, fits)), same 1 fits) (stays.2 at),
      λ at.
          let fits : 3 < n = rw (long, at) (omega arith) in
          rw (same 0 (omega (arith, fits)), same 1 (omega (arith, fits)), same 2 (omega (arith, fits)), same 3 fits)
          (stays.3 at),
    )

-- ---- the element of a first byte, by the number in the table

-- A first byte that holds its number has no longer title.
pub small_stays : (b : ℕ) (v : List ℕ) → b % 32 < 24 → StaysShort b v
small_stays b v small = (
  λ at. absurd (omega (arith, at, small)),
  λ at. absurd (omega (arith, at, small)),
  λ at. absurd (omega (arith, at, small)),
  λ at. absurd (omega (arith, at, small)),
)

-- The number of a string in the table stands in its first byte.
pub string_small : (b len : ℕ) → IsLen b len → 0 < len → (b / 32 ≡ 2) ⊎ (b / 32 ≡ 3) → b % 32 < 24
string_small b len (inl none) some kind = absurd (omega (arith, none.0, some))
string_small b len (inr (inl v)) some kind = v.1
string_small b len (inr (inr (inl v))) some kind = v.1
string_small b len (inr (inr (inr v))) some (inl two) = absurd (v.3 two)
string_small b len (inr (inr (inr v))) some (inr three) = absurd (v.4 three)

-- A title in the table that begins no string has at most nine bytes.
title_most : (b len : ℕ) → IsLen b len → b / 32 ≢ 2 → b / 32 ≢ 3 → len ≤ 9
title_most b len (inl none) two three = omega (arith, none.0)
title_most b len (inr (inl v)) two three = omega (arith, v.0)
title_most b len (inr (inr (inl v))) two three = elim v.2 [
  | inl is ↦ absurd (two is)
  | inr is ↦ absurd (three is)
]
title_most b len (inr (inr (inr v))) two three = rw v.0 (grind (arith, nat_tests))

-- Bytes of the length in the table are kept, if a text's body is text, and the title is the shortest.
pub kept_by : (xs : List ℕ) (len : ℕ) → Below xs → 0 < length xs → IsLen (slice_index xs 0) len → 0 < len
    → len ≤ length xs → (slice_index xs 0 / 32 ≡ 3 → IsCharacters (take (len - 1) (drop 1 xs)))
    → StaysShort (slice_index xs 0) (drop 1 xs) → IsKept (take len xs)
kept_by [] len below some is least le text stays = absurd (omega (arith, some))
kept_by (b ∷ xs) len below some (inl none) least le text stays = absurd (omega (arith, none.0, least))
kept_by (b ∷ xs) len below some (inr (inl v)) least le text stays =
    let m = major_of (b / 32) (omega (arith, below 0 (omega arith))) v.2 v.3 in
    let title = small_title b m.major m.is v.1 in
    let header = numbered_header m.major Small (b % 32) in
    rw v.0 (kept_title (b ∷ []) header (first_below b xs below) (omega arith) title
    (small_strict b m.major m.is v.1) (m.ends (b % 32)))
kept_by (b ∷ xs) len below some (inr (inr (inl v))) least le text stays =
    let n = b % 32 in
    let e : len ≡ suc n = omega (arith, v.0) in
    let less : n ≤ length xs = omega (arith, e, le) in
    let long : length (take n xs) ≡ n = length-take-le n xs less in
    let within : Below (b ∷ take n xs) = below_take (suc n) (b ∷ xs) (omega (arith, less)) below in
    elim v.2 [
      | inl two ↦ rw e (kept_string k.Bytes b (take n xs) within (rw long (small_title b ByteString (sym two) v.1)) tt)
      | inr three ↦ (
          let body : len - 1 ≡ n = omega (arith, e) in
          rw e (kept_string k.Text b (take n xs) within (rw long (small_title b TextString (sym three) v.1))
          (rw body at (text three)))
          )
    ]
kept_by (b ∷ xs) len below some (inr (inr (inr v))) least le text stays =
    let n = affix_len (b % 32) in
    let e : len ≡ suc n = omega (arith, v.0) in
    rw e (kept_long (b ∷ xs) n b below (omega (arith, v.0, le)) refl refl v.1 v.2 v.3 v.4 (stays_taken b n xs refl stays))

-- A title in the table that begins no string and is the shortest is kept.
pub title_kept : (xs : List ℕ) (len : ℕ) → Below xs → 0 < length xs → IsLen (slice_index xs 0) len → 0 < len
    → len ≤ length xs → slice_index xs 0 / 32 ≢ 3 → StaysShort (slice_index xs 0) (drop 1 xs) → IsKept (take len xs)
title_kept xs len below some is least le three stays =
    kept_by xs len below some is least le (λ text. absurd (three text)) stays

-- The same, by the first nine bytes.
pub front_kept : (xs front : List ℕ) (len : ℕ) → Below xs → IsFirstChunk xs front 9 → IsLen (slice_index xs 0) len
    → 0 < len → slice_index xs 0 / 32 ≢ 2 → slice_index xs 0 / 32 ≢ 3
    → StaysShort (slice_index front 0) (drop 1 front) → IsKept (take len xs)
front_kept xs front len below chunk is least two three stays =
    let same : (i : ℕ) → i < 9 → slice_index front i ≡ slice_index xs i =
    λ i less. rw chunk.same (get_or-take 9 xs i 0 less) in
    let after : (i : ℕ) → i < 8 → slice_index (drop 1 front) i ≡ slice_index (drop 1 xs) i =
    λ i less. get_or-drop 1 front i 0 ∙ (same (1 + i) (omega (arith, less)) ∙ sym (get_or-drop 1 xs i 0)) in
    title_kept xs len below (omega (arith, chunk.enough)) is least
    (omega (arith, chunk.enough, title_most (slice_index xs 0) len is two three)) three
    (rw (same 0 (omega arith), after 0 (omega arith), after 1 (omega arith), after 2 (omega arith), after 3 (omega arith))
    at stays)

-- ---- strings of 24 to 255 bytes

two_below : (b n : ℕ) (xs : List ℕ) → Below (b ∷ n ∷ xs) → Below (b ∷ n ∷ [])
two_below b n xs below zero less = below zero (omega arith)
two_below b n xs below (suc zero) less = below (suc zero) (omega arith)
two_below b n xs below (suc (suc i)) less = absurd (omega (arith, less))

-- The title of a length of one byte is the shortest from 24 on.
long_title : (b n : ℕ) (major : Major) → major_code major ≡ b / 32 → b % 32 ≡ 24 → n < 256
    → numbered_title major One n ≡ b ∷ n ∷ []
long_title b n major is at less =
    let first : first_byte major 24 ≡ b = omega (arith, is, at) in
    let same : n % 256 ≡ n = omega (arith, less) in
    rw (first, same) refl

long_kept : (kind : StringKind) (b n : ℕ) (xs : List ℕ) (major : Major) → Below (b ∷ n ∷ xs)
    → major_code major ≡ b / 32 → b % 32 ≡ 24 → 24 ≤ n → n ≤ length xs
    → numbered_header major One n ≡ string_of kind n
    → shortest_title (string_of kind n) ≡ numbered_title major (least_size n) n
    → IsPutOut kind (take n xs) → IsKept (b ∷ n ∷ take n xs)
long_kept kind b n xs major below is at least le header short whole =
    let less : n < 256 = below 1 (omega arith) in
    let long : length (take n xs) ≡ n = length-take-le n xs le in
    let title = long_title b n major is at less in
    let size : least_size n ≡ One = grind (arith, nat_tests) in
    let is_title : IsTitle (b ∷ n ∷ []) (string_of kind n) = rw (title, header) at (numbered major One n less) in
    let spelled : b ∷ n ∷ [] ≡ shortest_title (string_of kind n) = sym (short ∙ (rw size refl ∙ title)) in
    let strict : IsStrictTitle (b ∷ n ∷ []) (string_of kind n) =
    record { shortest = spelled; meant = string_meant kind n } in
    kept_titled kind (b ∷ n ∷ []) (take n xs) (two_below b n xs below)
    (below_take n xs le (below_rest n xs (below_rest b (n ∷ xs) below))) (omega arith) (rw long is_title)
    (rw long strict) whole

-- A string whose length stands in one byte is kept, if its title is the shortest and a text's body is text.
pub long_string : (xs : List ℕ) (b : ℕ) → Below xs → slice_index xs 0 ≡ b → (b / 32 ≡ 2) ⊎ (b / 32 ≡ 3)
    → b % 32 ≡ 24 → 24 ≤ slice_index xs 1 → 2 + slice_index xs 1 ≤ length xs
    → (b / 32 ≡ 3 → IsCharacters (take (slice_index xs 1) (drop 2 xs))) → IsKept (take (2 + slice_index xs 1) xs)
long_string [] b below first kind at least le text = absurd (omega (arith, le))
long_string (a ∷ []) b below first kind at least le text = absurd (omega (arith, le))
long_string (a ∷ n ∷ xs) b below first kind at least le text =
    let within : n ≤ length xs = omega (arith, le) in
    let head : a % 32 ≡ 24 = omega (arith, first, at) in
    let far : 2 + n ≡ suc (suc n) = omega arith in
    rw far (elim kind [
      | inl two ↦ long_kept k.Bytes a n xs ByteString below (omega (arith, first, two)) head least within refl refl tt
      | inr three ↦ long_kept k.Text a n xs TextString below (omega (arith, first, three)) head least within refl refl
          (text three)
    ])
