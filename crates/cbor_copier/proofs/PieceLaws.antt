-- Pieces of an open string that a copy keeps as they are.
use Rattle.std.proofs.Common.{◌≡◌, ℕ, zero, suc, ◌+◌, ◌-◌, ◌/◌, ◌%◌, ◌<◌, ◌≤◌, List, [], ◌∷◌, ◌++◌, length, take, drop}
use Rattle.std.proofs.Common.{slice_index, refl, subst, sym, ap, ◌∙◌, ◌*◌, arith, append_assoc, append-nil}
use Rattle.std.proofs.Common.{length-append}
use Rattle.std.proofs.lemmas.Bool.Decides.{nat_tests}
use Rattle.std.proofs.lemmas.List.{length-take-le}
use Rattle.std.proofs.Math.Seq.{take-add, take-append_seam}
use Rattle.ciborium_ll_grammar.specs.declared.spelling.Spelling.{Spelling}
use Rattle.ciborium_ll_grammar.specs.Title.{ByteString, IsTitle, Major, Small, TextString, major_code, numbered_header}
use Rattle.ciborium_ll_grammar.specs.Title.{Eight, Four, One, Size, Two, least_size, numbered_title, shortest_title}
use Rattle.ciborium_ll_text.specs.Text.{IsCharacters}
use Rattle.ciborium_ll_text.proofs.Lists.{Below, below_rest, below_take}
use Rattle.cbor_copier.specs.declared.phase.Phase.TheVariants as p
use Rattle.cbor_parser.specs.declared.strings.StringKind.{StringKind}
use Rattle.cbor_parser.specs.declared.strings.StringKind.TheVariants as k
use Rattle.cbor_parser.specs.declared.strings.Within.{Within}
use Rattle.cbor_parser.specs.declared.strings.Within.TheVariants as w
use Rattle.cbor_copier.specs.Plain.{ArePieces, AreWithin, BeginsPiece, inside, string_of}
use Rattle.cbor_copier.specs.Spots.{Spot, IsPutOut, at_phase, body_due, body_phase, putting}
use Rattle.cbor_copier.specs.Steps.{IsFed, counted_by, more, titled, whole, with_byte}
use Rattle.cbor_copier.proofs.PlainLaws.{small_title, strictly_taken, string_strict}
use Rattle.cbor_copier.proofs.RunLaws.{body_given}
use Rattle.cbor_copier.proofs.StepLaws.{fed_allowed}

-- The spot after the title of a piece.
enters_piece : (kind : StringKind) (len b within left place offset : ℕ) (allowed : Spelling)
    → titled (string_of kind len) (with_byte b (inside allowed kind within left place offset))
    ≡ body_due kind len (putting (shortest_title (string_of kind len))
    (inside allowed kind within left offset (offset + 1)))
enters_piece k.Bytes len b within left place offset allowed = refl
enters_piece k.Text len b within left place offset allowed = refl

body_put : (kind : StringKind) (len : ℕ) (put : List ℕ) (allowed : Spelling) (within left place offset : ℕ)
    → (body_due kind len (putting put (inside allowed kind within left place offset))).put ≡ put
body_put kind zero put allowed within left place offset = refl
body_put kind (suc len) put allowed within left place offset = refl

-- After the title of a piece, its body leads to the spot after the piece.
body_on : (kind : StringKind) (b : ℕ) (body put : List ℕ) → Below body → IsPutOut kind body
    → (allowed : Spelling) (count within left offset : ℕ) (fed out : List ℕ)
    → IsFed allowed count (fed ++ b ∷ [])
    (putting [] (body_due kind (length body) (putting put (inside allowed kind within left offset (offset + 1)))))
    (out ++ b ∷ [])
    → IsFed allowed count (fed ++ b ∷ body) (inside allowed kind within left offset (offset + length (b ∷ body)))
    (out ++ b ∷ body)
body_on kind b [] put below is_put allowed count within left offset fed out led =
    let far : offset + 1 ≡ offset + length (b ∷ []) = refl in
    rw far at led
body_on kind b (x ∷ xs) put below is_put allowed count within left offset fed out led =
    let n = length (x ∷ xs) in
    let spot = at_phase (body_phase kind n) (inside allowed kind within left offset (offset + 1)) in
    let none : n - n ≡ 0 = omega arith in
    let far : offset + length (b ∷ x ∷ xs) ≡ (offset + 1) + n = omega arith in
    let new = at_phase p.Title (counted_by n spot) in
    let gone = body_given allowed kind count n (x ∷ xs) spot new (fed ++ b ∷ []) (out ++ b ∷ []) [] (x ∷ xs)
    below refl refl refl (omega arith) (omega arith) is_put (rw none refl) refl
    (rw (append-nil ((out ++ b ∷ []) ++ []), append-nil (out ++ b ∷ [])) led) in
    rw (far, ← append_assoc fed (b ∷ []) (x ∷ xs), ← append_assoc out (b ∷ []) (x ∷ xs))
    (rw (append-nil ((out ++ b ∷ []) ++ (x ∷ xs))) at gone)

-- A string with a title of one byte is such a piece.
piece : (kind : StringKind) (b : ℕ) (body : List ℕ) → Below (b ∷ body)
    → IsTitle (b ∷ []) (string_of kind (length body)) → IsPutOut kind body → ArePieces kind 0 (b ∷ body)
piece kind b body below is is_put allowed count within left place offset fed out led =
    let len = length body in
    let header = string_of kind len in
    let strict = string_strict kind len b is in
    let old = with_byte b (inside allowed kind within left place offset) in
    let next : IsFed allowed count (fed ++ b ∷ []) (putting [] (titled header old)) (out ++ (titled header old).put) =
    more b (titled header old) (below 0 (omega arith)) led
    (whole header is (strictly_taken allowed (b ∷ []) header strict)) in
    let same = enters_piece kind len b within left place offset allowed in
    let here : offset ≡ offset + 0 = omega arith in
    rw (← here)
    (body_on kind b body (b ∷ []) (below_rest b body below) is_put allowed count within left offset fed out
    (rw (same, body_put kind len (shortest_title header) allowed within left offset (offset + 1), ← strict.shortest) at
    next))

piece_of : (kind : StringKind) (xs : List ℕ) (len : ℕ) → Below xs → 0 < length xs → len ≡ 1 + slice_index xs 0 % 32
    → slice_index xs 0 % 32 < 24 → len ≤ length xs → (major : Major) → major_code major ≡ slice_index xs 0 / 32
    → ((n : ℕ) → numbered_header major Small n ≡ string_of kind n) → IsPutOut kind (take (len - 1) (drop 1 xs))
    → ArePieces kind 0 (take len xs)
piece_of kind [] len below some long small le major is same is_put = absurd (omega (arith, some))
piece_of kind (b ∷ xs) len below some long small le major is same is_put =
    let n = b % 32 in
    let e : len ≡ suc n = omega (arith, long) in
    let back : len - 1 ≡ n = omega (arith, e) in
    let less : n ≤ length xs = omega (arith, e, le) in
    let count : length (take n xs) ≡ n = length-take-le n xs less in
    let within : Below (b ∷ take n xs) = below_take (suc n) (b ∷ xs) (omega (arith, less)) below in
    rw e (piece kind b (take n xs) within (rw (count, ← same n) (small_title b major is small)) (rw back at is_put))

-- The first bytes of a list are a piece, if its first byte announces them, and a text's body is text.
module _ (xs : List ℕ) (len : ℕ) (below : Below xs) (some : 0 < length xs)
    (long : len ≡ 1 + slice_index xs 0 % 32) (small : slice_index xs 0 % 32 < 24) (le : len ≤ length xs) where
  pub bytes_piece : slice_index xs 0 / 32 ≡ 2 → ArePieces k.Bytes 0 (take len xs)
  bytes_piece two = piece_of k.Bytes xs len below some long small le ByteString (sym two) (λ n. refl) tt

  pub text_piece : slice_index xs 0 / 32 ≡ 3 → IsCharacters (take (len - 1) (drop 1 xs))
      → ArePieces k.Text 0 (take len xs)
  text_piece three text = piece_of k.Text xs len below some long small le TextString (sym three) (λ n. refl) text

-- ---- bytes that begin with no piece

-- The major type of a string of this kind.
abbrev pub code_of : StringKind → ℕ
code_of k.Bytes = 2
code_of k.Text = 3

-- The shortest title of a number has one byte exactly if the number is below 24.
one_byte : (major : Major) (b n : ℕ) (size : Size) → b ∷ [] ≡ numbered_title major size n → size ≡ least_size n
    → (b ≡ 32 * major_code major + n) × (n < 24)
one_byte major b n Small e least = (grind arith, grind (arith, nat_tests))
one_byte major b n One e least = absurd (omega (arith, ap (length {A = ℕ}) e))
one_byte major b n Two e least = absurd (omega (arith, ap (length {A = ℕ}) e))
one_byte major b n Four e least = absurd (omega (arith, ap (length {A = ℕ}) e))
one_byte major b n Eight e least = absurd (omega (arith, ap (length {A = ℕ}) e))

string_told : (kind : StringKind) (b n : ℕ) → IsTitle (b ∷ []) (string_of kind n)
    → (b ≡ 32 * code_of kind + n) × (n < 24)
string_told k.Bytes b n is = one_byte ByteString b n (least_size n) (string_strict k.Bytes n b is).shortest refl
string_told k.Text b n is = one_byte TextString b n (least_size n) (string_strict k.Text n b is).shortest refl

-- The parts of a piece, in the bytes that it begins.
pub record Begun (kind : StringKind) (xs : List ℕ) : Type 0 where
  pub long : slice_index xs 0 % 32 < length xs
  pub small : slice_index xs 0 % 32 < 24
  pub major : slice_index xs 0 / 32 ≡ code_of kind
  pub whole : IsPutOut kind (take (slice_index xs 0 % 32) (drop 1 xs))

begun_of : (kind : StringKind) (b : ℕ) (body rest : List ℕ) → IsTitle (b ∷ []) (string_of kind (length body))
    → IsPutOut kind body → Begun kind (b ∷ body ++ rest)
begun_of kind b body rest is put =
    let told = string_told kind b (length body) is in
    let n : b % 32 ≡ length body = omega (arith, told.0, told.1) in
    record {
      long = omega (arith, n, length-append body rest);
      small = omega (arith, n, told.1);
      major = omega (arith, told.0, told.1);
      whole = subst (IsPutOut kind) (sym (ap (λ (z : ℕ). take z (body ++ rest)) n ∙ take-append_seam body rest)) put;
    }

-- Bytes that begin with a piece have its parts.
pub begun : (kind : StringKind) (xs : List ℕ) → BeginsPiece kind xs → Begun kind xs
begun kind xs begins =
    rw begins.is (begun_of kind begins.first begins.body begins.rest begins.title begins.whole)

-- ---- pieces one after another

-- One more piece follows the pieces before.
pub piece_more : (kind : StringKind) (last at len : ℕ) (xs : List ℕ) → at ≤ length xs
    → (0 < at → ArePieces kind last (take at xs)) → ArePieces kind 0 (take len (drop at xs))
    → ArePieces kind at (take (at + len) xs)
piece_more kind last zero len xs le so_far next allowed count within left place offset fed out led =
    let far : len ≡ 0 + len = omega arith in
    rw (← far) (next allowed count within left place offset fed out led)
piece_more kind last (suc at) len xs le so_far next allowed count within left place offset fed out led =
    let n = suc at in
    let first = take n xs in
    let then = take len (drop n xs) in
    let long : length first ≡ n = length-take-le n xs le in
    let there = so_far (omega arith) allowed count within left place offset fed out led in
    let behind = next allowed count within left (offset + last) (offset + length first) (fed ++ first) (out ++ first)
    there in
    let here : (offset + length first) + 0 ≡ offset + n = omega (arith, long) in
    let far : (offset + length first) + length then ≡ offset + length (first ++ then) =
    omega (arith, length-append first then) in
    rw (take-add n len xs, ← append_assoc fed first then, ← append_assoc out first then)
    (rw (here, far) at behind)

given_within : (allowed : Spelling) (count last : ℕ) (xs : List ℕ) (spot : Spot) (within : Within) (new : Spot)
    (fed given front end : List ℕ) → spot.within ≡ within → AreWithin within last xs → spot.phase ≡ p.Title
    → spot.front ≡ [] → spot.put ≡ []
    → new ≡ record spot { place = spot.offset + last; offset = spot.offset + length xs }
    → end ≡ front ++ xs → IsFed allowed count fed (putting [] spot) ((given ++ front) ++ spot.put)
    → IsFed allowed count (fed ++ xs) (putting [] new) ((given ++ end) ++ new.put)
given_within allowed count last xs spot w.Nothing new fed given front end opened run at clear none e all is = absurd run
given_within allowed count last xs spot (w.Open kind within) new fed given front end opened run at clear none e all is =
    let same : spot.allowed ≡ allowed = fed_allowed allowed count fed _ (putting [] spot) is in
    let begin : putting [] spot ≡ inside allowed kind within spot.left spot.place spot.offset =
    rw (at, opened, clear, same) in
    let there : new ≡ inside allowed kind within spot.left (spot.offset + last) (spot.offset + length xs) =
    e ∙ rw (at, opened, clear, none, same) in
    let behind = run allowed count within spot.left spot.place spot.offset fed (given ++ front)
    (rw (begin, none, append-nil (given ++ front)) at is) in
    rw (there, all, append-nil (given ++ (front ++ xs)), ← append_assoc given front xs) behind

-- Such pieces are given at once. `front` is the part of the room that was written before, and `end` is the part that is
-- written then.
pub pieces_given : (allowed : Spelling) (count last : ℕ) (xs : List ℕ) (spot new : Spot) (fed given front end : List ℕ)
    → AreWithin spot.within last xs → spot.phase ≡ p.Title → spot.front ≡ [] → spot.put ≡ []
    → new ≡ record spot { place = spot.offset + last; offset = spot.offset + length xs }
    → end ≡ front ++ xs → IsFed allowed count fed (putting [] spot) ((given ++ front) ++ spot.put)
    → IsFed allowed count (fed ++ xs) (putting [] new) ((given ++ end) ++ new.put)
pieces_given allowed count last xs spot new fed given front end run at clear none e all is =
    given_within allowed count last xs spot spot.within new fed given front end refl run at clear none e all is
