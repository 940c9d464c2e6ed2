-- Bytes that are fed: one byte, several bytes of a body that go out as they are, or all of a title if an element is
-- due.
use Rattle.std.proofs.Common.{◌≡◌, ℕ, zero, suc, ◌+◌, ◌-◌, ◌<◌, ◌≤◌, ◌%◌, false, true, List, [], ◌∷◌, ◌++◌, length}
use Rattle.std.proofs.Common.{take, drop, get_or, slice_index, refl, sym, ap, ◌∙◌, arith, append_assoc, append-nil}
use Rattle.std.proofs.Common.{drop-drop, le-leb, length-take-le}
use Rattle.std.proofs.lemmas.List.{take_rest, get_or-take}
use Rattle.std.proofs.Math.Seq.{take-add}
use Rattle.ciborium_ll_grammar.specs.declared.spelling.Spelling.{Spelling}
use Rattle.ciborium_ll_grammar.specs.declared.hdr.Header.{Header}
use Rattle.ciborium_ll_grammar.specs.Items.{IsTakenTitle}
use Rattle.ciborium_ll_grammar.specs.Title.{IsTitle, affix_len}
use Rattle.ciborium_ll_grammar.proofs.AffixLaws.{cut_before}
use Rattle.ciborium_ll_text.specs.declared.state.State.{State}
use Rattle.ciborium_ll_text.specs.declared.state.State.TheVariants as s
use Rattle.ciborium_ll_text.specs.States.{after, after_byte, may_end}
use Rattle.ciborium_ll_text.proofs.EndLaws.{may_back}
use Rattle.ciborium_ll_text.proofs.Lists.{Below, below_rest}
use Rattle.ciborium_ll_text.proofs.StateLaws.{text_ends}
use Rattle.cbor_copier.specs.declared.phase.Phase.{Phase}
use Rattle.cbor_copier.specs.declared.phase.Phase.TheVariants as p
use Rattle.cbor_parser.specs.declared.strings.StringKind.{StringKind}
use Rattle.cbor_parser.specs.declared.strings.StringKind.TheVariants as k
use Rattle.cbor_parser.specs.declared.strings.Within.{Within}
use Rattle.cbor_parser.specs.declared.strings.Within.TheVariants as w
use Rattle.cbor_copier.specs.declared.progress.Progress.{Progress}
use Rattle.cbor_copier.specs.declared.progress.Progress.TheVariants as r
use Rattle.cbor_copier.specs.Spots.{Spot, at_phase, putting, elements_due, string_done, body_phase, body_due, IsPutOut}
use Rattle.cbor_copier.specs.Spots.{entered}
use Rattle.cbor_copier.specs.Steps.{start, Step, IsFed, fresh, more, with_char, counted_by, text_left, cut, whole}
use Rattle.cbor_copier.specs.Steps.{with_byte, titled, title_place}
use Rattle.cbor_copier.specs.Telling.{is_due, progress_of, IsAnswer}
use Rattle.cbor_copier.proofs.KeptLaws.{body_kept, enters}
use Rattle.cbor_copier.proofs.Reached.{clear}
use Rattle.cbor_copier.proofs.StepLaws.{fed_allowed}

-- At the start, no byte came and nothing is pending.
pub fed_fresh : (allowed : Spelling) (count : ℕ) (spot : Spot) (pending : List ℕ) → spot ≡ start allowed count
    → pending ≡ [] → IsFed allowed count [] (putting [] spot) ([] ++ pending)
fed_fresh allowed zero spot pending e none = rw (e, none) fresh
fed_fresh allowed (suc count) spot pending e none = rw (e, none) fresh

-- All output is given, except for the pending bytes.
given_on : {allowed : Spelling} {count : ℕ} {fed fed' : List ℕ} {spot new : Spot}
    (given front pending front' pending' added : List ℕ)
    → pending ≡ [] → front' ++ pending' ≡ front ++ added
    → ((out : List ℕ) → IsFed allowed count fed spot out → IsFed allowed count fed' new (out ++ added))
    → IsFed allowed count fed spot ((given ++ front) ++ pending)
    → IsFed allowed count fed' new ((given ++ front') ++ pending')
given_on given front pending front' pending' added none e on is =
    rw (append_assoc given front' pending', e, ← append_assoc given front added)
    (on (given ++ front) (rw (none, append-nil) at is))

-- The first byte of a list is fed.
pub first_on : (allowed : Spelling) (count : ℕ) (fed given front front' pending' bytes : List ℕ) (spot new : Spot)
    → 0 < length bytes
    → get_or bytes 0 0 < 256 → spot.put ≡ [] → Step spot (get_or bytes 0 0) new → front' ++ pending' ≡ front ++ new.put
    → IsFed allowed count fed (putting [] spot) ((given ++ front) ++ spot.put)
    → IsFed allowed count (fed ++ take 1 bytes) (putting [] new) ((given ++ front') ++ pending')
first_on allowed count fed given front front' pending' [] spot new some byte none step e is = absurd
    (omega (arith, some))
first_on allowed count fed given front front' pending' (x ∷ bytes) spot new some byte none step e is =
    let same : putting [] spot ≡ spot = ap (λ (z : List ℕ). record spot { put = z }) (sym none) in
    given_on given front spot.put front' pending' new.put none e (λ out is. more x new byte (rw same at is) step) is

-- Bytes that are fed after the first `at` bytes of a list are the next bytes of the list.
pub fed_behind : (allowed : Spelling) (count : ℕ) (fed output xs : List ℕ) (at n : ℕ) (spot : Spot)
    → IsFed allowed count ((fed ++ take at xs) ++ take n (take (length xs - at) (drop at xs))) spot output
    → IsFed allowed count (fed ++ take (at + n) xs) spot output
fed_behind allowed count fed output xs at n spot is =
    rw (take-add at n xs, ← take_rest xs at, ← append_assoc fed (take at xs)) is

-- Lists that are the same from one place on are the same from each later place on.
pub drop_later : (at next : ℕ) (xs ys : List ℕ) → at ≤ next → drop at xs ≡ drop at ys → drop next xs ≡ drop next ys
drop_later at next xs ys later same =
    let parts : next ≡ at + (next - at) = omega (arith, later) in
    rw (parts, ← drop-drop (next - at) at xs, ← drop-drop (next - at) at ys, same)

-- ---- the answer

-- If more bytes are due, nothing is pending.
pub more_given : (pending : List ℕ) (phase : Phase) → progress_of pending phase ≡ r.More → pending ≡ []
more_given [] phase e = refl
more_given (byte ∷ pending) phase e = absurd cc

-- After an end or a fault, no more bytes are due.
pub not_more : (pending : List ℕ) (phase : Phase) → is_due phase ≡ false → progress_of pending phase ≡ r.More → ⊥
not_more [] p.Ended off e = cc
not_more pending phase off e = cc

-- No spot answers `TooLong`.
pub never_long : (pending : List ℕ) (phase : Phase) → progress_of pending phase ≡ r.TooLong → ⊥
never_long [] p.Ended e = cc
never_long pending phase e = cc

-- The answer of `progress_of` is an answer of the state.
pub is_answer : (progress : Progress) (pending : List ℕ) (phase : Phase) → progress ≡ progress_of pending phase
    → IsAnswer progress pending phase
is_answer r.TooLong [] p.Ended e = absurd cc
is_answer r.TooLong pending phase e = absurd cc
is_answer progress pending phase e = e

-- ---- bytes of a body

-- The spot after a body does not depend on the phase before, or on the output of the last byte.
due_alike : (left : ℕ) (spot : Spot) (phase : Phase) (out : List ℕ)
    → putting [] (elements_due left (at_phase phase (putting out spot))) ≡ putting [] (elements_due left spot)
due_alike zero spot phase out = refl
due_alike (suc left) spot phase out = refl

done_alike : (i : Within) (spot : Spot) (phase : Phase) (out : List ℕ)
    → putting [] (string_done i (at_phase phase (putting out spot))) ≡ putting [] (string_done i spot)
done_alike w.Nothing spot phase out = due_alike (spot.left - 1) spot phase out
done_alike (w.Open kind n) spot phase out = refl

body_alike : (kind : StringKind) (len : ℕ) (spot : Spot) (phase : Phase) (out : List ℕ)
    → putting [] (body_due kind len (at_phase phase (putting out spot))) ≡ putting [] (body_due kind len spot)
body_alike kind zero spot phase out = done_alike spot.within spot phase out
body_alike kind (suc len) spot phase out = refl

-- The phase within a body.
abbrev phase_of : StringKind → ℕ → State → Phase
phase_of k.Bytes left state = p.Bytes left
phase_of k.Text left state = p.Text left state

-- The spot with this many bytes of a body due and this front.
abbrev mid : StringKind → ℕ → State → List ℕ → ℕ → Spot → Spot
mid kind left state front offset spot =
    record spot { phase = phase_of kind left state; front = front; offset = offset; put = [] }

-- After these bytes of a body, nothing is held back.
abbrev Ends : StringKind → State → List ℕ → List ℕ → Type 0
Ends k.Bytes state front xs = front ≡ []
Ends k.Text state front xs = after state xs ≡ s.Between

-- A part of a body is fed, and after the rest `xs` nothing is held back.
record Went (allowed : Spelling) (kind : StringKind) (count left : ℕ) (state : State) (spot : Spot) (offset : ℕ)
    (fed xs all : List ℕ)
    : Type 0 where
  front : List ℕ
  out : List ℕ
  led : IsFed allowed count fed (mid kind left state front offset spot) out
  ends : Ends kind state front xs
  is : out ++ front ≡ all

char_goes : (allowed : Spelling) (next state : State) (count left total x offset : ℕ) (front fed out xs : List ℕ)
    (spot : Spot)
    → after next xs ≡ s.Between
    → (let new = text_left true (suc left) next (with_char x (mid k.Text total state front offset spot)) in
    IsFed allowed count fed (putting [] new) (out ++ new.put))
    → Went allowed k.Text count (suc left) next spot (offset + 1) fed xs (out ++ (front ++ x ∷ []))
char_goes allowed s.Between state count left total x offset front fed out xs spot ends led =
    record { front = []; out = out ++ (front ++ x ∷ []); led = led; ends = ends; is = append-nil _ }
char_goes allowed next state count left total x offset front fed out xs spot ends led =
    record { front = front ++ x ∷ []; out = out ++ []; led = led; ends = ends; is = rw (append-nil out) }

byte_goes : (allowed : Spelling) (kind : StringKind) (state : State) (count left l x offset : ℕ)
    (front fed out xs : List ℕ) (spot : Spot)
    → x < 256 → suc l ≡ length xs + left → Ends kind state front (x ∷ xs)
    → IsFed allowed count fed (mid kind (suc (suc l)) state front offset spot) out
    → Went allowed kind count (suc l) (after_byte state x) spot (offset + 1) (fed ++ x ∷ []) xs
    (out ++ (front ++ x ∷ []))
byte_goes allowed k.Bytes state count left l x offset front fed out xs spot byte all ends is = record {
  front = [];
  out = out ++ x ∷ [];
  led = more x (record spot { phase = p.Bytes (suc l); front = []; offset = offset + 1; put = x ∷ [] }) byte
      (rw ends at is) refl;
  ends = refl;
  is = rw (ends, append-nil);
}
byte_goes allowed k.Text state count left l x offset front fed out xs spot byte all ends is =
    let may : may_end (after_byte state x) (suc l) ≡ true =
    may_back xs (after_byte state x) left (suc l) all (rw ends (le-leb 0 left (omega arith))) in
    let old = with_char x (mid k.Text (suc (suc l)) state front offset spot) in
    char_goes allowed (after_byte state x) state count l (suc (suc l)) x offset front (fed ++ x ∷ []) out xs spot ends
    (more x (text_left true (suc l) (after_byte state x) old) byte is (rw may))

-- The last byte of a part of a body leads to the spot after the part.
last_goes : {allowed : Spelling} {count : ℕ} {fed : List ℕ} (out : List ℕ) (kind : StringKind) (left offset : ℕ)
    (phase : Phase)
    (char : List ℕ) (spot : Spot)
    → (let new = body_due kind left (at_phase phase (putting char (record spot { front = []; offset = offset }))) in
    IsFed allowed count fed (putting [] new) (out ++ new.put))
    → IsFed allowed count fed (putting [] (body_due kind left (record spot { front = []; offset = offset })))
    (out ++ char)
last_goes out kind left offset phase char spot led =
    let old = record spot { front = []; offset = offset } in
    rw (body_alike kind left old phase char, (body_kept kind left (at_phase phase (putting char old))).2) at led

come : (allowed : Spelling) (xs : List ℕ) (kind : StringKind) (state : State) (count left n x offset end : ℕ)
    (front fed out : List ℕ)
    (spot : Spot) → Below (x ∷ xs) → n ≡ length xs + left → end ≡ offset + length (x ∷ xs)
    → Ends kind state front (x ∷ xs) → IsFed allowed count fed (mid kind (suc n) state front offset spot) out
    → IsFed allowed count (fed ++ x ∷ xs) (putting [] (body_due kind left (record spot { front = []; offset = end })))
    (out ++ (front ++ x ∷ xs))
come allowed [] k.Bytes state count left n x offset end front fed out spot below all on ends is =
    let here : n ≡ left = omega (arith, all) in
    let there : end ≡ offset + 1 = omega (arith, on) in
    rw (there, ends) (last_goes out k.Bytes left (offset + 1) (p.Bytes (suc left)) (x ∷ []) spot
    (more x _ (below 0 (omega arith)) (rw (here, ends) at is) refl))
come allowed [] k.Text state count left n x offset end front fed out spot below all on ends is =
    let here : n ≡ left = omega (arith, all) in
    let there : end ≡ offset + 1 = omega (arith, on) in
    rw there (last_goes out k.Text left (offset + 1) (p.Text (suc left) state) (front ++ x ∷ []) spot
    (more x _ (below 0 (omega arith)) (rw here at is) (rw (ends, le-leb 0 left (omega arith)))))
come allowed (y ∷ ys) kind state count left n x offset end front fed out spot below all on ends is =
    let l = length ys + left in
    let here : n ≡ suc l = omega (arith, all) in
    let o = byte_goes allowed kind state count left l x offset front fed out (y ∷ ys) spot (below 0 (omega arith))
    (omega arith)
    ends (rw here at is) in
    let whole : o.out ++ (o.front ++ y ∷ ys) ≡ out ++ (front ++ x ∷ y ∷ ys) =
    sym (append_assoc o.out o.front (y ∷ ys)) ∙ (ap (λ (z : List ℕ). z ++ y ∷ ys) o.is ∙ simp append_assoc) in
    rw (append_assoc fed (x ∷ []) (y ∷ ys), whole)
    at (come allowed ys kind (after_byte state x) count left l y (offset + 1) end o.front (fed ++ x ∷ []) o.out spot
    (below_rest x (y ∷ ys) below) refl (omega (arith, on)) o.ends o.led)

phase_is : (kind : StringKind) (left : ℕ) → body_phase kind left ≡ phase_of kind left s.Between
phase_is k.Bytes left = refl
phase_is k.Text left = refl

ends_by : (kind : StringKind) (xs : List ℕ) → IsPutOut kind xs → Ends kind s.Between [] xs
ends_by k.Bytes xs put = refl
ends_by k.Text xs put = text_ends xs put

-- Bytes of a body are given at once. `front` is the part of the room that was written before, and `end` is the part
-- that is written then.
pub body_given : (allowed : Spelling) (kind : StringKind) (count left : ℕ) (xs : List ℕ) (spot new : Spot)
    (fed given front end : List ℕ)
    → Below xs → spot.phase ≡ body_phase kind left → spot.front ≡ [] → spot.put ≡ [] → 0 < length xs → length xs ≤ left
    → IsPutOut kind xs → new ≡ body_due kind (left - length xs) (counted_by (length xs) spot) → end ≡ front ++ xs
    → IsFed allowed count fed (putting [] spot) ((given ++ front) ++ spot.put)
    → IsFed allowed count (fed ++ xs) (putting [] new) ((given ++ end) ++ new.put)
body_given allowed kind count left [] spot new fed given front end below at bare none some within text e all is =
    absurd (omega (arith, some))
body_given allowed kind count left (x ∷ xs) spot new fed given front end below at bare none some within text e all is =
    let len = length (x ∷ xs) in
    let n = left - len + length xs in
    let total : left ≡ suc n = omega (arith, within) in
    let begin : putting [] spot ≡ mid kind (suc n) s.Between [] spot.offset spot =
    rw (at, bare, phase_is kind left, ← total) in
    let put : new.put ≡ [] = rw e ((body_kept kind (left - len) (counted_by len spot)).2 ∙ none) in
    let behind : record spot { front = []; offset = spot.offset + len } ≡ counted_by len spot =
    ap (λ (z : List ℕ). record spot { front = z; offset = spot.offset + len }) (sym bare) in
    given_on given front spot.put end new.put (x ∷ xs) none (rw (put, append-nil) all) (λ out fed_is.
    rw (e, ← behind) (come allowed xs kind s.Between count (left - len) n x spot.offset (spot.offset + len) [] fed out
    spot
    below (omega arith) refl (ends_by kind (x ∷ xs) text) (rw begin at fed_is))) is

-- ---- a title

begun : (front : List ℕ) (x : ℕ) (spot : Spot) → title_place (front ++ x ∷ []) spot ≡ spot.place
begun [] x spot = refl
begun (y ∷ front) x spot = refl

title_comes : (allowed : Spelling) (suffix front : List ℕ) (count x left place named offset end : ℕ) (title : List ℕ)
    (header : Header) (fed out : List ℕ) → Below (x ∷ suffix) → IsTitle title header
    → IsTakenTitle allowed title header → title ≡ front ++ (x ∷ suffix) → end ≡ offset + length (x ∷ suffix)
    → (let spot = record (clear allowed p.Title w.Nothing left place offset []) { front = front } in
    let new = entered w.Nothing header (clear allowed p.Title w.Nothing left named end []) in
    title_place front spot ≡ named → IsFed allowed count fed spot out
    → IsFed allowed count (fed ++ (x ∷ suffix)) (putting [] new) (out ++ new.put))
title_comes allowed [] front count x left place named offset end title header fed out below q taken e on from is =
    let old = record (clear allowed p.Title w.Nothing left place offset []) { front = front } in
    let there : end ≡ offset + 1 = omega (arith, on) in
    rw (← from, there) (more x (titled header (with_byte x old)) (below 0 (omega arith)) is
    (whole header (rw e at q) (rw e at taken)))
title_comes allowed (y ∷ ys) front count x left place named offset end title header fed out below q taken e on from is =
    let old = record (clear allowed p.Title w.Nothing left place offset []) { front = front } in
    let next = with_byte x old in
    let parts : title ≡ (front ++ x ∷ []) ++ (y ∷ ys) = e ∙ sym (append_assoc front (x ∷ []) (y ∷ ys)) in
    let led = more x next (below 0 (omega arith)) is (cut (cut_before (front ++ x ∷ []) y ys header (rw parts at q))
    (y ∷ ys, header, rw parts at q, rw parts at taken)
    (λ behind other is_title. (enters w.Nothing other (record next { front = [] })).faults)) in
    rw (append_assoc fed (x ∷ []) (y ∷ ys))
    at (title_comes allowed ys (front ++ x ∷ []) count y left (title_place front old) named (offset + 1) end title
    header
    (fed ++ x ∷ []) out (below_rest x (y ∷ ys) below) q taken parts (omega (arith, on)) (begun front x _ ∙ from)
    (rw (append-nil out) at led))

-- A whole title is fed, and a part of its output is given.
pub title_given : (allowed : Spelling) (count n : ℕ) (title : List ℕ) (header : Header) (spot new : Spot)
    (fed given front front' pending' : List ℕ) → Below title → 0 < n → length title ≡ n → IsTitle title header
    → IsTakenTitle spot.allowed title header → spot.phase ≡ p.Title → spot.within ≡ w.Nothing → spot.front ≡ []
    → spot.put ≡ [] → new ≡ entered spot.within header (record spot { place = spot.offset; offset = spot.offset + n })
    → front' ++ pending' ≡ front ++ new.put
    → IsFed allowed count fed (putting [] spot) ((given ++ front) ++ spot.put)
    → IsFed allowed count (fed ++ title) (putting [] new) ((given ++ front') ++ pending')
title_given allowed count n [] header spot new fed given front front' pending' below some long q taken at inside bare
    none e f is =
    absurd (omega (arith, some, long))
title_given allowed count n (x ∷ xs) header spot new fed given front front' pending' below some long q taken at inside
    bare none e f is =
    let begin : putting [] spot ≡ clear spot.allowed p.Title w.Nothing spot.left spot.place spot.offset [] =
    rw (at, inside, bare) in
    let there : new
    ≡ entered w.Nothing header (clear spot.allowed p.Title w.Nothing spot.left spot.offset (spot.offset + n) []) =
    e ∙ rw (at, inside, bare) in
    let same : spot.allowed ≡ allowed = fed_allowed allowed count fed _ (putting [] spot) is in
    given_on given front spot.put front' pending' new.put none f (λ out fed_is.
    rw (there, same) (title_comes allowed xs [] count x spot.left spot.place spot.offset spot.offset (spot.offset + n)
    (x ∷ xs) header fed out below q (rw same at taken) refl (rw (← long)) refl (rw (begin, same) at fed_is))) is

-- If the first byte announces `n - 1` bytes, the first `n` bytes are as long as a title that begins so.
pub front_whole : (xs : List ℕ) (n : ℕ) → n ≤ length xs → n ≡ 1 + affix_len (slice_index xs 0 % 32)
    → length (take n xs) ≡ 1 + affix_len (slice_index (take n xs) 0 % 32)
front_whole xs n le all = rw (length-take-le n xs le, get_or-take n xs 0 0 (omega (arith, all))) all
