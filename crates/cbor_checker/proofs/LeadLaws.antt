-- The spot that several bytes lead to at once.
use Rattle.ciborium_ll_grammar.specs.declared.spelling.Spelling.{Spelling}
use Rattle.std.proofs.Common.{◌≡◌, ℕ, zero, suc, ◌+◌, ◌-◌, ◌<◌, ◌≤◌, Bool, true, false, List, [], ◌∷◌, ◌++◌, length}
use Rattle.std.proofs.Common.{take, drop, slice_index, refl, sym, ap, subst, ◌∙◌, arith, append_assoc, append-nil}
use Rattle.std.proofs.Common.{length-append, le-leb}
use Rattle.std.proofs.lemmas.List.{length-take-le, take_at, take_rest, take-take}
use Rattle.std.proofs.Math.Seq.{take-add}
use Rattle.ciborium_ll_text.specs.declared.state.State.{State}
use Rattle.ciborium_ll_text.specs.declared.state.State.TheVariants as s
use Rattle.ciborium_ll_text.specs.States.{after, after_byte, may_end}
use Rattle.ciborium_ll_text.specs.Text.{IsFront}
use Rattle.ciborium_ll_text.proofs.EndLaws.{may_back}
use Rattle.ciborium_ll_text.proofs.Lists.{Below, below_rest, below_take, rest_long}
use Rattle.ciborium_ll_text.proofs.StateLaws.{after-append, text_ends}
use Rattle.ciborium_ll_grammar.specs.declared.remaining.Remaining.{Remaining}
use Rattle.cbor_checker.specs.declared.phase.Phase.{Phase}
use Rattle.cbor_checker.specs.declared.phase.Phase.TheVariants as p
use Rattle.cbor_checker.specs.Spots.{Spot, at_phase, settled, bytes_due}
use Rattle.cbor_checker.specs.Steps.{IsFed, Leads, Step, StepIn, TitleStep, stay, go, more, counted, counted_by, text_left}
use Rattle.cbor_checker.specs.Steps.{with_byte}
use Rattle.cbor_checker.specs.Telling.{is_due}
use Rattle.cbor_checker.proofs.TellLaws.{step_counts}

-- ---- bytes that lead somewhere

-- Bytes that lead on from a fed spot are fed after the bytes before.
pub leads_fed : (s : Spelling) (d : ℕ) (fed xs : List ℕ) (spot new : Spot) → IsFed s d fed spot → Leads spot xs new
    → IsFed s d (fed ++ xs) new
leads_fed s d fed xs spot new is stay = rw append-nil is
leads_fed s d fed xs spot new is (go {bytes = ys} {next = m} b below one rest) =
    rw append_assoc at (leads_fed s d (fed ++ b ∷ []) ys m new (more b below is one) rest)

pub leads_more : (a b c : Spot) (xs ys : List ℕ) → Leads a xs b → Leads b ys c → Leads a (xs ++ ys) c
leads_more a b c xs ys stay f = f
leads_more a b c xs ys (go {bytes = zs} {next = m} x below one rest) f =
    go x below one (leads_more m b c zs ys rest f)

-- Each byte adds one to the offset.
pub leads_counts : (spot new : Spot) (xs : List ℕ) → Leads spot xs new → new.offset ≡ spot.offset + length xs
leads_counts spot new xs stay = omega arith
leads_counts spot new xs (go {bytes = ys} {next = m} b below one rest) =
    omega (arith, step_counts spot.phase spot m b one, leads_counts m new ys rest)

not_due : (phase : Phase) (spot new : Spot) (b : ℕ) → is_due phase ≡ false → StepIn phase spot b new → ⊥
not_due phase spot new b off step = grind arith

-- If no byte is due, no byte leads on.
pub leads_stays : (spot new : Spot) (xs : List ℕ) → is_due spot.phase ≡ false → Leads spot xs new
    → (xs ≡ []) × (new ≡ spot)
leads_stays spot new xs off stay = (refl, refl)
leads_stays spot new xs off (go {next = m} b below one rest) = absurd (not_due spot.phase spot m b off one)

-- One byte leads to the spot of its step.
pub one_leads : (xs : List ℕ) (spot new : Spot) → Below xs → 0 < length xs → Step spot (slice_index xs 0) new
    → Leads spot (take 1 xs) new
one_leads [] spot new below some step = absurd (omega arith)
one_leads (x ∷ xs) spot new below some step = go x (below 0 (omega arith)) step stay

-- ---- a step in a body does not depend on the phase before

settled_alike : (gs : List Remaining) (d : ℕ) (s : Spot) (a : Phase) → settled d gs (at_phase a s) ≡ settled d gs s
settled_alike [] d s a = refl
settled_alike (g ∷ gs) d s a = grind (arith, settled_alike gs)

pub due_alike : (len : ℕ) (s : Spot) (a : Phase) → bytes_due len (at_phase a s) ≡ bytes_due len s
due_alike len s a = grind (arith, settled_alike)

pub left_alike : (m : Bool) (len : ℕ) (x : State) (s : Spot) (a : Phase)
    → text_left m len x (at_phase a s) ≡ text_left m len x s
left_alike m len x s a = grind (arith, settled_alike)

-- ---- bytes of a byte string

-- The spot with an empty front and this offset.
abbrev at_count : ℕ → Spot → Spot
at_count n s = record s { front = []; offset = n }

body_leads : (xs : List ℕ) (left total n : ℕ) (s : Spot) → Below xs → s.phase ≡ p.Bytes total
    → total ≡ length xs + left → n ≡ s.offset + length xs → 0 < length xs
    → Leads s xs (bytes_due left (at_count n s))
body_leads [] left total n s below at all on some = absurd (omega arith)
body_leads (x ∷ []) left total n s below at all on some =
    let here : s.phase ≡ p.Bytes (suc left) = at ∙ ap p.Bytes (omega (arith, all)) in
    let counts : n ≡ s.offset + 1 = omega (arith, on) in
    go x (below 0 (omega arith)) (rw (here, counts)) stay
body_leads (x ∷ y ∷ ys) left total n s below at all on some =
    let k : ℕ = length ys + left in
    let here : s.phase ≡ p.Bytes (suc (suc k)) = at ∙ ap p.Bytes (omega (arith, all)) in
    let m : Spot = at_phase (p.Bytes (suc k)) (counted s) in
    let rest = body_leads (y ∷ ys) left (suc k) n m (below_rest x (y ∷ ys) below) refl (omega arith)
    (omega (arith, on)) (omega arith) in
    go x (below 0 (omega arith)) (rw here refl) (rw (due_alike left (at_count n s) (p.Bytes (suc k))) at rest)

-- Bytes of a byte string lead on together, if no more come than are due.
pub bytes_lead : (xs : List ℕ) (n left : ℕ) (s new : Spot) → Below xs → s.phase ≡ p.Bytes left → 0 < n
    → n ≤ length xs → n ≤ left → new ≡ bytes_due (left - n) (counted_by n s) → Leads s (take n xs) new
bytes_lead xs n left s new below at some le within e =
    let long = length-take-le n xs le in
    rw e (body_leads (take n xs) (left - n) left (s.offset + n) s (below_take n xs le below) at
    (omega (arith, long, within)) (omega (arith, long)) (omega (arith, long, some)))

-- ---- bytes of a text

chars_lead : (xs : List ℕ) (left total n : ℕ) (state : State) (s : Spot) → Below xs → s.phase ≡ p.Text total state
    → total ≡ length xs + left → n ≡ s.offset + length xs → 0 < length xs → may_end (after state xs) left ≡ true
    → Leads s xs (text_left true left (after state xs) (at_count n s))
chars_lead [] left total n state s below at all on some may = absurd (omega arith)
chars_lead (x ∷ []) left total n state s below at all on some may =
    let here : s.phase ≡ p.Text (suc left) state = at ∙ ap (λ (z : ℕ). p.Text z state) (omega (arith, all)) in
    let counts : n ≡ s.offset + 1 = omega (arith, on) in
    go x (below 0 (omega arith)) (rw (here, counts, may)) stay
chars_lead (x ∷ y ∷ ys) left total n state s below at all on some may =
    let k : ℕ = length ys + left in
    let behind : State = after_byte state x in
    let here : s.phase ≡ p.Text (suc (suc k)) state = at ∙ ap (λ (z : ℕ). p.Text z state) (omega (arith, all)) in
    let goes : may_end behind (suc k) ≡ true = may_back (y ∷ ys) behind left (suc k) (omega arith) may in
    let m : Spot = at_phase (p.Text (suc k) behind) (counted s) in
    let rest = chars_lead (y ∷ ys) left (suc k) n behind m (below_rest x (y ∷ ys) below) refl (omega arith)
    (omega (arith, on)) (omega arith) may in
    go x (below 0 (omega arith)) (rw (here, goes))
    (rw (left_alike true left (after behind (y ∷ ys)) (at_count n s) (p.Text (suc k) behind)) at rest)

-- Bytes of a text lead on together, if the text can go on after them.
pub text_leads : (xs : List ℕ) (n left : ℕ) (state behind : State) (s new : Spot) → Below xs
    → s.phase ≡ p.Text left state → 0 < n → n ≤ length xs → n ≤ left → behind ≡ after state (take n xs)
    → may_end behind (left - n) ≡ true
    → new ≡ text_left (may_end behind (left - n)) (left - n) behind (counted_by n s) → Leads s (take n xs) new
text_leads xs n left state behind s new below at some le within is may e =
    let long = length-take-le n xs le in
    rw (e, may, is) (chars_lead (take n xs) (left - n) left (s.offset + n) state s (below_take n xs le below) at
    (omega (arith, long, within)) (omega (arith, long)) (omega (arith, long, some)) (rw is at may))

-- ---- bytes of a list that come run by run

pub run_more : (xs : List ℕ) (at n : ℕ) (s m new : Spot) → Leads s (take at xs) m
    → Leads m (take n (take (length xs - at) (drop at xs))) new → Leads s (take (at + n) xs) new
run_more xs at n s m new so_far run = rw take-add (leads_more s m new _ _ so_far (rw take_rest at run))

-- After the first `at` bytes, the offset leaves room for the rest.
pub run_room : (xs : List ℕ) (at most : ℕ) (s m : Spot) → at ≤ length xs → s.offset + length xs ≤ most
    → Leads s (take at xs) m → m.offset + length (take (length xs - at) (drop at xs)) ≤ most
run_room xs at most s m le room so_far =
    omega (arith, leads_counts s m (take at xs) so_far, length-take-le at xs le, rest_long xs at, le, room)

-- If no byte came before, the next bytes lead on from the first spot.
pub none_before : (xs : List ℕ) (at n : ℕ) (s m new : Spot) → at ≡ 0 → Leads s (take at xs) m → Leads m (take n xs) new
    → Leads s (take n xs) new
none_before xs at n s m new none so_far run = leads_more s m new [] (take n xs) (rw none at so_far) run

-- If no byte came before, all bytes still have room.
pub none_room : (xs : List ℕ) (at most : ℕ) (s m : Spot) → at ≡ 0 → s.offset + length xs ≤ most
    → Leads s (take at xs) m → m.offset + length xs ≤ most
none_room xs at most s m none room so_far = omega (arith, leads_counts s m [] (rw none at so_far), room)

-- A part of the first `most` bytes is a part of all bytes.
pub run_front : (xs : List ℕ) (n most : ℕ) (s new : Spot) → n ≤ length (take most xs) → most ≤ length xs
    → Leads s (take n (take most xs)) new → Leads s (take n xs) new
run_front xs n most s new le fits run =
    let long = length-take-le most xs fits in
    let short : n ≤ most = omega (arith, le, long) in rw take-take at run

-- ---- the longest start of bytes that is text

pub front_long : (x front : List ℕ) → IsFront x front (drop (length front) x) → length front ≤ length x
front_long x front is = omega (arith, ap length is.parts, length-append front (drop (length front) x))

-- The state after all bytes is the state after the bytes that follow the front.
pub whole_state : (x front : List ℕ) (behind : State) → IsFront x front (drop (length front) x)
    → behind ≡ after s.Between (drop (length front) x) → behind ≡ after s.Between x
whole_state x front behind is e =
    let rest = drop (length front) x in
    cc (after-append s.Between front rest, text_ends front is.text, is.parts)

-- The state after the front is `Between`.
pub front_state : (xs front : List ℕ) (n : ℕ) → n ≤ length xs
    → IsFront (take n xs) front (drop (length front) (take n xs)) → s.Between ≡ after s.Between (take (length front) xs)
front_state xs front n le is =
    let x = take n xs in
    let short : length front ≤ n = omega (arith, front_long x front is, length-take-le n xs le) in
    let same = take-take (length front) n xs short in
    let there = take_at front (drop (length front) x) (length front) refl in
    cc (is.parts, text_ends front is.text)

pub between_ends : (left : ℕ) → may_end s.Between left ≡ true
between_ends left = le-leb 0 left (omega arith)

-- One byte of a text makes a step.
pub text_one : (left : ℕ) (state : State) (x : ℕ) (s new : Spot) → s.phase ≡ p.Text left state → 0 < left
    → (let behind = after_byte state x in new ≡ text_left (may_end behind (left - 1)) (left - 1) behind (counted s))
    → Step s x new
text_one zero state x s new at some e = absurd (omega arith)
text_one (suc left) state x s new at some e =
    let less : suc left - 1 ≡ left = omega arith in subst (λ (z : Phase). StepIn z s x new) (sym at) (rw less at e)

-- One byte of a title makes a step.
pub title_one : (x : ℕ) (s new : Spot) → s.phase ≡ p.Title → TitleStep (with_byte x s) new → Step s x new
title_one x s new at step = subst (λ (z : Phase). StepIn z s x new) (sym at) step
