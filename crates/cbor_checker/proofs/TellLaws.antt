-- The meaning of a checker's answer for the bytes so far.
use Rattle.std.proofs.Common.{◌≡◌, ℕ, zero, suc, ◌+◌, ◌%◌, ◌≤◌, true, List, [], ◌∷◌, ◌++◌, length, slice_index}
use Rattle.std.proofs.Common.{◌⊎◌, inl, inr, Bool, false, refl, sym, ap, subst, ◌∙◌, arith, append-nil, length-append}
use Rattle.std.proofs.lemmas.Bool.Decides.{nat_tests}
use Rattle.ciborium_ll_grammar.specs.declared.spelling.Spelling.{Spelling}
use Rattle.ciborium_ll_grammar.specs.Title.{affix_len}
use Rattle.ciborium_ll_grammar.specs.Items.{IsItem}
use Rattle.ciborium_ll_grammar.proofs.AffixLaws.{announced}
use Rattle.cbor_checker.specs.declared.phase.Phase.{Phase}
use Rattle.cbor_checker.specs.declared.phase.Phase.TheVariants as p
use Rattle.cbor_checker.specs.declared.phase.Fault.{Fault}
use Rattle.cbor_checker.specs.Spots.{Spot}
use Rattle.cbor_checker.specs.Steps.{start, with_byte, TitleStep, whole, StepIn, IsFed, fresh, more}
use Rattle.cbor_checker.specs.Reading.{BeginsItem, GoesOn, IsMore, LacksAtLeast, Tells}
use Rattle.cbor_checker.specs.Telling.{IsAnswer, has_left, is_due, title_due, progress_in, progress_of, EndedIn}
use Rattle.cbor_checker.specs.declared.progress.Progress.{Progress}
use Rattle.cbor_checker.specs.declared.progress.Progress.TheVariants as r
use Rattle.cbor_checker.proofs.KeptLaws.{entered_kept, bytes_kept, left_kept}
use Rattle.cbor_checker.proofs.ExactLaws.{ended_exact}
use Rattle.cbor_checker.proofs.LiveLaws.{fed_goes}
use Rattle.cbor_checker.proofs.Waiting.{BodyThen, WaitsIn}
use Rattle.cbor_checker.proofs.StepLaws.{Titled, due_titled, fed_same}

-- ---- bytes fed one by one

pub fed_fresh : (s : Spelling) (d : ℕ) (spot : Spot) → spot ≡ start s d → IsFed s d [] spot
fed_fresh s d spot e = subst (IsFed s d []) (sym e) fresh

-- ---- each byte is counted

title_counts : (spot new : Spot) → TitleStep spot new → new.offset ≡ spot.offset
title_counts spot new (whole x q g) = (entered_kept spot.within x (record spot { front = [] })).1
title_counts spot new step = grind (arith, nat_tests)

pub step_counts : (phase : Phase) (spot new : Spot) (b : ℕ) → StepIn phase spot b new → new.offset ≡ spot.offset + 1
step_counts p.Title spot new b step = title_counts (with_byte b spot) new step
step_counts phase spot new b step = grind (arith, nat_tests, bytes_kept, left_kept)

pub fed_counts : (s : Spelling) (d : ℕ) (fed : List ℕ) (spot : Spot) → IsFed s d fed spot → spot.offset ≡ length fed
fed_counts s d fed spot fresh = refl
fed_counts s d fed spot (more {bytes = a} {spot = before} b byte is step) =
    let so_far = fed_counts s d a before is in
    let one = step_counts before.phase before spot b step in
    omega (arith, so_far, one, length-append a (b ∷ []))

-- ---- an item goes on if more bytes are due

due_unended : (phase : Phase) → is_due phase ≡ true → EndedIn phase → ⊥
due_unended p.Ended due has = cc
due_unended phase due has = has

due_sound : (phase : Phase) → is_due phase ≡ true → (fault : Fault) → phase ≡ p.Faulted fault → ⊥
due_sound phase due fault is = let both = sym due ∙ ap is_due is in cc

pub goes_on : (s : Spelling) (d : ℕ) (fed : List ℕ) (spot : Spot) → IsFed s d fed spot → is_due spot.phase ≡ true
    → GoesOn s d fed
goes_on s d fed spot is due = record {
  begins = fed_goes s d fed spot is (due_sound spot.phase due);
  unended = λ item. due_unended spot.phase due ((ended_exact s d fed spot is).1 item);
}

-- ---- how many bytes are due

title_least : (front y rest t affix : List ℕ) (byte : ℕ) → front ++ y ≡ t ++ rest → t ≡ byte ∷ affix
    → length affix ≡ affix_len (byte % 32) → title_due front ≤ length y
title_least [] y rest t affix byte e is long =
    let whole = ap length e in let some = ap length is in
    omega (arith, whole, some, length-append t rest)
title_least (b ∷ front) y rest t affix byte e is long =
    let whole = ap length e in
    let some = ap length is in
    let heads : byte ≡ b = cc in
    omega (arith, whole, some, rw heads at long, length-append t rest, length-append front y)

due_by : (spot : Spot) (y : List ℕ) → Titled spot.allowed (spot.front ++ y) → title_due spot.front ≤ length y
due_by spot y o =
    let a = announced o.title o.header o.is_title in
    title_least spot.front y o.rest o.title a.affix a.byte o.is a.is a.long

title_lacks : (front : List ℕ) → length front ≤ affix_len (slice_index front 0 % 32) → 1 ≤ title_due front
title_lacks front short = grind (arith, nat_tests)

body_by : {len : ℕ} {P Then : List ℕ → Type 0} {y : List ℕ} → BodyThen len P Then y → len ≤ length y
body_by o = let whole = ap length o.is in omega (arith, o.long, whole, length-append o.body o.rest)

more_tells : (s : Spelling) (d : ℕ) (fed : List ℕ) (due : ℕ) → 1 ≤ due → BeginsItem s d fed → LacksAtLeast s d fed due
    → Tells s d fed (r.More due)
more_tells s d fed due some begins least = (
  record { begins = begins; unended = λ item. omega (arith, some, least [] (rw append-nil item)) },
  some,
  least,
)

tells_in : (phase : Phase) (s : Spelling) (d : ℕ) (fed : List ℕ) (spot : Spot) → phase ≡ spot.phase → IsFed s d fed spot
    → ((y : List ℕ) → IsItem s d (fed ++ y) → WaitsIn phase spot y) → has_left phase ≡ true
    → length spot.front ≤ affix_len (slice_index spot.front 0 % 32) → Tells s d fed (progress_in phase spot)
tells_in p.Title s d fed spot e is waits left short =
    more_tells s d fed (title_due spot.front) (title_lacks spot.front short)
    (fed_goes s d fed spot is (λ fault same. let both = e ∙ same in cc))
    (λ y i. due_by spot y (due_titled _ spot.within _ spot.levels _ (waits y i)))
tells_in (p.Bytes zero) s d fed spot e is waits left short = absurd cc
tells_in (p.Bytes (suc n)) s d fed spot e is waits left short =
    more_tells s d fed (suc n) (omega arith) (fed_goes s d fed spot is (λ fault same. let both = e ∙ same in cc))
    (λ y i. body_by (waits y i))
tells_in (p.Text zero state) s d fed spot e is waits left short = absurd cc
tells_in (p.Text (suc n) state) s d fed spot e is waits left short =
    more_tells s d fed (suc n) (omega arith) (fed_goes s d fed spot is (λ fault same. let both = e ∙ same in cc))
    (λ y i. body_by (waits y i))
tells_in p.Ended s d fed spot e is waits left short =
    let item = (fed_same s d fed spot is []).1 (subst (λ (z : Phase). WaitsIn z spot []) e refl) in
    (rw append-nil at item, fed_counts s d fed spot is)
tells_in (p.Faulted fault) s d fed spot e is waits left short = λ begins. waits begins.0 begins.1

pub tells : (s : Spelling) (d : ℕ) (fed : List ℕ) (spot : Spot) → IsFed s d fed spot → has_left spot.phase ≡ true
    → length spot.front ≤ affix_len (slice_index spot.front 0 % 32) → Tells s d fed (progress_of spot)
tells s d fed spot is left short =
    tells_in spot.phase s d fed spot refl is (λ y i. (fed_same s d fed spot is y).0 i) left short

-- An answer that is the answer of the spot has the same meaning.
pub told : (s : Spelling) (d : ℕ) (fed : List ℕ) (spot : Spot) (progress : Progress) → progress ≡ progress_of spot
    → IsFed s d fed spot → has_left spot.phase ≡ true
    → length spot.front ≤ affix_len (slice_index spot.front 0 % 32) → Tells s d fed progress
told s d fed spot progress e is left short = subst (Tells s d fed) (sym e) (tells s d fed spot is left short)

-- No spot answers `TooLong`.
pub never_long : (phase : Phase) (spot : Spot) → progress_in phase spot ≡ r.TooLong → ⊥
never_long p.Title spot is = cc
never_long (p.Bytes left) spot is = cc
never_long (p.Text left state) spot is = cc
never_long p.Ended spot is = cc
never_long (p.Faulted fault) spot is = cc

-- If the answer is `More`, more bytes are due by the phase.
pub more_due : (phase : Phase) (spot : Spot) → IsMore (progress_in phase spot) → is_due phase ≡ true
more_due p.Title spot is = refl
more_due (p.Bytes left) spot is = refl
more_due (p.Text left state) spot is = refl
more_due p.Ended spot is = absurd is
more_due (p.Faulted fault) spot is = absurd is

-- Bytes are left where more are due, or not.
pub is_long : (left due : Bool) → (left ≡ true × due ≡ true) ⊎ (left ≡ true → due ≡ true → ⊥)
is_long true true = inl (refl, refl)
is_long true false = inr (λ a b. let no = b in cc)
is_long false due = inr (λ a b. let no = a in cc)

-- If more bytes are due by the phase, the answer is `More`.
pub due_more : (phase : Phase) (spot : Spot) → is_due phase ≡ true → IsMore (progress_in phase spot)
due_more p.Title spot due = tt
due_more (p.Bytes left) spot due = tt
due_more (p.Text left state) spot due = tt
due_more p.Ended spot due = absurd cc
due_more (p.Faulted fault) spot due = absurd cc

-- An answer that is the answer of the spot is an answer there.
pub answered : (progress : Progress) (spot : Spot) → progress ≡ progress_of spot → IsAnswer progress spot
answered (r.More due) spot e = e
answered (r.Ended len) spot e = e
answered (r.Fault fault) spot e = e
answered r.TooLong spot e = absurd (never_long spot.phase spot (sym e))
