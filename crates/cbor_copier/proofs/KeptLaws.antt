-- The parts of a spot that a whole title or body leaves as they were. The lengths of a byte's output and of the bytes
-- that are then held back.
use Rattle.std.proofs.Common.{◌≡◌, ℕ, zero, suc, ◌+◌, ◌-◌, ◌≤◌, Bool, true, false, List, [], ◌∷◌, ◌++◌, ◌⊎◌, length}
use Rattle.std.proofs.Common.{take, Some, None, refl, ap, arith, inl, inr, length-append, length-take-le, ◌/◌, ◌%◌, ◌<◌}
use Rattle.std.proofs.Common.{slice_index, drop, length-drop, sym, ◌∙◌}
use Rattle.ciborium_ll_grammar.specs.declared.spelling.Spelling.{Spelling}
use Rattle.ciborium_ll_grammar.specs.declared.spelling.Spelling.TheVariants.{Any, Shortest}
use Rattle.ciborium_ll_grammar.specs.declared.hdr.Header.{Header}
use Rattle.ciborium_ll_grammar.specs.declared.hdr.Header.TheVariants as h
use Rattle.ciborium_ll_grammar.specs.Title.{IsTitle, shortest_title, Major, ByteString, TextString, Other, Size, Small}
use Rattle.ciborium_ll_grammar.specs.Title.{affix_len, numbered_header, IsCutTitle}
use Rattle.ciborium_ll_grammar.specs.Faults.{IsRefusedIn}
use Rattle.ciborium_ll_grammar.specs.Items.{IsTakenTitle}
use Rattle.ciborium_ll_grammar.specs.Strings.{Kind, Bytes, Text, kind_header}
use Rattle.ciborium_ll_grammar.proofs.TitleLaws.{shortest_no_longer}
use Rattle.ciborium_ll_text.specs.declared.state.State.{State}
use Rattle.ciborium_ll_text.specs.declared.state.State.TheVariants as s
use Rattle.ciborium_ll_text.specs.States.{after_byte}
use Rattle.cbor_copier.specs.declared.phase.Phase.{Phase}
use Rattle.cbor_copier.specs.declared.phase.Phase.TheVariants as p
use Rattle.cbor_parser.specs.declared.strings.StringKind.{StringKind}
use Rattle.cbor_parser.specs.declared.strings.StringKind.TheVariants as k
use Rattle.cbor_parser.specs.declared.strings.Within.{Within}
use Rattle.cbor_parser.specs.declared.strings.Within.TheVariants as w
use Rattle.cbor_parser.specs.Strings.{blocks, kind_of as kind_in, piece_within}
use Rattle.cbor_parser.specs.Titles.{NoneTaken, SomeTaken}
use Rattle.cbor_copier.specs.Spots.{Spot, elements_due, string_done, body_due, entered, refused, within_entered}
use Rattle.cbor_copier.specs.Steps.{Faults, with_byte, with_char, char_put, byte_put, text_left, StepIn, TitleStep, cut}
use Rattle.cbor_copier.specs.Steps.{early, whole, none, titled}
use Rattle.cbor_copier.proofs.Reached.{Misplaced}
use Rattle.ciborium_ll_grammar.specs.declared.hdr.table.TitleKind.{TitleKind}
use Rattle.ciborium_ll_grammar.specs.TitleRows.{IsTitleKind}
use Rattle.ciborium_ll_grammar.proofs.TitleKinds.{kind_of, numbered_title, kind_at, parted}

-- The front, the offset, the output and the spelling stay, and the new spot is no fault.
abbrev pub Kept : Spot → Spot → Type 0
Kept new old =
    (new.front ≡ old.front) × (new.offset ≡ old.offset) × (new.put ≡ old.put) × (Faults new → ⊥)
    × (new.allowed ≡ old.allowed)

pub due_kept : (left : ℕ) (spot : Spot) → Kept (elements_due left spot) spot
due_kept zero spot = (refl, refl, refl, λ f. cc f.1, refl)
due_kept (suc left) spot = (refl, refl, refl, λ f. cc f.1, refl)

done_kept : (i : Within) (spot : Spot) → Kept (string_done i spot) spot
done_kept w.Nothing spot = due_kept (spot.left - 1) spot
done_kept (w.Open kind more) spot = (refl, refl, refl, λ f. cc f.1, refl)

pub body_kept : (kind : StringKind) (len : ℕ) (spot : Spot) → Kept (body_due kind len spot) spot
body_kept kind zero spot = done_kept spot.within spot
body_kept k.Bytes (suc len) spot = (refl, refl, refl, λ f. cc f.1, refl)
body_kept k.Text (suc len) spot = (refl, refl, refl, λ f. cc f.1, refl)

-- ---- a whole title

-- A title keeps the front and the offset, and puts out its shortest title or nothing. The new spot is a fault exactly
-- if the title may not stand there.
pub record Entered (i : Within) (header : Header) (spot new : Spot) : Type 0 where
  pub front : new.front ≡ spot.front
  pub offset : new.offset ≡ spot.offset
  pub put : (new.put ≡ shortest_title header) ⊎ (new.put ≡ spot.put)
  pub faults : Faults new → Misplaced spot.allowed i header
  pub misplaced : Misplaced spot.allowed i header → Faults new
  pub same : new.allowed ≡ spot.allowed

module _ {i : Within} {header : Header} {spot : Spot} where
  by_kept : {new : Spot} {put : List ℕ} → (new.front ≡ spot.front) × (new.offset ≡ spot.offset) × (new.put ≡ put)
      × (Faults new → ⊥) × (new.allowed ≡ spot.allowed) → (put ≡ shortest_title header) ⊎ (put ≡ spot.put)
      → (Misplaced spot.allowed i header → ⊥) → Entered i header spot new
  by_kept {new} kept out sound = record {
    front = kept.0;
    offset = kept.1;
    put = rw (← kept.2) at out;
    faults = λ f. absurd (kept.3 f);
    misplaced = λ bad. absurd (sound bad);
    same = kept.4;
  }

  by_fault : Misplaced spot.allowed i header → Entered i header spot (refused spot)
  by_fault bad = record {
    front = refl;
    offset = refl;
    put = inr refl;
    faults = λ f. bad;
    misplaced = λ b. (spot.place, refl);
    same = refl;
  }

-- A string of a definite length may stand within strings of its kind.
some_piece : (allowed : Spelling) (kind : Kind) (len : ℕ) → IsRefusedIn allowed kind (kind_header kind (Some len)) → ⊥
some_piece allowed Bytes len (inl bad) = bad
some_piece allowed Text len (inl bad) = bad
some_piece allowed Bytes len (inr bad) = absurd (cc bad.1)
some_piece allowed Text len (inr bad) = absurd (cc bad.1)

-- A break may stand within strings.
some_break : (allowed : Spelling) (kind : Kind) → IsRefusedIn allowed kind h.Break → ⊥
some_break allowed Bytes (inl bad) = bad
some_break allowed Text (inl bad) = bad
some_break allowed Bytes (inr bad) = absurd (cc bad.1)
some_break allowed Text (inr bad) = absurd (cc bad.1)

-- An open may stand within strings of its kind, unless only the shortest spelling is taken.
some_open : (allowed : Spelling) (kind : Kind) → Any ≡ allowed → IsRefusedIn allowed kind (kind_header kind None) → ⊥
some_open allowed Bytes any (inl bad) = bad
some_open allowed Text any (inl bad) = bad
some_open allowed kind any (inr bad) = let both : Any ≡ Shortest = any ∙ bad.0 in absurd cc

-- An open within strings of its kind, by the spelling.
open_enters : (allowed : Spelling) (kind : StringKind) (more : ℕ) (spot : Spot) → allowed ≡ spot.allowed
    → Entered (w.Open kind more) (kind_header (kind_in kind) None) spot
    (within_entered (piece_within allowed kind more None) (kind_header (kind_in kind) None) spot)
open_enters Any k.Bytes more spot e =
    by_kept (refl, refl, refl, λ f. cc f.1, refl) (inr refl) (some_open spot.allowed Bytes e)
open_enters Any k.Text more spot e =
    by_kept (refl, refl, refl, λ f. cc f.1, refl) (inr refl) (some_open spot.allowed Text e)
open_enters Shortest k.Bytes more spot e = by_fault (inr (sym e, refl))
open_enters Shortest k.Text more spot e = by_fault (inr (sym e, refl))

pub enters : (i : Within) (header : Header) (spot : Spot) → Entered i header spot (entered i header spot)
enters w.Nothing (h.Bytes (Some len)) spot = by_kept (body_kept k.Bytes len _) (inl refl) (λ bad. bad)
enters w.Nothing (h.Text (Some len)) spot = by_kept (body_kept k.Text len _) (inl refl) (λ bad. bad)
enters w.Nothing (h.Bytes None) spot = by_kept (refl, refl, refl, λ f. cc f.1, refl) (inl refl) (λ bad. bad)
enters w.Nothing (h.Text None) spot = by_kept (refl, refl, refl, λ f. cc f.1, refl) (inl refl) (λ bad. bad)
enters w.Nothing header spot = by_kept (due_kept (spot.left - 1) _) (inl refl) (λ bad. bad)
enters (w.Open k.Bytes more) (h.Bytes (Some len)) spot =
    by_kept (body_kept k.Bytes len _) (inl refl) (some_piece spot.allowed Bytes len)
enters (w.Open k.Text more) (h.Text (Some len)) spot =
    by_kept (body_kept k.Text len _) (inl refl) (some_piece spot.allowed Text len)
enters (w.Open k.Bytes more) (h.Bytes None) spot = open_enters spot.allowed k.Bytes more spot refl
enters (w.Open k.Text more) (h.Text None) spot = open_enters spot.allowed k.Text more spot refl
enters (w.Open k.Bytes zero) h.Break spot =
    by_kept (due_kept (spot.left - 1) _) (inl refl) (some_break spot.allowed Bytes)
enters (w.Open k.Text zero) h.Break spot =
    by_kept (due_kept (spot.left - 1) _) (inl refl) (some_break spot.allowed Text)
enters (w.Open k.Bytes (suc more)) h.Break spot =
    by_kept (refl, refl, refl, λ f. cc f.1, refl) (inr refl) (some_break spot.allowed Bytes)
enters (w.Open k.Text (suc more)) h.Break spot =
    by_kept (refl, refl, refl, λ f. cc f.1, refl) (inr refl) (some_break spot.allowed Text)
enters (w.Open k.Bytes more) header spot = by_fault (inl tt)
enters (w.Open k.Text more) header spot = by_fault (inl tt)

-- The output of a title is no longer than the title.
pub entered_put : (i : Within) (header : Header) (spot : Spot) (title : List ℕ) → IsTitle title header → spot.put ≡ []
    → length (entered i header spot).put ≤ length title
entered_put i header spot title q clear =
    elim (enters i header spot).put [
      | inl e ↦ rw e (shortest_no_longer title header q)
      | inr e ↦ rw (e, clear) (omega arith)
    ]

-- ---- a byte

-- The byte is counted, and the spelling stays. The byte's output and the new front have together at most one byte more
-- than the front before.
abbrev pub Stepped : Spot → Spot → Type 0
Stepped old new =
    (new.offset ≡ old.offset + 1) × (length new.put + length new.front ≤ length old.front + 1)
    × (new.allowed ≡ old.allowed)

title_steps : (b : ℕ) (spot new : Spot) → TitleStep (with_byte b spot) new → Stepped spot new
title_steps b spot new (cut c some may) = (refl, omega (arith, length-append spot.front (b ∷ [])), refl)
title_steps b spot new (early c some all) = (refl, omega (arith, length-append spot.front (b ∷ [])), refl)
title_steps b spot new (none never) = (refl, omega arith, refl)
title_steps b spot new (whole header q taken) =
    let old = record (with_byte b spot) { front = [] } in
    let o = enters spot.within header old in
    let put = entered_put spot.within header old _ q refl in
    (o.offset, rw o.front (omega (arith, put, length-append spot.front (b ∷ []))), o.same)

text_steps : (may : Bool) (left b : ℕ) (state : State) (spot : Spot)
    → Stepped spot (text_left may left state (with_char b spot))
text_steps false left b state spot = (refl, omega arith, refl)
text_steps true left b s.Between spot =
    let o = body_kept k.Text left (char_put (with_char b spot)) in
    (o.1, rw (o.0, o.2) (omega (arith, length-append spot.front (b ∷ []))), o.4)
text_steps true left b state spot = (refl, omega (arith, length-append spot.front (b ∷ [])), refl)

pub steps : (phase : Phase) (spot new : Spot) (b : ℕ) → StepIn phase spot b new → Stepped spot new
steps p.Title spot new b step = title_steps b spot new step
steps (p.Bytes (suc left)) spot new b step =
    let o = body_kept k.Bytes left (byte_put b spot) in rw step (o.1, rw (o.0, o.2) (omega arith), o.4)
steps (p.Text (suc left) state) spot new b step = rw step (text_steps _ left b (after_byte state b) spot)
steps phase spot new b step = absurd step

-- The end of the output, the pending bytes and the front are together at most `at + most`.
pub given_grows : (new : Spot) (at end most : ℕ) (out out' rest : List ℕ) → length new.put + length new.front ≤ most
    → at ≤ length out → end ≤ length out' → take end out' ++ rest ≡ take at out ++ new.put
    → end + length rest + length new.front ≤ at + most
given_grows new at end most out out' rest grows before behind given =
    omega (
      arith,
      ap length given,
      length-take-le at out before,
      length-take-le end out' behind,
      length-append (take end out') rest,
      length-append (take at out) new.put,
    )

-- ---- the kind of a first byte tells whether a title with this beginning may stand there

-- The test says whether the statement holds.
abbrev Says : Bool → Type 0 → Type 0
Says true P = P
Says false P = P → ⊥

-- The test says whether a title of this kind is misplaced.
blocked : (allowed : Spelling) (i : Within) (m : Major) (s : Size) (n : ℕ)
    → Says (blocks i (kind_of m)) (Misplaced allowed i (numbered_header m s n))
blocked allowed w.Nothing m s n = λ bad. bad
blocked allowed (w.Open k.Bytes more) ByteString s n = some_piece allowed Bytes n
blocked allowed (w.Open k.Text more) TextString s n = some_piece allowed Text n
blocked allowed (w.Open k.Bytes more) Other Small n = inl tt
blocked allowed (w.Open k.Text more) Other Small n = inl tt
blocked allowed (w.Open k.Bytes more) m s n = inl tt
blocked allowed (w.Open k.Text more) m s n = inl tt

-- The spot after a byte of a title, as the code finds it.
module _ (spot new : Spot) (kind : TitleKind) (some : 0 < length spot.front)
    (says : IsTitleKind kind (slice_index spot.front 0 / 32) (slice_index spot.front 0 % 32))
    (short : length spot.front ≤ affix_len (slice_index spot.front 0 % 32))
    (taken : SomeTaken spot.allowed spot.front) where
  is_cut : IsCutTitle spot.front
  is_cut = rw (parted spot.front some) (omega (arith, short, some, length-drop 1 spot.front))

  blocked_so : (behind : List ℕ) (x : Header) → IsTitle (spot.front ++ behind) x
      → Says (blocks spot.within kind) (Misplaced spot.allowed spot.within x)
  blocked_so behind x q =
      let byte = slice_index spot.front 0 in
      let o = numbered_title byte (drop 1 spot.front ++ behind) (spot.front ++ behind) x q
      (ap (λ (z : List ℕ). z ++ behind) (parted spot.front some)) (omega (arith, some, short)) in
      rw (← kind_at kind byte o.major o.code (omega (arith, some, short)) says, ← o.is)
      at (blocked spot.allowed spot.within o.major o.size o.number)

  pub step_early : blocks spot.within kind ≡ true → new ≡ refused spot → TitleStep spot new
  step_early b e =
      rw e (early is_cut taken (λ behind x q.
      (enters spot.within x (record spot { front = [] })).misplaced (rw b at (blocked_so behind x q))))

  pub step_cut : blocks spot.within kind ≡ false → new ≡ spot → TitleStep spot new
  step_cut b e =
      rw e (cut is_cut taken (λ behind x q f.
      (rw b at (blocked_so behind x q)) ((enters spot.within x (record spot { front = [] })).faults f)))

pub step_whole : (spot new : Spot) (header : Header) → IsTitle spot.front header
    → IsTakenTitle spot.allowed spot.front header → new ≡ titled header spot → TitleStep spot new
step_whole spot new header q taken e = rw e (whole header q taken)

pub step_none : (spot new : Spot) → NoneTaken spot.allowed spot.front → new ≡ refused (record spot { front = [] })
    → TitleStep spot new
step_none spot new never e = rw e (none never)
