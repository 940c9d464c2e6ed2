-- A part of a body that was read, as a skip of the body reads it.
use Rattle.std.proofs.lemmas.Bool.Decides.{nat_tests}
use Rattle.std.proofs.Common.{◌≡◌, ℕ, ◌+◌, ◌<◌, ◌≤◌, Bool, true, false, List, [], ◌∷◌, ◌++◌, length}
use Rattle.std.proofs.Common.{Result, Ok, Err, inl, inr, refl, sym, ap, subst, ◌∙◌, arith, append_assoc}
use Rattle.std.proofs.Common.{length-append, None, take, take_at}
use Rattle.std.proofs.lemmas.List.{take-append-le}
use Rattle.std.proofs.lemmas.Bool.{cases_lt}
use Rattle.std.proofs.lemmas.Bool.Decides.{nat_tests}
use Rattle.ciborium_ll.specs.Types.Read.{Ghosts}
use Rattle.ciborium_ll.specs.Types.Decoder.{Decoder}
use Rattle.ciborium_ll.specs.Types.Error.{Error}
use Rattle.ciborium_ll.specs.Types.Error.TheVariants as e
use Rattle.ciborium_ll.specs.Strings.{Kind, Bytes, Text, IsWritable, most_kept}
use Rattle.ciborium_ll.specs.Decoding.{ReadsPast, ReadsBytes}
use Rattle.ciborium_ll.specs.Finishing.{BeginsRest, EndsBody, IsNoText, StopsReading}
use Rattle.ciborium_ll.proofs.DecodingLaws.{ReadsPast-none, ReadsPast-then}
use Rattle.ciborium_ll.proofs.TextLaws.{IsCharacters-append, IsCharacters-rest, IsCharacters-nil, some_front}
use Rattle.ciborium_ll.proofs.TextLaws.{no_text_begins}
use Rattle.ciborium_ll_text.proofs.FrontLaws.{IsStuck-nil, IsStuck-rest}
use Rattle.ciborium_ll_text.specs.States.{is_from, after_first, after_next, after, after_byte, tail_due}
use Rattle.ciborium_ll_text.specs.Text.{IsCharacters, IsFront, IsStuck}
use Rattle.ciborium_ll_text.specs.declared.state.State.{State}
use Rattle.ciborium_ll_text.specs.declared.state.State.TheVariants as t
use Rattle.ciborium_ll_text.proofs.StateLaws.{after-append, text_ends, text_from, none_goes_on, some_goes_on}
use Rattle.cbor_dump.specs.Takings.{ReadsMore, most_text}
use Rattle.cbor_dump.specs.Parts.{is_between, is_inside, EndsSoon, FailsInBody, IsCutText, IsSound, ReadsPart}
use Rattle.cbor_dump.specs.Parts.{ReadsTextPart}
use Rattle.cbor_dump.proofs.PullLaws.{passes_idle, first_passed}

-- ---- states

between_of : (state : State) → is_between state ≡ true → state ≡ t.Between
between_of state p = grind (arith, nat_tests)

damaged_of : (state : State) → is_inside state ≡ false → is_between state ≡ false → state ≡ t.Damaged
damaged_of state p q = grind (arith, nat_tests)

inside_not : (state : State) → is_inside state ≡ true → (0 < tail_due state) × (state ≡ t.Damaged → ⊥)
inside_not state is = grind arith

-- At most three more bytes of a character are due.
pub due_few : (state : State) → tail_due state ≤ 3
due_few state = grind arith

-- Inside a character each further byte leaves fewer bytes due.
due_step : (state : State) (byte : ℕ) → 0 < tail_due state → tail_due (after_byte state byte) < tail_due state
unfolding is_from after_first after_next
due_step state byte some = grind (arith, nat_tests)

pub state_due : (bytes more : List ℕ) → is_inside (after t.Between bytes) ≡ true → length more ≡ 1
    → tail_due (after t.Between (bytes ++ more)) < tail_due (after t.Between bytes)
state_due bytes [] is one = absurd (omega (arith, one))
state_due bytes (byte ∷ []) is one = grind (arith, after-append, due_step, inside_not)
state_due bytes (byte ∷ (other ∷ more)) is one = absurd (omega (arith, one))

pub inside_some : (bytes : List ℕ) → is_inside (after t.Between bytes) ≡ true → 0 < tail_due (after t.Between bytes)
inside_some bytes is = (inside_not (after t.Between bytes) is).0

-- The state after all bytes is the state after the rest that follows their longest front of characters.
pub front_state : (bytes front rest : List ℕ) (state : State) → IsFront bytes front rest
    → state ≡ after t.Between rest → state ≡ after t.Between bytes
front_state bytes front rest state is same =
    same ∙ sym (ap (λ (z : List ℕ). after t.Between z) is.parts ∙ (after-append t.Between front rest
    ∙ ap (λ (z : State). after z rest) (text_ends front is.text)))

-- ---- what the states say of a text

pub between_text : (bytes : List ℕ) → is_between (after t.Between bytes) ≡ true → IsCharacters bytes
between_text bytes is = text_from bytes (between_of (after t.Between bytes) is)

-- Bytes that end inside a character are not whole characters.
pub inside_broken : (bytes : List ℕ) → is_inside (after t.Between bytes) ≡ true → IsCharacters bytes → ⊥
inside_broken bytes is text = let ended = ap is_inside (text_ends bytes text) in absurd cc

-- The bytes are characters and at most three bytes of one more character.
record IsCut (bytes : List ℕ) : Type 0 where
  front : List ℕ
  left : List ℕ
  parts : bytes ≡ front ++ left
  few : length left ≤ 3
  stuck : IsStuck left
  text : IsCharacters front

cut_of : (bytes : List ℕ) → is_inside (after t.Between bytes) ≡ true → IsCut bytes
cut_of bytes is =
    let f = some_front bytes in
    let more = some_goes_on bytes (inside_not (after t.Between bytes) is).1 in
    elim (cases_lt 3 (length f.1)) [
      | inl much ↦ absurd (no_text_begins bytes f.0 f.1 more.0 f.2 much more.1)
      | inr few ↦ record {
        front = f.0;
        left = f.1;
        parts = f.2.parts;
        few = few;
        stuck = IsStuck-rest bytes f.0 f.1 f.2;
        text = f.2.text;
      }
    ]

pub cut_text : (left : ℕ) (bytes : List ℕ) → is_inside (after t.Between bytes) ≡ true → most_text ≤ length bytes
    → EndsSoon bytes → length bytes < left → IsCutText left bytes
cut_text left bytes is many soon less = grind (arith, nat_tests, some_goes_on, inside_not, inside_broken)

-- A byte that follows bytes that end inside a character leaves no further character.
pub inside_more : (row next byte : List ℕ) → next ≡ row ++ byte → length byte ≡ 1
    → ((count : ℕ) → most_text ≤ count → count < length row → is_inside (after t.Between (take count row)) ≡ true)
    → is_inside (after t.Between row) ≡ true → (count : ℕ) → most_text ≤ count → count < length next
    → is_inside (after t.Between (take count next)) ≡ true
inside_more row next byte is one earlier here count least less =
    let long = ap length is in
    let both = length-append row byte in
    elim (cases_lt count (length row)) [
      | inl before ↦ (let same : take count next ≡ take count row =
          ap (λ (z : List ℕ). take count z) is ∙ take-append-le count row byte (omega (arith, before)) in
          rw same (earlier count least before))
      | inr behind ↦ (let all : count ≡ length row = omega (arith, long, both, one, less, behind) in
          let same : take count next ≡ row = ap (λ (z : List ℕ). take count z) is ∙ take_at row byte count (sym all) in
          rw same here)
    ]

-- The bytes do not end inside a character, or are all that was left. Then they are characters, or they begin no text.
pub sound_of : (left : ℕ) (bytes : List ℕ) (whole : Bool) → whole ≡ is_between (after t.Between bytes)
    → length bytes ≤ left → (length bytes < left → is_inside (after t.Between bytes) ≡ false) → IsSound left bytes whole
sound_of left bytes true is most ends = between_text bytes (sym is)
sound_of left bytes false is most ends =
    elim (cases_lt (length bytes) left) [
      | inl less ↦ inr (λ more text. none_goes_on bytes more
          (damaged_of (after t.Between bytes) (ends less) (sym is)) text)
      | inr all ↦ inl (
        omega (arith, most, all),
        λ text. (let ended = ap is_between (text_ends bytes text) in absurd cc),
      )
    ]

-- ---- fronts of a body

writable_first : (kind : Kind) → IsWritable kind []
writable_first kind = grind (arith, nat_tests, IsCharacters-nil)

writable_behind : (kind : Kind) (front behind : List ℕ) → IsWritable kind front → IsWritable kind behind
    → IsWritable kind (front ++ behind)
writable_behind kind front behind p q = grind (arith, nat_tests, IsCharacters-append, front)

no_text_then : (len left : ℕ) (front read : List ℕ) → IsCharacters front → length front + left ≡ len
    → IsNoText [] left read → IsNoText [] len (front ++ read)
no_text_then len left front read text counted (inl whole) =
    grind (arith, nat_tests, length-append, front, IsCharacters-rest, text)
no_text_then len left front read text counted (inr never) =
    inr (λ more both. never more (IsCharacters-rest front (read ++ more) text
    (subst IsCharacters (append_assoc front read more) both)))

module _ {R E : Type 0} (source : Ghosts R E) where
  -- At most `left` bytes were read. They are a valid front and at most as many bytes as a skip keeps.
  abbrev begun : (kind : Kind) (left : ℕ) (old new : Decoder R) (read front behind : List ℕ) → read ≡ front ++ behind
      → length behind ≤ most_kept kind → IsStuck behind → IsWritable kind front → length read ≤ left
      → ReadsPast source old read new
      → BeginsRest source kind [] left old new
  begun kind left old new read front behind parts few stuck sound most passed = record {
    read = read;
    front = front;
    left = behind;
    parts = parts;
    few = few;
    stuck = stuck;
    sound = sound;
    within = most;
    passed = passed;
  }

  -- If a read of more bytes fails then, the read of the body fails as a skip does. The skip has a buffer that these
  -- bytes fill.
  part_fails : (kind : Kind) (left place : ℕ) (old between new : Decoder R) (bytes : List ℕ) (error : Error E)
      → (part : BeginsRest source kind [] left old between) → between.waiting ≡ None → 0 < length bytes
      → length part.left + length bytes ≤ 16 → length part.read + length bytes ≤ left
      → ReadsBytes source between (Err error) bytes new → FailsInBody source kind left place old error new
  part_fails kind left place old between new bytes (e.Io fault) part none some few more fails = record {
    room = length part.left + length bytes;
    held = few;
    holds = record {
      between = between;
      part = part;
      count = length bytes;
      filled = omega (arith, more);
      stops = (some, fails);
    };
  }
  part_fails kind left place old between new bytes (e.Syntax at) part none some few more fails = absurd fails
  part_fails kind left place old between new bytes e.TooLong part none some few more fails = record {
    room = length part.left + length bytes;
    held = few;
    holds = record {
      between = between;
      part = part;
      count = length bytes;
      filled = omega (arith, more);
      stops = (fails.1, fails.2);
    };
  }
  part_fails kind left place old between new bytes e.Waiting part none some few more fails = grind (arith, nat_tests)

  -- If the first read of a part fails, the read of the body fails as a skip does.
  pub first_part : (kind : Kind) (left place count : ℕ) (before row : List ℕ) (old new : Decoder R) (error : Error E)
      → before ≡ [] → old.waiting ≡ None → 0 < left → 0 < count → count ≤ left
      → ReadsMore source count before row old (Err error) new → FailsInBody source kind left place old error new
  first_part kind left place count before row old new error empty none some any most reads =
      let counted = reads.counted in
      let zero = ap length empty in
      part_fails kind left place old old new reads.bytes error
      (begun kind left old old [] [] [] refl (omega arith) IsStuck-nil (writable_first kind) (omega arith)
      (ReadsPast-none source old))
      none (omega (arith, counted, zero, any)) (omega (arith, counted)) (omega (arith, counted, most)) reads.reads.read

  -- If a further read fails after bytes that end inside a character, the read of the body fails as a skip does.
  pub next_part : (left place : ℕ) (row next : List ℕ) (old between new : Decoder R) (error : Error E)
      → ReadsPast source old row between → old.waiting ≡ None → length row < left → length row < 16
      → is_inside (after t.Between row) ≡ true → ReadsMore source 1 row next between (Err error) new
      → FailsInBody source Text left place old error new
  next_part left place row next old between new error passed none more room inside reads =
      let cut = cut_of row inside in
      let counted = reads.counted in
      part_fails Text left place old between new reads.bytes error
      (begun Text left old between row cut.front cut.left cut.parts cut.few cut.stuck cut.text (omega (arith, more)) passed)
      (passes_idle source old between row passed none) (omega (arith, counted, room))
      (omega (arith, counted, room, ap length cut.parts, length-append cut.front cut.left)) (omega (arith, counted, more))
      reads.reads.read

  -- If the bytes of a part are no text, a skip of the body finds the same fault.
  pub fault_part : (left place : ℕ) (row : List ℕ) (old new : Decoder R) → length row ≤ left → length row ≤ 16
      → ReadsTextPart source left row old (Ok false) new → FailsInBody source Text left place old (e.Syntax place) new
  fault_part left place row old new most few reads = record {
    room = length row;
    held = few;
    holds = record {
      between = old;
      part = begun Text left old old [] [] [] refl (omega arith) IsStuck-nil IsCharacters-nil (omega arith)
          (ReadsPast-none source old);
      count = length row;
      filled = omega (arith, most);
      stops = (refl, record { textual = refl; last = row; all = refl; no_text = reads.1; passed = reads.0 });
    };
  }

  abbrev begins_behind : (kind : Kind) (len left : ℕ) (front : List ℕ) (old between new : Decoder R)
      → ReadsPast source old front between → IsWritable kind front → length front + left ≡ len
      → BeginsRest source kind [] left between new → BeginsRest source kind [] len old new
  begins_behind kind len left front old between new passed written counted part = record {
    read = front ++ part.read;
    front = front ++ part.front;
    left = part.left;
    parts = ap (λ (z : List ℕ). front ++ z) part.parts ∙ sym (append_assoc front part.front part.left);
    few = part.few;
    stuck = part.stuck;
    sound = writable_behind kind front part.front written part.sound;
    within = let within = part.within in omega (arith, within, counted, length-append front part.read);
    passed = ReadsPast-then source old between new front part.read passed part.passed;
  }

  stops_behind : (kind : Kind) (len left place count : ℕ) (front read : List ℕ) (between new : Decoder R)
      (error : Error E) → IsWritable kind front → length front + left ≡ len
      → StopsReading source kind [] left read place count between error new
      → StopsReading source kind [] len (front ++ read) place count between error new
  stops_behind kind len left place count front read between new (e.Io fault) written counted stops = stops
  stops_behind kind len left place count front read between new (e.Syntax at) written counted stops =
      let damage = stops.1 in (
        stops.0,
        record {
          textual = damage.textual;
          last = damage.last;
          all = damage.all;
          no_text = subst (λ (z : List ℕ). IsNoText [] len z) (sym (append_assoc front read damage.last))
              (no_text_then len left front (read ++ damage.last)
              (subst (λ (k : Kind). IsWritable k front) damage.textual written) counted damage.no_text);
          passed = damage.passed;
        },
      )
  stops_behind kind len left place count front read between new e.TooLong written counted stops = stops
  stops_behind kind len left place count front read between new e.Waiting written counted stops = absurd stops

  -- If the read of the rest of a body fails after a front, the read of the whole body fails with the same error.
  ends_behind : (kind : Kind) (len left room place : ℕ) (front : List ℕ) (old between new : Decoder R)
      (error : Error E) → ReadsPast source old front between → IsWritable kind front → length front + left ≡ len
      → EndsBody source kind [] left room place between (Err error) new
      → EndsBody source kind [] len room place old (Err error) new
  ends_behind kind len left room place front old between new error passed written counted ends = record {
    between = ends.between;
    part = begins_behind kind len left front old between ends.between passed written counted ends.part;
    count = ends.count;
    filled = let filled = ends.filled in omega (arith, filled, counted, length-append front ends.part.read);
    stops = stops_behind kind len left place ends.count front ends.part.read ends.between new error written counted
        ends.stops;
  }

  pub part_behind : (kind : Kind) (len left place : ℕ) (front : List ℕ) (old between new : Decoder R)
      (error : Error E) → ReadsPast source old front between → IsWritable kind front → length front + left ≡ len
      → FailsInBody source kind left place between error new → FailsInBody source kind len place old error new
  part_behind kind len left place front old between new error passed written counted fails = record {
    room = fails.room;
    held = fails.held;
    holds = ends_behind kind len left fails.room place front old between new error passed written counted fails.holds;
  }

  -- The read of a part of a byte string reads these bytes, or fails as a skip of the body does.
  pub bytes_part : (left place count : ℕ) (before row : List ℕ) (old new : Decoder R)
      (result : Result (Unit {0}) (Error E)) → before ≡ [] → old.waiting ≡ None → 0 < left → 0 < count → count ≤ left
      → ReadsMore source count before row old result new → ReadsPart source Bytes left place row old result new
  bytes_part left place count before row old new (Ok done) empty none some any most reads =
      grind (arith, nat_tests, first_passed)
  bytes_part left place count before row old new (Err error) empty none some any most reads =
      first_part Bytes left place count before row old new error empty none some any most reads
