-- The steps of a piece through a checker, and through a copier of elements, which does not get the byte at fault.
use Rattle.std.proofs.Common.{◌≡◌, ◌≢◌, ℕ, zero, suc, ◌+◌, ◌<◌, ◌≤◌, ◌^◌, ◌⊎◌, ◌↔◌, true, List, [], ◌∷◌, ◌++◌, length, take, drop}
use Rattle.std.proofs.Common.{refl, sym, ap, subst, arith, inl, inr, append_assoc, append-nil, length-append}
use Rattle.std.proofs.Common.{get_or, take-append-drop}
use Rattle.std.proofs.lemmas.Bool.{cases_lt}
use Rattle.std.proofs.lemmas.List.{take_all, take_more, length-take-le, take-take}
use Rattle.ciborium_ll_grammar.specs.declared.spelling.Spelling.{Spelling}
use Rattle.ciborium_ll_grammar.specs.declared.spelling.Spelling.TheVariants.{Any}
use Rattle.ciborium_ll_grammar.specs.Title.{AreBytes}
use Rattle.ciborium_ll_grammar.proofs.AffixLaws.{AreBytes-append, AreBytes-take}
use Rattle.ciborium_ll_text.proofs.Lists.{length_zero}
use Rattle.cbor_copier.specs.declared.copier.Copier.{Copier}
use Rattle.cbor_copier.specs.declared.progress.Progress.{Progress as Copied}
use Rattle.cbor_copier.specs.declared.progress.Progress.TheVariants as cr
use Rattle.cbor_copier.specs.Copying as copy
use Rattle.cbor_copier.specs.Copying.{HasCopied}
use Rattle.cbor_copier.specs.Spots.{putting}
use Rattle.cbor_copier.specs.Reading as told
use Rattle.cbor_copier.specs.Reading.{NoneGoOn}
use Rattle.cbor_copier.proofs.ReadLaws.{one_output, room_answers}
use Rattle.cbor_checker.specs.declared.phase.Phase.{Phase}
use Rattle.cbor_checker.specs.declared.phase.Phase.TheVariants as p
use Rattle.cbor_checker.specs.declared.checker.Checker.{Checker}
use Rattle.cbor_checker.specs.declared.phase.Fault.{Fault}
use Rattle.cbor_checker.specs.declared.progress.Feed.{Feed}
use Rattle.cbor_checker.specs.declared.progress.Progress.{Progress}
use Rattle.cbor_checker.specs.declared.progress.Progress.TheVariants as r
use Rattle.cbor_checker.specs.Spots.{Spot}
use Rattle.cbor_checker.specs.Steps.{IsFed}
use Rattle.cbor_checker.specs.Checking.{Answers, spot_of}
use Rattle.cbor_checker.specs.Reading.{GoesOn, IsFault, IsMore, Reads, Tells}
use Rattle.cbor_checker.specs.Telling.{is_due, progress_in, FaultIn, IsAtFault}
use Rattle.cbor_checker.proofs.TellLaws.{goes_on}
use Rattle.cbor_item_copier.specs.Copying.{most, AreTaken, AreFed, pending_of}
use Rattle.cbor_item_copier.proofs.RunLaws.{run_long}
use Rattle.cbor_item_copier.proofs.StateLaws.{fed_bytes, all_taken, due_sound, sound_goes, before_goes}

back_bytes : (a b : List ℕ) → AreBytes (a ++ b) → AreBytes b
back_bytes [] b are = are
back_bytes (x ∷ a) b are = back_bytes a b are.1

-- ---- a checker takes bytes

-- If an item goes on and the answer is not `More`, no more bytes can be counted.
too_many : (progress : Progress) (s : Spelling) (d : ℕ) (fed : List ℕ) → GoesOn s d fed → (IsMore progress → ⊥)
    → Tells s d fed progress → length fed + 1 ≡ 2 ^ 64
too_many r.TooLong s d fed on never tells = tells.1
too_many (r.More due) s d fed on never tells = absurd (never tt)
too_many (r.Ended len) s d fed on never tells = absurd (on.unended tells.0)
too_many (r.Fault fault) s d fed on never tells = absurd (tells on.begins)

pub none_taken : (s : Spelling) (d : ℕ) (fed bytes : List ℕ) (feed : Feed) (old new : Spot) → 0 < length bytes
    → feed.taken ≡ 0 → is_due old.phase ≡ true → IsFed s d fed old → IsFed s d (fed ++ take feed.taken bytes) new
    → Reads s d fed bytes feed → IsFed s d fed new × (length fed + 1 ≡ 2 ^ 64)
none_taken s d fed bytes feed old new some none due was is so =
    let same : fed ++ take feed.taken bytes ≡ fed = rw none (append-nil fed) in
    let on = goes_on s d fed old was due in (
      rw same at is,
      too_many feed.progress s d fed on (λ more. omega (arith, none, some, so.all more)) (rw same at so.tells),
    )

-- The checker's answer is a fault exactly if there is a fault at its spot.
fault_in : (phase : Phase) (spot : Spot) → IsFault (progress_in phase spot) ↔ FaultIn phase
fault_in p.Title spot = (λ is. is, λ has. has)
fault_in (p.Bytes left) spot = (λ is. is, λ has. has)
fault_in (p.Text left state) spot = (λ is. is, λ has. has)
fault_in p.Ended spot = (λ is. is, λ has. has)
fault_in (p.Faulted fault) spot = (λ is. is, λ has. has)

pub not_fault : (progress : Progress) → ((fault : Fault) → progress ≡ r.Fault fault → ⊥) → IsFault progress → ⊥
not_fault (r.Fault fault) none is = none fault refl
not_fault (r.More due) none is = is
not_fault (r.Ended len) none is = is
not_fault r.TooLong none is = is

pub at_fault : (checker : Checker) (progress : Progress) → Answers checker progress
    → IsFault progress ↔ IsAtFault (spot_of checker)
unfolding Answers
at_fault checker progress answers =
    let spot : Spot = spot_of checker in
    subst (λ (z : Progress). IsFault z ↔ IsAtFault spot) (sym answers) (fault_in spot.phase spot)

-- ---- a copier of elements takes the bytes, too

-- If there is no room, some bytes are pending.
some_pending : (copier : Copier) (progress : Copied) → told.IsRoom progress → copy.AnswersPiece copier progress
    → pending_of copier ≢ []
some_pending copier cr.Room on answers = (room_answers copier cr.Room answers).0 tt
some_pending copier progress on answers = absurd on

-- If nothing was pending and no byte is taken, nothing is pending after the call.
none_pending : (fed given out : List ℕ) (old new : Copier) → HasCopied Any most fed given old → pending_of old ≡ []
    → HasCopied Any most fed (given ++ out) new → pending_of new ≡ []
none_pending fed given out old new was none is =
    let same = one_output Any most fed given (given ++ out) old new was is in
    length_zero (pending_of new) (omega (
      arith,
      ap length same,
      ap length none,
      length-append given (pending_of old),
      length-append (given ++ out) (pending_of new),
      length-append given out,
    ))

-- Nothing is pending after a call, or the room is full.
pub given_or_full : (progress : Copied) (bytes : List ℕ) (written room : ℕ)
    → (told.IsRoom progress → written ≡ room) → ((told.IsRoom progress → ⊥) → bytes ≡ [])
    → (bytes ≡ []) ⊎ (written ≡ room)
given_or_full cr.Room bytes written room full none = inr (full tt)
given_or_full cr.More bytes written room full none = inl (none (λ is. is))
given_or_full cr.Ended bytes written room full none = inl (none (λ is. is))
given_or_full (cr.Syntax place) bytes written room full none = inl (none (λ is. is))
given_or_full cr.TooLong bytes written room full none = inl (none (λ is. is))

-- The bytes that were to be written are written, as far as there is room. No byte is read.
pub only_written : (given put : List ℕ) (taken : ℕ) (old new : Copier)
    → ((read : List ℕ) → HasCopied Any most read given old → HasCopied Any most (read ++ take taken []) (given ++ put)
    new)
    → (allowed : Spelling) (depth : ℕ) (fed : List ℕ) (item : Spot)
    → AreFed allowed depth fed item (putting [] (copy.spot_of old)) (given ++ pending_of old)
    → AreFed allowed depth fed item (putting [] (copy.spot_of new)) ((given ++ put) ++ pending_of new)
unfolding HasCopied copy.pending
only_written given put taken old new goes allowed depth fed item was = record {
  checked = was.checked;
  bytes = was.bytes;
  taken = was.taken;
  copied = rw (take_none taken, append-nil was.bytes) at (goes was.bytes was.copied);
}
  where
    take_none : (n : ℕ) → take {A = ℕ} n [] ≡ []
    take_none zero = refl
    take_none (suc n) = refl

-- If elements go on and there is room, the copier answers `More`.
takes_more : (now output : List ℕ) (progress : Copied) → (NoneGoOn Any most now → ⊥) → length now + 1 ≤ most
    → told.Tells Any most now output progress → (told.IsRoom progress → ⊥) → (told.IsMore progress → ⊥) → ⊥
takes_more now output cr.More goes fits says room never = never tt
takes_more now output cr.Room goes fits says room never = room tt
takes_more now output cr.Ended goes fits says room never = omega
    (arith, run_long most now says.marks says.run.run, fits)
takes_more now output (cr.Syntax place) goes fits says room never = goes says.0
takes_more now output cr.TooLong goes fits says room never = omega (arith, says.2, fits)

-- A copier takes a whole piece with which some elements begin. The piece has at most one byte, or there is room for the
-- piece.
module _ (fed given bytes out : List ℕ) (taken room : ℕ) (progress : Copied) (old new : Copier)
    (within : taken ≤ length bytes) (are : AreBytes bytes) (goes : NoneGoOn Any most (fed ++ bytes) → ⊥)
    (counted : length fed + length bytes ≤ most) (fits : (length bytes ≤ 1) ⊎ (length bytes + 8 ≤ room))
    (was : HasCopied Any most fed given old) (none : pending_of old ≡ [])
    (is : HasCopied Any most (fed ++ take taken bytes) (given ++ out) new)
    (says : told.Tells Any most (fed ++ take taken bytes) (given ++ out) progress)
    (answer : copy.AnswersPiece new progress)
    (all : told.IsMore progress → taken ≡ length bytes)
    (has_room : length bytes + 8 ≤ room → told.IsRoom progress → ⊥) where
  some_go : NoneGoOn Any most (fed ++ take taken bytes) → ⊥
  some_go never =
      let front = take taken bytes in
      let rest = drop taken bytes in
      let sound = back_bytes front rest (rw take-append-drop are) in
      goes (λ behind are_behind run. never (rest ++ behind) (AreBytes-append rest behind sound are_behind)
      (rw (append_assoc fed front, ← append_assoc front rest, take-append-drop taken bytes, ← append_assoc fed bytes)
      run))

  lacks_none : taken < length bytes → told.IsRoom progress → ⊥
  lacks_none short on =
      elim fits [
        | inl one ↦ (
            let zero : taken ≡ 0 = omega (arith, short, one) in
            let same : fed ++ take taken bytes ≡ fed = rw zero (append-nil fed) in
            some_pending new progress on answer (none_pending fed given out old new was none (rw same at is))
            )
        | inr wide ↦ has_room wide on
      ]

  pub piece_copied : HasCopied Any most (fed ++ bytes) (given ++ out) new
  piece_copied =
      elim (cases_lt taken (length bytes)) [
        | inl short ↦ absurd (takes_more (fed ++ take taken bytes) (given ++ out) progress some_go
            (omega (arith, short, counted, length-take-le taken bytes within, length-append fed (take taken bytes)))
            says (lacks_none short) (λ on. omega (arith, all on, short)))
        | inr whole ↦ rw (take_all taken bytes whole) at is
      ]

-- ---- both

but_one : (phase : Phase) (fed bytes : List ℕ) → FaultIn phase → (b : ℕ) × (fed ≡ bytes ++ b ∷ [])
    → AreTaken phase fed bytes
but_one (p.Faulted fault) fed bytes has last = last
but_one phase fed bytes has last = absurd has

but_none : (phase : Phase) (fed : List ℕ) → (FaultIn phase → ⊥) → AreTaken phase fed fed
but_none (p.Faulted fault) fed sound = absurd (sound tt)
but_none phase fed sound = refl

-- The copied bytes of those that a checker took: all of them, except the byte at fault.
abbrev pub AreKept : Spot → ℕ → ℕ → Type 0
AreKept new taken kept = (IsAtFault new × (kept + 1 ≡ taken)) ⊎ ((IsAtFault new → ⊥) × (kept ≡ taken))

kept_within : (new : Spot) (taken kept : ℕ) → AreKept new taken kept → kept ≤ taken
kept_within new taken kept (inl fault) = omega (arith, fault.1)
kept_within new taken kept (inr sound) = omega (arith, sound.1)

module _ (s : Spelling) (d : ℕ) (fed bytes : List ℕ) (taken kept : ℕ) (old new : Spot) (due : is_due old.phase ≡ true)
    (within : taken ≤ length bytes) (checked : IsFed s d (fed ++ take taken bytes) new) where
  -- If there is a fault, the taken bytes are the copied bytes and one last byte.
  less_last : kept + 1 ≡ taken → fed ++ take taken bytes ≡ (fed ++ take kept bytes) ++ get_or bytes kept 0 ∷ []
  less_last one = rw (← one, take_more bytes kept 0 (omega (arith, one, within)), append_assoc)

  -- Some elements begin with the copied bytes.
  step_goes : AreKept new taken kept → NoneGoOn Any most (fed ++ take kept bytes) → ⊥
  step_goes (inl fault) never =
      before_goes s d (fed ++ take taken bytes) new checked (fed ++ take kept bytes) (get_or bytes kept 0)
      (less_last fault.1) never
  step_goes (inr sound) never = sound_goes s d (fed ++ take taken bytes) new checked sound.0 (rw sound.1 at never)

  -- If a copier of elements takes the copied bytes, the copier of an item takes the bytes of the checker.
  pub step_fed : AreKept new taken kept → length fed + taken ≤ most → (given out : List ℕ) (copier copier' : Copier)
      → ((NoneGoOn Any most (fed ++ take kept bytes) → ⊥) → AreBytes (take kept bytes)
      → length fed + length (take kept bytes) ≤ most → HasCopied Any most fed given copier
      → HasCopied Any most (fed ++ take kept bytes) (given ++ out) copier')
      → AreFed s d fed old (putting [] (copy.spot_of copier)) (given ++ pending_of copier)
      → AreFed s d (fed ++ take taken bytes) new (putting [] (copy.spot_of copier'))
      ((given ++ out) ++ pending_of copier')
  unfolding HasCopied copy.pending
  step_fed are counted given out copier copier' goes was =
      let few = kept_within new taken kept are in
      let all = back_bytes fed (take taken bytes) (fed_bytes s d (fed ++ take taken bytes) new checked) in
      record {
        checked = checked;
        bytes = fed ++ take kept bytes;
        taken = elim are [
          | inl fault ↦ but_one new.phase _ _ fault.0 (get_or bytes kept 0, less_last fault.1)
          | inr sound ↦ rw sound.1 (but_none new.phase (fed ++ take taken bytes) sound.0)
        ];
        copied = goes (step_goes are)
            (rw (take-take kept taken bytes few) at (AreBytes-take kept (take taken bytes) all))
            (omega (arith, few, length-take-le kept bytes (omega (arith, few, within)), counted))
            (rw (← all_taken old.phase fed was.bytes (due_sound old.phase due) was.taken) at was.copied);
      }
