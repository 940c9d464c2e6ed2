-- What a copier says of the bytes that it has read and of those that it has written.
use Rattle.std.proofs.Common.{◌≡◌, ◌≢◌, ℕ, zero, suc, ◌+◌, ◌-◌, ◌<◌, ◌≤◌, ◌↔◌, true, false, List, [], ◌∷◌}
use Rattle.std.proofs.Common.{◌++◌, length, take, drop, refl, sym, ap, subst, ◌∙◌, arith, append_assoc}
use Rattle.std.proofs.Common.{length-append, inl, inr}
use Rattle.std.proofs.lemmas.Bool.{cases_lt}
use Rattle.std.proofs.lemmas.List.{take-append-drop, take-append-le, length-take-le}
use Rattle.std.proofs.Math.Nat.{eq-or-lt_of_le}
use Rattle.std.proofs.Math.Seq.{take-append-add, take-length}
use Rattle.ciborium_ll_grammar.specs.declared.spelling.Spelling.{Spelling}
use Rattle.ciborium_ll_grammar.specs.Title.{AreBytes}
use Rattle.ciborium_ll_grammar.specs.Elements.{Mark, spelling}
use Rattle.ciborium_ll_text.proofs.Lists.{same_front}
use Rattle.cbor_copier.specs.declared.copier.Copier.{Copier}
use Rattle.cbor_copier.specs.declared.phase.Phase.{Phase}
use Rattle.cbor_copier.specs.declared.phase.Phase.TheVariants as p
use Rattle.cbor_copier.specs.declared.progress.Copied.{Copied}
use Rattle.cbor_copier.specs.declared.progress.Progress.{Progress}
use Rattle.cbor_copier.specs.declared.progress.Progress.TheVariants as r
use Rattle.cbor_copier.specs.Copying.{Answers, AnswersPiece, HasCopied, held, pending, spot_of}
use Rattle.cbor_copier.specs.Reading.{IsTakenRun, Copies, GoesOn, IsLast, IsMore, IsRoom, Tells, TellsWhole}
use Rattle.cbor_copier.specs.Spots.{Spot, putting}
use Rattle.cbor_copier.specs.Steps.{StepIn, IsFed, start, fresh, more}
use Rattle.cbor_copier.specs.Telling.{EndedIn, IsAnswer, is_due, progress_in, progress_of}
use Rattle.cbor_copier.proofs.FrontLaws.{few_held}
use Rattle.cbor_copier.proofs.StepLaws.{one_spot}
use Rattle.cbor_copier.proofs.TellLaws.{ended_exact, spelled_on, told}

-- ---- the beginnings of the bytes

goes_in : (allowed : Spelling) (phase : Phase) (count : ℕ) (bytes output : List ℕ)
    → TellsWhole allowed count bytes output (progress_in phase)
    → is_due phase ≡ true → EndedIn phase ↔ ((marks : List Mark) × IsTakenRun allowed count bytes marks)
    → GoesOn allowed count bytes
goes_in allowed p.Ended count bytes output says due exact = absurd cc
goes_in allowed (p.Faulted place) count bytes output says due exact = absurd cc
goes_in allowed phase count bytes output says due exact =
    record { begins = says.1; unended = λ marks run. exact.1 (marks, run) }

-- The elements go on if more bytes are due.
goes_on : (allowed : Spelling) (count : ℕ) (fed output : List ℕ) (spot : Spot) → IsFed allowed count fed spot output
    → is_due spot.phase ≡ true
    → GoesOn allowed count fed
goes_on allowed count fed output spot is due =
    goes_in allowed spot.phase count fed output (told is) due (ended_exact allowed count fed output spot is)

step_due : (phase : Phase) (spot new : Spot) (b : ℕ) → StepIn phase spot b new → is_due phase ≡ true
step_due p.Ended spot new b step = absurd step
step_due (p.Faulted place) spot new b step = absurd step
step_due phase spot new b step = refl

-- After fewer bytes the elements go on.
fed_before : (allowed : Spelling) (count : ℕ) (fed output : List ℕ) (spot : Spot) → IsFed allowed count fed spot output
    → (len : ℕ)
    → len < length fed → GoesOn allowed count (take len fed)
fed_before allowed count fed output spot fresh len less = absurd (omega (arith, less))
fed_before allowed count fed output spot (more {bytes = a} {output = before} {spot = u} b new byte is step) len less =
    let short : len ≤ length a = omega (arith, less, length-append a (b ∷ [])) in
    rw (take-append-le len a (b ∷ []) short) (elim (eq-or-lt_of_le short) [
      | inl all ↦
          let whole : take len a ≡ a = ap (λ (n : ℕ). take n a) all ∙ take-length a in
          rw whole (goes_on allowed count a before u is (step_due u.phase u new b step))
      | inr early ↦ fed_before allowed count a before u is len early
    ])

-- ---- a piece

take_take : (len taken : ℕ) (piece : List ℕ) → len ≤ taken → taken ≤ length piece
    → take len (take taken piece) ≡ take len piece
take_take len taken piece less most =
    let long : len ≤ length (take taken piece) = omega (arith, less, length-take-le taken piece most) in
    sym (take-append-le len (take taken piece) (drop taken piece) long)
    ∙ ap (λ (z : List ℕ). take len z) (take-append-drop taken piece)

pub copies : (allowed : Spelling) (count : ℕ) (read written piece put output : List ℕ) (copied : Copied) (new : Spot)
    → copied.taken ≤ length piece → (IsMore copied.progress → copied.taken ≡ length piece)
    → (copied.progress ≡ r.TooLong → copied.taken < length piece)
    → IsFed allowed count (read ++ take copied.taken piece) new output
    → Tells allowed count (read ++ take copied.taken piece) (written ++ put) copied.progress
    → Copies allowed count read written piece put copied
copies allowed count read written piece put output copied new taken all long fed tells =
    let part = length-take-le copied.taken piece taken in
    let whole = length-append read (take copied.taken piece) in record {
      taken = taken;
      goes = λ len less.
          let before = fed_before allowed count (read ++ take copied.taken piece) output new fed (length read + len)
          (omega (arith, less, part, whole)) in
          rw (
            take-append-add read (take copied.taken piece) len,
            take_take len copied.taken piece (omega (arith, less)) taken,
          ) at before;
      all = all;
      long = long;
      tells = tells;
    }

-- ---- the answer of a copier

-- The answer of a spot is that of a copier at the spot.
pub answers_piece : (copier : Copier) (progress : Progress) → IsAnswer progress copier.pending copier.phase
    → AnswersPiece copier progress
unfolding Answers
answers_piece copier r.TooLong is = sym is
answers_piece copier r.More is = is
answers_piece copier r.Room is = is
answers_piece copier r.Ended is = is
answers_piece copier (r.Syntax place) is = is

-- Nothing is pending, unless the answer is that there is no room.
pub none_pending : (progress : Progress) (bytes : List ℕ) (phase : Phase) → IsAnswer progress bytes phase
    → (IsRoom progress → ⊥) → bytes ≡ []
none_pending progress [] phase is some = refl
none_pending r.TooLong (b ∷ bytes) phase is some = absurd cc
none_pending r.More (b ∷ bytes) phase is some = absurd cc
none_pending r.Room (b ∷ bytes) phase is some = absurd (some tt)
none_pending r.Ended (b ∷ bytes) phase is some = absurd cc
none_pending (r.Syntax place) (b ∷ bytes) phase is some = absurd cc

room_in : (bytes : List ℕ) (phase : Phase) → IsRoom (progress_of bytes phase) ↔ (bytes ≢ [])
room_in [] p.Ended = (λ is. absurd is, λ some. absurd (some refl))
room_in [] phase = (λ is. absurd is, λ some. absurd (some refl))
room_in (b ∷ bytes) phase = (λ is none. cc, λ some. tt)

pub room_answers : (copier : Copier) (progress : Progress) → Answers copier progress
    → IsRoom progress ↔ (pending copier ≢ [])
unfolding Answers pending
room_answers copier progress is =
    subst (λ (z : Progress). IsRoom z ↔ (copier.pending ≢ [])) (sym is) (room_in copier.pending copier.phase)

more_goes : IsLast r.More → ⊥
more_goes (inl is) = is
more_goes (inr is) = is

room_goes : IsLast r.Room → ⊥
room_goes (inl is) = is
room_goes (inr is) = is

-- After an end or a fault, no byte is due and none is pending.
pub last_off : (progress : Progress) (bytes : List ℕ) (phase : Phase) → progress ≡ progress_of bytes phase
    → IsLast progress → (is_due phase ≡ false) × (bytes ≡ [])
last_off progress [] p.Ended is last = (refl, refl)
last_off progress [] (p.Faulted place) is last = (refl, refl)
last_off progress [] phase is last = absurd (more_goes (subst IsLast is last))
last_off progress (b ∷ bytes) phase is last = absurd (room_goes (subst IsLast is last))

abbrev answer_at : Spot → Progress
answer_at spot = progress_of spot.put spot.phase

-- At the same spot, an end or a fault stays.
pub last_stays : (progress answer : Progress) (old new : Spot) → progress ≡ answer_at old → IsLast progress
    → new ≡ old → IsAnswer answer new.put new.phase → (answer ≡ progress) × (progress ≡ answer_at new)
last_stays progress r.TooLong old new is last same answers =
    absurd (more_goes (subst IsLast (is ∙ (sym (ap answer_at same) ∙ answers)) last))
last_stays progress r.More old new is last same answers =
    (answers ∙ (ap answer_at same ∙ sym is), is ∙ sym (ap answer_at same))
last_stays progress r.Room old new is last same answers =
    (answers ∙ (ap answer_at same ∙ sym is), is ∙ sym (ap answer_at same))
last_stays progress r.Ended old new is last same answers =
    (answers ∙ (ap answer_at same ∙ sym is), is ∙ sym (ap answer_at same))
last_stays progress (r.Syntax place) old new is last same answers =
    (answers ∙ (ap answer_at same ∙ sym is), is ∙ sym (ap answer_at same))

-- ---- pieces are joined

module _ (allowed : Spelling) (count : ℕ) (read written one two put more : List ℕ) where
  -- The first piece is taken whole.
  pub joined : (first second all : Copied) → Copies allowed count read written one put first → first.taken ≡ length one
      → Copies allowed count (read ++ one) (written ++ put) two more second → all.taken ≡ length one + second.taken
      → all.progress ≡ second.progress → Copies allowed count read written (one ++ two) (put ++ more) all
  joined first second all a whole b is same =
      let long = length-append one two in
      let split : (k : ℕ) → read ++ take (length one + k) (one ++ two) ≡ (read ++ one) ++ take k two =
      λ k. ap (λ (z : List ℕ). read ++ z) (take-append-add one two k) ∙ sym (append_assoc read one (take k two)) in
      record {
        taken = omega (arith, is, long, b.taken);
        goes = λ len less. elim (cases_lt len (length one)) [
          | inl early ↦ rw (take-append-le len one two (omega (arith, early))) (a.goes len (omega (arith, early, whole)))
          | inr late ↦
              let k : ℕ = len - length one in
              let at : len ≡ length one + k = omega (arith, late) in
              rw (at, split k) (b.goes k (omega (arith, less, is, late)))
        ];
        all = λ due. omega (arith, is, long, b.all (subst IsMore same due));
        long = λ far. omega (arith, is, long, b.long (sym same ∙ far));
        tells = rw (is, same, split second.taken, ← append_assoc written put more) b.tells;
      }

-- The first piece has all that is taken.
pub kept_in : (allowed : Spelling) (count : ℕ) (read written one two put : List ℕ) (copied : Copied)
    → Copies allowed count read written one put copied → (IsMore copied.progress → ⊥)
    → Copies allowed count read written (one ++ two) put copied
kept_in allowed count read written one two put copied a none =
    let long = length-append one two in
    let same : (k : ℕ) → k ≤ copied.taken → take k (one ++ two) ≡ take k one =
    λ k less. take-append-le k one two (omega (arith, less, a.taken)) in
    record {
      taken = omega (arith, a.taken, long);
      goes = λ len less. rw (same len (omega (arith, less))) (a.goes len less);
      all = λ due. absurd (none due);
      long = λ far. omega (arith, long, a.long far);
      tells = rw (same copied.taken (omega arith)) a.tells;
    }

-- ---- the same bytes, the same output and answer

one_read : (allowed : Spelling) (count : ℕ) (read written others : List ℕ) (one other : Copier)
    → HasCopied allowed count read written one
    → HasCopied allowed count read others other
    → (putting [] (spot_of one) ≡ putting [] (spot_of other)) × (written ++ one.pending ≡ others ++ other.pending)
unfolding HasCopied
one_read allowed count read written others one other a b =
    one_spot allowed count read (written ++ one.pending) (others ++ other.pending) (putting [] (spot_of one))
    (putting [] (spot_of other)) a b

pub one_output : (allowed : Spelling) (count : ℕ) (read written others : List ℕ) (one other : Copier)
    → HasCopied allowed count read written one
    → HasCopied allowed count read others other → written ++ pending one ≡ others ++ pending other
unfolding pending
one_output allowed count read written others one other a b =
    (one_read allowed count read written others one other a b).1

pub one_held : (allowed : Spelling) (count : ℕ) (read written others : List ℕ) (one other : Copier)
    → HasCopied allowed count read written one
    → HasCopied allowed count read others other → length written + held one ≡ length others + held other
unfolding held
one_held allowed count read written others one other a b =
    let same = one_read allowed count read written others one other a b in
    let fronts : length one.front ≡ length other.front = ap (λ (spot : Spot). length spot.front) same.0 in
    omega (
      arith,
      fronts,
      ap (length {A = ℕ}) same.1,
      length-append written one.pending,
      length-append others other.pending,
    )

-- Copiers that have read and written the same are at the same place.
pub one_place : (allowed : Spelling) (count : ℕ) (read written : List ℕ) (one other : Copier)
    → HasCopied allowed count read written one
    → HasCopied allowed count read written other → (one.pending ≡ other.pending) × (one.phase ≡ other.phase)
one_place allowed count read written one other a b =
    let same = one_read allowed count read written written one other a b in (
      (same_front written written one.pending other.pending refl same.1).1,
      ap (λ (spot : Spot). spot.phase) same.0,
    )

pub one_answer : (allowed : Spelling) (count : ℕ) (read written : List ℕ) (one other : Copier) (first second : Progress)
    → HasCopied allowed count read written one → HasCopied allowed count read written other → Answers one first
    → Answers other second → first ≡ second
unfolding Answers
one_answer allowed count read written one other first second a b says tells =
    let same = one_place allowed count read written one other a b in
    says ∙ (rw (same.0, same.1) refl ∙ sym tells)

pub same_answer : (allowed : Spelling) (count : ℕ) (read written : List ℕ) (one other : Copier) (progress : Progress)
    → HasCopied allowed count read written one → HasCopied allowed count read written other → Answers one progress
    → Answers other progress
unfolding Answers
same_answer allowed count read written one other progress a b says =
    let same = one_place allowed count read written one other a b in says ∙ rw (same.0, same.1) refl

pub one_pending : (allowed : Spelling) (count : ℕ) (read written : List ℕ) (one other : Copier)
    → HasCopied allowed count read written one
    → HasCopied allowed count read written other → pending one ≡ pending other
unfolding pending
one_pending allowed count read written one other a b = (one_place allowed count read written one other a b).0

-- Unless no more bytes can be counted, the answer to a piece is the copier's.
pub answers_unless : (copier : Copier) (progress : Progress) → AnswersPiece copier progress
    → (progress ≡ r.TooLong → ⊥) → Answers copier progress
answers_unless copier r.TooLong answers counted = absurd (counted refl)
answers_unless copier progress answers counted = answers

-- ---- before the first byte

start_clear : (allowed : Spelling) (count : ℕ) → (start allowed count).front ≡ []
start_clear allowed zero = refl
start_clear allowed (suc count) = refl

-- A copier that has read no byte has written none, and holds none.
pub fresh_clear : (allowed : Spelling) (count : ℕ) (written : List ℕ) (copier : Copier)
    → HasCopied allowed count [] written copier
    → (written ≡ []) × (pending copier ≡ []) × (held copier ≡ 0)
unfolding HasCopied pending held
fresh_clear allowed count written copier is =
    let same = one_spot allowed count [] (written ++ copier.pending) [] (putting [] (spot_of copier))
    (start allowed count) is fresh in
    let front : copier.front ≡ [] = ap (λ (spot : Spot). spot.front) same.0 ∙ start_clear allowed count in
    let none = no_parts written copier.pending same.1 in
    (none.0, none.1, omega (arith, ap (length {A = ℕ}) front, ap (length {A = ℕ}) none.1))
  where
    no_parts : (xs ys : List ℕ) → xs ++ ys ≡ [] → (xs ≡ []) × (ys ≡ [])
    no_parts [] ys is = (refl, is)
    no_parts (x ∷ xs) ys is = absurd cc

-- If nothing is pending, at most eight bytes are held back.
pub held_few : (copier : Copier) → pending copier ≡ [] → held copier ≤ 8
unfolding pending held
held_few copier none =
    omega (arith, few_held copier.phase copier.front copier.room, ap (length {A = ℕ}) none)

-- The pending bytes are among those that are held.
pub held_some : (copier : Copier) → length (pending copier) ≤ held copier
unfolding pending held
held_some copier = omega arith

-- ---- the output so far

pub read_spelled : (allowed : Spelling) (count : ℕ) (read written behind : List ℕ) (copier : Copier) (marks : List Mark)
    → HasCopied allowed count read written copier → AreBytes behind → IsTakenRun allowed count (read ++ behind) marks
    → (rest : List ℕ) × (spelling marks ≡ (written ++ pending copier) ++ rest)
unfolding HasCopied pending
read_spelled allowed count read written behind copier marks is are run =
    spelled_on behind allowed count read (written ++ copier.pending) (putting [] (spot_of copier)) marks is are run
