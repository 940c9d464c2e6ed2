-- What a copier of an item says of the bytes that it has read and of those that it has written.
use Rattle.std.proofs.Common.{◌≡◌, ℕ, zero, suc, ◌+◌, ◌<◌, ◌≤◌, ◌⊎◌, true, false, List, [], ◌∷◌, ◌++◌, length}
use Rattle.std.proofs.Common.{take, drop, refl, sym, ap, subst, ◌∙◌, arith, length-append, inl, inr}
use Rattle.std.proofs.lemmas.List.{take-append-drop, take-append-le, length-take-le}
use Rattle.std.proofs.Math.Nat.{eq-or-lt_of_le}
use Rattle.std.proofs.Math.Seq.{take-append-add, take-length}
use Rattle.ciborium_ll_grammar.specs.declared.spelling.Spelling.{Spelling}
use Rattle.ciborium_ll_grammar.specs.declared.spelling.Spelling.TheVariants.{Any}
use Rattle.ciborium_ll_grammar.specs.Title.{AreBytes}
use Rattle.ciborium_ll_grammar.specs.Elements.{Mark, IsRun, spelling}
use Rattle.ciborium_ll_grammar.specs.Items.{IsItem}
use Rattle.ciborium_ll_text.proofs.Lists.{same_front}
use Rattle.cbor_checker.specs.declared.phase.Phase.{Phase}
use Rattle.cbor_checker.specs.declared.phase.Phase.TheVariants as p
use Rattle.cbor_checker.specs.Reading.{GoesOn}
use Rattle.cbor_checker.specs.Spots.{Spot}
use Rattle.cbor_checker.specs.Steps.{StepIn, IsFed, start, fresh, more}
use Rattle.cbor_checker.specs.Telling.{is_due, progress_in}
use Rattle.cbor_checker.proofs.TellLaws.{goes_on}
use Rattle.cbor_copier.specs.Copying as copy
use Rattle.cbor_copier.specs.Spots.{Spot as Elements}
use Rattle.cbor_copier.specs.Steps as copies_from
use Rattle.cbor_copier.proofs.ReadLaws.{held_few, held_some}
use Rattle.cbor_item_copier.specs.declared.copier.ItemCopier.{ItemCopier}
use Rattle.cbor_item_copier.specs.declared.progress.Copied.{Copied}
use Rattle.cbor_item_copier.specs.declared.progress.End.{End}
use Rattle.cbor_item_copier.specs.declared.progress.Progress.{Progress}
use Rattle.cbor_item_copier.specs.declared.progress.Progress.TheVariants as r
use Rattle.cbor_item_copier.specs.Copying.{Answers, AnswersEnd, AnswersPiece, HasCopied, elements_spot, held}
use Rattle.cbor_item_copier.specs.Copying.{item_spot, most, pending}
use Rattle.cbor_item_copier.specs.Reading.{Copies, IsLast, IsMore, IsRoom, Tells}
use Rattle.cbor_item_copier.specs.Telling.{IsAnswer, of_checker, progress_of}
use Rattle.cbor_item_copier.proofs.StateLaws.{fresh_fed, item_so_far, one_fed, spelled_exact}

-- ---- the beginnings of the bytes

step_due : (phase : Phase) (spot new : Spot) (b : ℕ) → StepIn phase spot b new → is_due phase ≡ true
step_due p.Ended spot new b step = absurd step
step_due (p.Faulted fault) spot new b step = absurd step
step_due phase spot new b step = refl

-- After fewer bytes an item goes on.
fed_before : (s : Spelling) (d : ℕ) (fed : List ℕ) (spot : Spot) → IsFed s d fed spot → (len : ℕ)
    → len < length fed → GoesOn s d (take len fed)
fed_before s d fed spot fresh len less = absurd (omega (arith, less))
fed_before s d fed spot (more {bytes = a} {spot = u} b byte is step) len less =
    let short : len ≤ length a = omega (arith, less, length-append a (b ∷ [])) in
    rw (take-append-le len a (b ∷ []) short) (elim (eq-or-lt_of_le short) [
      | inl all ↦
          let whole : take len a ≡ a = ap (λ (n : ℕ). take n a) all ∙ take-length a in
          rw whole (goes_on s d a u is (step_due u.phase u spot b step))
      | inr before ↦ fed_before s d a u is len before
    ])

-- ---- a piece

take_take : (len taken : ℕ) (piece : List ℕ) → len ≤ taken → taken ≤ length piece
    → take len (take taken piece) ≡ take len piece
take_take len taken piece less most =
    let long : len ≤ length (take taken piece) = omega (arith, less, length-take-le taken piece most) in
    sym (take-append-le len (take taken piece) (drop taken piece) long)
    ∙ ap (λ (z : List ℕ). take len z) (take-append-drop taken piece)

pub copies : (s : Spelling) (d : ℕ) (read written piece put : List ℕ) (copied : Copied) (new : Spot)
    → copied.taken ≤ length piece → (IsMore copied.progress → copied.taken ≡ length piece)
    → (copied.progress ≡ r.TooLong → copied.taken < length piece)
    → IsFed s d (read ++ take copied.taken piece) new
    → Tells s d (read ++ take copied.taken piece) (written ++ put) copied.progress
    → Copies s d read written piece put copied
copies s d read written piece put copied new taken all long fed tells =
    let part = length-take-le copied.taken piece taken in
    let whole = length-append read (take copied.taken piece) in record {
      taken = taken;
      goes = λ len less.
          let before = fed_before s d (read ++ take copied.taken piece) new fed (length read + len)
          (omega (arith, less, part, whole)) in
          rw (
            take-append-add read (take copied.taken piece) len,
            take_take len copied.taken piece (omega (arith, less)) taken,
          ) at before;
      all = all;
      long = long;
      tells = tells;
    }

-- ---- the answer of a copier

-- The answer of the states is that of a copier with these states.
pub answers_piece : (copier : ItemCopier) (progress : Progress)
    → IsAnswer progress (pending copier) (item_spot copier) → AnswersPiece copier progress
unfolding Answers
answers_piece copier r.TooLong is = is
answers_piece copier (r.More due) is = is
answers_piece copier r.Room is = is
answers_piece copier (r.Ended len) is = is
answers_piece copier (r.Fault fault) is = is

-- Nothing is pending, unless the answer is that there is no room.
pub none_pending : (progress : Progress) (bytes : List ℕ) (spot : Spot) → IsAnswer progress bytes spot
    → (IsRoom progress → ⊥) → bytes ≡ []
none_pending progress [] spot is some = refl
none_pending r.TooLong (b ∷ bytes) spot is some = is
none_pending (r.More due) (b ∷ bytes) spot is some = absurd cc
none_pending r.Room (b ∷ bytes) spot is some = absurd (some tt)
none_pending (r.Ended len) (b ∷ bytes) spot is some = absurd cc
none_pending (r.Fault fault) (b ∷ bytes) spot is some = absurd cc

no_last : {A B : Type 0} → (A → ⊥) → (B → ⊥) → A ⊎ B → ⊥
no_last f g (inl a) = f a
no_last f g (inr b) = g b

last_in : (phase : Phase) (spot : Spot) → IsLast (of_checker (progress_in phase spot)) → is_due phase ≡ false
last_in p.Title spot last = absurd (no_last (λ x. x) (λ x. x) last)
last_in (p.Bytes left) spot last = absurd (no_last (λ x. x) (λ x. x) last)
last_in (p.Text left state) spot last = absurd (no_last (λ x. x) (λ x. x) last)
last_in p.Ended spot last = refl
last_in (p.Faulted fault) spot last = refl

-- After an end or a fault, no byte is due and none is pending.
pub last_off : (progress : Progress) (bytes : List ℕ) (spot : Spot) → progress ≡ progress_of bytes spot
    → IsLast progress → (is_due spot.phase ≡ false) × (bytes ≡ [])
last_off progress [] spot is last = (last_in spot.phase spot (subst IsLast is last), refl)
last_off progress (b ∷ bytes) spot is last = absurd (no_last (λ x. x) (λ x. x) (subst IsLast is last))

-- ---- the same bytes, the same output and answer

one_read : (s : Spelling) (d : ℕ) (read written others : List ℕ) (one other : ItemCopier)
    → HasCopied s d read written one
    → HasCopied s d read others other
    → (item_spot one ≡ item_spot other) × (elements_spot one ≡ elements_spot other)
    × (written ++ pending one ≡ others ++ pending other)
unfolding HasCopied
one_read s d read written others one other a b =
    one_fed s d read (written ++ pending one) (others ++ pending other) (item_spot one) (item_spot other)
    (elements_spot one) (elements_spot other) a b

pub one_output : (s : Spelling) (d : ℕ) (read written others : List ℕ) (one other : ItemCopier)
    → HasCopied s d read written one → HasCopied s d read others other
    → written ++ pending one ≡ others ++ pending other
one_output s d read written others one other a b = (one_read s d read written others one other a b).2

pub one_held : (s : Spelling) (d : ℕ) (read written others : List ℕ) (one other : ItemCopier)
    → HasCopied s d read written one → HasCopied s d read others other
    → length written + held one ≡ length others + held other
unfolding copy.held copy.pending
one_held s d read written others one other a b =
    let same = one_read s d read written others one other a b in
    let fronts : length one.copier.front ≡ length other.copier.front = ap (λ (z : Elements). length z.front) same.1 in
    omega (
      arith,
      fronts,
      ap (length {A = ℕ}) same.2,
      length-append written one.copier.pending,
      length-append others other.copier.pending,
    )

one_place : (s : Spelling) (d : ℕ) (read written : List ℕ) (one other : ItemCopier) → HasCopied s d read written one
    → HasCopied s d read written other → (pending one ≡ pending other) × (item_spot one ≡ item_spot other)
one_place s d read written one other a b =
    let same = one_read s d read written written one other a b in
    ((same_front written written (pending one) (pending other) refl same.2).1, same.0)

pub one_pending : (s : Spelling) (d : ℕ) (read written : List ℕ) (one other : ItemCopier)
    → HasCopied s d read written one
    → HasCopied s d read written other → pending one ≡ pending other
one_pending s d read written one other a b = (one_place s d read written one other a b).0

pub same_answer : (s : Spelling) (d : ℕ) (read written : List ℕ) (one other : ItemCopier) (progress : Progress)
    → HasCopied s d read written one → HasCopied s d read written other → Answers one progress
    → Answers other progress
unfolding Answers
same_answer s d read written one other progress a b says =
    let same = one_place s d read written one other a b in says ∙ rw (same.0, same.1) refl

pub one_answer : (s : Spelling) (d : ℕ) (read written : List ℕ) (one other : ItemCopier) (first second : Progress)
    → HasCopied s d read written one → HasCopied s d read written other → Answers one first → Answers other second
    → first ≡ second
unfolding Answers
one_answer s d read written one other first second a b says tells =
    let same = one_place s d read written one other a b in says ∙ (rw (same.0, same.1) refl ∙ sym tells)

pub same_end : (s : Spelling) (d : ℕ) (read written : List ℕ) (one other : ItemCopier) (end : End)
    → HasCopied s d read written one → HasCopied s d read written other → AnswersEnd one end → AnswersEnd other end
unfolding AnswersEnd
same_end s d read written one other end a b says =
    let same = one_place s d read written one other a b in says ∙ rw (same.0, same.1) refl

pub one_end : (s : Spelling) (d : ℕ) (read written : List ℕ) (one other : ItemCopier) (first second : End)
    → HasCopied s d read written one → HasCopied s d read written other → AnswersEnd one first
    → AnswersEnd other second → first ≡ second
unfolding AnswersEnd
one_end s d read written one other first second a b says tells =
    let same = one_place s d read written one other a b in says ∙ (rw (same.0, same.1) refl ∙ sym tells)

-- Unless no more bytes can be counted, the answer to a piece is the copier's.
pub answers_unless : (copier : ItemCopier) (progress : Progress) → AnswersPiece copier progress
    → (progress ≡ r.TooLong → ⊥) → Answers copier progress
answers_unless copier r.TooLong answers counted = absurd (counted refl)
answers_unless copier progress answers counted = answers

-- ---- before the first byte

start_clear : (count : ℕ) → (copies_from.start Any count).front ≡ []
start_clear zero = refl
start_clear (suc count) = refl

-- A copier that has read no byte has written none, and holds none.
pub fresh_clear : (s : Spelling) (d : ℕ) (written : List ℕ) (copier : ItemCopier) → HasCopied s d [] written copier
    → (written ≡ []) × (pending copier ≡ []) × (held copier ≡ 0)
unfolding HasCopied copy.held copy.pending
fresh_clear s d written copier is =
    let same = one_fed s d [] (written ++ pending copier) [] (item_spot copier) (start s d) (elements_spot copier)
    (copies_from.start Any most) is
    (fresh_fed s d (start s d) (copies_from.start Any most) [] fresh copies_from.fresh) in
    let front : copier.copier.front ≡ [] = ap (λ (z : Elements). z.front) same.1 ∙ start_clear most in
    let none = no_parts written (pending copier) same.2 in
    (none.0, none.1, omega (arith, ap (length {A = ℕ}) front, ap (length {A = ℕ}) none.1))
  where
    no_parts : (xs ys : List ℕ) → xs ++ ys ≡ [] → (xs ≡ []) × (ys ≡ [])
    no_parts [] ys is = (refl, is)
    no_parts (x ∷ xs) ys is = absurd cc

pub few_held : (copier : ItemCopier) → pending copier ≡ [] → held copier ≤ 8
few_held copier none = held_few copier.copier none

pub some_held : (copier : ItemCopier) → length (pending copier) ≤ held copier
some_held copier = held_some copier.copier

-- ---- the output

pub read_spelled : (s : Spelling) (d : ℕ) (read written : List ℕ) (copier : ItemCopier)
    → HasCopied s d read written copier
    → IsItem s d read → (count : ℕ) (marks : List Mark) → IsRun count read marks
    → written ++ pending copier ≡ spelling marks
unfolding HasCopied
read_spelled s d read written copier is item count marks run =
    spelled_exact s d read (written ++ pending copier) (item_spot copier) (elements_spot copier) is item count marks run

pub read_so_far : (s : Spelling) (d : ℕ) (read written behind : List ℕ) (copier : ItemCopier) (count : ℕ)
    (marks : List Mark) → HasCopied s d read written copier → AreBytes behind → IsItem s d (read ++ behind)
    → IsRun count (read ++ behind) marks → count ≤ most
    → (rest : List ℕ) × (spelling marks ≡ (written ++ pending copier) ++ rest)
unfolding HasCopied
read_so_far s d read written behind copier count marks is are item run few =
    item_so_far s d read (written ++ pending copier) (item_spot copier) (elements_spot copier) is behind count marks are
    item run few
