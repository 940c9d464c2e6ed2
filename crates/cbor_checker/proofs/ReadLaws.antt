-- What a checker says of the bytes that it has read.
use Rattle.std.proofs.Common.{◌≡◌, ℕ, ◌+◌, ◌-◌, ◌<◌, ◌≤◌, ◌^◌, ◌↔◌, true, false, ltb, List, [], ◌∷◌}
use Rattle.std.proofs.Common.{◌++◌, length, take, drop, refl, sym, ap, subst, ◌∙◌, arith, append-nil, append_assoc}
use Rattle.std.proofs.Common.{length-append, inl, inr}
use borrow.Author.Tests.{lt-ltb}
use Rattle.std.proofs.lemmas.Bool.{cases_lt}
use Rattle.std.proofs.lemmas.List.{take-append-drop, take-append-le, length-take-le}
use Rattle.std.proofs.Math.Nat.{eq-or-lt_of_le}
use Rattle.std.proofs.Math.Seq.{take-append-add, take-length}
use Rattle.ciborium_ll_grammar.specs.declared.spelling.Spelling.{Spelling}
use Rattle.ciborium_ll_grammar.specs.Items.{IsItem}
use Rattle.cbor_checker.specs.declared.checker.Checker.{Checker}
use Rattle.cbor_checker.specs.declared.phase.Phase.{Phase}
use Rattle.cbor_checker.specs.declared.phase.Phase.TheVariants as p
use Rattle.cbor_checker.specs.declared.progress.Feed.{Feed}
use Rattle.cbor_checker.specs.declared.progress.Progress.{Progress}
use Rattle.cbor_checker.specs.declared.progress.Progress.TheVariants as r
use Rattle.cbor_checker.specs.Checking.{Answers, AnswersPiece, HasRead, spot_of}
use Rattle.cbor_checker.specs.Reading.{BeginsItem, GoesOn, IsEnd, IsFault, IsMore, Reads, Tells}
use Rattle.cbor_checker.specs.Spots.{Spot}
use Rattle.cbor_checker.specs.Steps.{StepIn, IsFed, fresh, more}
use Rattle.cbor_checker.specs.Telling.{is_due, progress_in, progress_of, IsAnswer}
use Rattle.cbor_checker.proofs.OneSpot.{one_spot}
use Rattle.cbor_checker.proofs.TellLaws.{goes_on}

-- ---- the beginnings of the bytes

step_due : (phase : Phase) (spot new : Spot) (b : ℕ) → StepIn phase spot b new → is_due phase ≡ true
step_due p.Ended spot new b step = absurd step
step_due (p.Faulted fault) spot new b step = absurd step
step_due phase spot new b step = refl

-- After fewer bytes an item goes on.
fed_before : (s : Spelling) (d : ℕ) (fed : List ℕ) (spot : Spot) → IsFed s d fed spot → (len : ℕ)
    → len < length fed → GoesOn s d (take len fed)
fed_before s d fed spot fresh len less = absurd (omega (arith, less))
fed_before s d fed spot (more {bytes = a} {spot = u} b byte is step) len less =
    let short : len ≤ length a = omega (arith, less, length-append a (b ∷ [])) in
    rw (take-append-le len a (b ∷ []) short) (elim (eq-or-lt_of_le short) [
      | inl all ↦
          let whole : take len a ≡ a = ap (λ (n : ℕ). take n a) all ∙ take-length a in
          rw whole (goes_on s d a u is (step_due u.phase u spot b step))
      | inr before ↦ fed_before s d a u is len before
    ])

-- ---- a piece

take_take : (len taken : ℕ) (piece : List ℕ) → len ≤ taken → taken ≤ length piece
    → take len (take taken piece) ≡ take len piece
take_take len taken piece less most =
    let long : len ≤ length (take taken piece) = omega (arith, less, length-take-le taken piece most) in
    sym (take-append-le len (take taken piece) (drop taken piece) long)
    ∙ ap (λ (z : List ℕ). take len z) (take-append-drop taken piece)

pub reads : (s : Spelling) (d : ℕ) (read piece : List ℕ) (feed : Feed) (new : Spot) → feed.taken ≤ length piece
    → (IsMore feed.progress → feed.taken ≡ length piece) → (feed.progress ≡ r.TooLong → feed.taken < length piece)
    → IsFed s d (read ++ take feed.taken piece) new → Tells s d (read ++ take feed.taken piece) feed.progress
    → length read + feed.taken < 2 ^ 64 → Reads s d read piece feed
reads s d read piece feed new taken all long fed tells fits =
    let part = length-take-le feed.taken piece taken in
    let whole = length-append read (take feed.taken piece) in record {
      taken = taken;
      goes = λ len less.
          let before = fed_before s d (read ++ take feed.taken piece) new fed (length read + len)
          (omega (arith, less, part, whole)) in
          rw (
            take-append-add read (take feed.taken piece) len,
            take_take len feed.taken piece (omega (arith, less)) taken,
          ) at before;
      all = all;
      long = long;
      tells = tells;
      fits = fits;
    }

-- If more bytes are due, the call takes all bytes, since otherwise there are too many.
pub all_taken : {More : Type 0} (n m : ℕ) → n ≤ m → (ltb n m ≡ true → More → ⊥) → More → n ≡ m
all_taken n m within none due =
    let whole : n < m → ⊥ = λ less. none (lt-ltb n m less) due in omega (arith, within, whole)

-- ---- the answer of a spot

-- No more bytes are due by the phase if the answer says so.
none_is_due : (phase : Phase) (spot : Spot) → (IsMore (progress_in phase spot) → ⊥) → is_due phase ≡ false
none_is_due p.Title spot none = absurd (none tt)
none_is_due (p.Bytes left) spot none = absurd (none tt)
none_is_due (p.Text left state) spot none = absurd (none tt)
none_is_due p.Ended spot none = refl
none_is_due (p.Faulted fault) spot none = refl

pub off_at : (progress : Progress) (spot : Spot) → progress ≡ progress_of spot → (IsMore progress → ⊥)
    → is_due spot.phase ≡ false
off_at progress spot is none = none_is_due spot.phase spot (λ more. none (subst IsMore (sym is) more))

more_of : (progress : Progress) → IsMore progress → (due : ℕ) × (r.More due ≡ progress)
more_of (r.More due) is = (due, refl)
more_of (r.Ended len) is = absurd is
more_of (r.Fault fault) is = absurd is
more_of r.TooLong is = absurd is

-- The answer of a spot is that of a checker at the spot.
pub answers_piece : (progress : Progress) (checker : Checker) → IsAnswer progress (spot_of checker)
    → AnswersPiece checker progress
unfolding Answers
answers_piece r.TooLong checker is = more_of (progress_of (spot_of checker)) is
answers_piece (r.More due) checker is = is
answers_piece (r.Ended len) checker is = is
answers_piece (r.Fault fault) checker is = is

-- Unless no more bytes can be counted, the answer to a piece is the checker's.
pub answers_unless : (checker : Checker) (progress : Progress) → AnswersPiece checker progress
    → (progress ≡ r.TooLong → ⊥) → Answers checker progress
answers_unless checker r.TooLong answers counted = absurd (counted refl)
answers_unless checker (r.More due) answers counted = answers
answers_unless checker (r.Ended len) answers counted = answers
answers_unless checker (r.Fault fault) answers counted = answers

-- At the same spot, an answer that no more bytes are due stays.
pub answer_stays : (progress answer : Progress) (old new : Spot) → progress ≡ progress_of old → (IsMore progress → ⊥)
    → new ≡ old → IsAnswer answer new → answer ≡ progress
answer_stays progress r.TooLong old new is none same answers =
    absurd (none (subst IsMore (ap progress_of same ∙ sym is) answers))
answer_stays progress (r.More due) old new is none same answers = answers ∙ (ap progress_of same ∙ sym is)
answer_stays progress (r.Ended len) old new is none same answers = answers ∙ (ap progress_of same ∙ sym is)
answer_stays progress (r.Fault fault) old new is none same answers = answers ∙ (ap progress_of same ∙ sym is)

-- ---- each answer comes exactly if it may

pub end_exact : (s : Spelling) (d : ℕ) (bytes : List ℕ) (progress : Progress) → Tells s d bytes progress
    → IsEnd progress ↔ IsItem s d bytes
end_exact s d bytes (r.More due) tells = (λ is. absurd is, λ item. absurd (tells.0.unended item))
end_exact s d bytes (r.Ended len) tells = (λ is. tells.0, λ item. tt)
end_exact s d bytes (r.Fault fault) tells = (λ is. absurd is, λ item. absurd (tells ([], rw append-nil item)))
end_exact s d bytes r.TooLong tells = (λ is. absurd is, λ item. absurd (tells.0.unended item))

pub none_exact : (s : Spelling) (d : ℕ) (bytes : List ℕ) (progress : Progress) → Tells s d bytes progress
    → IsFault progress ↔ (BeginsItem s d bytes → ⊥)
none_exact s d bytes (r.More due) tells = (λ is. absurd is, λ none. none tells.0.begins)
none_exact s d bytes (r.Ended len) tells = (λ is. absurd is, λ none. none ([], rw append-nil tells.0))
none_exact s d bytes (r.Fault fault) tells = (λ is. tells, λ none. tt)
none_exact s d bytes r.TooLong tells = (λ is. absurd is, λ none. none tells.0.begins)

-- ---- pieces are joined

module _ (s : Spelling) (d : ℕ) (read one two : List ℕ) where
  -- The first piece is taken whole.
  pub joined : (first second all : Feed) → Reads s d read one first → first.taken ≡ length one
      → Reads s d (read ++ one) two second → all.taken ≡ length one + second.taken → all.progress ≡ second.progress
      → Reads s d read (one ++ two) all
  joined first second all a whole b is same =
      let long = length-append one two in
      let split : (k : ℕ) → read ++ take (length one + k) (one ++ two) ≡ (read ++ one) ++ take k two =
      λ k. ap (λ (z : List ℕ). read ++ z) (take-append-add one two k) ∙ sym (append_assoc read one (take k two)) in
      record {
        taken = omega (arith, is, long, b.taken);
        goes = λ len less. elim (cases_lt len (length one)) [
          | inl early ↦ rw (take-append-le len one two (omega (arith, early))) (a.goes len (omega (arith, early, whole)))
          | inr late ↦
              let k : ℕ = len - length one in
              let at : len ≡ length one + k = omega (arith, late) in
              rw (at, split k) (b.goes k (omega (arith, less, is, late)))
        ];
        all = λ more. omega (arith, is, long, b.all (subst IsMore same more));
        long = λ far. omega (arith, is, long, b.long (sym same ∙ far));
        tells = rw (is, same, split second.taken) b.tells;
        fits = omega (arith, is, b.fits, length-append read one);
      }

  -- The first piece has all that is taken.
  pub held : (feed : Feed) → Reads s d read one feed → (IsMore feed.progress → ⊥) → Reads s d read (one ++ two) feed
  held feed a none =
      let long = length-append one two in
      let same : (k : ℕ) → k ≤ feed.taken → take k (one ++ two) ≡ take k one =
      λ k less. take-append-le k one two (omega (arith, less, a.taken)) in
      record {
        taken = omega (arith, a.taken, long);
        goes = λ len less. rw (same len (omega (arith, less))) (a.goes len less);
        all = λ more. absurd (none more);
        long = λ far. omega (arith, long, a.long far);
        tells = rw (same feed.taken (omega arith)) a.tells;
        fits = a.fits;
      }

-- ---- the same bytes, the same answer

pub one_answer : (s : Spelling) (d : ℕ) (read : List ℕ) (one other : Checker) (first second : Progress)
    → HasRead s d read one → HasRead s d read other → Answers one first → Answers other second → first ≡ second
unfolding HasRead Answers
one_answer s d read one other first second is so says tells =
    let same = one_spot s d read (spot_of one) (spot_of other) is so in says ∙ (ap progress_of same ∙ sym tells)
