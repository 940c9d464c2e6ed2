-- Laws of the states of a copier of items.
use Rattle.std.proofs.Common.{◌≡◌, ℕ, suc, ◌+◌, ◌-◌, ◌<◌, ◌≤◌, true, List, [], ◌∷◌, ◌++◌, length, refl, sym, ap}
use Rattle.std.proofs.Common.{subst, ◌∙◌, arith, append-nil, length-append}
use Rattle.ciborium_ll_grammar.specs.declared.spelling.Spelling.{Spelling}
use Rattle.ciborium_ll_grammar.specs.declared.spelling.Spelling.TheVariants.{Any}
use Rattle.ciborium_ll_grammar.specs.Title.{AreBytes}
use Rattle.ciborium_ll_grammar.specs.Elements.{Mark, IsRun, spelling}
use Rattle.ciborium_ll_grammar.specs.Items.{IsItem}
use Rattle.ciborium_ll_grammar.proofs.AffixLaws.{AreBytes-append}
use Rattle.cbor_copier.specs.Spots.{Spot as Elements}
use Rattle.cbor_copier.specs.Steps.{IsFed as AreElementsFed}
use Rattle.cbor_copier.specs.Reading.{NoneGoOn}
use Rattle.cbor_copier.proofs.LiveLaws.{run_goes}
use Rattle.cbor_copier.proofs.StepLaws as one_copy
use Rattle.cbor_copier.proofs.TellLaws.{told, fed_to, in_front}
use Rattle.cbor_checker.specs.declared.phase.Phase.{Phase}
use Rattle.cbor_checker.specs.declared.phase.Phase.TheVariants as p
use Rattle.cbor_checker.specs.Spots.{Spot}
use Rattle.cbor_checker.specs.Steps.{IsFed, StepIn, start, fresh, more}
use Rattle.cbor_checker.specs.Telling.{FaultIn, IsAtFault, is_due}
use Rattle.cbor_checker.proofs.ExactLaws.{fault_exact}
use Rattle.cbor_checker.proofs.OneSpot.{one_spot}
use Rattle.cbor_item_copier.specs.Copying.{most, AreTaken, AreFed}
use Rattle.cbor_item_copier.specs.Reading.{IsCutCopy}
use Rattle.cbor_item_copier.proofs.OutLaws.{cut_in, lenient, whole_in}
use Rattle.cbor_item_copier.proofs.RunLaws.{item_goes_on}

-- ---- the bytes that are copied

pub due_sound : (phase : Phase) → is_due phase ≡ true → FaultIn phase → ⊥
due_sound (p.Faulted fault) due has = cc
due_sound phase due has = has

-- If there is no fault, all bytes are copied.
pub all_taken : (phase : Phase) (fed bytes : List ℕ) → (FaultIn phase → ⊥) → AreTaken phase fed bytes → fed ≡ bytes
all_taken (p.Faulted fault) fed bytes sound taken = absurd (sound tt)
all_taken phase fed bytes sound taken = taken

same_taken : (phase : Phase) (fed xs ys : List ℕ) → AreTaken phase fed xs → AreTaken phase fed ys → xs ≡ ys
same_taken (p.Faulted fault) fed xs ys a b = (one_copy.same_last xs ys a.0 b.0 (sym a.1 ∙ b.1)).0
same_taken phase fed xs ys a b = sym a ∙ b

-- The same bytes lead to one state and one output.
pub one_fed : (s : Spelling) (d : ℕ) (fed output others : List ℕ) (item other : Spot) (a b : Elements)
    → AreFed s d fed item a output → AreFed s d fed other b others → (item ≡ other) × (a ≡ b) × (output ≡ others)
one_fed s d fed output others item other a b f g =
    let one = one_spot s d fed item other f.checked g.checked in
    let bytes = same_taken item.phase fed g.bytes f.bytes
    (subst (λ (z : Spot). AreTaken z.phase fed g.bytes) (sym one) g.taken) f.taken in
    let same = one_copy.one_spot Any most f.bytes output others a b f.copied (rw bytes at g.copied) in
    (one, same.0, same.1)

-- At the start, no byte came to the checker or to the copier of elements.
pub fresh_fed : (s : Spelling) (d : ℕ) (new : Spot) (elements : Elements) (output : List ℕ) → IsFed s d [] new
    → AreElementsFed Any most [] elements output → AreFed s d [] new elements output
fresh_fed s d new elements output checked copied =
    search (subst (λ (z : Spot). AreTaken z.phase [] []) (one_spot s d [] (start s d) new fresh checked) refl)

-- A checker that took the same bytes can replace the checker of a state.
pub same_fed : (s : Spelling) (d : ℕ) (fed output : List ℕ) (old new : Spot) (elements : Elements) → IsFed s d fed new
    → AreFed s d fed old elements output → AreFed s d fed new elements output
same_fed s d fed output old new elements checked was = rw (one_spot s d fed old new was.checked checked) at was

-- ---- the copied bytes go on as an item

pub fed_bytes : (s : Spelling) (d : ℕ) (fed : List ℕ) (spot : Spot) → IsFed s d fed spot → AreBytes fed
fed_bytes s d fed spot fresh = tt
fed_bytes s d fed spot (more {bytes = a} {spot = old} b byte is step) =
    AreBytes-append a (b ∷ []) (fed_bytes s d a old is) (byte, tt)

no_step : (phase : Phase) (spot new : Spot) (b : ℕ) → FaultIn phase → StepIn phase spot b new → ⊥
no_step (p.Faulted fault) spot new b has step = step
no_step phase spot new b has step = has

pub sound_goes : (s : Spelling) (d : ℕ) (fed : List ℕ) (spot : Spot) → IsFed s d fed spot → (IsAtFault spot → ⊥)
    → NoneGoOn Any most fed → ⊥
sound_goes s d fed spot is sound never =
    sound ((fault_exact s d fed spot is).1 (λ behind i.
    item_goes_on most s d fed behind (fed_bytes s d fed spot is) i never))

-- Some elements begin with the bytes before the last byte.
pub before_goes : (s : Spelling) (d : ℕ) (fed : List ℕ) (spot : Spot) → IsFed s d fed spot
    → (before : List ℕ) (last : ℕ)
    → fed ≡ before ++ last ∷ [] → NoneGoOn Any most before → ⊥
before_goes s d fed spot fresh before last e never = omega (arith, ap length e, length-append before (last ∷ []))
before_goes s d fed spot (more {bytes = a} {spot = old} b byte is step) before last e never =
    sound_goes s d a old is (λ has. no_step old.phase old spot b has step)
    (rw (one_copy.same_last a before b last e).0 never)

goes_in : (phase : Phase) (s : Spelling) (d : ℕ) (fed bytes : List ℕ) (spot : Spot) → phase ≡ spot.phase
    → IsFed s d fed spot → AreTaken phase fed bytes → NoneGoOn Any most bytes → ⊥
goes_in (p.Faulted fault) s d fed bytes spot at is taken never =
    before_goes s d fed spot is bytes taken.0 taken.1 never
goes_in phase s d fed bytes spot at is taken never =
    sound_goes s d fed spot is (λ has. subst FaultIn (sym at) has) (rw taken never)

-- ---- the output

module _ (s : Spelling) (d : ℕ) (fed output : List ℕ) (item : Spot) (elements : Elements)
    (are : AreFed s d fed item elements output) where
  pub cut : IsCutCopy are.bytes output
  cut = λ count fewer. cut_in elements.phase most count are.bytes output (told are.copied)
      (goes_in item.phase s d fed are.bytes item refl are.checked are.taken) fewer

  pub spelled : (count : ℕ) (marks : List Mark) → IsRun count are.bytes marks → output ≡ spelling marks
  spelled count marks run = whole_in count marks run (cut (suc (length are.bytes)) (omega arith))

  -- If an item begins with the bytes so far, all of them are copied.
  item_taken : (behind : List ℕ) → IsItem s d (fed ++ behind) → fed ≡ are.bytes
  item_taken behind i =
      all_taken item.phase fed are.bytes (λ has. (fault_exact s d fed item are.checked).0 has behind i) are.taken

  pub spelled_exact : IsItem s d fed → (count : ℕ) (marks : List Mark) → IsRun count fed marks
      → output ≡ spelling marks
  spelled_exact i count marks run = spelled count marks (rw (item_taken [] (rw append-nil i)) at run)

  -- The output so far begins the spelling of all elements.
  pub item_so_far : (behind : List ℕ) (count : ℕ) (marks : List Mark) → AreBytes behind → IsItem s d (fed ++ behind)
      → IsRun count (fed ++ behind) marks → count ≤ most → (rest : List ℕ) × (spelling marks ≡ output ++ rest)
  item_so_far behind count marks bytes i run few =
      let all = are.bytes ++ behind in
      let fewer : length all < length all + 1 = omega arith in
      let whole = rw (item_taken behind i) at run in
      let goes = run_goes {allowed = Any} (most - count) (record {
        before = count;
        run = whole;
        counted = omega (
          arith,
          few,
        );
      })
      lenient in
      let o = fed_to behind Any most are.bytes output elements are.copied bytes goes in
      let short = cut_in o.1.phase most (length all + 1) all (output ++ o.0) (told o.2)
      (λ never. never goes.more goes.more_bytes (in_front goes.run)) fewer in
      (o.0, sym (whole_in count marks whole short))
