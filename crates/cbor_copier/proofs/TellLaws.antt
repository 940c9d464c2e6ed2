-- The meaning of a copier's answer for the bytes so far. The bytes alone decide whether a copy has ended or has a
-- fault.
use Rattle.std.proofs.Common.{Bool, ◌⊎◌, ◌≡◌, ℕ, zero, suc, true, false, ◌+◌, ◌/◌, ◌%◌, ◌<◌, ◌≤◌, ◌^◌, ◌↔◌, List, []}
use Rattle.std.proofs.Common.{◌∷◌, ◌++◌}
use Rattle.std.proofs.Common.{length, refl, sym, ap, ◌∙◌, arith, inl, inr, append_assoc, append-nil, length-append}
use Rattle.std.proofs.Common.{slice_index, drop, length-drop}
use Rattle.std.proofs.lemmas.Bool.{cases_lt}
use Rattle.ciborium_ll_grammar.specs.declared.spelling.Spelling.{Spelling}
use Rattle.ciborium_ll_grammar.specs.declared.spelling.Spelling.TheVariants.{Any, Shortest}
use Rattle.ciborium_ll_grammar.specs.declared.hdr.Header.{Header}
use Rattle.ciborium_ll_grammar.specs.Title.{IsTitle, alone, numbered}
use Rattle.ciborium_ll_grammar.specs.Items.{IsTakenTitle}
use Rattle.ciborium_ll_grammar.specs.Title.{IsCutTitle, AreBytes, affix_len}
use Rattle.ciborium_ll_grammar.specs.Strings.{IsWritable}
use Rattle.ciborium_ll_grammar.specs.Elements.{Mark, IsRun, spelling}
use Rattle.ciborium_ll_grammar.specs.Faults.{BeginsWithElements, Short, CutTitle, CutBody, with_front}
use Rattle.ciborium_ll_grammar.specs.Parts.{refused_when_strict}
use Rattle.ciborium_ll_grammar.specs.Title.{major_code}
use Rattle.ciborium_ll_grammar.specs.TitleRows.{IsTitleKind}
use Rattle.ciborium_ll_grammar.proofs.AffixLaws.{title_or_refused, major_with, refused_affix, AreBytes-append, byte_at}
use Rattle.ciborium_ll_grammar.proofs.LongerLaws.{minor_as, refused, taken}
use Rattle.ciborium_ll_grammar.proofs.TightLaws.{tight_title}
use Rattle.ciborium_ll_grammar.proofs.TitleLaws.{shortest_some}
use Rattle.ciborium_ll_grammar.proofs.ElementLaws.{one_run}
use Rattle.ciborium_ll_grammar.proofs.StrictFaultLaws.{no_fault}
use Rattle.ciborium_ll_text.proofs.Lists.{length_zero}
use Rattle.ciborium_ll_grammar.proofs.TitleKinds.{kind_of as title_kind, kind_names, parted}
use Rattle.cbor_copier.specs.declared.phase.Phase.{Phase}
use Rattle.cbor_copier.specs.declared.phase.Phase.TheVariants as p
use Rattle.cbor_parser.specs.declared.strings.StringKind.{StringKind}
use Rattle.cbor_parser.specs.declared.strings.Within.{Within}
use Rattle.cbor_parser.specs.Longer.{BeginsLonger, HasZero}
use Rattle.cbor_parser.specs.Strings.{blocks, kind_of}
use Rattle.cbor_parser.specs.Titles.{NoneTaken, SomeTaken}
use Rattle.cbor_parser.proofs.LongerBegun.{any_some, longer_none, strict_some}
use Rattle.cbor_parser.proofs.TakenLaws.{none_begins}
use Rattle.cbor_copier.specs.declared.progress.End.{End}
use Rattle.cbor_copier.specs.declared.progress.End.TheVariants as e
use Rattle.cbor_copier.specs.declared.progress.Progress.{Progress}
use Rattle.cbor_copier.specs.declared.progress.Progress.TheVariants as r
use Rattle.cbor_copier.specs.declared.copier.Copier.{Copier}
use Rattle.cbor_copier.specs.Copying.{IsCopied, spot_of}
use Rattle.cbor_copier.specs.Spots.{Spot, putting, refused as refused_spot}
use Rattle.cbor_copier.specs.Steps.{IsFed, StepIn, TitleStep, whole, none, titled, with_byte, more as more_fed}
use Rattle.cbor_copier.specs.Reading.{IsTakenRun, ComesTo, SomeGoOn, NoneGoOn, AreSpelled}
use Rattle.cbor_copier.specs.Telling.{progress_in, progress_of, is_due, end_of}
use Rattle.cbor_copier.specs.Reading.{TellsWhole, Tells, TellsEnd}
use Rattle.cbor_copier.specs.Telling.{EndedIn, HasEnded, FaultIn, IsAtFault}
use Rattle.cbor_copier.proofs.KeptLaws.{step_early, step_cut}
use Rattle.cbor_copier.proofs.EnterLaws.{reaches, comes_at, here_spelled}
use Rattle.cbor_copier.proofs.LiveLaws.{holds_goes}
use Rattle.cbor_copier.proofs.Reached.{place_of, FrontAt, Here, Begun, HoldsIn}
use Rattle.cbor_copier.proofs.StepLaws.{at_title, body_reached, body_tight, fed_counts, fed_holds}
use Rattle.cbor_copier.proofs.StepLaws.{front_bytes}

-- ---- the bytes end too early

pub front_cut : (allowed : Spelling) (i : Within) (at place : ℕ) (front : List ℕ) → FrontAt allowed i at place front
    → IsCutTitle front
front_cut allowed i at place front (inl bare) = rw bare tt
front_cut allowed i at place front (inr f) = f.1

pub title_short : {allowed : Spelling} {count left : ℕ} {bytes before output : List ℕ} {marks : List Mark} {i : Within}
    (front : List ℕ) → Here allowed count left before marks i → bytes ≡ before ++ front → IsCutTitle front
    → output ≡ spelling marks → ComesTo allowed count bytes Short output
title_short {i = i} front here is is_cut out =
    comes_at (reaches here) (here_spelled here) is (CutTitle {point = place_of i} (at_title i) is_cut) out

pub body_short : {allowed : Spelling} {kind : StringKind} {count left place len : ℕ}
    {bytes before title output : List ℕ} {marks : List Mark} {i : Within} (part front : List ℕ)
    → Begun allowed kind count left place len before title marks i
    → bytes ≡ (before ++ title) ++ (part ++ front) → length (part ++ front) < len → IsWritable (kind_of kind) part
    → output ≡ with_front marks (kind_of kind) len part → ComesTo allowed count bytes Short output
body_short {kind} {i = i} part front begun is short sound out =
    comes_at (body_reached i begun) (body_tight begun) is (CutBody {kind = kind_of kind} {consumed = length part} part
    front short refl
    sound (omega arith) (omega arith) (omega (arith, length-append part front))) out

-- ---- the bytes that are due

told_in : (allowed : Spelling) (phase : Phase) (count : ℕ) (bytes output : List ℕ) (spot : Spot)
    → HoldsIn allowed phase count bytes spot output → TellsWhole allowed count bytes output (progress_in phase)
told_in allowed p.Title count bytes output spot o = (
  title_short spot.front o.here o.is (front_cut allowed spot.within _ spot.place spot.front o.front) o.out,
  holds_goes allowed p.Title count bytes output spot o (λ f. cc f.1),
)
told_in allowed (p.Bytes left) count bytes output spot o = (
  body_short o.0.part spot.front o.0.begun o.0.is (omega (arith, o.0.long, o.2)) o.0.sound o.0.out,
  holds_goes allowed (p.Bytes left) count bytes output spot o (λ f. cc f.1),
)
told_in allowed (p.Text left state) count bytes output spot o = (
  body_short o.0.part spot.front o.0.begun o.0.is (omega (arith, o.0.long, o.3)) o.0.sound o.0.out,
  holds_goes allowed (p.Text left state) count bytes output spot o (λ f. cc f.1),
)
told_in allowed p.Ended count bytes output spot o = o
told_in allowed (p.Faulted place) count bytes output spot o = o

pub told : {allowed : Spelling} {count : ℕ} {bytes output : List ℕ} {spot : Spot}
    → IsFed allowed count bytes spot output → TellsWhole allowed count bytes output (progress_in spot.phase)
told {allowed} {count} {bytes} {output} {spot} is =
    told_in allowed spot.phase count bytes output (putting [] spot) (fed_holds allowed count bytes output spot is)

no_room : (allowed : Spelling) (phase : Phase) (count : ℕ) (bytes output : List ℕ)
    → TellsWhole allowed count bytes output (progress_in phase) → Tells allowed count bytes output (progress_in phase)
no_room allowed p.Ended count bytes output says = says
no_room allowed phase count bytes output says = says

-- The answer is true of the bytes and the output, with any pending bytes.
tells : (allowed : Spelling) (pending : List ℕ) (count : ℕ) (bytes given : List ℕ) (spot : Spot)
    → IsFed allowed count bytes spot (given ++ pending)
    → Tells allowed count bytes given (progress_of pending spot.phase)
tells allowed [] count bytes given spot is =
    rw (append-nil given) at (no_room allowed spot.phase count bytes (given ++ []) (told is))
tells allowed (byte ∷ pending) count bytes given spot is = record {
  pending = byte ∷ pending;
  some = omega arith;
  progress = progress_in spot.phase;
  told = told is;
}

pub copier_tells : (copier : Copier) (progress : Progress) → progress ≡ progress_of copier.pending copier.phase
    → (allowed : Spelling) (count : ℕ) (fed given : List ℕ) → IsCopied allowed count fed given copier
    → Tells allowed count fed given progress
copier_tells copier progress e allowed count fed given is =
    rw e (tells allowed copier.pending count fed given (putting [] (spot_of copier)) is)

-- If no more bytes can be counted, `TooLong` is true of the bytes and the output.
pub too_long : (copier : Copier) → r.More ≡ progress_of copier.pending copier.phase → 2 ^ 64 ≤ copier.offset + 1
    → (allowed : Spelling) (count : ℕ) (fed given : List ℕ) → IsCopied allowed count fed given copier
    → Tells allowed count fed given r.TooLong
too_long copier e far allowed count fed given is =
    let says = copier_tells copier r.More e allowed count fed given is in
    (says.0, says.1, rw (fed_counts allowed count fed (given ++ copier.pending) _ is) at far)

-- ---- in terms of the bytes

-- Bytes that are `count` elements begin with `count` elements, whatever follows them.
pub whole_in_front : (allowed : Spelling) (count : ℕ) (bytes more : List ℕ) (marks : List Mark)
    → IsTakenRun allowed count bytes marks → BeginsWithElements allowed count (bytes ++ more)
whole_in_front allowed count bytes more marks taken = record {
  elements = bytes;
  marks = marks;
  rest = more;
  run = taken.run;
  is = refl;
  spelled = taken.strictly;
}

pub in_front : {allowed : Spelling} {count : ℕ} {bytes : List ℕ} {marks : List Mark}
    → IsTakenRun allowed count bytes marks
    → BeginsWithElements allowed count bytes
in_front {allowed} {count} {bytes} {marks} taken =
    rw (append-nil bytes) at (whole_in_front allowed count bytes [] marks taken)

-- Elements of any spelling.
pub any_run : {count : ℕ} {bytes : List ℕ} {marks : List Mark} → IsRun count bytes marks
    → IsTakenRun Any count bytes marks
any_run run = record { run = run; strictly = λ short. absurd cc }

-- The copy has ended exactly if the bytes are the elements. There is a fault exactly if no elements go on.
exact_in : (allowed : Spelling) (phase : Phase) (count : ℕ) (bytes output : List ℕ)
    → TellsWhole allowed count bytes output (progress_in phase)
    → (EndedIn phase ↔ ((marks : List Mark) × IsTakenRun allowed count bytes marks))
    × (FaultIn phase ↔ NoneGoOn allowed count bytes)
exact_in allowed p.Ended count bytes output says = (
  ((λ has. (says.marks, says.run)), (λ run. tt)),
  ((λ has. absurd has), (λ never. absurd (never [] tt (whole_in_front allowed count bytes [] says.marks says.run)))),
)
exact_in allowed (p.Faulted place) count bytes output says = (
  ((λ has. absurd has), (λ run. absurd (says.0 [] tt (whole_in_front allowed count bytes [] run.0 run.1)))),
  ((λ has. says.0), (λ never. tt)),
)
exact_in allowed phase count bytes output says = (
  ((λ has. absurd has), (λ run. no_fault allowed count bytes (in_front run.1) says.0.fault)),
  ((λ has. absurd has), (λ never. never says.1.more says.1.more_bytes (in_front says.1.run))),
)

pub ended_exact : (allowed : Spelling) (count : ℕ) (bytes output : List ℕ) (spot : Spot)
    → IsFed allowed count bytes spot output
    → HasEnded spot ↔ ((marks : List Mark) × IsTakenRun allowed count bytes marks)
ended_exact allowed count bytes output spot is = (exact_in allowed spot.phase count bytes output (told is)).0

pub fault_exact : (allowed : Spelling) (count : ℕ) (bytes output : List ℕ) (spot : Spot)
    → IsFed allowed count bytes spot output → IsAtFault spot ↔ NoneGoOn allowed count bytes
fault_exact allowed count bytes output spot is = (exact_in allowed spot.phase count bytes output (told is)).1

-- ---- titles that are taken, or not

zero_or : (bytes : List ℕ) (at : ℕ) → HasZero bytes at ⊎ (HasZero bytes at → ⊥)
zero_or bytes at = elim (cases_lt at (length bytes)) [
  | inl within ↦ elim (cases_lt 0 (slice_index bytes at)) [
    | inl positive ↦ inr (λ has. omega (arith, positive, has.1))
    | inr least ↦ inl (within, omega (arith, least))
  ]
  | inr beyond ↦ inr (λ has. omega (arith, beyond, has.0))
]

-- Only longer titles begin with the bytes, or others do too.
longer_or : (bytes : List ℕ) → BeginsLonger bytes ⊎ (BeginsLonger bytes → ⊥)
longer_or bytes = grind (arith, zero_or bytes 1, zero_or bytes 2, zero_or bytes 3, zero_or bytes 4)

-- A title that begins with these bytes is taken, or none is.
taken_or : (allowed : Spelling) (bytes : List ℕ) → ((i : ℕ) → slice_index bytes i < 256) → 0 < length bytes
    → length bytes ≤ affix_len (slice_index bytes 0 % 32) → SomeTaken allowed bytes ⊎ NoneTaken allowed bytes
taken_or Any bytes below some short = inl (any_some Any bytes refl below some short)
taken_or Shortest bytes below some short = elim (longer_or bytes) [
  | inl longer ↦ inr (longer_none bytes some longer)
  | inr never ↦ inl (strict_some bytes below some short never)
]

-- A whole title is taken, or it is not.
title_or : (allowed : Spelling) (title : List ℕ) (header : Header) → IsTitle title header
    → IsTakenTitle allowed title header ⊎ (IsTakenTitle allowed title header → ⊥)
title_or Any title header q = inl tt
title_or Shortest title header (numbered m s n fits) =
    elim (is_or (refused_when_strict (major_code m) (minor_as s n))) [
      | inl longer ↦ inr (refused m s n fits longer)
      | inr short ↦ inl (taken m s n fits short)
    ]
  where
    is_or : (b : Bool) → (b ≡ true) ⊎ (b ≡ false)
    is_or true = inl refl
    is_or false = inr refl
title_or Shortest title header (alone m x o) =
    inl (record {
      shortest = tight_title _ header (alone m header o) (shortest_some header);
      meant = λ small. grind (arith, o, small);
    })

-- ---- if more bytes are due, each byte leads on

title_next : (spot : Spot) → 0 < length spot.front → AreBytes spot.front
    → length spot.front ≤ 1 + affix_len (slice_index spot.front 0 % 32) → (new : Spot) × TitleStep spot new
title_next spot some are long =
    let first = slice_index spot.front 0 in
    let front = drop 1 spot.front in
    let is = parted spot.front some in
    let sound = rw is at are in
    elim (cases_lt (length spot.front) (1 + affix_len (first % 32))) [
      | inl short ↦ (
          let m = major_with (first / 32) (omega (arith, sound.0)) in
          let says = kind_names m.0 (first / 32) (first % 32) m.1
          (λ r. omega (arith, refused_affix first r, short, some)) in
          elim (taken_or spot.allowed spot.front (byte_at spot.front are) some (omega (arith, short))) [
            | inl taken ↦ blocked_next (title_kind m.0) says (omega (arith, short)) taken
                (blocks spot.within (title_kind m.0)) refl
            | inr never ↦ none_next never
          ])
      | inr all ↦ elim (title_or_refused first front sound.0 sound.1
          (omega (arith, long, all, length-drop 1 spot.front))) [
            | inl r ↦ none_next (none_begins spot.allowed spot.front (inl (rw is r)))
            | inr o ↦ whole_next o.0 (rw is o.1) (title_or spot.allowed spot.front o.0 (rw is o.1))
          ]
    ]
  where
    none_next : NoneTaken spot.allowed spot.front → (new : Spot) × TitleStep spot new
    none_next never = (refused_spot (record spot { front = [] }), none never)

    whole_next : (header : Header) → IsTitle spot.front header
        → IsTakenTitle spot.allowed spot.front header ⊎ (IsTakenTitle spot.allowed spot.front header → ⊥)
        → (new : Spot) × TitleStep spot new
    whole_next header q (inl taken) = (titled header spot, whole header q taken)
    whole_next header q (inr untaken) =
        none_next (none_begins spot.allowed spot.front (inr (header, q, untaken)))

    blocked_next : (kind : _) → IsTitleKind kind (slice_index spot.front 0 / 32) (slice_index spot.front 0 % 32)
        → length spot.front ≤ affix_len (slice_index spot.front 0 % 32) → SomeTaken spot.allowed spot.front
        → (b : _) → blocks spot.within kind ≡ b → (new : Spot) × TitleStep spot new
    blocked_next kind says short taken true e = (refused_spot spot, step_early spot _ kind some says short taken e refl)
    blocked_next kind says short taken false e = (spot, step_cut spot _ kind some says short taken e refl)

-- A title has at most the bytes that its first byte announces.
front_room : (allowed : Spelling) (i : Within) (at place b : ℕ) (front : List ℕ) → FrontAt allowed i at place front
    → length (front ++ b ∷ []) ≤ 1 + affix_len (slice_index (front ++ b ∷ []) 0 % 32)
front_room allowed i at place b [] f = omega arith
front_room allowed i at place b (x ∷ front) (inl bare) = absurd cc
front_room allowed i at place b (x ∷ front) (inr f) = omega (arith, f.1, length-append front (b ∷ []))

next_in : (allowed : Spelling) (phase : Phase) (count : ℕ) (bytes output : List ℕ) (spot : Spot) (b : ℕ)
    → HoldsIn allowed phase count bytes (putting [] spot) output → is_due phase ≡ true → b < 256
    → (new : Spot) × StepIn phase spot b new
next_in allowed p.Title count bytes output spot b o due byte =
    title_next (with_byte b spot) (omega (arith, length-append spot.front (b ∷ [])))
    (front_bytes allowed spot.within (length o.before) spot.place b spot.front byte o.front)
    (front_room allowed spot.within (length o.before) spot.place b spot.front o.front)
next_in allowed (p.Bytes zero) count bytes output spot b o due byte = absurd (omega (arith, o.2))
next_in allowed (p.Bytes (suc left)) count bytes output spot b o due byte = (_, refl)
next_in allowed (p.Text zero state) count bytes output spot b o due byte = absurd (omega (arith, o.3))
next_in allowed (p.Text (suc left) state) count bytes output spot b o due byte = (_, refl)
next_in allowed phase count bytes output spot b o due byte = absurd cc

-- ---- the output so far

-- If the elements begin with the bytes so far and one more byte, more bytes are due.
due_by : (allowed : Spelling) (phase : Phase) (count b : ℕ) (bytes output more : List ℕ) (marks : List Mark)
    → TellsWhole allowed count bytes output (progress_in phase) → AreBytes (b ∷ more)
    → IsTakenRun allowed count (bytes ++ b ∷ more) marks → is_due phase ≡ true
due_by allowed p.Ended count b bytes output more marks says are taken =
    let one = one_run count bytes says.marks says.run.run (bytes ++ b ∷ more) (b ∷ more) [] marks taken.run
    (sym (append-nil (bytes ++ b ∷ more))) in
    absurd (omega (arith, ap length one.0, length-append bytes (b ∷ more)))
due_by allowed (p.Faulted place) count b bytes output more marks says are taken =
    absurd (says.0 (b ∷ more) are (in_front taken))
due_by allowed phase count b bytes output more marks says are taken = refl

-- If the copy has ended, the output is the spelling of the elements.
ended_by : (allowed : Spelling) (phase : Phase) (count : ℕ) (bytes output : List ℕ) (marks : List Mark)
    → TellsWhole allowed count bytes output (progress_in phase) → EndedIn phase → IsRun count bytes marks
    → spelling marks ≡ output
ended_by allowed p.Ended count bytes output marks says has run =
    ap spelling (sym (one_run count bytes says.marks says.run.run bytes [] [] marks run refl).1) ∙ sym says.spelled
ended_by allowed phase count bytes output marks says has run = absurd has

-- Bytes with which the elements begin can be fed.
pub fed_to : (more : List ℕ) (allowed : Spelling) (count : ℕ) (bytes output : List ℕ) (spot : Spot)
    → IsFed allowed count bytes spot output → AreBytes more → SomeGoOn allowed count (bytes ++ more)
    → (rest : List ℕ) × (new : Spot) × IsFed allowed count (bytes ++ more) new (output ++ rest)
fed_to [] allowed count bytes output spot is are goes = ([], spot, rw (append-nil bytes, append-nil output) is)
fed_to (b ∷ more) allowed count bytes output spot is are goes =
    let run = rw (append_assoc bytes (b ∷ more)) at goes.run in
    let sound : AreBytes (b ∷ (more ++ goes.more)) =
    (are.0, AreBytes-append more goes.more are.1 goes.more_bytes) in
    let due = due_by allowed spot.phase count b bytes output (more ++ goes.more) goes.marks (told is) sound run in
    let next = next_in allowed spot.phase count bytes output spot b (fed_holds allowed count bytes output spot is) due
    are.0 in
    let on = fed_to more allowed count (bytes ++ b ∷ []) (output ++ next.0.put) (putting [] next.0)
    (more_fed b next.0 are.0 is next.1) are.1 (rw (← append_assoc bytes (b ∷ []) more) at goes) in
    (next.0.put ++ on.0, on.1, rw (append_assoc bytes (b ∷ []) more, append_assoc output) at on.2)

-- The output so far begins the spelling of all elements.
pub spelled_on : (more : List ℕ) (allowed : Spelling) (count : ℕ) (bytes output : List ℕ) (spot : Spot)
    (marks : List Mark) → IsFed allowed count bytes spot output → AreBytes more
    → IsTakenRun allowed count (bytes ++ more) marks → (rest : List ℕ) × (spelling marks ≡ output ++ rest)
spelled_on more allowed count bytes output spot marks is are taken =
    let goes : SomeGoOn allowed count (bytes ++ more) =
    record { more = []; more_bytes = tt; marks = marks; run = rw (append-nil (bytes ++ more)) taken } in
    let on = fed_to more allowed count bytes output spot is are goes in
    let ended = (ended_exact allowed count (bytes ++ more) (output ++ on.0) on.1 on.2).1 (marks, taken) in
    (on.0, ended_by allowed on.1.phase count (bytes ++ more) (output ++ on.0) marks (told on.2) ended taken.run)

-- ---- no more bytes come

-- The answer at the end has the same meaning as the answer to a piece.
end_by : (allowed : Spelling) (pending : List ℕ) (phase : Phase) (count : ℕ) (bytes given : List ℕ)
    → Tells allowed count bytes given (progress_of pending phase)
    → TellsEnd allowed count bytes given (end_of pending phase)
end_by allowed [] p.Ended count bytes given says = says
end_by allowed pending phase count bytes given says = says

-- A copy that has ended with nothing pending answers `Ended`.
ended_in : (phase : Phase) → EndedIn phase → end_of [] phase ≡ e.Ended
ended_in p.Ended has = refl
ended_in phase has = absurd has

pub copier_ends : (copier : Copier) (end : End) → end ≡ end_of copier.pending copier.phase
    → (allowed : Spelling) (count : ℕ) (fed given : List ℕ) → IsCopied allowed count fed given copier
    → TellsEnd allowed count fed given end
copier_ends copier end is_end allowed count fed given is =
    rw is_end (end_by allowed copier.pending copier.phase count fed given
    (copier_tells copier _ refl allowed count fed given is))

-- The answer is `Ended` exactly if the bytes are the elements and their spelling is written.
pub copier_exact : (copier : Copier) (end : End) → end ≡ end_of copier.pending copier.phase
    → (allowed : Spelling) (count : ℕ) (fed given : List ℕ) → IsCopied allowed count fed given copier
    → (end ≡ e.Ended) ↔ AreSpelled allowed count fed given
copier_exact copier end is_end allowed count fed given is = (
  λ ended. rw ended at (copier_ends copier end is_end allowed count fed given is),
  λ all.
      let has = (ended_exact allowed count fed (given ++ copier.pending) _ is).1 (all.marks, all.run) in
      let out = ended_by allowed copier.phase count fed (given ++ copier.pending) all.marks (told is) has all.run.run in
      let long = ap length (all.spelled ∙ out) in
      let given_all = length_zero copier.pending (omega (arith, long, length-append given copier.pending)) in
      is_end ∙ rw given_all (ended_in copier.phase has),
)
